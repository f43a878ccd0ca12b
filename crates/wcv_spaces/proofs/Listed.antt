-- A resource that is in no list.
use Rattle.std.proofs.Common.{◌≡◌, ◌≤◌, List, [], ◌∷◌, refl, sym, arith, Bool, true, false, ◌||◌, eqb, cond, Some, None}
use Rattle.std.specs.Prelude.{All}
use Rattle.std.specs.Map.{lookup}
use Rattle.std.proofs.lemmas.Bool.{ne_eqb, false≢true}
use Rattle.std.proofs.lemmas.List.Elements.{All-head, All-tail}
use Rattle.wcv_types.specs.Arena.{Arena}
use Rattle.wcv_types.specs.ComponentTrees.{ResourceStands}
use Rattle.wcv_types.specs.contracts.ids.ResourceIdPartialEq.TheImpl as impl
use Rattle.wcv_types.specs.declared.ids.ResourceId.{ResourceId}
use Rattle.wcv_spaces.specs.Looking.{has_resource}

-- one that the arena gives later
pub later_is_new : {X : Type 0} (a : Arena) (r : ResourceId) (rs : List (ResourceId × X)) → a.resources ≤ r.index → All (λ (p : ResourceId × X). ResourceStands a p.0) rs → has_resource r rs ≡ false
later_is_new a r [] h k = refl
later_is_new {X} a r (p ∷ rs) h k =
    let here : eqb r.index p.0.index ≡ false = ne_eqb r.index p.0.index (λ e. omega (arith, e, h, All-head (λ (p : ResourceId × X). ResourceStands a p.0) p rs k)) in
    let rest : has_resource r rs ≡ false = later_is_new a r rs h (All-tail (λ (p : ResourceId × X). ResourceStands a p.0) p rs k) in
    λ j. here j || rest j

-- it has no value there
pub has_no_value : {X : Type 0} (r : ResourceId) (rs : List (ResourceId × X)) → has_resource r rs ≡ false → lookup (impl.eq-value.it r) rs ≡ None
has_no_value r [] h = refl
has_no_value {X} r (p ∷ rs) h = go (eqb r.index p.0.index) h (λ w. has_no_value r rs w)
  where
    go : (b : Bool) → (b || has_resource r rs) ≡ false → (has_resource r rs ≡ false → lookup (impl.eq-value.it r) rs ≡ None) → cond b (Some p.1) (lookup (impl.eq-value.it r) rs) ≡ None
    go true w later = absurd (false≢true (sym w))
    go false w later = later w
