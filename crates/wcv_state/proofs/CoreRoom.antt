-- The limits keep the number of core types far below what 32 bits count.
use Rattle.std.proofs.Common.{◌≡◌, ℕ, ◌+◌, ◌<◌, ◌^◌, List, [], ◌∷◌, length, sym, ◌∙◌, ap, subst, arith, Bool, true, false, Option, Some, None, refl}
use Rattle.std.specs.Prelude.{slice_get, reverse}
use Rattle.std.specs.Option.{option_map, option_and_then}
use Rattle.std.proofs.lemmas.Bool.{false≢true}
use Rattle.std.proofs.lemmas.Bool.Decides.{nat_tests}
use Rattle.wcv_core.specs.Limits.{max_entries}
use Rattle.wcv_syntax.specs.declared.instance.ComponentOuterAliasKind.{ComponentOuterAliasKind}
use Rattle.wcv_syntax.specs.declared.instance.ComponentOuterAliasKind.TheVariants as outer_kind
use Rattle.wcv_types.specs.Arena.{Arena}
use Rattle.wcv_types.specs.declared.ids.ComponentAnyTypeId.{ComponentAnyTypeId}
use Rattle.wcv_types.specs.declared.ids.ComponentCoreModuleTypeId.{ComponentCoreModuleTypeId}
use Rattle.wcv_types.specs.declared.ids.ComponentTypeId.{ComponentTypeId}
use Rattle.wcv_types.specs.declared.shapes.ComponentEntityType.TheVariants as entity
use Rattle.wcv_lower.specs.Aliases.{outer_admitted, outer_room}
use Rattle.wcv_lower.specs.Checks.{Checks, IsFree, full, too_many, if_found}
use Rattle.wcv_lower.specs.Context.{is_concrete}
use Rattle.wcv_lower.proofs.Causes.{free_right}
use Rattle.wcv_state.specs.Aliasing.{outer_id, outer_in, is_entity, aliased_tree, boundary_checks, after_target, outer_id_checks}
use Rattle.wcv_spaces.specs.Contents.{Contents}
use Rattle.wcv_spaces.specs.Entering.{room_counts}
use Rattle.wcv_state.specs.declared.outer_aliases.Aliased.{Aliased}
use Rattle.wcv_state.specs.declared.outer_aliases.Aliased.TheVariants as aliased

-- where n types stand beside m core types, and there is room for one more
pub counts_one : (m n : ℕ) → IsFree (too_many max_entries (m + n + 1)) → m + 1 < 2 ^ 32
counts_one m n f = let h = f.0 in grind (arith, nat_tests, h)

pub counts_more : (m n : ℕ) → IsFree (full max_entries (m + n)) → m + 1 < 2 ^ 32
counts_more m n f = let h = f.0 in grind (arith, nat_tests, h)

no_core : {A : Type 0} (f : A → Aliased) (x : Aliased) → ((y : A) → is_entity (f y) ≡ true) → (o : Option A) → option_map f o ≡ Some x → is_entity x ≡ false → ⊥
no_core f x h None e g = absurd (cc)
no_core f x h (Some y) e g =
    let same : f y ≡ x = cc in
    false≢true (sym g ∙ sym (ap is_entity same) ∙ h y)

-- an outer alias that brings a core type is one of a core type
core_counted : (w : ComponentOuterAliasKind) (t s : Contents) (i : ℕ) (x : Aliased) → outer_id w t.spaces i ≡ Some x → is_entity x ≡ false → IsFree (outer_room w (room_counts s.spaces)) → length s.spaces.core_types + 1 < 2 ^ 32
core_counted outer_kind.CoreType t s i x e g r = counts_one (length s.spaces.core_types) (length s.spaces.types) r
core_counted outer_kind.CoreModule t s i x e g r = absurd (no_core (λ (y : ComponentCoreModuleTypeId). aliased.Entity (entity.Module y)) x (λ y. refl) (slice_get t.spaces.core_modules i) e g)
core_counted outer_kind.Ty t s i x e g r = absurd (no_core (λ (y : ComponentAnyTypeId). aliased.Entity (entity.Ty y y)) x (λ y. refl) (slice_get t.spaces.types i) e g)
core_counted outer_kind.Component t s i x e g r = absurd (no_core (λ (y : ComponentTypeId). aliased.Entity (entity.Component y)) x (λ y. refl) (slice_get t.spaces.components i) e g)

pub outer_counted : (a : Arena) (ss : List Contents) (s : Contents) (w : ComponentOuterAliasKind) (n i : ℕ) (x : Aliased) → outer_in ss w n i ≡ Some x → IsFree (outer_id_checks a ss s w n i) → is_entity x ≡ false → length s.spaces.core_types + 1 < 2 ^ 32
outer_counted a ss s w n i x e f g = go (slice_get (reverse ss) n) e
  where
    room : IsFree (outer_room w (room_counts s.spaces))
    room = free_right (if_found (λ y. if_found (λ t. boundary_checks w t (aliased_tree a y)) (after_target ss n)) (outer_in ss w n i)) (outer_room w (room_counts s.spaces)) f.1.1

    go : (o : Option Contents) → option_and_then (λ (t : Contents). outer_id w t.spaces i) o ≡ Some x → length s.spaces.core_types + 1 < 2 ^ 32
    go None q = absurd (cc)
    go (Some t) q = core_counted w t s i x q g room
