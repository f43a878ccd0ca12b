-- Identities and resources as trees have them.
use Rattle.std.proofs.Common.{◌≡◌, ℕ, suc, List, [], ◌∷◌, ◌++◌, map, refl, sym, ◌∙◌, ap, Bool, true, false, cond, ◌||◌}
use Rattle.wcv_core.specs.Names.{Name, same}
use Rattle.wcv_types.specs.Identity.{same_identity}
use Rattle.wcv_types.specs.Text.{with_resource}
use Rattle.wcv_types.specs.Tree.{Text}
use Rattle.wcv_types.specs.declared.ids.ResourceId.{ResourceId}
use Rattle.wcv_text.specs.Numbers.{name_of, so_far}
use Rattle.wcv_text.specs.declared.numbers.Numbers.{Numbers}
use Rattle.wcv_types.specs.Positions.{position_of, is_there}
use Rattle.wcv_text.specs.Identity.{known}
use Rattle.wcv_text.specs.declared.identity.Identity.{Identity}
use Rattle.wcv_text.specs.declared.identity.Identity.TheVariants as id
use Rattle.wcv_types.proofs.Each.{map-push}
use Rattle.wcv_text.specs.contracts.identity.IdentityPartialEq.TheImpl.{eq-value}

-- places in a list that is mapped, where the test is kept
pub position_mapped : {A B : Type 0} (f : A → B) (eq : A → A → Bool) (eq' : B → B → Bool) → ((x y : A) → eq' (f x) (f y) ≡ eq x y) → (x : A) (ys : List A) → position_of eq' (f x) (map f ys) ≡ position_of eq x ys
position_mapped f eq eq' e x [] = refl
position_mapped f eq eq' e x (y ∷ ys) =
    ap (λ (b : Bool). cond b 0 (suc (position_of eq' (f x) (map f ys)))) (e x y) ∙ ap (λ (n : ℕ). cond (eq x y) 0 (suc n)) (position_mapped f eq eq' e x ys)

pub there_mapped : {A B : Type 0} (f : A → B) (eq : A → A → Bool) (eq' : B → B → Bool) → ((x y : A) → eq' (f x) (f y) ≡ eq x y) → (x : A) (ys : List A) → is_there eq' (f x) (map f ys) ≡ is_there eq x ys
there_mapped f eq eq' e x [] = refl
there_mapped f eq eq' e x (y ∷ ys) =
    ap (λ (b : Bool). b || is_there eq' (f x) (map f ys)) (e x y) ∙ ap (λ (b : Bool). eq x y || b) (there_mapped f eq eq' e x ys)

-- two identities are one where trees say so
pub same_node : (x y : Identity) → same_identity (known x) (known y) ≡ eq-value.it x y
same_node (id.Node a) (id.Node b) = refl
same_node (id.Node a) (id.Reference b) = refl
same_node (id.Reference a) (id.Node b) = refl
same_node (id.Reference a) (id.Reference b) = refl

-- a resource gets the next number where it has none
pub resource_new : (n m : Numbers) (r : ResourceId) → m ≡ record n { resources = n.resources ++ r ∷ [] } → is_there same (name_of r) (map name_of n.resources) ≡ false →
    (t : Text) → so_far m t ≡ with_resource (so_far n t) (name_of r)
resource_new n m r more absent t =
    ap (λ (x : Numbers). so_far x t) more ∙
    ap (λ (rs : List Name). record (so_far n t) { resources = rs }) (map-push name_of n.resources r) ∙
    sym (ap (λ (b : Bool). cond b (so_far n t) (record (so_far n t) { resources = map name_of n.resources ++ name_of r ∷ [] })) absent)

pub resource_old : (n m : Numbers) (r : ResourceId) → m ≡ n → is_there same (name_of r) (map name_of n.resources) ≡ true →
    (t : Text) → so_far m t ≡ with_resource (so_far n t) (name_of r)
resource_old n m r same_numbers there t =
    ap (λ (x : Numbers). so_far x t) same_numbers ∙
    sym (ap (λ (b : Bool). cond b (so_far n t) (record (so_far n t) { resources = map name_of n.resources ++ name_of r ∷ [] })) there)
