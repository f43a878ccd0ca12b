-- The passes over ids, step by step.
use Rattle.std.proofs.Common.{◌≡◌, ℕ, suc, arith, List, [], ◌∷◌, length, eqb, Bool, true, false, ◌&&◌, refl, sym, ◌∙◌, ap}
use Rattle.std.proofs.lemmas.Bool.Decides.{nat_tests}
use Rattle.std.specs.List.{list_all}
use Rattle.wcv_core.specs.CoreForm.{Group}
use Rattle.wcv_core.specs.CoreGroups.{total}
use Rattle.wcv_core.specs.CoreSizes.{IsEntityWithin}
use Rattle.wcv_core.specs.declared.core_types.EntityType.{EntityType}
use Rattle.wcv_closed.specs.ClosedTable.{IsTable}
use Rattle.wcv_closed.specs.CoreModules.{EachItem, Module_items, ModuleMatches}
use Rattle.std.specs.Prelude.{All}
use Rattle.wcv_core.specs.Names.{member}
use Rattle.wcv_types.specs.Arena.{Arena}
use Rattle.wcv_types.specs.Entities.{any_part}
use Rattle.wcv_types.specs.Sets.{has_resource, resource_names}
use Rattle.wcv_types.specs.Standing.{Stands, core_items}
use Rattle.wcv_types.specs.Tree.{owned, owned_at}
use Rattle.wcv_types.specs.Unfold.{Type_tree, tree_at}
use Rattle.wcv_types.specs.declared.ids.ComponentAnyTypeId.{ComponentAnyTypeId}
use Rattle.wcv_types.specs.declared.ids.ComponentAnyTypeId.TheVariants as any
use Rattle.wcv_types.specs.declared.ids.ComponentInstanceTypeId.{ComponentInstanceTypeId}
use Rattle.wcv_types.specs.declared.ids.ResourceId.{ResourceId}
use Rattle.wcv_types.proofs.Gaining.{has-member}
use Rattle.wcv_types.proofs.Unfolding.{head_in}
use Rattle.wcv_matching.specs.OnePass.{same_members}
use Rattle.wcv_types.specs.declared.arena.Node.TheVariants as n
use Rattle.wcv_types.specs.declared.core_shapes.ModuleType.{ModuleType}
use Rattle.wcv_matching.specs.IdTests.{modules_match}
use Rattle.wcv_matching.specs.ModuleItems.{ItemsMatch, items_of}
use Rattle.wcv_matching.specs.TableMatching.{ByIds}
use Rattle.wcv_matching.proofs.ItemTests.{item_to, item_from}
use Rattle.wcv_matching.proofs.ItemsInside.{modules-carried}
use Rattle.wcv_matching.proofs.ModuleTrees.{module_imports_all, module_exports_all}
use Rattle.wcv_matching.proofs.PassByIds.{modules-decide}

-- ## Core modules

module _ (gs : List Group) (table : IsTable gs) (m n : Module_items EntityType) (i : EachItem (IsEntityWithin (total gs)) m) (j : EachItem (IsEntityWithin (total gs)) n) where
  pub module_told : ModuleMatches (ItemsMatch gs) m n → true ≡ modules_match gs m n
  module_told w = sym ((modules-decide gs m n).1 (modules-carried (ItemsMatch gs) (ByIds gs) (IsEntityWithin (total gs)) (item_from gs table) m n i j w))

  pub module_refused : (ModuleMatches (ItemsMatch gs) m n → ⊥) → false ≡ modules_match gs m n
  module_refused h = go (modules_match gs m n) refl
    where
      go : (b : Bool) → modules_match gs m n ≡ b → false ≡ b
      go false e = refl
      go true e = absurd (h (modules-carried (ByIds gs) (ItemsMatch gs) (IsEntityWithin (total gs)) (item_to gs table) m n i j ((modules-decide gs m n).0 e)))

pub each_item : (W : EntityType → Type 0) (s : ModuleType) → All W (core_items (n.Module s)) → EachItem W (items_of s)
each_item W s h = record { imports = module_imports_all W s.imports s.exports h; exports = module_exports_all W s.imports s.exports h }

pub modules_as : (gs : List Group) (a b x y : Module_items EntityType) {c : Bool} → x ≡ a → y ≡ b → c ≡ modules_match gs a b → c ≡ modules_match gs x y
modules_as gs a b x y e h k = k ∙ (λ j. modules_match gs (sym e j) (sym h j))

-- ## Own resources

pub owned_none : (a : Arena) (x : ComponentAnyTypeId) → Stands a (any_part x) → ((i : ComponentInstanceTypeId) → x ≡ any.Instance i → ⊥) → owned (tree_at a (any_part x)) ≡ []
owned_none a (any.Resource r) s o = refl
owned_none a (any.Instance i) s o = absurd (o i refl)
owned_none a (any.Defined i) s o = ap (λ h. owned_at h) (head_in a.nodes i.index (n.Defined s.0) s.1)
owned_none a (any.Func i) s o = ap (λ h. owned_at h) (head_in a.nodes i.index (n.Func s.0) s.1)
owned_none a (any.Component i) s o = ap (λ h. owned_at h) (head_in a.nodes i.index (n.Component s.0) s.1)

among_names : (xs ys : List ResourceId) → list_all (λ r. member r (resource_names ys)) (resource_names xs) ≡ list_all (has_resource ys) xs
among_names [] ys = refl
among_names (x ∷ xs) ys = λ j. sym (has-member ys x) j && among_names xs ys j

pub owned_both : (a b : Type_tree) (xs ys : List ResourceId) → owned a ≡ resource_names xs → owned b ≡ resource_names ys → same_members (owned a) (owned b) ≡ (list_all (has_resource ys) xs && list_all (has_resource xs) ys)
owned_both a b xs ys e h = (λ j. same_members (e j) (h j)) ∙ (λ j. among_names xs ys j && among_names ys xs j)

some_long : (n : ℕ) → eqb (suc n) 0 ≡ false
some_long n = grind (arith, nat_tests)

none_left : (xs : List ResourceId) → eqb (length xs) 0 ≡ same_members (resource_names xs) []
none_left [] = refl
none_left (x ∷ xs) = some_long (length xs)

none_right : (xs : List ResourceId) → eqb (length xs) 0 ≡ same_members [] (resource_names xs)
none_right [] = refl
none_right (x ∷ xs) = some_long (length xs)

pub owned_left : (a b : Type_tree) (xs : List ResourceId) (k : ℕ) → owned a ≡ resource_names xs → owned b ≡ [] → k ≡ length xs → eqb k 0 ≡ same_members (owned a) (owned b)
owned_left a b xs k e h l = ap (λ (m : ℕ). eqb m 0) l ∙ none_left xs ∙ sym (λ j. same_members (e j) (h j))

pub owned_right : (a b : Type_tree) (xs : List ResourceId) (k : ℕ) → owned a ≡ [] → owned b ≡ resource_names xs → k ≡ length xs → eqb k 0 ≡ same_members (owned a) (owned b)
owned_right a b xs k e h l = ap (λ (m : ℕ). eqb m 0) l ∙ none_right xs ∙ sym (λ j. same_members (e j) (h j))

pub and_told : (a b : Bool) → a ≡ true → (a && b) ≡ b
and_told a b h = ap (λ (c : Bool). c && b) h

pub and_refused : (a b : Bool) → a ≡ false → (a && b) ≡ false
and_refused a b h = ap (λ (c : Bool). c && b) h
