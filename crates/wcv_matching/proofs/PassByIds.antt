-- The pass with tests by ids.
use Rattle.std.proofs.Common.{◌≡◌, List, Bool, true, false, bytes_eq, Option, None, Some, refl, ◌∙◌, ap}
use Rattle.std.specs.Bool.{Decides}
use Rattle.std.specs.Map.{lookup}
use Rattle.std.proofs.lemmas.Bool.Decides.{Decides-and, Decides-like}
use Rattle.wcv_core.specs.CoreForm.{Group}
use Rattle.wcv_core.specs.CoreGroups.{total}
use Rattle.wcv_core.specs.CoreSizes.{IsEntityWithin}
use Rattle.wcv_core.specs.Names.{Name}
use Rattle.wcv_core.specs.declared.core_types.EntityType.{EntityType}
use Rattle.wcv_types.specs.Tree.{Text}
use Rattle.wcv_types.specs.Unfold.{Type_tree}
use Rattle.wcv_closed.specs.ClosedTable.{IsTable}
use Rattle.wcv_closed.specs.CoreModules.{Module_items, ModuleMatches, same_pair}
use Rattle.wcv_closed.specs.Found.{EachFound}
use Rattle.wcv_matching.specs.IdTests.{found, each_found, modules_match, tests_by_ids}
use Rattle.wcv_matching.specs.ItemTests.{item_matches}
use Rattle.wcv_matching.specs.Matching.{OpensImports}
use Rattle.wcv_matching.specs.ModuleItems.{ItemsMatch, module_items}
use Rattle.wcv_matching.specs.OnePass.{Seen_tree, AreRight, passes_match, opens_pass}
use Rattle.wcv_matching.specs.Orderly.{Orderly, EachOrderly}
use Rattle.wcv_matching.specs.TableMatching.{ByIds, CoreWithin, EachCoreWithin, TypeMatches, Opens}
use Rattle.wcv_matching.proofs.ItemTests.{item_to, item_from}
use Rattle.wcv_matching.proofs.ItemsInside.{matching-carried, opening-carried}
use Rattle.wcv_matching.proofs.PassArguments.{opens-decided}
use Rattle.wcv_matching.proofs.PassBound.{Matches-decides}
use Rattle.wcv_matching.proofs.PassSame.{passes, all-pass}

-- ## Core modules

module _ {K X : Type 0} (same : K → K → Bool) (test : X → X → Bool) where
  found-to : (o : Option X) (y : X) → elim o [ None ↦ false | Some x ↦ test x y ] ≡ true → (x : X) × (o ≡ Some x) × (test x y ≡ true)
  found-to None y h = cc
  found-to (Some x) y h = (x, refl, h)

  found-from : (o : Option X) (y x : X) → o ≡ Some x → test x y ≡ true → elim o [ None ↦ false | Some x ↦ test x y ] ≡ true
  found-from o y x e h = ap (λ (p : Option X). elim p [ None ↦ false | Some x ↦ test x y ]) e ∙ h

  each-decides : (xs ys : List (K × X)) → Decides (each_found same test xs ys) (EachFound same (λ x y. test x y ≡ true) xs ys)
  each-decides xs ys = (
    λ h k y c. found-to (lookup (same k) xs) y (passes (found same test xs) ys h (k, y) c),
    λ e. all-pass (found same test xs) ys (λ x c. let f = e x.0 x.1 c in found-from (lookup (same x.0) xs) x.1 f.0 f.1 f.2),
  )

pub modules-decide : (gs : List Group) (m n : Module_items EntityType) → Decides (modules_match gs m n) (ModuleMatches (ByIds gs) m n)
modules-decide gs m n =
    Decides-like (modules_match gs m n)
    (λ w. record { imports = w.0; exports = w.1 })
    (λ (w : ModuleMatches (ByIds gs) m n). (w.imports, w.exports))
    (Decides-and _ _ (each-decides same_pair (item_matches gs) n.imports m.imports) (each-decides bytes_eq (item_matches gs) m.exports n.exports))

-- ## Types

module _ (gs : List Group) (same_seen : Seen_tree → Seen_tree → Bool) (told : (s t : Seen_tree) → Decides (same_seen s t) (s ≡ t)) (table : IsTable gs) where
  are_right : AreRight (ByIds gs) (tests_by_ids gs same_seen)
  are_right = record { same_seen = told; modules = λ a b. modules-decide gs (module_items a) (module_items b) }

  pub matching-by_ids : (a b : Type_tree) → Orderly a → Orderly b → CoreWithin gs a → CoreWithin gs b → Decides (passes_match (tests_by_ids gs same_seen) a b) (TypeMatches gs a b)
  matching-by_ids a b oa ob i j =
      Decides-like (passes_match (tests_by_ids gs same_seen) a b)
      (matching-carried (IsEntityWithin (total gs)) (ByIds gs) (ItemsMatch gs) (item_to gs table) a b i j)
      (matching-carried (IsEntityWithin (total gs)) (ItemsMatch gs) (ByIds gs) (item_from gs table) a b i j)
      (Matches-decides (ByIds gs) (tests_by_ids gs same_seen) are_right a b oa ob)

  pub opening-by_ids : (args : List (Text × Type_tree)) (c : Type_tree) → EachOrderly args → Orderly c → EachCoreWithin gs args → CoreWithin gs c → Decides (opens_pass (tests_by_ids gs same_seen) args c) ((s : Name → Name) × Opens gs s args c)
  opening-by_ids args c oa oc i j =
      Decides-like (opens_pass (tests_by_ids gs same_seen) args c)
      (λ (o : (s : Name → Name) × OpensImports (ByIds gs) s args c). (o.0, opening-carried (IsEntityWithin (total gs)) (ByIds gs) (ItemsMatch gs) (item_to gs table) o.0 args c i j o.1))
      (λ (o : (s : Name → Name) × Opens gs s args c). (o.0, opening-carried (IsEntityWithin (total gs)) (ItemsMatch gs) (ByIds gs) (item_from gs table) o.0 args c i j o.1))
      (opens-decided (ByIds gs) (tests_by_ids gs same_seen) are_right args c oa oc)
