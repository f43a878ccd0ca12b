-- The test of arguments answers whether they serve what a core module imports.
use Rattle.std.proofs.Common.{◌≡◌, List, Bool, true, refl, ◌∙◌, ap, bytes_eq, Some, None}
use Rattle.std.specs.Prelude.{All, Contains, Option}
use Rattle.std.specs.Bool.{Decides}
use Rattle.std.specs.Map.{lookup}
use Rattle.std.proofs.lemmas.Bool.{false≢true}
use Rattle.std.proofs.lemmas.List.Elements.{All-contains, All-contains_itself, All-weaker}
use Rattle.std.proofs.lemmas.List.Sums.{AllPass-from_list_all, list_all-from_AllPass}
use Rattle.std.proofs.lemmas.Map.Views.{Contains-from_lookup}
use Rattle.wcv_core.specs.CoreForm.{Group}
use Rattle.wcv_core.specs.CoreGroups.{total}
use Rattle.wcv_core.specs.CoreSizes.{IsEntityWithin}
use Rattle.wcv_core.specs.declared.core_types.EntityType.{EntityType}
use Rattle.wcv_syntax.specs.ModuleTypes.{Core_import, Core_export}
use Rattle.wcv_types.specs.Tree.{Text}
use Rattle.wcv_closed.specs.ClosedTable.{IsTable}
use Rattle.wcv_closed.specs.CoreModules.{IsServed, AllServed, EachArgument}
use Rattle.wcv_closed.proofs.ModuleMatching.{same_text}
use Rattle.wcv_matching.specs.ItemTests.{item_matches}
use Rattle.wcv_matching.specs.ModuleItems.{ItemsMatch}
use Rattle.wcv_matching.proofs.ItemTests.{item_to, item_from}
use Rattle.wcv_lower.specs.CoreInstances.{test_found, serves, all_served}

found_to : {A : Type 0} (test : A → Bool) (o : Option A) → test_found test o ≡ true → (x : A) × (o ≡ Some x) × (test x ≡ true)
found_to test None e = absurd (false≢true e)
found_to test (Some x) e = (x, refl, e)

found_from : {A : Type 0} (test : A → Bool) (o : Option A) (x : A) → o ≡ Some x → test x ≡ true → test_found test o ≡ true
found_from test o x e h = ap (test_found test) e ∙ h

module _ (gs : List Group) (args : List (Text × List Core_export)) (is : List Core_import) (t : IsTable gs) (a : EachArgument (IsEntityWithin (total gs)) args) (w : All (λ i. IsEntityWithin (total gs) i.1) is) where
  abbrev Within : EntityType → Type 0
  Within e = IsEntityWithin (total gs) e

  abbrev test : EntityType → EntityType → Bool
  test e x = item_matches gs x e

  -- what is found under two names is of the table
  item_within : (i : Text × Text) (es : List Core_export) (x : EntityType) → lookup (bytes_eq i.0) args ≡ Some es → lookup (bytes_eq i.1) es ≡ Some x → Within x
  item_within i es x e f =
      All-contains (λ (y : Core_export). Within y.1) es (i.1, x)
      (All-contains (λ (y : Text × List Core_export). All (λ (z : Core_export). Within z.1) y.1) args (i.0, es) a (Contains-from_lookup same_text i.0 es args e))
      (Contains-from_lookup same_text i.1 x es f)

  import_within : (i : Core_import) → Contains is i → Within i.1
  import_within i c = All-contains (λ (j : Core_import). Within j.1) is i w c

  serves_to : (i : Core_import) → Contains is i → serves gs args i ≡ true → IsServed (ItemsMatch gs) args i.0 i.1
  serves_to i c e =
      let f = found_to (λ (es : List Core_export). test_found (test i.1) (lookup (bytes_eq i.0.1) es)) (lookup (bytes_eq i.0.0) args) e in
      let g = found_to (test i.1) (lookup (bytes_eq i.0.1) f.0) f.2 in
      (f.0, f.1, (g.0, g.1, item_to gs t g.0 i.1 (item_within i.0 f.0 g.0 f.1 g.1) (import_within i c) g.2))

  serves_from : (i : Core_import) → Contains is i → IsServed (ItemsMatch gs) args i.0 i.1 → serves gs args i ≡ true
  serves_from i c s =
      found_from (λ (es : List Core_export). test_found (test i.1) (lookup (bytes_eq i.0.1) es)) (lookup (bytes_eq i.0.0) args) s.0 s.1
      (found_from (test i.1) (lookup (bytes_eq i.0.1) s.0) s.2.0 s.2.1 (item_from gs t s.2.0 i.1 (item_within i.0 s.0 s.2.0 s.1 s.2.1) (import_within i c) s.2.2))

  pub served_told : Decides (all_served gs args is) (AllServed (ItemsMatch gs) args is)
  served_told = (
    λ e i x c. serves_to (i, x) c (All-contains (λ (j : Core_import). serves gs args j ≡ true) is (i, x) (AllPass-from_list_all (serves gs args) is e) c),
    λ s. list_all-from_AllPass (serves gs args) is (All-weaker (Contains is) (λ (j : Core_import). serves gs args j ≡ true) (λ j c. serves_from j c (s j.0 j.1 c)) is (All-contains_itself is)),
  )
