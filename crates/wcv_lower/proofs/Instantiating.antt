-- An instantiation: the arguments open the component in one way, and the resources that it defines are new.
use Rattle.std.proofs.Common.{◌≡◌, ℕ, List, [], ◌∷◌, map, refl, sym, ◌∙◌, true, Some, None}
use Rattle.std.specs.Prelude.{All, Contains, Option}
use Rattle.std.specs.Bool.{Decides}
use Rattle.std.proofs.lemmas.List.Elements.{All-nil, All-cons, All-contains}
use Rattle.wcv_core.specs.CoreForm.{Group}
use Rattle.wcv_core.specs.Names.{Name, Place, number, stamp, base, at, stamped, aside, member}
use Rattle.wcv_core.specs.declared.features.WasmFeatures.{WasmFeatures}
use Rattle.wcv_syntax.specs.Model.{instantiate}
use Rattle.wcv_syntax.specs.declared.instance.ComponentInstantiationArg.{ComponentInstantiationArg}
use Rattle.wcv_syntax.specs.declared.name.ComponentExport.{ComponentExport}
use Rattle.wcv_types.specs.Tree.{Text, Extern_name, firsts, head, imported_at}
use Rattle.wcv_types.specs.Unfold.{Type_tree}
use Rattle.wcv_closed.specs.ClosedTable.{IsTable}
use Rattle.wcv_matching.specs.AtomTests.{same_seen}
use Rattle.wcv_matching.specs.ModuleItems.{ItemsMatch, before}
use Rattle.wcv_matching.specs.OnePass.{argument_for, made_paths}
use Rattle.wcv_matching.specs.Orderly.{Orderly}
use Rattle.wcv_matching.specs.TableMatching.{CoreWithin, Opens}
use Rattle.wcv_matching.proofs.AtomTests.{seen-decides}
use Rattle.wcv_matching.proofs.PassArguments.{argument-found, found-opens}
use Rattle.wcv_matching.proofs.PassByIds.{opening-by_ids}
use Rattle.wcv_lower.specs.Checks.{IsFree}
use Rattle.wcv_lower.specs.Context.{in_components}
use Rattle.wcv_lower.specs.Entries.{extern_name, items_of}
use Rattle.wcv_lower.specs.Instances.{component_at, argument_at, arguments, listed_at, listed, instance_checks}
use Rattle.wcv_lower.specs.Instantiated.{instantiated_resources}
use Rattle.wcv_lower.specs.Names.{names_by_place}
use Rattle.wcv_lower.specs.Owned.{AllEntries, IsMadeAt}
use Rattle.wcv_lower.specs.Readers.{Maker}
use Rattle.wcv_lower.specs.Trees.{tree_reader, Tree_context, Tree_stack}
use Rattle.wcv_lower.proofs.Bringing.{OfAny, of_some, any_at, items_have}
use Rattle.wcv_lower.proofs.ComponentInstanceLaws.{opening_looked}
use Rattle.wcv_lower.proofs.Members.{all_member}

module _ (P : Type_tree → Type 0) (c : Tree_context) (all : AllEntries P c) where
  before_have : {K : Type 0} (k : K) (o : Option Type_tree) (es : List (K × Type_tree)) → OfAny P o → All (λ (e : K × Type_tree). P e.1) es → All (λ (e : K × Type_tree). P e.1) (before k o es)
  before_have k None es w a = a
  before_have {K} k (Some x) es w a = All-cons (λ (e : K × Type_tree). P e.1) (k, x) es w a

  pub arguments_have : (args : List ComponentInstantiationArg) → All (λ (e : Text × Type_tree). P e.1) (arguments c args)
  arguments_have [] = All-nil (λ (e : Text × Type_tree). P e.1)
  arguments_have (a ∷ rest) = before_have a.name (argument_at c a) (arguments c rest) (any_at P (items_of c a.kind) a.index (items_have P c all a.kind)) (arguments_have rest)

  pub listed_have : (es : List ComponentExport) → All (λ (e : Extern_name × Type_tree). P e.1) (listed c es)
  listed_have [] = All-nil (λ (e : Extern_name × Type_tree). P e.1)
  listed_have (e ∷ es) = before_have (extern_name e.name) (listed_at c e) (listed c es) (any_at P (items_of c e.kind) e.index (items_have P c all e.kind)) (listed_have es)

  pub component_has : (i : ℕ) → OfAny P (component_at c i)
  component_has i = any_at P (c.space in_components) i (all.space in_components)

-- each type is orderly, and its core types are of the table
abbrev pub Comparable : List Group → Type_tree → Type 0
Comparable gs t = Orderly t × CoreWithin gs t

module _ (s : Tree_stack) (table : IsTable s.groups) (all : AllEntries (λ t. Orderly t × CoreWithin s.groups t) s.top) (i : ℕ) (args : List ComponentInstantiationArg) where
  each : (n : Text) (x : Type_tree) → Contains (arguments s.top args) (n, x) → Comparable s.groups x
  each n x c = All-contains (λ (e : Text × Type_tree). Comparable s.groups e.1) (arguments s.top args) (n, x) (arguments_have (Comparable s.groups) s.top all args) c

  comparable : (c : Type_tree) → component_at s.top i ≡ Some c → Comparable s.groups c
  comparable c e = of_some (Comparable s.groups) (component_at s.top i) c (component_has (Comparable s.groups) s.top all i) e

  pub opening-decides : (c : Type_tree) → component_at s.top i ≡ Some c → Decides (tree_reader.opens s.groups (arguments s.top args) c) ((u : Name → Name) × Opens s.groups u (arguments s.top args) c)
  opening-decides c e = opening-by_ids s.groups same_seen seen-decides table (arguments s.top args) c (λ n x w. (each n x w).0) (comparable c e).0 (λ n x w. (each n x w).1) (comparable c e).1

  -- the substitution that the recorded paths find opens, and no other does
  pub accepted_opens : (fs : WasmFeatures) (mk : Maker tree_reader) → IsFree (instance_checks fs mk s (instantiate i args)) →
      (c : Type_tree) × (component_at s.top i ≡ Some c) × Opens s.groups (argument_for (arguments s.top args) c) (arguments s.top args) c ×
      ((u : Name → Name) → Opens s.groups u (arguments s.top args) c → (r : Name) → member r (imported_at (head c)) ≡ true → argument_for (arguments s.top args) c r ≡ u r)
  accepted_opens fs mk h =
      let w = opening_looked tree_reader fs mk s i args h in
      let c : Type_tree = w.0 in
      let d = (opening-decides c w.1).0 w.3 in
      (c, w.1, found-opens (ItemsMatch s.groups) d.0 (arguments s.top args) c (comparable c w.1).0 d.1, λ u m r q. argument-found (ItemsMatch s.groups) u (arguments s.top args) c (comparable c w.1).0 m r q)

-- ## New resources

made_at_place : (p : Place) (rs : List (Name × List ℕ)) → All (IsMadeAt p) (firsts (map (λ (r : Name × List ℕ). (at p r.0, r.1)) rs))
made_at_place p [] = All-nil (IsMadeAt p)
made_at_place p (r ∷ rs) = All-cons (IsMadeAt p) (at p r.0) (firsts (map (λ (r : Name × List ℕ). (at p r.0, r.1)) rs)) refl (made_at_place p rs)

one_place : (p q : Place) (r : Name) → IsMadeAt p r → IsMadeAt q r → p ≡ q
one_place p q (at x y) h g = sym h ∙ g
one_place p q (base x) h g = sym h ∙ g
one_place p q (number k) h g = absurd h
one_place p q (stamp k) h g = absurd h
one_place p q (stamped x) h g = absurd h
one_place p q (aside x) h g = absurd h

pub disjoint : (p q : Place) (c d : Type_tree) (r : Name) → (p ≡ q → ⊥) → member r (firsts (instantiated_resources names_by_place p c)) ≡ true → member r (firsts (instantiated_resources names_by_place q d)) ≡ true → ⊥
disjoint p q c d r n h g =
    n (one_place p q r (all_member (IsMadeAt p) (firsts (instantiated_resources names_by_place p c)) (made_at_place p (made_paths (head c))) r h)
    (all_member (IsMadeAt q) (firsts (instantiated_resources names_by_place q d)) (made_at_place q (made_paths (head d))) r g))
