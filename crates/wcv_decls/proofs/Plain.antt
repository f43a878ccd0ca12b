-- Types that are made in one step, as types that are read.
use Rattle.std.proofs.Common.{◌≡◌, ℕ, List, [], ◌∷◌, map, refl, sym, ◌∙◌, ap, subst, Bool, true, false, cond, ◌&&◌, Some, None, All}
use Rattle.std.specs.Prelude.{Option}
use Rattle.std.specs.Option.{option_map}
use Rattle.std.proofs.lemmas.Bool.{false≢true}
use Rattle.std.proofs.lemmas.List.Elements.{All-append, All-map}
use Rattle.wcv_core.specs.Names.{Name, Place}
use Rattle.wcv_core.specs.declared.core_types.ValType.{ValType}
use Rattle.wcv_core.specs.declared.error.ErrorKind.{ErrorKind}
use Rattle.wcv_core.specs.declared.features.WasmFeatures.{WasmFeatures}
use Rattle.wcv_syntax.specs.Model.{Type_form, type_item, defined_type, func_type, component_type, instance_type, resource_type}
use Rattle.wcv_types.specs.Arena.{Arena}
use Rattle.wcv_types.specs.ComponentTrees.{resource_path}
use Rattle.wcv_types.specs.Led.{HasPath}
use Rattle.wcv_lower.specs.Checks.{Checks, Cause, IsFree}
use Rattle.wcv_lower.specs.Context.{is_concrete, Side, importing, exporting}
use Rattle.wcv_lower.specs.Declared.{Makers, read_type, declared_checks}
use Rattle.wcv_lower.specs.DeclaredCalls.{TypeRead, TypeRefused}
use Rattle.wcv_lower.specs.Given.{GivenNames, names_of, none_given}
use Rattle.wcv_lower.specs.Growth.{grow}
use Rattle.wcv_lower.specs.Names.{Names, Under}
use Rattle.wcv_lower.specs.Owned.{IsGiven, IsCalm, AllOwn}
use Rattle.wcv_lower.specs.Readers.{New_node, Maker}
use Rattle.wcv_lower.specs.Step.{Step, apply, defines, joins_types}
use Rattle.wcv_lower.specs.Trees.{Entries, Tree_context, Tree_stack, tree_reader, tree_maker}
use Rattle.wcv_lower.specs.Types.{is_plain_type, added, dtor_stands, type_made, type_checks}
use Rattle.wcv_lower.proofs.CalmGrowth.{calm_grows}
use Rattle.wcv_spaces.specs.Contents.{Contents, defined_resource, context_of, stack_of, StateStands}
use Rattle.wcv_spaces.specs.Promises.{numbers_of}
use Rattle.wcv_state.proofs.Stacks.{none_made}
use Rattle.wcv_decls.specs.Declaring.{IsInstanceBody}
use Rattle.wcv_decls.specs.Items.{Declares}
use Rattle.wcv_decls.proofs.ReadingOn.{grown_numbers}

-- the resources of a state were given
pub own_given : (a : Arena) (s : Contents) → StateStands a s → AllOwn (numbers_of a) (context_of a s)
own_given a s h =
    All-append (IsGiven (numbers_of a)) (map (λ r. r.0) (map resource_path s.imported_resources)) (map (λ r. r.0) (map defined_resource s.defined_resources))
    (All-map (IsGiven (numbers_of a)) (λ r. r.0) (map resource_path s.imported_resources) (All-map (λ (r : Name × List ℕ). IsGiven (numbers_of a) r.0) resource_path s.imported_resources h.imported))
    (All-map (IsGiven (numbers_of a)) (λ r. r.0) (map defined_resource s.defined_resources) (All-map (λ (r : Name × Option ValType). IsGiven (numbers_of a) r.0) defined_resource s.defined_resources h.defined))

-- what its rules say of it is what they say of an item
module _ (fs : WasmFeatures) (mk : Makers tree_reader) (p : Place) (s : Tree_stack) where
  pub plain_checked : (limited : Bool) (t : Type_form) → is_plain_type t ≡ true → declared_checks limited fs mk p s t ≡ type_checks limited fs (mk p) s t
  plain_checked limited (defined_type d) e = refl
  plain_checked limited (func_type f) e = refl
  plain_checked limited (component_type ds) e = absurd (false≢true e)
  plain_checked limited (instance_type ds) e = absurd (false≢true e)
  plain_checked limited (resource_type rep dtor) e = refl

  pub plain_grows : (t : Type_form) → is_plain_type t ≡ true → read_type fs mk p s t ≡ grow fs (mk p) s (type_item t)
  plain_grows (defined_type d) e = refl
  plain_grows (func_type f) e = refl
  plain_grows (component_type ds) e = absurd (false≢true e)
  plain_grows (instance_type ds) e = absurd (false≢true e)
  plain_grows (resource_type rep dtor) e = refl

module _ (limited : Bool) (a b : Arena) (s : Contents) (outer : List Tree_context) (t : Type_form) (e : is_plain_type t ≡ true) where
  pub plain_read : (s' : Contents) → Declares a b s s' t → ((n : Names) (q : Place) → IsFree (type_checks limited s.features (tree_maker n q) (stack_of a s outer) t)) → (p : Place) →
      TypeRead limited s.features p (stack_of a s outer) t (stack_of b s' outer) (numbers_of a) (numbers_of b)
  plain_read s' w free p =
      let n : GivenNames = w.given_names p in (
        n,
        w.given p,
        subst IsFree (sym (plain_checked s.features (tree_maker (names_of n)) p (stack_of a s outer) limited t e)) (free (names_of n) p),
        plain_grows s.features (tree_maker (names_of n)) p (stack_of a s outer) t e ∙ w.grown outer p,
      )

  pub plain_refused : (k : ErrorKind) (p : Place) → Cause (type_checks limited s.features (tree_maker (names_of none_given) p) (stack_of a s outer) t) k → TypeRefused limited s.features p (stack_of a s outer) t k (numbers_of a) (numbers_of b)
  plain_refused k p c = (none_given, none_made a b p, subst (λ (cs : Checks). Cause cs k) (sym (plain_checked s.features (tree_maker (names_of none_given)) p (stack_of a s outer) limited t e)) c)

-- ## What it keeps

-- kind, imports, exports and defined resources are the same
pub record SameSides (c d : Tree_context) : Type 0 where
  pub kind : d.kind ≡ c.kind
  pub side : (k : Side) → d.side k ≡ c.side k
  pub defined : d.defined ≡ c.defined

pub same_body : (c d : Tree_context) → SameSides c d → IsInstanceBody c → IsInstanceBody d
same_body c d w h = record {
  kind = w.kind ∙ h.kind;
  imports = w.side importing ∙ h.imports;
  led = subst (λ (es : Entries). All (λ (r : Name × Option ValType). HasPath es r.0) d.defined) (sym (w.side exporting)) (subst (All (λ (r : Name × Option ValType). HasPath (c.side exporting) r.0)) (sym w.defined) h.led);
}

module _ (fs : WasmFeatures) (mk : Maker tree_reader) (s u : Tree_stack) where
  node_added : (o : Option (New_node tree_reader)) → option_map (λ (x : Step tree_reader). apply x s) (option_map (added mk) o) ≡ Some u → SameSides s.top u.top
  node_added None e = absurd (cc)
  node_added (Some n) e = let i : apply (added mk n) s ≡ u = cc in subst (λ (x : Tree_stack). SameSides s.top x.top) i (record { kind = refl; side = λ k. refl; defined = refl })

  -- where no resource may be defined
  pub plain_sides : (t : Type_form) → is_concrete s.top.kind ≡ false → grow fs mk s (type_item t) ≡ Some u → SameSides s.top u.top
  plain_sides (defined_type d) k e = node_added (type_made s.top (defined_type d)) e
  plain_sides (func_type f) k e = node_added (type_made s.top (func_type f)) e
  plain_sides (component_type ds) k e = absurd (cc)
  plain_sides (instance_type ds) k e = absurd (cc)
  plain_sides (resource_type rep dtor) k e =
      let none : option_map (λ (x : Step tree_reader). apply x s) (cond (is_concrete s.top.kind && dtor_stands s.top dtor) (Some (defines mk.resource (Some rep) ∷ joins_types mk.reference)) None) ≡ None =
      ap (λ (b : Bool). option_map (λ (x : Step tree_reader). apply x s) (cond (b && dtor_stands s.top dtor) (Some (defines mk.resource (Some rep) ∷ joins_types mk.reference)) None)) k in
      let e' : option_map (λ (x : Step tree_reader). apply x s) (cond (is_concrete s.top.kind && dtor_stands s.top dtor) (Some (defines mk.resource (Some rep) ∷ joins_types mk.reference)) None) ≡ Some u = e in
      absurd (cc)

-- the stack stays calm
pub plain_calm : (a b : Arena) (s s' : Contents) (outer : List Tree_context) (t : Type_form) → Declares a b s s' t → IsCalm (numbers_of a) (stack_of a s outer) → IsCalm (numbers_of b) (stack_of b s' outer)
plain_calm a b s s' outer t w c =
    calm_grows (Under []) (numbers_of a) (numbers_of b) (w.given_names []) [] (stack_of a s outer) (grown_numbers a b w.keeps.arena) (w.given []) c s.features (stack_of b s' outer) (type_item t) tt (own_given b s' w.keeps.stands) (w.grown outer [])
