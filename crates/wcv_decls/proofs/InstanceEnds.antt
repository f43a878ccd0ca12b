-- The end of an instance type: it has no cause, and each resource that its context defines is kept.
use Rattle.std.proofs.Common.{◌≡◌, ℕ, zero, suc, List, [], ◌∷◌, map, refl, sym, ◌∙◌, ap, Bool, true, false, cond, not, Some, None, All, inl, inr}
use Rattle.std.specs.Prelude.{Option, ◌||◌, ◌&&◌, slice_get}
use Rattle.std.specs.Option.{option_map, option_and_then}
use Rattle.std.proofs.lemmas.Bool.{false≢true}
use Rattle.std.proofs.lemmas.List.Elements.{All-head, All-tail}
use Rattle.wcv_core.specs.Names.{Name}
use Rattle.wcv_core.specs.declared.core_types.ValType.{ValType}
use Rattle.wcv_core.specs.declared.error.ErrorKind.{ErrorKind}
use Rattle.wcv_types.specs.FirstPath.{first_path}
use Rattle.wcv_types.specs.Led.{HasPath}
use Rattle.wcv_types.specs.Paths.{IsTypeOf, IsWayTo, PathLeadsTo}
use Rattle.wcv_types.specs.Resources.{owns, refers, is_free, is_free_in}
use Rattle.wcv_types.specs.Tree.{Extern_name, nothing, primitive, resource, defined, func, instance, component, type_entity, core_module, core_instance, core_type, core_item, here, label, import, export, core_import, core_export, Tree, node, Parts, none, part, exports, exports_in, firsts}
use Rattle.wcv_types.proofs.FirstPath.{first_path-none}
use Rattle.wcv_types.proofs.IsFree.{free-is_free}
use Rattle.wcv_lower.specs.Checks.{Cause, is_none}
use Rattle.wcv_lower.specs.Context.{importing, exporting}
use Rattle.wcv_lower.specs.Ending.{is_free_among, any_free, keep, kept, end_checks}
use Rattle.wcv_lower.specs.Trees.{Entries, Tree_context, tree_reader}
use Rattle.wcv_decls.specs.Declaring.{IsInstanceBody}

-- ## What a path leads to is free

either : (b c : Bool) → c ≡ true → (b || c) ≡ true
either true c e = refl
either false c e = e

first_of : (b c : Bool) → b ≡ true → (b || c) ≡ true
first_of b c e = ap (λ (x : Bool). x || c) e

at_entry : (r : Name) (es : Entries) (k : ℕ) (e : Extern_name × Tree Name Name) → slice_get es k ≡ Some e → is_free r e.1 ≡ true → is_free_among tree_reader r es ≡ true
at_entry r [] k e s f = absurd (cc)
at_entry r (x ∷ es) zero e s f = let i : x ≡ e = cc in first_of (is_free r x.1) (is_free_among tree_reader r es) (ap (λ (y : Extern_name × Tree Name Name). is_free r y.1) i ∙ f)
at_entry r (x ∷ es) (suc k) e s f = either (is_free r x.1) (is_free_among tree_reader r es) (at_entry r es k e s f)

-- a type of that resource
referred_free : (r : Name) (ps : Parts Name Name) → IsTypeOf r (node type_entity ps) → is_free r (node type_entity ps) ≡ true
referred_free r none w = absurd w.1
referred_free r (part k c none) w = absurd w.1
referred_free r (part k c (part j (node h qs) ps)) w = free-is_free r (node type_entity (part k c (part j (node h qs) ps))) (inr (refl, inr (inl (inl w.1))))

type_free : (r : Name) (t : Tree Name Name) → IsTypeOf r t → is_free r t ≡ true
type_free r (node type_entity ps) w = referred_free r ps w
type_free r (node nothing ps) w = absurd (cc)
type_free r (node (primitive p) ps) w = absurd (cc)
type_free r (node (resource q s) ps) w = absurd (cc)
type_free r (node (defined i x) ps) w = absurd (cc)
type_free r (node (func i b) ps) w = absurd (cc)
type_free r (node (instance i own) ps) w = absurd (cc)
type_free r (node (component i ins outs) ps) w = absurd (cc)
type_free r (node (core_module i n) ps) w = absurd (cc)
type_free r (node (core_instance i n) ps) w = absurd (cc)
type_free r (node (core_type k) ps) w = absurd (cc)
type_free r (node (core_item x) ps) w = absurd (cc)

-- an instance that does not own it, in whose exports it is free
one_more : (r : Name) (t : Tree Name Name) (ps : Parts Name Name) → (is_free_among tree_reader r (exports_in ps) ≡ true → is_free_in r ps ≡ true) → (is_free r t || is_free_among tree_reader r (exports_in ps)) ≡ true → (is_free r t || is_free_in r ps) ≡ true
one_more r t ps later e = go (is_free r t) refl e
  where
    go : (b : Bool) → is_free r t ≡ b → (b || is_free_among tree_reader r (exports_in ps)) ≡ true → (is_free r t || is_free_in r ps) ≡ true
    go true g w = first_of (is_free r t) (is_free_in r ps) g
    go false g w = either (is_free r t) (is_free_in r ps) (later w)

in_parts : (r : Name) (ps : Parts Name Name) → is_free_among tree_reader r (exports_in ps) ≡ true → is_free_in r ps ≡ true
in_parts r none e = absurd (false≢true e)
in_parts r (part (export n) t ps) e = one_more r t ps (λ w. in_parts r ps w) e
in_parts r (part (import n) t ps) e = either (is_free r t) (is_free_in r ps) (in_parts r ps e)
in_parts r (part (label n) t ps) e = either (is_free r t) (is_free_in r ps) (in_parts r ps e)
in_parts r (part here t ps) e = either (is_free r t) (is_free_in r ps) (in_parts r ps e)
in_parts r (part (core_import m n) t ps) e = either (is_free r t) (is_free_in r ps) (in_parts r ps e)
in_parts r (part (core_export m) t ps) e = either (is_free r t) (is_free_in r ps) (in_parts r ps e)

way_free : (r : Name) (t : Tree Name Name) → IsWayTo r t → is_free_among tree_reader r (exports t) ≡ true → is_free r t ≡ true
way_free r (node h ps) w e = let x = in_parts r ps e in either (refers r h) (not (owns h r) && is_free_in r ps) (λ j. not (w.1 j) && x j)

led_free : (r : Name) (p : List ℕ) (es : Entries) → PathLeadsTo p r es → is_free_among tree_reader r es ≡ true
led_free r [] es w = absurd w
led_free r (k ∷ []) es w = at_entry r es k w.0 w.1 (type_free r w.0.1 w.2)
led_free r (k ∷ j ∷ p) es w = at_entry r es k w.0 w.1 (way_free r w.0.1 w.2 (led_free r (j ∷ p) (exports w.0.1) w.3))

-- ## What is kept

abbrev Defined : Type 0
Defined = List (Name × Option ValType)

-- one that has a path is kept before the others
one_kept : (r : Name) (es : Entries) (ks : List (Name × List ℕ)) → HasPath es r → (p : List ℕ) × (keep tree_reader r es ks ≡ Some ((r, p) ∷ ks))
one_kept r es ks h = go (first_path r es) refl
  where
    free : is_free_among tree_reader r es ≡ true
    free = led_free r h.0 es h.1

    go : (o : Option (List ℕ)) → first_path r es ≡ o → (p : List ℕ) × (keep tree_reader r es ks ≡ Some ((r, p) ∷ ks))
    go None g = absurd (first_path-none r es g h.0 h.1)
    go (Some p) g = (p, λ j. cond (free j) (option_map (λ q. (r, q) ∷ ks) (g j)) (Some ks))

-- so each is, where each has one
pub record AllKept (ds : Defined) (es : Entries) : Type 0 where
  pub paths : List (Name × List ℕ)
  pub kept : kept tree_reader ds es ≡ Some paths
  pub firsts : firsts paths ≡ map (λ d. d.0) ds

pub all_kept : (ds : Defined) (es : Entries) → All (λ (d : Name × Option ValType). HasPath es d.0) ds → AllKept ds es
all_kept [] es h = record { paths = []; kept = refl; firsts = refl }
all_kept (d ∷ ds) es h =
    let rest = all_kept ds es (All-tail (λ (x : Name × Option ValType). HasPath es x.0) d ds h) in
    let one = one_kept d.0 es rest.paths (All-head (λ (x : Name × Option ValType). HasPath es x.0) d ds h) in
    record {
      paths = (d.0, one.0) ∷ rest.paths;
      kept = ap (option_and_then (keep tree_reader d.0 es)) rest.kept ∙ one.1;
      firsts = ap (λ (xs : List Name). d.0 ∷ xs) rest.firsts;
    }

none_imported : (ds : Defined) → any_free tree_reader ds [] ≡ false
none_imported [] = refl
none_imported (d ∷ ds) = none_imported ds

-- ## The end

module _ (c : Tree_context) (h : IsInstanceBody c) where
  pub resources_kept : AllKept c.defined (c.side exporting)
  resources_kept = all_kept c.defined (c.side exporting) h.led

  pub not_imported : any_free tree_reader c.defined (c.side importing) ≡ false
  not_imported = ap (any_free tree_reader c.defined) h.imports ∙ none_imported c.defined

  not_lost : is_none (kept tree_reader c.defined (c.side exporting)) ≡ false
  not_lost = ap is_none resources_kept.kept

  pub no_end_cause : (e : ErrorKind) → Cause (end_checks c) e → ⊥
  no_end_cause e (inl x) = false≢true (sym not_imported ∙ x.1)
  no_end_cause e (inr (inl x)) = false≢true (sym not_lost ∙ x.1)
  no_end_cause e (inr (inr x)) = absurd x
