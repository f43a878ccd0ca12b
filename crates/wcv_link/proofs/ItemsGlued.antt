-- Items that calls read, each by names of its own, are valid by the names of all; and so is a component, whose type takes a name at its end.
use Rattle.std.proofs.Common.{◌≡◌, ℕ, suc, ◌++◌, refl, sym, ◌∙◌, ap, subst, arith, inl, inr, Some}
use Rattle.std.specs.Option.{option_and_then}
use Rattle.wcv_core.specs.Names.{Place, deeper}
use Rattle.wcv_core.specs.declared.error.ErrorKind.{ErrorKind}
use Rattle.wcv_core.specs.declared.features.WasmFeatures.{WasmFeatures}
use Rattle.wcv_syntax.specs.Model.{component_item, Items, no_items, next_item}
use Rattle.wcv_lower.specs.Checks.{Cause, IsFree}
use Rattle.wcv_lower.specs.Context.{concrete}
use Rattle.wcv_lower.specs.Declared.{inside, ended}
use Rattle.wcv_lower.specs.DeclaredCalls.{FromDecl}
use Rattle.wcv_lower.specs.Ending.{component_end_checks, type_at_end}
use Rattle.wcv_lower.specs.Given.{GivenNames, names_of, none_given, both_given, Numbers, AtMost, GivesAt}
use Rattle.wcv_lower.specs.Items.{read_items, component_checks}
use Rattle.wcv_lower.specs.Names.{introduced, Under, SameNames}
use Rattle.wcv_lower.specs.Trees.{Tree_stack, tree_maker, node_tree}
use Rattle.wcv_lower.proofs.DeclaredGlued.{first_same, second_same, later_item, none_gives, both_given_at, own_place, inside_it, all_given_at, own_made}
use Rattle.wcv_lower.proofs.Given.{gives_wider}
use Rattle.wcv_decls.proofs.ReadingOn.{most_both}
use Rattle.wcv_growth.specs.Nested.{Nested_types, where_read, one_type, end_type, nested_from, nested_in}
use Rattle.wcv_growth.specs.Valid.{ValidFrom, RefusedFrom}
use Rattle.wcv_growth.proofs.NestedNames.{nested_in-agrees, nested_from-agrees}
use Rattle.wcv_growth.proofs.ValidRead.{valid_reads, read_too, valid_from-agrees, valid_item-agrees, refused_from-agrees}
use Rattle.wcv_link.specs.ItemCalls.{ItemTells, ItemsRead, ItemRefused, ItemsRefused}

-- ## Items

module _ (fs : WasmFeatures) (w : Place) where
  -- the names of an item and those of the ones behind it are those of all
  module _ (k : ℕ) (a m b : Numbers) (one rest : GivenNames) (g : GivesAt (Under (deeper w k)) a m one) (h : GivesAt (FromDecl w (suc k)) m b rest) where
    first_named : SameNames (Under (deeper w k)) (names_of one) (names_of (both_given one rest))
    first_named = first_same (Under (deeper w k)) (FromDecl w (suc k)) a m b (later_item w k) one rest g h

    rest_named : SameNames (FromDecl w (suc k)) (names_of rest) (names_of (both_given one rest))
    rest_named = second_same (Under (deeper w k)) (FromDecl w (suc k)) a m b (later_item w k) one rest g h

  -- calls that read them one after another read them all, and the components that end in them have those types
  pub items_read : (k : ℕ) (s u : Tree_stack) (is : Items) (a b : Numbers) (xs : Nested_types) → ItemsRead fs w k s is u a b xs → (g : GivenNames) × GivesAt (FromDecl w k) a b g × ValidFrom fs (names_of g) w k s is u ×
      (nested_from fs (names_of g) w k s is ≡ xs)
  items_read k s u no_items a b xs r = (none_given, none_gives (FromDecl w k) a b, r.0, sym r.2)
  items_read k s u (next_item at f is) a b xs r =
      let t : Tree_stack = r.0 in
      let m : Numbers = r.1 in
      let one = r.6.0 in
      let rest = items_read (suc k) t u is m b r.5 r.7 in
      let both : GivenNames = both_given one.0 rest.0 in
      let here : SameNames (Under (deeper w k)) (names_of one.0) (names_of both) = first_named k a m b one.0 rest.0 one.1 rest.1 in
      let behind : SameNames (FromDecl w (suc k)) (names_of rest.0) (names_of both) = rest_named k a m b one.0 rest.0 one.1 rest.1 in (
        both,
        both_given_at fs w k a m b r.2 r.3 one.0 rest.0 one.1 rest.1,
        (
          valid_item-agrees fs (names_of one.0) (names_of both) (deeper w k) s f here one.2,
          (t, read_too fs (names_of one.0) (names_of both) (deeper w k) here s f t one.3, valid_from-agrees fs (names_of rest.0) (names_of both) w (suc k) t is u behind rest.2),
        ),
        (λ j. nested_in-agrees fs (names_of one.0) (names_of both) (deeper w k) s f here j ++
            where_read (λ (v : Tree_stack). nested_from fs (names_of both) w (suc k) v is) (read_too fs (names_of one.0) (names_of both) (deeper w k) here s f t one.3 j)) ∙
            (λ j. r.6.1 j ++ (nested_from-agrees fs (names_of rest.0) (names_of both) w (suc k) t is behind ∙ rest.3) j) ∙ sym r.8,
      )

  -- where calls refuse one, or the end, all are refused there
  pub items_refused : (k : ℕ) (s : Tree_stack) (is : Items) (end : ℕ) (kind : ErrorKind) (offset : ℕ) (a b : Numbers) → ItemsRefused fs w k s is end kind offset a b →
      (g : GivenNames) × GivesAt (FromDecl w k) a b g × RefusedFrom fs (names_of g) w k s is end kind offset
  items_refused k s no_items end kind offset a b r = (none_given, none_gives (FromDecl w k) a b, r)
  items_refused k s (next_item at f is) end kind offset a b (inl r) = (r.0, gives_wider (Under (deeper w k)) (FromDecl w k) a b r.0 (λ q u. (k, omega arith, u)) r.1, inl r.2)
  items_refused k s (next_item at f is) end kind offset a b (inr r) =
      let t : Tree_stack = r.0 in
      let m : Numbers = r.1 in
      let one = r.4 in
      let rest = items_refused (suc k) t is end kind offset m b r.5 in
      let both : GivenNames = both_given one.0 rest.0 in
      let here : SameNames (Under (deeper w k)) (names_of one.0) (names_of both) = first_named k a m b one.0 rest.0 one.1 rest.1 in
      let behind : SameNames (FromDecl w (suc k)) (names_of rest.0) (names_of both) = rest_named k a m b one.0 rest.0 one.1 rest.1 in (
        both,
        both_given_at fs w k a m b r.2 r.3 one.0 rest.0 one.1 rest.1,
        inr (
          valid_item-agrees fs (names_of one.0) (names_of both) (deeper w k) s f here one.2,
          (t, read_too fs (names_of one.0) (names_of both) (deeper w k) here s f t one.3, refused_from-agrees fs (names_of rest.0) (names_of both) w (suc k) t is end kind offset behind rest.2),
        ),
      )

  most_items : (k : ℕ) (s u : Tree_stack) (is : Items) (a b : Numbers) (xs : Nested_types) → ItemsRead fs w k s is u a b xs → AtMost a b
  most_items k s u no_items a b xs r = r.1
  most_items k s u (next_item at f is) a b xs r = most_both a r.1 b r.2 r.3

  -- a cause of the end, once all were read
  pub ended_refused : (k : ℕ) (s u : Tree_stack) (is : Items) (end : ℕ) (kind : ErrorKind) (offset : ℕ) (a m b : Numbers) (xs : Nested_types) → AtMost m b → ItemsRead fs w k s is u a m xs → Cause (component_end_checks u.top) kind → offset ≡ end →
      ItemsRefused fs w k s is end kind offset a b
  ended_refused k s u no_items end kind offset a m b xs l r c e = (subst (λ (t : Tree_stack). Cause (component_end_checks t.top) kind) (sym r.0) c, e)
  ended_refused k s u (next_item at f is) end kind offset a m b xs l r c e =
      inr (r.0, r.1, r.2, most_both r.1 m b r.3 l, r.6.0, ended_refused (suc k) r.0 u is end kind offset r.1 m b r.5 l r.7 c e)

-- ## A component

module _ (fs : WasmFeatures) (p : Place) (s : Tree_stack) (is : Items) (end : ℕ) where
  -- calls that read its items, and then give its type a name, read it
  module _ (u : Tree_stack) (a m b : Numbers) (xs : Nested_types) (own : GivenNames) (r : ItemsRead fs p 0 (inside concrete s) is u a m xs) (l : AtMost m b) (h : GivesAt (λ q. q ≡ p) m b own) where
    abbrev each : (g : GivenNames) × GivesAt (FromDecl p 0) a m g × ValidFrom fs (names_of g) p 0 (inside concrete s) is u × (nested_from fs (names_of g) p 0 (inside concrete s) is ≡ xs)
    each = items_read fs p 0 (inside concrete s) u is a m xs r

    abbrev all : GivenNames
    all = both_given each.0 own

    inside_same : SameNames (FromDecl p 0) (names_of each.0) (names_of all)
    inside_same = first_same (FromDecl p 0) (λ q. q ≡ p) a m b (own_place fs p) each.0 own each.1 h

    all_valid : ValidFrom fs (names_of all) p 0 (inside concrete s) is u
    all_valid = valid_from-agrees fs (names_of each.0) (names_of all) p 0 (inside concrete s) is u inside_same each.2

    reads_all : read_items fs (tree_maker (names_of all)) p 0 (inside concrete s) is ≡ Some u
    reads_all = valid_reads fs (names_of all) p 0 (inside concrete s) is u all_valid

    -- its own type comes behind those of the components in it
    tells : nested_in fs (names_of all) p s (component_item is end) ≡ xs ++ end_type (names_of own) p u
    tells =
        let own_same : SameNames (λ q. q ≡ p) (names_of own) (names_of all) = second_same (FromDecl p 0) (λ q. q ≡ p) a m b (own_place fs p) each.0 own each.1 h in
        (λ j. nested_from-agrees fs (names_of each.0) (names_of all) p 0 (inside concrete s) is inside_same j ++ where_read (end_type (names_of all) p) (reads_all j)) ∙
        (λ j. each.3 j ++ one_type p (type_at_end (node_tree (own_same.identity (introduced p) refl j)) u.top))

    pub component_read : (v : Tree_stack) → IsFree (component_checks s is) → IsFree (component_end_checks u.top) → ended concrete (tree_maker (names_of own) p) u ≡ Some v → ItemTells fs p s (component_item is end) v a b (xs ++ end_type (names_of own) p u)
    component_read v free x e =
        let l₀ : AtMost a m = most_items fs p 0 (inside concrete s) u is a m xs r in (
          (
            all,
            all_given_at fs p a m b l₀ l each.0 own each.1 h,
            (free, (u, all_valid, x)),
            ap (option_and_then (ended concrete (tree_maker (names_of all) p))) reads_all ∙ (ap (λ mk. ended concrete mk u) (own_made fs p a m b l₀ l each.0 own each.1 h) ∙ e),
          ),
          tells,
        )

  module _ (at : ℕ) (kind : ErrorKind) (offset : ℕ) (a b : Numbers) where
    -- where they refuse an item inside it, or its end, it is refused there
    pub component_refused : IsFree (component_checks s is) → ItemsRefused fs p 0 (inside concrete s) is end kind offset a b → ItemRefused fs p s at (component_item is end) kind offset a b
    component_refused free r =
        let w = items_refused fs p 0 (inside concrete s) is end kind offset a b r in
        (w.0, gives_wider (FromDecl p 0) (Under p) a b w.0 (inside_it fs p) w.1, inr (free, w.2))

    -- so by a cause of its own
    pub component_barred : Cause (component_checks s is) kind → offset ≡ at → ItemRefused fs p s at (component_item is end) kind offset a b
    component_barred c e = (none_given, none_gives (Under p) a b, inl (c, e))
