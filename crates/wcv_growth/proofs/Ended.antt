-- How the type at an end lists its resources.
use Rattle.std.proofs.Common.{◌≡◌, ℕ, List, [], ◌∷◌, ◌++◌, Bool, true, false, cond, refl, sym, ◌∙◌, ap, subst, append-nil, None, Some, ◌⊎◌, inl, inr}
use Rattle.std.specs.Prelude.{All}
use Rattle.std.specs.Option.{option_map}
use Rattle.std.proofs.Math.Bool.{or-false}
use Rattle.std.proofs.lemmas.Bool.{false≢true}
use Rattle.std.proofs.lemmas.List.Elements.{All-contains}
use Rattle.wcv_core.specs.Names.{Name, Place}
use Rattle.wcv_core.specs.declared.features.WasmFeatures.{WasmFeatures}
use Rattle.wcv_syntax.specs.Model.{Items}
use Rattle.wcv_types.specs.Paths.{PathLeadsTo}
use Rattle.wcv_types.specs.Tree.{import, export, Parts, none, entries, exports_in, imports_in, component_type}
use Rattle.wcv_lower.specs.Context.{importing, exporting, is_concrete}
use Rattle.wcv_lower.specs.Ending.{is_free_among, any_free, kept, component_of, type_at_end}
use Rattle.wcv_lower.specs.Mapped.{map_entries, map_context}
use Rattle.wcv_lower.specs.Names.{names_by_place}
use Rattle.wcv_lower.specs.Renamed.{Renaming, renaming}
use Rattle.wcv_lower.specs.Trees.{Type_tree, Entries, Tree_context, Tree_stack, tree_reader, node_tree}
use Rattle.wcv_lower.proofs.EndingLaws.{any_free-mapped}
use Rattle.wcv_lower.proofs.Renamed.{renaming_commutes}
use Rattle.wcv_growth.proofs.AsFar.{start-settles, start-tidy}
use Rattle.wcv_growth.proofs.Closed.{free-near, all-exports, exports-behind}
use Rattle.wcv_growth.proofs.Growing.{Leads}
use Rattle.wcv_growth.proofs.Having.{Has, has-contains, contains-has, has-renamed, Once, once-both, once-renamed_back, distinct}
use Rattle.wcv_growth.proofs.Kept.{any-free, kept-has, kept-old, kept-once, kept-leads}
use Rattle.wcv_growth.proofs.Known.{mapped-some, In, in-renamed_back}
use Rattle.wcv_growth.proofs.Near.{near-own}
use Rattle.wcv_growth.proofs.Settled.{Settles}
use Rattle.wcv_growth.proofs.TidyInside.{ItemsRead, items-behind}
use Rattle.wcv_growth.specs.Listed.{IsListed, IsImported, IsDefined, ListsResources}
use Rattle.wcv_growth.specs.Valid.{ValidFrom, start, ValidTo}

-- ## Contexts

-- what is free in an entry is listed, on one side alone
pub record Listing (c : Tree_context) : Type 0 where
  pub in_imports : (r : Name) → is_free_among tree_reader r (c.side importing) ≡ true → In c r
  pub in_exports : (r : Name) → is_free_among tree_reader r (c.side exporting) ≡ true → In c r
  pub apart : (r : Name) → Has c.imported r → Has c.defined r → ⊥
  pub imported_once : Once c.imported
  pub defined_once : Once c.defined

-- so in a component
pub listing-own : (w : Place) (k : ℕ) (s : Tree_stack) → Settles w k s → is_concrete s.top.kind ≡ true → Listing s.top
listing-own w k s h c = record {
  in_imports = λ r e. near-own s c r (free-near s h.fine importing r e);
  in_exports = λ r e. near-own s c r (free-near s h.fine exporting r e);
  apart = h.none_twice;
  imported_once = h.imported_once;
  defined_once = h.defined_once;
}

-- so before the names were renamed
module _ (w : Renaming) (c : Tree_context) where
  abbrev f : Name → Name
  f = w.resources.to

  abbrev d : Tree_context
  d = map_context (renaming w) c

  free-renamed : (r : Name) (es : Entries) → is_free_among tree_reader r es ≡ true → is_free_among tree_reader (f r) (map_entries (renaming w).entry es) ≡ true
  free-renamed r es e =
      sym (or-false (is_free_among tree_reader (f r) (map_entries (renaming w).entry es))) ∙ any_free-mapped (renaming w) (renaming_commutes w) ((r, None) ∷ []) es ∙ or-false (is_free_among tree_reader r es) ∙ e

  pub listing-renamed_back : Listing d → Listing c
  listing-renamed_back h = record {
    in_imports = λ r e. in-renamed_back w c r (h.in_imports (f r) (free-renamed r (c.side importing) e));
    in_exports = λ r e. in-renamed_back w c r (h.in_exports (f r) (free-renamed r (c.side exporting) e));
    apart = λ r x y. h.apart (f r) (has-renamed f c.imported r x) (has-renamed f c.defined r y);
    imported_once = once-renamed_back f c.imported h.imported_once;
    defined_once = once-renamed_back f c.defined h.defined_once;
  }

-- ## The type

pub imports-before : (es : Entries) (rest : Parts Name Name) → imports_in (entries import es rest) ≡ es ++ imports_in rest
imports-before [] rest = refl
imports-before (e ∷ es) rest = ap (λ (xs : Entries). e ∷ xs) (imports-before es rest)

pub no-imports : (es : Entries) → imports_in (entries export es none) ≡ []
no-imports [] = refl
no-imports (e ∷ es) = no-imports es

-- what is listed at paths that lead
is-listed : (r : Name) (rs : List (Name × List ℕ)) (es : Entries) → All (λ p. PathLeadsTo p.1 p.0 es) rs → Has rs r → IsListed r rs es
is-listed r rs es a h =
    let m = has-contains rs r h in
    (m.0, m.1, All-contains (λ p. PathLeadsTo p.1 p.0 es) rs (r, m.0) a m.1)

module _ (i : Name) (c : Tree_context) (h : Listing c) (leads : Leads c) where
  abbrev ins : Entries
  ins = c.side importing

  abbrev outs : Entries
  outs = c.side exporting

  lists-kept : (ks : List (Name × List ℕ)) → any_free tree_reader c.defined ins ≡ false → kept tree_reader c.defined outs ≡ Some ks → ListsResources (component_type i c.imported ks ins outs)
  lists-kept ks none_free are_kept = record {
    in_imports = λ r e.
        imported r (has r (h.in_imports r (subst (λ (es : Entries). is_free_among tree_reader r es ≡ true) imports-are e)) (subst (λ (es : Entries). is_free_among tree_reader r es ≡ true) imports-are e));
    in_exports = λ r e. let free = subst (λ (es : Entries). is_free_among tree_reader r es ≡ true) exports-are e in either r free (h.in_exports r free);
    apart = λ r x y. h.apart r (contains-has c.imported r x.0 x.1) (kept-old outs c.defined ks r are_kept (contains-has ks r y.0 y.1));
    once = distinct (c.imported ++ ks) (once-both c.imported ks h.imported_once (kept-once outs c.defined ks are_kept h.defined_once) (λ r x y. h.apart r x (kept-old outs c.defined ks r are_kept y)));
  }
    where
      imports-are : imports_in (entries import ins (entries export outs none)) ≡ ins
      imports-are = imports-before ins (entries export outs none) ∙ ap (λ (xs : Entries). ins ++ xs) (no-imports outs) ∙ append-nil ins

      exports-are : exports_in (entries import ins (entries export outs none)) ≡ outs
      exports-are = exports-behind ins (entries export outs none) ∙ all-exports outs

      has : (r : Name) → In c r → is_free_among tree_reader r ins ≡ true → Has c.imported r
      has r (inl x) e = x
      has r (inr x) e = absurd (false≢true (sym none_free ∙ any-free c.defined ins r x e))

      imported : (r : Name) → Has c.imported r → IsImported r (component_type i c.imported ks ins outs)
      imported r x = subst (IsListed r c.imported) (sym imports-are) (is-listed r c.imported ins leads x)

      either : (r : Name) → is_free_among tree_reader r outs ≡ true → In c r → IsImported r (component_type i c.imported ks ins outs) ⊎ IsDefined r (component_type i c.imported ks ins outs)
      either r e (inl x) = inl (imported r x)
      either r e (inr x) = inr (subst (IsListed r ks) (sym exports-are) (is-listed r ks outs (kept-leads outs c.defined ks are_kept) (kept-has outs c.defined ks r are_kept x e)))

  -- the type at an end
  pub lists : (t : Type_tree) → type_at_end (node_tree i) c ≡ Some t → ListsResources t
  lists t e = go (any_free tree_reader c.defined ins) refl e
    where
      go : (b : Bool) → any_free tree_reader c.defined ins ≡ b → option_map (node_tree i) (cond b None (option_map (component_of c) (kept tree_reader c.defined outs))) ≡ Some t → ListsResources t
      go true f w = cc
      go false f w =
          let n = mapped-some (node_tree i) (option_map (component_of c) (kept tree_reader c.defined outs)) t w in
          let m = mapped-some (component_of c) (kept tree_reader c.defined outs) n.0 n.1 in
          subst ListsResources (ap (node_tree i) m.2 ∙ n.2) (lists-kept m.0 f m.1)

-- ## Roots

module _ (fs : WasmFeatures) (is : Items) (s : Tree_stack) (v : ValidFrom fs names_by_place [] 0 start is s) where
  pub root_behind : ItemsRead [] (λ i. None) start s
  root_behind = items-behind fs [] 0 (λ i. None) start s is refl v (λ i u. refl) (start-settles []) (start-tidy [] (λ i. None))

  -- where the items of a root lead to, what is free in an entry is listed
  pub valid-listing : Listing s.top
  valid-listing = listing-own [] root_behind.count s root_behind.settles (ap is_concrete root_behind.kind)

-- a valid root lists the resources of its type
pub valid_lists : (fs : WasmFeatures) (is : Items) (s : Tree_stack) (i : Name) (t : Type_tree) → ValidTo fs is s → type_at_end (node_tree i) s.top ≡ Some t → ListsResources t
valid_lists fs is s i t v e =
    let r : ItemsRead [] (λ i. None) start s = root_behind fs is s v.0 in
    lists i s.top (valid-listing fs is s v.0) r.settles.leads t e
