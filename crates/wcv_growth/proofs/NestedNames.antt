-- The types of components inside others under the same names, and under renamed ones.
use Rattle.std.proofs.Common.{◌≡◌, ℕ, suc, ◌++◌, map, refl, sym, ◌∙◌, ap, None, Some}
use Rattle.std.specs.Prelude.{Option}
use Rattle.std.specs.Option.{option_map}
use Rattle.std.proofs.lemmas.List.{map-append}
use Rattle.wcv_core.specs.Names.{Name, Place, deeper}
use Rattle.wcv_core.specs.declared.features.WasmFeatures.{WasmFeatures}
use Rattle.wcv_core.proofs.Places.{under-refl}
use Rattle.wcv_syntax.specs.Model.{Form, component_item, Items, no_items, next_item}
use Rattle.wcv_types.specs.Rename.{rename}
use Rattle.wcv_types.specs.Unfold.{Type_tree}
use Rattle.wcv_lower.specs.Context.{concrete}
use Rattle.wcv_lower.specs.Declared.{inside}
use Rattle.wcv_lower.specs.DeclaredCalls.{FromDecl}
use Rattle.wcv_lower.specs.Ending.{type_at_end}
use Rattle.wcv_lower.specs.Items.{read_item, read_items}
use Rattle.wcv_lower.specs.Mapped.{map_stack}
use Rattle.wcv_lower.specs.Names.{Names, introduced, Under, AreRenamed, SameNames}
use Rattle.wcv_lower.specs.Renamed.{Renaming, renaming}
use Rattle.wcv_lower.specs.Trees.{Tree_stack, tree_maker, node_tree}
use Rattle.wcv_lower.proofs.DeclaredNames.{makers_agree}
use Rattle.wcv_lower.proofs.Growing.{type_at_end-renamed}
use Rattle.wcv_lower.proofs.ItemLaws.{read_items-agree, read_item-agrees, read_items-renamed, read_item-renamed}
use Rattle.wcv_growth.specs.Nested.{Nested_types, where_read, one_type, end_type, nested_from, nested_in}
use Rattle.wcv_growth.proofs.ValidRead.{same_inside, same_first, same_rest}

-- ## The same names

module _ (fs : WasmFeatures) (names other : Names) where
  mutual
    pub nested_in-agrees : (p : Place) (s : Tree_stack) (f : Form) → SameNames (Under p) names other → nested_in fs other p s f ≡ nested_in fs names p s f
    nested_in-agrees p s (component_item is end) h =
        let below : SameNames (FromDecl p 0) names other = same_inside fs names other p h in
        λ j. nested_from-agrees p 0 (inside concrete s) is below j ++
        where_read (λ (u : Tree_stack). one_type p (type_at_end (node_tree (h.identity (introduced p) (under-refl p) j)) u.top))
        (read_items-agree fs (tree_maker names) (tree_maker other) p 0 (inside concrete s) is (makers_agree names other (FromDecl p 0) below) j)
    nested_in-agrees p s f h = refl

    pub nested_from-agrees : (w : Place) (k : ℕ) (s : Tree_stack) (is : Items) → SameNames (FromDecl w k) names other → nested_from fs other w k s is ≡ nested_from fs names w k s is
    nested_from-agrees w k s no_items h = refl
    nested_from-agrees w k s (next_item at f is) h =
        let here : SameNames (Under (deeper w k)) names other = same_first fs names other w k h in
        λ j. nested_in-agrees (deeper w k) s f here j ++ where_read (λ (u : Tree_stack). nested_from-agrees w (suc k) u is (same_rest fs names other w k h) j) (read_item-agrees names other (deeper w k) here fs s f j)

-- ## Renamed names

module _ (v : Renaming) where
  abbrev to : Tree_stack → Tree_stack
  to s = map_stack (renaming v) s

  abbrev to_tree : Type_tree → Type_tree
  to_tree t = rename v.resources.to v.identities.to t

  -- at the same place
  abbrev pub to_type : Place × Type_tree → Place × Type_tree
  to_type y = (y.0, to_tree y.1)

  one-mapped : (p : Place) (o : Option Type_tree) → one_type p (option_map to_tree o) ≡ map to_type (one_type p o)
  one-mapped p None = refl
  one-mapped p (Some t) = refl

  read-mapped : (g h : Tree_stack → Nested_types) → ((u : Tree_stack) → h (to u) ≡ map to_type (g u)) → (o : Option Tree_stack) → where_read h (option_map to o) ≡ map to_type (where_read g o)
  read-mapped g h e None = refl
  read-mapped g h e (Some u) = e u

  module _ (fs : WasmFeatures) (names other : Names) (renamed : (p : Place) → AreRenamed (Under p) v.resources.to v.identities.to names other) where
    end-renamed : (p : Place) (u : Tree_stack) → end_type other p (to u) ≡ map to_type (end_type names p u)
    end-renamed p u =
        ap (λ (i : Name). one_type p (type_at_end (node_tree i) (to u).top)) ((renamed p).identity (introduced p) (under-refl p)) ∙
        ap (one_type p) (type_at_end-renamed v (names.identity (introduced p)) u.top) ∙ one-mapped p (type_at_end (node_tree (names.identity (introduced p))) u.top)

    mutual
      nested_in-renamed : (p : Place) (s : Tree_stack) (f : Form) → nested_in fs other p (to s) f ≡ map to_type (nested_in fs names p s f)
      nested_in-renamed p s (component_item is end) =
          let within : Nested_types = nested_from fs names p 0 (inside concrete s) is in
          let reads : Option Tree_stack = read_items fs (tree_maker names) p 0 (inside concrete s) is in
          (λ j. nested_from-renamed p 0 (inside concrete s) is j ++ where_read (end_type other p) (read_items-renamed v names other fs p (renamed p) 0 (inside concrete s) is j)) ∙
          ap (λ (xs : Nested_types). map to_type within ++ xs) (read-mapped (end_type names p) (end_type other p) (end-renamed p) reads) ∙ sym (map-append to_type within (where_read (end_type names p) reads))
      nested_in-renamed p s f = refl

      pub nested_from-renamed : (w : Place) (k : ℕ) (s : Tree_stack) (is : Items) → nested_from fs other w k (to s) is ≡ map to_type (nested_from fs names w k s is)
      nested_from-renamed w k s no_items = refl
      nested_from-renamed w k s (next_item at f is) =
          let here : Nested_types = nested_in fs names (deeper w k) s f in
          let read : Option Tree_stack = read_item fs (tree_maker names) (deeper w k) s f in
          let behind : Tree_stack → Nested_types = λ u. nested_from fs names w (suc k) u is in
          let renamed_behind : Tree_stack → Nested_types = λ u. nested_from fs other w (suc k) u is in
          (λ j. nested_in-renamed (deeper w k) s f j ++ where_read renamed_behind (read_item-renamed v names other (deeper w k) (renamed (deeper w k)) fs s f j)) ∙
          ap (λ (xs : Nested_types). map to_type here ++ xs) (read-mapped behind renamed_behind (λ u. nested_from-renamed w (suc k) u is) read) ∙ sym (map-append to_type here (where_read behind read))
