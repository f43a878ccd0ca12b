-- What holds of the types of components inside others: they list their resources, and each path leads.
use Rattle.std.proofs.Common.{◌≡◌, ℕ, suc, [], refl, sym, ◌∙◌, ap, subst, true, Some, None}
use Rattle.std.specs.Prelude.{All, Option}
use Rattle.std.proofs.lemmas.List.Elements.{All-nil, All-cons, All-append}
use Rattle.wcv_core.specs.Names.{Place, base, deeper}
use Rattle.wcv_core.specs.declared.features.WasmFeatures.{WasmFeatures}
use Rattle.wcv_syntax.specs.Model.{Form, component_item, Items, no_items, next_item}
use Rattle.wcv_types.specs.Unfold.{Type_tree}
use Rattle.wcv_lower.specs.Context.{concrete, is_concrete}
use Rattle.wcv_lower.specs.Declared.{inside}
use Rattle.wcv_lower.specs.Ending.{type_at_end}
use Rattle.wcv_lower.specs.Items.{read_item, read_items}
use Rattle.wcv_lower.specs.Names.{names_by_place}
use Rattle.wcv_lower.specs.Owned.{Everywhere}
use Rattle.wcv_lower.specs.SideNames.{AllSidesDiffer}
use Rattle.wcv_lower.specs.Trees.{Tree_stack, tree_maker, node_tree}
use Rattle.wcv_lower.proofs.SidesKept.{item_differ}
use Rattle.wcv_growth.proofs.AsFar.{start-settles, start-tidy}
use Rattle.wcv_growth.proofs.Ended.{listing-own, lists}
use Rattle.wcv_growth.proofs.Growing.{Ready}
use Rattle.wcv_growth.proofs.Items.{side_of}
use Rattle.wcv_growth.proofs.PathsLead.{paths_lead}
use Rattle.wcv_growth.proofs.Settled.{Settles, inside-settles, settles-ready, settles-more}
use Rattle.wcv_growth.proofs.Tidy.{Known, TidyEntry, NoneKnown, Tidy, tidy-ready, tidy-next}
use Rattle.wcv_growth.proofs.TidyInside.{Behind, ItemsRead, begins-tidy, item-behind, items-behind}
use Rattle.wcv_growth.proofs.ValidRead.{valid_reads}
use Rattle.wcv_growth.specs.Listed.{ListsResources, EachPathLeads}
use Rattle.wcv_growth.specs.Nested.{Nested_types, where_read, one_type, end_type, nested_from, nested_in, nested_types}
use Rattle.wcv_growth.specs.Valid.{ValidFrom, ValidItem, start, ValidTo}

-- a property of types, which those at the ends of components have
module _ (Q : Type_tree → Type 0) (at-end : (p : Place) (k : ℕ) (u : Tree_stack) → Settles p k u → is_concrete u.top.kind ≡ true → (t : Type_tree) → type_at_end (node_tree (base p)) u.top ≡ Some t → Q t) where
  abbrev Has : Place × Type_tree → Type 0
  Has x = Q x.1

  abbrev AllHave : Nested_types → Type 0
  AllHave xs = All Has xs

  -- the type at an end
  end-has : (p : Place) (k : ℕ) (u : Tree_stack) → Settles p k u → is_concrete u.top.kind ≡ true → AllHave (end_type names_by_place p u)
  end-has p k u h c = go (type_at_end (node_tree (base p)) u.top) refl
    where
      go : (o : Option Type_tree) → type_at_end (node_tree (base p)) u.top ≡ o → AllHave (one_type p o)
      go None e = All-nil Has
      go (Some t) e = All-cons Has (p, t) [] (at-end p k u h c t e) (All-nil Has)

  module _ (fs : WasmFeatures) where
    mutual
      item-has : (p : Place) (g : Known) (s : Tree_stack) (f : Form) → is_concrete s.top.kind ≡ true → ValidItem fs names_by_place p s f → NoneKnown p g → Ready p s → Everywhere (TidyEntry g) s → AllSidesDiffer s → AllHave (nested_in fs names_by_place p s f)
      item-has p g s (component_item is end) c v n h y d =
          let before : Settles p 0 (inside concrete s) = inside-settles p concrete s (λ k. c) h in
          let first : Tidy p 0 g (inside concrete s) = begins-tidy p concrete g s y d in
          let r : ItemsRead p g (inside concrete s) v.1.0 = items-behind fs p 0 g (inside concrete s) v.1.0 is refl v.1.1 n before first in
          All-append Has (nested_from fs names_by_place p 0 (inside concrete s) is) (where_read (end_type names_by_place p) (read_items fs (tree_maker names_by_place) p 0 (inside concrete s) is))
          (items-have p 0 g (inside concrete s) v.1.0 is refl v.1.1 n before first)
          (subst (λ (o : Option Tree_stack). AllHave (where_read (end_type names_by_place p) o)) (sym (valid_reads fs names_by_place p 0 (inside concrete s) is v.1.0 v.1.1))
          (end-has p r.count v.1.0 r.settles (ap is_concrete r.kind)))
      item-has p g s f c v n h y d = All-nil Has

      items-have : (w : Place) (k : ℕ) (g : Known) (s u : Tree_stack) (is : Items) → is_concrete s.top.kind ≡ true → ValidFrom fs names_by_place w k s is u → NoneKnown w g → Settles w k s → Tidy w k g s → AllHave (nested_from fs names_by_place w k s is)
      items-have w k g s u no_items c v n h y = All-nil Has
      items-have w k g s u (next_item at f is) c v n h y =
          let t : Tree_stack = v.1.0 in
          let x : Behind (side_of f) (deeper w k) y.known s t = item-behind fs (deeper w k) y.known s t f c v.0 v.1.1 (tidy-ready w k g s n y) (settles-ready w k s h) y.tidy y.differ in
          let z : AllSidesDiffer t = item_differ fs (tree_maker names_by_place) (deeper w k) s t f y.differ v.1.1 in
          All-append Has (nested_in fs names_by_place (deeper w k) s f) (where_read (λ q. nested_from fs names_by_place w (suc k) q is) (read_item fs (tree_maker names_by_place) (deeper w k) s f))
          (item-has (deeper w k) y.known s f c v.0 (tidy-ready w k g s n y) (settles-ready w k s h) y.tidy y.differ)
          (subst (λ (o : Option Tree_stack). AllHave (where_read (λ q. nested_from fs names_by_place w (suc k) q is) o)) (sym v.1.1)
          (items-have w (suc k) g t u is (ap is_concrete x.0.kind ∙ c) v.1.2 n (settles-more w k s t h (side_of f) x.0) (tidy-next w k g s t y x.1 z)))

  pub nested_have : (fs : WasmFeatures) (is : Items) (s : Tree_stack) → ValidTo fs is s → AllHave (nested_types fs is)
  nested_have fs is s v = items-have fs [] 0 (λ i. None) start s is refl v.0 (λ i u. refl) (start-settles []) (start-tidy [] (λ i. None))

-- those of a valid root list their resources, at paths that lead to them
pub nested_list : (fs : WasmFeatures) (is : Items) (s : Tree_stack) → ValidTo fs is s → All (λ (x : Place × Type_tree). ListsResources x.1) (nested_types fs is)
nested_list fs is s v = nested_have ListsResources (λ p k u h c t e. lists (base p) u.top (listing-own p k u h c) h.leads t e) fs is s v

pub nested_lead : (fs : WasmFeatures) (is : Items) (s : Tree_stack) → ValidTo fs is s → All (λ (x : Place × Type_tree). EachPathLeads x.1) (nested_types fs is)
nested_lead fs is s v = nested_have EachPathLeads (λ p k u h c t e. paths_lead (base p) u.top h.leads t e) fs is s v
