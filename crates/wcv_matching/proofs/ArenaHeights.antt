-- Inside the types of an arena, nodes of one identity are of one height.
use Rattle.std.proofs.Common.{◌≡◌, ℕ, suc, sym, ◌∙◌, ap, Some}
use Rattle.std.specs.Prelude.{slice_get}
use Rattle.wcv_core.specs.Names.{number}
use Rattle.wcv_types.specs.Arena.{Arena}
use Rattle.wcv_types.specs.Identity.{of_node}
use Rattle.wcv_types.specs.Standing.{Stands, AllFit}
use Rattle.wcv_types.specs.Unfold.{head_of, slots_of, slot_parts, trees, tree_at}
use Rattle.wcv_types.specs.declared.arena.Node.{Node}
use Rattle.wcv_types.specs.declared.arena.Node.TheVariants as n
use Rattle.wcv_types.specs.declared.ids.Part.{Part}
use Rattle.wcv_types.proofs.Unfolding.{tree_in-unfolds}
use Rattle.wcv_matching.specs.Formed.{node_height, HeightByIdentity}
use Rattle.wcv_matching.specs.Orderly.{EachNode, height, heights}
use Rattle.wcv_matching.proofs.ArenaTypes.{HoldsOfLeaves, each_type}
use Rattle.wcv_matching.proofs.NamedLists.{some-inj}

module _ (a : Arena) where
  leaves_by_identity : HoldsOfLeaves (HeightByIdentity a)
  leaves_by_identity = record {
    left_out = λ i e. cc;
    primitives = λ q i e. cc;
    references = λ r s i e. ap (node_height a) (some-inj e);
    types = λ k i e. cc;
    items = λ x i e. cc;
    entities = λ c r i e. cc;
  }

  node_by_identity : AllFit a → (k : ℕ) (x : Node) → slice_get a.nodes k ≡ Some x → HeightByIdentity a (head_of k x) (slot_parts (trees a.nodes) (slots_of x))
  node_by_identity fit k x h = by_form x (sym (ap height (tree_in-unfolds a k x fit h)))
    where
      by_form : (y : Node) → suc (heights (slot_parts (trees a.nodes) (slots_of y))) ≡ node_height a (of_node (number k)) → HeightByIdentity a (head_of k y) (slot_parts (trees a.nodes) (slots_of y))
      by_form (n.Defined s) d i e = d ∙ ap (node_height a) (some-inj e)
      by_form (n.Func s) d i e = d ∙ ap (node_height a) (some-inj e)
      by_form (n.Instance s) d i e = d ∙ ap (node_height a) (some-inj e)
      by_form (n.Component s) d i e = d ∙ ap (node_height a) (some-inj e)
      by_form (n.Module s) d i e = d ∙ ap (node_height a) (some-inj e)
      by_form (n.CoreInstance s) d i e = d ∙ ap (node_height a) (some-inj e)

  pub all_by_identity : AllFit a → (q : Part) → Stands a q → EachNode (HeightByIdentity a) (tree_at a q)
  all_by_identity fit q s = each_type (HeightByIdentity a) leaves_by_identity a fit (node_by_identity fit) q s
