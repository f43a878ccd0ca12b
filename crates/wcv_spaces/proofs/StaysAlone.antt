-- An entity that owns nothing joins as it is.
use Rattle.std.proofs.Common.{◌≡◌, List, [], map, refl, sym, ◌∙◌, ap, subst}
use Rattle.wcv_core.specs.Names.{Name, Place, number}
use Rattle.wcv_types.proofs.Replacing.{idle-stays}
use Rattle.wcv_types.proofs.Unfolding.{head_in, sort_stands}
use Rattle.wcv_types.specs.Arena.{Arena}
use Rattle.wcv_types.specs.FirstPath.{first_path}
use Rattle.wcv_types.specs.Tree.{Sort, Head, resource, instance, node, Parts, head, exports, owned, owned_at, nothing}
use Rattle.wcv_types.specs.Unfold.{Type_tree, tree_at, trees, head_of}
use Rattle.wcv_types.specs.Entities.{entity_tree, EntityStands}
use Rattle.wcv_types.specs.declared.arena.Node.TheVariants as n
use Rattle.wcv_types.specs.declared.ids.Part.TheVariants as p
use Rattle.wcv_lower.specs.Names.{Names, again}
use Rattle.wcv_lower.specs.NewTypes.{owned_anew, instance_tree, path_or_none}
use Rattle.wcv_lower.specs.Step.{brought_by, brought_at}
use Rattle.wcv_lower.specs.Trees.{own_resources, tree_reader, tree_maker}
use Rattle.wcv_types.specs.declared.shapes.ComponentEntityType.{ComponentEntityType}
use Rattle.wcv_types.specs.declared.shapes.ComponentEntityType.TheVariants as entity
use Rattle.wcv_spaces.specs.Promises.{EntityAlone}
use Rattle.wcv_spaces.proofs.Brought.{as_it_is_at, instance_at}

module _ (names : Names) (q : Place) where
  with_head : (h : Head Name Name) (ps : Parts Name Name) (k : Name) (own : List Name) → h ≡ instance k own → own ≡ [] → instance_tree names q (node h ps) ≡ node h ps
  with_head h ps k own e f =
      subst (λ (x : Head Name Name). instance_tree names q (node x ps) ≡ node x ps) (sym (e ∙ ap (λ (rs : List Name). instance k rs) f))
      (idle-stays (owned_anew names q []) (λ i. refl) (λ r. refl) (node (instance k []) ps))

  pub tree_stays : (t : Type_tree) (k : Name) (own : List Name) → head t ≡ instance k own → own ≡ [] → instance_tree names q t ≡ t
  tree_stays (node h ps) k own e f = with_head h ps k own e f

-- an entity that is no type of resources joins as it is
pub stays_at : (a : Arena) (names : Names) (q : Place) (x : ComponentEntityType) → EntityStands a x → EntityAlone a x → brought_at (tree_maker names q) (entity_tree (trees a.nodes) x) ≡ brought_by tree_reader (entity_tree (trees a.nodes) x)
stays_at a names q (entity.Instance i) h o =
    let t : Type_tree = tree_at a (p.Instance i) in
    let none_owned : owned t ≡ [] = o refl in
    let top : head t ≡ head_of i.index (n.Instance h.0) = head_in a.nodes i.index (n.Instance h.0) h.1 in
    instance_at a (tree_maker names q) i h ∙
    λ j. record {
      entity = tree_stays names q t (number i.index) (owned_at (head_of i.index (n.Instance h.0))) top (ap owned_at (sym top) ∙ none_owned) j;
      resources = (ap (λ (ns : List Name). map (λ (r : Name). (names.resource (again q r), path_or_none (first_path r (exports t)))) ns) none_owned ∙ sym (ap (λ (s : Sort). own_resources s t) (sort_stands a (p.Instance i) h))) j;
    }
stays_at a names q (entity.Module i) h o = as_it_is_at a (tree_maker names q) (entity.Module i) h refl
stays_at a names q (entity.Func i) h o = as_it_is_at a (tree_maker names q) (entity.Func i) h refl
stays_at a names q (entity.Value v) h o = as_it_is_at a (tree_maker names q) (entity.Value v) h refl
stays_at a names q (entity.Ty c r) h o = as_it_is_at a (tree_maker names q) (entity.Ty c r) h refl
stays_at a names q (entity.Component i) h o = as_it_is_at a (tree_maker names q) (entity.Component i) h refl
