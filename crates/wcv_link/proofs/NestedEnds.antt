-- The end of a component inside another: what is told of its type.
use Rattle.std.proofs.Common.{suc, List, length, refl, sym, ◌∙◌, ap, subst}
use Rattle.wcv_core.specs.Names.{Name, Place, number}
use Rattle.wcv_types.specs.Arena.{Arena}
use Rattle.wcv_types.specs.ComponentTrees.{root_tree}
use Rattle.wcv_types.specs.Standing.{Extends}
use Rattle.wcv_types.specs.declared.arena.Node.TheVariants as n
use Rattle.wcv_types.specs.declared.ids.ComponentTypeId.{ComponentTypeId}
use Rattle.wcv_types.specs.declared.ids.Part.TheVariants as p
use Rattle.wcv_types.proofs.Grown.{extends_push, is_last, tree_at_last}
use Rattle.wcv_lower.specs.Mapped.{map_stack}
use Rattle.wcv_lower.specs.Renamed.{renaming}
use Rattle.wcv_lower.specs.Trees.{Tree_stack}
use Rattle.wcv_spaces.specs.Contents.{Contents}
use Rattle.wcv_decls.specs.Declaring.{innermost, features_in, stack_in, top_in, TypeKept}
use Rattle.wcv_decls.proofs.Closing.{component_tree_same}
use Rattle.wcv_decls.proofs.InnermostStates.{open_here}
use Rattle.wcv_link.specs.Reached.{IsReached}
use Rattle.wcv_growth.proofs.AsFar.{Reaches, reached-reaches}
use Rattle.wcv_growth.proofs.Ended.{Listing, listing-own, listing-renamed_back, lists}
use Rattle.wcv_link.specs.Progress.{IsReady}
use Rattle.wcv_link.specs.Told.{Told}
use Rattle.wcv_link.proofs.Leading.{imports_lead}
use Rattle.wcv_link.proofs.Reaching.{places, reached_places}
use Rattle.wcv_link.proofs.Telling.{component_more, paths_more}

-- where valid items led to the states, what is free in an entry of the innermost is listed there
reached-listing : (a : Arena) (ss : List Contents) → IsReached a ss → Listing (top_in a ss)
reached-listing a ss h =
    let t : Tree_stack = map_stack (renaming (places a ss h)) (stack_in a ss) in
    let r : Reaches h.place h.position t = reached-reaches (features_in ss) h.place h.position t (reached_places a ss h) in
    listing-renamed_back (places a ss h) (top_in a ss) (listing-own h.place h.position t r.settles r.in_component)

module _ (a b : Arena) (ss : List Contents) (ready : IsReady a ss) (reached : IsReached a ss) (id : ComponentTypeId) (k : TypeKept a b (innermost ss) id) where
  abbrev own : Name
  own = number (length a.nodes)

  grew : Extends a b
  grew = subst (Extends a) (sym k.added.0) (extends_push a (n.Component k.ty))

  pub told_at_end : (w : Place) → Told b (record { place = w; ty = id }) (w, root_tree a k.ty)
  told_at_end w = record {
    place = refl;
    ty = k.ty;
    node = is_last a.nodes b.nodes (n.Component k.ty) id.index (ap (λ (y : Arena). y.nodes) k.added.0) k.added.1;
    tree = tree_at_last a b (n.Component k.ty) (p.Component id) k.added.0 (ap suc k.added.1) ∙ sym (component_tree_same a (innermost ss) k.ty k.finished);
    kept = record {
      size = k.finished.size own;
      depth = k.finished.depth own;
      stands = component_more a b grew k.ty k.finished.stands;
      lead = paths_more a b grew k.ty k.finished.stands k.finished.lead;
      listed = lists own (top_in a ss) (reached-listing a ss reached) (imports_lead a (innermost ss) (open_here a ss ready.some ready.usable).stands) (root_tree a k.ty) (k.finished.tree own);
    };
  }
