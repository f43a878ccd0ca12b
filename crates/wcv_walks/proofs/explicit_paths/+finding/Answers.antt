use Rattle.std.proofs.Common.{rules, arith, ◌≡◌, ℕ, List, [], ◌∷◌, ◌++◌, suc, get_or, refl, sym, ◌∙◌, ap, subst, true, false}
use Rattle.std.proofs.lemmas.Grind.{common_steps}
use Rattle.std.proofs.lemmas.Result.{on_ok_weaker}
use Rattle.wcv_core.specs.Names.{number, member}
use Rattle.wcv_types.specs.Entities.{entity_slot, entity_tree, EntityStands}
use Rattle.wcv_walks.specs.ExplicitPaths.{is_type_of, ends_at, AllFound, Finds}
use Rattle.wcv_types.specs.FirstPath.{path_at}
use Rattle.wcv_types.specs.Gathering.{Gains}
use Rattle.wcv_types.specs.Resources.{owns}
use Rattle.wcv_types.specs.Tree.{export, head}
use Rattle.wcv_types.specs.Unfold.{resource_names, tree_at, trees}
use Rattle.wcv_types.specs.declared.ids.Part.TheVariants as p
use Rattle.wcv_types.specs.declared.ids.ResourceId.{ResourceId}
use Rattle.wcv_types.specs.declared.shapes.ComponentEntityType.{ComponentEntityType}
use Rattle.wcv_types.proofs.EntryLists.{Entry}
use Rattle.wcv_walks.proofs.Finding.{finds_nothing, none_there, none_seen, seen_settled, settled_push, rest_next, finds_type, finds_no_entity, finds_within, finds_within_owner}
use Rattle.wcv_walks.proofs.FreeBelow.{slot_rank, entry_rank, entries_ready}
use Rattle.wcv_walks.proofs.Leading.{closed_path}
use Rattle.wcv_walks.proofs.explicit_paths.+finding.Goals as goal

-- ## Instances

pub find_in_instance-returns-then-not-refers-clause-found : goal.find_in_instance-returns-then-not-refers-clause-found
find_in_instance-returns-then-not-refers-clause-found t c =
    finds_nothing c.args.ids.now c.args.path.now.items (λ r. path_at (number r.index) (tree_at c.args.types.now (p.Instance c.args.id))) c.args.found.now
    (λ r b e. closed_path (number r.index) (tree_at c.args.types.now (p.Instance c.args.id)) (sym c.refers.ensures ∙ c.if-not-refers.true))

pub find_in_instance-returns-then-contains-clause-found : goal.find_in_instance-returns-then-contains-clause-found
find_in_instance-returns-then-contains-clause-found t c =
    finds_nothing c.args.ids.now c.args.path.now.items (λ r. path_at (number r.index) (tree_at c.args.types.now (p.Instance c.args.id))) c.args.found.now
    (seen_settled c.args.types.now c.args.ids.now c.args.seen.now c.args.found.now c.args.id.index c.requires.seen (sym c.contains.ensures ∙ c.if-contains.true))

pub find_in_instance-returns-clause-seen : goal.find_in_instance-returns-clause-seen
find_in_instance-returns-clause-seen t c =
    on_ok_weaker c.push.result
    (λ w. subst (λ (ks : List ℕ). AllFound c.args.types.now c.args.ids.now ks c.find_in_exports.new.found) (sym w)
    (settled_push c.args.types.now c.args.ids.now c.find_in_exports.new.seen c.find_in_exports.new.found c.args.id.index c.in_ok-find_in_exports.ensures.seen
    (none_there c.args.ids.now c.args.path.now.items (λ r. path_at (number r.index) (tree_at c.args.types.now (p.Instance c.args.id))) c.args.found.now c.find_in_exports.new.found c.in_ok-find_in_exports.ensures.found)))
    c.push.ensures.ok

pub find_in_exports-find_among-requires : goal.find_in_exports-find_among-requires
find_in_exports-find_among-requires t c =
    let w = entries_ready c.args.types.now c.args.id.index export c.get-shape.result.now.exports c.as_slice.result.now c.as_slice.ensures c.get-shape.ensures.before in
    (omega (arith, w.0, c.decreases), (w.1, c.requires.seen))

pub find_in_exports-returns-then-len-eq0-clause-found : goal.find_in_exports-returns-then-len-eq0-clause-found
find_in_exports-returns-then-len-eq0-clause-found t c =
    on_ok_weaker c.find_among.result
    (finds_within c.args.types.now c.args.ids.now c.args.path.now.items c.args.id c.get-shape.result.now c.get-shape.ensures.unfolds c.as_slice.result.now c.args.found.now c.find_among.new.found c.as_slice.ensures
    (omega (arith, c.len.ensures.value, c.if-len-eq0.true)))
    c.find_among.ensures.found

pub find_in_exports-find_among-requires-2 : goal.find_in_exports-find_among-requires-2
find_in_exports-find_among-requires-2 t c =
    let w = entries_ready c.args.types.now c.args.id.index export c.get-shape.result.now.exports c.as_slice-2.result.now c.as_slice-2.ensures c.get-shape.ensures.before in
    (omega (arith, w.0, c.decreases), (w.1, none_seen c.args.types.now c.free_outside.new.free c.new-inside.result c.args.found.now c.new-inside.ensures))

pub find_in_exports-returns-clause-found : goal.find_in_exports-returns-clause-found
find_in_exports-returns-clause-found t c =
    let left = c.free_outside.new.free in
    on_ok_weaker c.find_among-2.result
    (finds_within_owner c.args.types.now c.args.ids.now c.args.path.now.items c.args.id c.get-shape.result.now c.get-shape.ensures.unfolds c.as_slice-2.result.now left c.args.found.now c.find_among-2.new.found c.as_slice-2.ensures
    c.get-shape.ensures.found (subst (λ (rs : List ResourceId). Gains (λ r. (member r (resource_names c.args.ids.now) ≡ true) × (owns (head (tree_at c.args.types.now (p.Instance c.args.id))) r ≡ false)) rs left) c.new-left.ensures c.in_ok-free_outside.ensures.ok))
    c.find_among-2.ensures.found

-- ## Entities

pub find_at-returns-in-Ty-clause-found : goal.find_at-returns-in-Ty-clause-found
find_at-returns-in-Ty-clause-found t c =
    on_ok_weaker c.find_type.result
    (λ f. finds_type c.args.types.now c.args.ids.now c.args.path.now.items c.args.ty c.in-Ty.created c.in-Ty.referenced c.args.found.now c.find_type.new.found c.in-Ty.is c.requires.stands
    (subst (λ (way : List ℕ). Finds c.args.ids.now way (λ r. ends_at (is_type_of r c.in-Ty.referenced)) c.args.found.now c.find_type.new.found) c.as_slice.ensures.value f))
    c.find_type.ensures

pub find_at-returns-in_default : goal.find_at-returns-in_default
find_at-returns-in_default t c = record {
  found = finds_no_entity c.args.types.now c.args.ids.now c.args.path.now.items c.args.ty c.args.found.now c.requires.stands c.in_default.not-Ty c.in_default.not-Instance;
  seen = c.requires.seen;
  path = refl;
}

pub find_at-find_in_instance-requires : goal.find_at-find_in_instance-requires
find_at-find_in_instance-requires t c =
    let r : slot_rank (entity_slot c.args.ty) ≡ suc c.in-Instance.id.index = ap (λ (ty : ComponentEntityType). slot_rank (entity_slot ty)) c.in-Instance.is in
    (omega (arith, r, c.decreases), (subst (EntityStands c.args.types.now) c.in-Instance.is c.requires.stands, c.requires.seen))

-- ## Entries

pub find_among-find_at-requires : goal.find_among-find_at-requires
find_among-find_at-requires t c =
    let r = entry_rank c.args.entries.now c.loop-k.k c.index-entries-k.result (search rules) c.index-entries-k.is in
    let same : slot_rank (entity_slot c.index-entries-k.result.1.ty) ≡ slot_rank (entity_slot (get_or c.args.entries.now c.loop-k.k c.index-entries-k.result).1.ty) = ap (λ (x : Entry). slot_rank (entity_slot x.1.ty)) c.index-entries-k.is in
    (omega (arith, r, same, c.decreases), (search rules, c.loop-k.invariant.seen))

pub find_among-loop-k-preserved : goal.find_among-loop-k-preserved
find_among-loop-k-preserved t c =
    let way : List ℕ = c.args.path.now.items in
    let k : ℕ = c.loop-k.k in
    let e : Entry = c.index-entries-k.result in
    let behind : c.push.new.self.items ≡ way ++ k ∷ [] = c.in_ok-push.ensures.items ∙ ap (λ (xs : List ℕ). xs ++ k ∷ []) c.loop-k.invariant.path in
    record {
      path = grind (arith, common_steps);
      rest = rest_next c.args.ids.now way (trees c.args.types.now.nodes) c.args.entries.now k e c.args.found.now c.loop-k.found c.find_at.new.found (search rules) c.index-entries-k.is
          (subst (λ (w : List ℕ). Finds c.args.ids.now w (λ r. path_at (number r.index) (entity_tree (trees c.args.types.now.nodes) e.1.ty)) c.loop-k.found c.find_at.new.found) behind
          (subst (λ (x : Entry). Finds c.args.ids.now c.push.new.self.items (λ r. path_at (number r.index) (entity_tree (trees c.args.types.now.nodes) x.1.ty)) c.loop-k.found c.find_at.new.found) (sym c.index-entries-k.is) c.in_ok-find_at.ensures.found)) c.loop-k.invariant.rest;
      seen = c.in_ok-find_at.ensures.seen;
    }
