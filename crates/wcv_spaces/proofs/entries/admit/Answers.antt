use Rattle.wcv_core.specs.Limits.{max_entries}
use Rattle.std.proofs.Common.{ℕ, List, map, ◌++◌, ◌∙◌, ap, subst}
use Rattle.std.proofs.lemmas.Result.{err_from_is_err_and}
use Rattle.wcv_types.specs.Entities.{entity_tree}
use Rattle.wcv_types.specs.Tree.{Text, sort}
use Rattle.wcv_types.specs.Unfold.{trees}
use Rattle.wcv_lower.specs.Checks.{IsFree, full_if, no_room}
use Rattle.wcv_lower.specs.Entries.{extern_name, lent}
use Rattle.wcv_spaces.specs.Entering.{room_counts}
use Rattle.wcv_spaces.specs.Parts.{lists, AreKeys}
use Rattle.wcv_spaces.specs.Looking.{created_reference}
use Rattle.wcv_lower.specs.Trees.{tree_reader}
use Rattle.wcv_spaces.specs.Naming.{side_of}
use Rattle.wcv_spaces.specs.Promises.{MemoryOrCausedBy}
use Rattle.wcv_core.proofs.Closing.{caused_same}
use Rattle.wcv_spaces.proofs.EntryNames.{enter_free, name_caused, room_caused, side_caused, lent_caused}
use Rattle.wcv_spaces.proofs.entries.admit.Goals as goal

pub returns-in_err-check_extern-clause-err : goal.returns-in_err-check_extern-clause-err
returns-in_err-check_extern-clause-err c =
    let p = err_from_is_err_and c.from_residual.result c.from_residual.ensures.1 in
    rw (p.1, p.2) (name_caused c.args.types.now c.args.limited c.args.features.now (side_of c.args.which) (lists c.args.spaces.now) c.args.side.now c.args.info.now (extern_name c.args.name.now) (entity_tree (trees c.args.types.now.nodes) c.args.ty.now) c.requires.entries c.requires.names c.args.offset c.in_err-check_extern.field-0.0 c.in_err-check_extern.ensures.err)

pub returns-in_err-check_room-clause-err : goal.returns-in_err-check_room-clause-err
returns-in_err-check_room-clause-err c =
    let p = err_from_is_err_and c.from_residual-in_err-check_room.result c.from_residual-in_err-check_room.ensures.1 in
    rw p.1 (room_caused c.args.types.now c.args.limited c.args.features.now (side_of c.args.which) (lists c.args.spaces.now) c.args.side.now c.args.info.now (extern_name c.args.name.now) (entity_tree (trees c.args.types.now.nodes) c.args.ty.now) c.requires.entries c.requires.names c.args.offset p.0
    (caused_same (no_room (room_counts (lists c.args.spaces.now)) (sort (entity_tree (trees c.args.types.now.nodes) c.args.ty.now))) c.args.offset c.in_err-check_room.field-0.0 p.0 p.2.0 p.2.1 (rw c.in_ok-check_extern.ensures.types at c.in_err-check_room.ensures.err)))

pub returns-in_err-check_lent-clause-err : goal.returns-in_err-check_lent-clause-err
returns-in_err-check_lent-clause-err c =
    let p = err_from_is_err_and c.from_residual-in_err-check_lent.result c.from_residual-in_err-check_lent.ensures.1 in
    rw p.1 (lent_caused c.args.types.now c.args.limited c.args.features.now (side_of c.args.which) (lists c.args.spaces.now) c.args.side.now c.args.info.now (extern_name c.args.name.now) (entity_tree (trees c.args.types.now.nodes) c.args.ty.now) c.requires.entries c.requires.names c.args.offset p.0
    (caused_same (lent tree_reader (side_of c.args.which) (entity_tree (trees c.args.types.now.nodes) c.args.ty.now)) c.args.offset c.in_err-check_lent.field-0.0 p.0 p.2.0 p.2.1 (rw c.in_ok-check_extern.ensures.types at c.in_err-check_lent.ensures.err)))

pub returns-in_err-check_list-clause-err : goal.returns-in_err-check_list-clause-err
returns-in_err-check_list-clause-err c =
    let p = err_from_is_err_and c.from_residual-in_err-check_list.result c.from_residual-in_err-check_list.ensures.1 in
    rw p.1 (side_caused c.args.types.now c.args.limited c.args.features.now (side_of c.args.which) (lists c.args.spaces.now) c.args.side.now c.args.info.now (extern_name c.args.name.now) (entity_tree (trees c.args.types.now.nodes) c.args.ty.now) c.requires.entries c.requires.names c.args.offset p.0
    (subst (λ (k : ℕ). MemoryOrCausedBy (full_if c.args.limited max_entries k) c.args.offset p.0) c.len.ensures
    (caused_same (full_if c.args.limited max_entries c.len.result) c.args.offset c.in_err-check_list.field-0.0 p.0 p.2.0 p.2.1 c.in_err-check_list.ensures.err)))

pub returns-clause-ok : goal.returns-clause-ok
returns-clause-ok c =
    enter_free c.args.types.now c.args.limited c.args.features.now (side_of c.args.which) (lists c.args.spaces.now) c.args.side.now c.args.info.now (extern_name c.args.name.now) (entity_tree (trees c.args.types.now.nodes) c.args.ty.now) c.requires.entries c.requires.names
    c.in_ok-check_extern.ensures.ok (subst (λ (k : ℕ). IsFree (full_if c.args.limited max_entries k)) c.len.ensures c.in_ok-check_list.ensures.ok) (rw c.in_ok-check_extern.ensures.types at c.in_ok-check_room.ensures.ok) (rw c.in_ok-check_extern.ensures.types at c.in_ok-check_lent.ensures.ok)

pub returns-clause-admitted : goal.returns-clause-admitted
returns-clause-admitted c = record {
  keys = c.in_ok-check_extern.ensures.keys;
  references = c.in_ok-name_reference.ensures.references ∙ ap (λ (n : Text). c.args.side.now.resources.references ++ map (λ q. (q, n)) (created_reference c.args.ty.now)) c.as_str.ensures;
  names = subst (λ (n : Text). (ks : List Text) → AreKeys c.args.side.now.resources.names ks → AreKeys c.name_reference.new.resources.names (ks ++ map (λ q. n) (created_reference c.args.ty.now))) c.as_str.ensures c.in_ok-name_reference.ensures.names;
  info = c.in_ok-check_extern.ensures.info;
}
