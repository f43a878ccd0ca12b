use Rattle.std.proofs.Common.{subst, ◌∙◌, ⊎_elim}
use Rattle.wcv_core.specs.CoreGroups.{total}
use Rattle.wcv_core.specs.CoreSizes.{IsEntityWithin}
use Rattle.wcv_types.specs.Unfold.{tree_at}
use Rattle.wcv_types.specs.declared.arena.Node.TheVariants as n
use Rattle.wcv_types.specs.declared.ids.Part.TheVariants as p
use Rattle.wcv_closed.specs.ClosedTable.{IsTable}
use Rattle.wcv_matching.specs.ModuleItems.{items_of}
use Rattle.wcv_values.proofs.IdPasses.{module_told, module_refused, each_item, modules_as}
use Rattle.wcv_matching.proofs.ModuleTrees.{module_seen}
use Rattle.wcv_values.proofs.modules.module_matches.Goals as goal

pub shapes_match-requires-clause-a : goal.shapes_match-requires-clause-a
shapes_match-requires-clause-a c = c.modules_within.ensures c.args.a.index (n.Module c.get.result.now) c.get.ensures.found

pub shapes_match-requires-clause-b : goal.shapes_match-requires-clause-b
shapes_match-requires-clause-b c = c.modules_within.ensures c.args.b.index (n.Module c.get-2.result.now) c.get-2.ensures.found

pub returns-in-Ok : goal.returns-in-Ok
returns-in-Ok c =
    let gs = c.args.types.now.core in
    let x = c.get.result.now in
    let y = c.get-2.result.now in
    let w = IsEntityWithin (total gs) in
    modules_as gs (items_of x) (items_of y) _ _
    (module_seen c.args.types.now (tree_at c.args.types.now (p.Module c.args.a)) x (p.Module c.args.a) c.get.ensures.unfolds)
    (module_seen c.args.types.now (tree_at c.args.types.now (p.Module c.args.b)) y (p.Module c.args.b) c.get-2.ensures.unfolds)
    (module_told gs (subst IsTable c.core_types.ensures (record { closed = c.len-count.ensures.closed; distinct = c.len-count.ensures.distinct })) (items_of x) (items_of y) (each_item w x (c.modules_within.ensures c.args.a.index (n.Module x) c.get.ensures.found)) (each_item w y (c.modules_within.ensures c.args.b.index (n.Module y) c.get-2.ensures.found)) c.in-Ok.ensures.ok)

pub returns-in_default : goal.returns-in_default
returns-in_default c =
    let gs = c.args.types.now.core in
    let x = c.get.result.now in
    let y = c.get-2.result.now in
    let w = IsEntityWithin (total gs) in
    modules_as gs (items_of x) (items_of y) _ _
    (module_seen c.args.types.now (tree_at c.args.types.now (p.Module c.args.a)) x (p.Module c.args.a) c.get.ensures.unfolds)
    (module_seen c.args.types.now (tree_at c.args.types.now (p.Module c.args.b)) y (p.Module c.args.b) c.get-2.ensures.unfolds)
    (module_refused gs (subst IsTable c.core_types.ensures (record { closed = c.len-count.ensures.closed; distinct = c.len-count.ensures.distinct })) (items_of x) (items_of y) (each_item w x (c.modules_within.ensures c.args.a.index (n.Module x) c.get.ensures.found)) (each_item w y (c.modules_within.ensures c.args.b.index (n.Module y) c.get-2.ensures.found))
    (λ m. ⊎_elim (λ k. c.in_default.not-OutOfMemory (c.kind.ensures ∙ k)) (λ (r : _). r.fails m) c.in-Err.ensures.err))
