use Rattle.std.proofs.Common.{arith, ◌≡◌, ◌<◌, ◌++◌, ◌∙◌, ℕ, List, length, map, ap, sym, subst}
use Rattle.std.specs.Vec.{vec_len}
use Rattle.wcv_core.specs.Checks.{IsFree}
use Rattle.wcv_core.specs.CoreForm.{Group, sub_form, group_form}
use Rattle.wcv_core.specs.CoreGroups.{IsClosed, total}
use Rattle.wcv_core.specs.CoreJoining.{group_ids, grown, with_types, written_checks, IsLeft}
use Rattle.wcv_core.specs.CoreWritten.{Core_entry, sub_entry}
use Rattle.wcv_core.specs.declared.features.WasmFeatures.{WasmFeatures}
use Rattle.wcv_core.proofs.ClosedForms.{written_closed}
use Rattle.wcv_core.proofs.Joining.{some_types, all_free, alone_caused, table_caused}
use Rattle.wcv_core.proofs.Rowing.{length-map}
use Rattle.wcv_core.proofs.canonical.canonicalize_and_intern_rec_group.Goals as goal

pub returns-in-Err-clause-cause : goal.returns-in-Err-clause-cause
returns-in-Err-clause-cause g c =
    let es : List Core_entry = g.G.InternRecGroup.entries c.args.group.now in
    let fs : WasmFeatures = g.G.InternRecGroup.allowed c.args.group.now in
    alone_caused fs c.args.core.now es (group_form c.args.rec) c.len.result c.args.offset c.in-Err.err c.len.ensures.value c.in-Err.ensures.err

pub intern_into-requires-clause-closed : goal.intern_into-requires-clause-closed
intern_into-requires-clause-closed g c =
    let es : List Core_entry = g.G.InternRecGroup.entries c.args.group.now in
    let fs : WasmFeatures = g.G.InternRecGroup.allowed c.args.group.now in
    let w : Group = group_form c.args.rec in
    let x : Group = group_form c.in-Ok.closed in
    let n : ℕ = total c.args.core.now in
    let f : IsFree (written_checks fs n es w) = subst (λ (m : ℕ). IsFree (written_checks fs m es w)) c.len.ensures.value c.in-Ok.ensures.free in
    let l : length x ≡ length c.in-Ok.closed.types.items = length-map sub_form c.in-Ok.closed.types.items in
    let k : vec_len c.in-Ok.closed.types ≡ length x = omega arith in
    let s : 0 < length w = some_types es w x (vec_len c.in-Ok.closed.types) c.in-Ok.ensures.ok k (sym c.if-is_empty.ensures) in
    subst (IsClosed n) (sym c.in-Ok.ensures.ok) (written_closed fs n es w c.requires.known s f)

pub returns-in-Ok-intern_into-clause-free : goal.returns-in-Ok-intern_into-clause-free
returns-in-Ok-intern_into-clause-free g c =
    let es : List Core_entry = g.G.InternRecGroup.entries c.args.group.now in
    let fs : WasmFeatures = g.G.InternRecGroup.allowed c.args.group.now in
    all_free fs c.args.core.now es (group_form c.args.rec) (group_form c.in-Ok.closed) c.len.result c.len.ensures.value c.in-Ok.ensures.ok c.in-Ok.ensures.free c.in-Ok-intern_into.ensures.free

pub returns-in-Err-intern_into-clause-cause : goal.returns-in-Err-intern_into-clause-cause
returns-in-Err-intern_into-clause-cause g c =
    let es : List Core_entry = g.G.InternRecGroup.entries c.args.group.now in
    let fs : WasmFeatures = g.G.InternRecGroup.allowed c.args.group.now in
    table_caused fs c.args.core.now es (group_form c.args.rec) (group_form c.in-Ok.closed) c.len.result c.args.offset c.in-Err-intern_into.err c.len.ensures.value c.in-Ok.ensures.ok c.in-Ok.ensures.free c.in-Err-intern_into.ensures.cause

pub returns-in-Ok-intern_into-clause-table : goal.returns-in-Ok-intern_into-clause-table
returns-in-Ok-intern_into-clause-table g c = c.in-Ok-intern_into.ensures.table ∙ ap (grown c.args.core.now) c.in-Ok.ensures.ok

pub returns-in-Ok-intern_into-clause-group : goal.returns-in-Ok-intern_into-clause-group
returns-in-Ok-intern_into-clause-group g c =
    c.in-Ok-intern_into.ensures.group ∙ ap (λ (x : Group). with_types g.G.InternRecGroup.with_type c.args.group.now (group_ids c.args.core.now x)) c.in-Ok.ensures.ok

pub returns-in-Ok-intern_into-clause-entries : goal.returns-in-Ok-intern_into-clause-entries
returns-in-Ok-intern_into-clause-entries g c =
    c.in-Ok-intern_into.ensures.entries ∙ ap (λ (x : Group). g.G.InternRecGroup.entries c.args.group.now ++ map sub_entry (group_ids c.args.core.now x)) c.in-Ok.ensures.ok

pub returns-in-Err-intern_into-clause-err : goal.returns-in-Err-intern_into-clause-err
returns-in-Err-intern_into-clause-err g c =
    subst (λ (x : Group). IsLeft g.G.InternRecGroup.with_type g.G.InternRecGroup.failed c.args.group.now c.intern_into.new.group c.args.core.now c.intern_into.new.core x c.in-Err-intern_into.err) c.in-Ok.ensures.ok c.in-Err-intern_into.ensures.err
