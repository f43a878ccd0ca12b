use Rattle.wcv_core.specs.Limits.{max_entries}
use Rattle.std.proofs.Common.{rules, ◌≡◌, ℕ, ◌+◌, ◌++◌, length, subst}
use Rattle.std.proofs.lemmas.Result.{err_from_is_err_and}
use Rattle.wcv_core.proofs.Closing.{caused_left}
use Rattle.wcv_core.specs.Checks.{IsFree, CausedBy, too_many}
use Rattle.wcv_syntax.specs.CoreItems.{ref_checks, entity_of}
use Rattle.wcv_syntax.specs.ModuleTypes.{if_entity, size_checks, import_checks}
use Rattle.wcv_module.proofs.Joins.{joins_free, joins_caused_by}
use Rattle.wcv_module.proofs.module.Module.check_import.Goals as goal

pub returns-in_err-entity-clause-err : goal.returns-in_err-entity-clause-err
returns-in_err-entity-clause-err c =
    let m = c.args.self.now in
    let gs = c.args.core.now in
    let t = c.args.ty.now in
    let p = err_from_is_err_and c.from_residual.result c.from_residual.ensures.1 in
    rw (p.1, p.2) (caused_left (ref_checks m.features gs m.types t) (if_entity (import_checks gs m) (entity_of m.types t)) c.args.offset c.in_err-entity.field-0.0 c.in_err-entity.ensures.err)

pub returns-in_err-size-clause-err : goal.returns-in_err-size-clause-err
returns-in_err-size-clause-err c =
    let m = c.args.self.now in
    let gs = c.args.core.now in
    let t = c.args.ty.now in
    let p = err_from_is_err_and c.from_residual-in_err-size.result c.from_residual-in_err-size.ensures.1 in
    let e = c.in_ok-entity.entity in
    let x = c.in_err-size.field-0.0 in
    let len : c.len.result ≡ length m.imports = search rules in
    rw (p.1, p.2)
    (joins_caused_by (ref_checks m.features gs m.types t) (import_checks gs m) (entity_of m.types t) e c.args.offset x c.in_ok-entity.ensures.ok
    (subst (λ (n : ℕ). CausedBy (too_many max_entries (n + 1) ++ size_checks gs m e) c.args.offset x) len c.in_err-size.ensures.err))

pub returns-clause-free : goal.returns-clause-free
returns-clause-free c =
    let m = c.args.self.now in
    let gs = c.args.core.now in
    let t = c.args.ty.now in
    let e = c.in_ok-entity.entity in
    let len : c.len.result ≡ length m.imports = search rules in
    joins_free (ref_checks m.features gs m.types t) (import_checks gs m) (entity_of m.types t) e c.in_ok-entity.ensures.ok c.in_ok-entity.ensures.free
    (subst (λ (n : ℕ). IsFree (too_many max_entries (n + 1) ++ size_checks gs m e)) len c.in_ok-size.ensures.free)
