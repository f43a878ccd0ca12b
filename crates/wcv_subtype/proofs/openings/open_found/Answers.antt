use Rattle.std.proofs.Common.{◌≡◌, sym, ◌∙◌, ap, subst, true}
use Rattle.std.proofs.lemmas.Result.{err_from_is_err_and}
use Rattle.wcv_types.specs.Unfold.{trees}
use Rattle.wcv_matching.specs.AtomTests.{id_tests}
use Rattle.wcv_matching.specs.Matching.{Reading}
use Rattle.wcv_matching.specs.OnePass.{Atom, each_passes, given, match_pass}
use Rattle.wcv_matching.specs.Refusals.{MemoryOrMismatch}
use Rattle.wcv_atoms.specs.IdPasses.{named_trees}
use Rattle.wcv_remap.specs.Map.{Map}
use Rattle.wcv_subtype.proofs.openings.open_found.Goals as goal

pub returns-in_err-open_imports-clause-err : goal.returns-in_err-open_imports-clause-err
returns-in_err-open_imports-clause-err g c =
    let ts = trees c.args.types.now.nodes in
    let q = err_from_is_err_and c.from_residual-in_err-open_imports.result c.from_residual-in_err-open_imports.ensures.1 in
    rw (q.1, q.2)
    (subst (λ (f : Reading Atom). MemoryOrMismatch c.args.offset (each_passes (match_pass (id_tests c.args.types.now.core) 0 given f) (named_trees ts c.args.args.now) (named_trees ts c.args.imports.now) ≡ true) c.in_err-open_imports.field-0.0) c.in_ok-right.ensures c.in_err-open_imports.ensures.err)

pub returns-clause-opens : goal.returns-clause-opens
returns-clause-opens g c =
    let ts = trees c.args.types.now.nodes in
    record {
      passes = sym (ap (λ (f : Reading Atom). each_passes (match_pass (id_tests c.args.types.now.core) 0 given f) (named_trees ts c.args.args.now) (named_trees ts c.args.imports.now)) c.in_ok-right.ensures) ∙ c.in_ok-open_imports.ensures.passes;
      resources = c.in_ok-open_imports.ensures.resources ∙ ap (λ (m : Map). m.resources) c.in_ok-opening.ensures;
      given = c.in_ok-open_imports.ensures.given;
      distinct = c.entries_differ.ensures;
    }
