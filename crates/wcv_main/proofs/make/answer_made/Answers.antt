use Rattle.std.proofs.Common.{◌≡◌, ◌++◌, ◌+◌, ◌*◌, ◌∙◌, List, ℕ, ap, sym, subst, inl, inr, refl, rules, codes}
use Rattle.std.specs.Fmt.{decimal}
use Rattle.wcv_core.specs.Features.{default_features}
use Rattle.wcv_core.specs.declared.error.ErrorKind.{ErrorKind}
use Rattle.wcv_core.specs.declared.features.WasmFeatures.{WasmFeatures}
use Rattle.wcv_core.specs.Refusal.{error_kind, error_offset}
use Rattle.wcv_syntax.specs.Model.{Items}
use Rattle.wcv_syntax.specs.View.{items_view}
use Rattle.wcv_listing.specs.Generated.{generated}
use Rattle.wcv_lower.specs.Context.{lengths}
use Rattle.wcv_lower.specs.Trees.{Tree_stack}
use Rattle.wcv_growth.specs.Valid.{ValidTo, Refused}
use Rattle.wcv_link.specs.Accepts.{Accepts}
use Rattle.wcv_link.specs.declared.driver.Accepted.{Accepted}
use Rattle.wcv_main.specs.Answers.{Finishes}
use Rattle.wcv_main.specs.Due.{made, made_text}
use Rattle.wcv_main.specs.Report.{line, report, space_lengths}
use Rattle.wcv_main.specs.declared.status.Status.TheVariants as status
use Rattle.wcv_main.proofs.Answering.{summed}
use Rattle.wcv_main.proofs.Counting.{counted}
use Rattle.wcv_main.proofs.Ending.{nothing_ends}
use Rattle.wcv_main.proofs.make.answer_made.Goals as goal

pub returns-in-Ok : goal.returns-in-Ok
returns-in-Ok g c =
    let features = c.args.listing.features in
    let is = items_view c.args.listing.items.items in
    let n : ℕ = c.args.n in
    let a : Accepted = c.in-Ok.accepted in
    let h : Accepts features is a = c.in-Ok.ensures.ok in
    let d : Tree_stack = h.context in
    let counts : space_lengths a.state.spaces ≡ lengths d.top = sym (counted a.types a.state) ∙ h.spaces in
    let valid : ValidTo default_features (generated n) d =
    subst (λ (f : WasmFeatures). ValidTo f (generated n) d) c.requires.0 (subst (λ (x : Items). ValidTo features x d) c.requires.1 h.valid) in (
      status.Done,
      made_text n d,
      inl (summed n d valid),
      subst (λ (ns : List ℕ). Finishes c.write_summary.result status.Done (g.K.Sink.taken c.args.sink.now) (g.K.Sink.taken c.write_summary.new.sink) (line (codes "made " ++ decimal n) ++ report ns) (g.K.Sink.faults c.args.sink.now) (g.K.Sink.faults c.write_summary.new.sink)) counts c.write_summary.ensures,
    )

pub returns-then-eq : goal.returns-then-eq
returns-then-eq g c = nothing_ends (made c.args.n) _ _

pub returns-else-eq : goal.returns-else-eq
returns-else-eq g c =
    let n : ℕ = c.args.n in
    let kind : ErrorKind = error_kind c.in-Err.error in
    let offset : ℕ = error_offset c.in-Err.error in
    let refused : Refused c.args.listing.features (items_view c.args.listing.items.items) c.args.listing.end kind offset = search rules in
    let so : Refused default_features (generated n) (5 + 3 * n) kind offset =
    subst (λ (f : WasmFeatures). Refused f (generated n) (5 + 3 * n) kind offset) c.requires.0
    (subst (λ (x : Items). Refused c.args.listing.features x (5 + 3 * n) kind offset) c.requires.1 (subst (λ (end : ℕ). Refused c.args.listing.features (items_view c.args.listing.items.items) end kind offset) c.requires.2 refused)) in
    let (text, is, finishes) = c.refuse.ensures in
    (status.Refused, text, inr (kind, offset, so, refl, is), finishes)
