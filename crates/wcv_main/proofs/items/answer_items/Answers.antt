use Rattle.std.proofs.Common.{◌≡◌, ◌++◌, ◌∙◌, List, ℕ, ap, sym, subst, inl, inr, refl, rules}
use Rattle.wcv_core.specs.CoreForm.{Group}
use Rattle.wcv_core.specs.declared.error.ErrorKind.{ErrorKind}
use Rattle.wcv_core.specs.Refusal.{error_kind, error_offset}
use Rattle.wcv_syntax.specs.View.{items_view}
use Rattle.wcv_types.specs.ComponentTrees.{root_tree}
use Rattle.wcv_types.specs.Text.{type_text}
use Rattle.wcv_types.proofs.SameText.{same_text}
use Rattle.wcv_lower.specs.Context.{lengths}
use Rattle.wcv_lower.specs.Trees.{Tree_stack}
use Rattle.wcv_growth.specs.Valid.{Refused}
use Rattle.wcv_link.specs.Accepts.{Accepts}
use Rattle.wcv_link.specs.declared.driver.Accepted.{Accepted}
use Rattle.wcv_main.specs.Answers.{Finishes}
use Rattle.wcv_main.specs.Due.{accepted_text, sections}
use Rattle.wcv_main.specs.Report.{report, space_lengths}
use Rattle.wcv_main.specs.declared.status.Status.TheVariants as status
use Rattle.wcv_main.proofs.Answering.{reported}
use Rattle.wcv_main.proofs.Counting.{counted}
use Rattle.wcv_main.proofs.Ending.{nothing_ends}
use Rattle.wcv_main.proofs.items.answer_items.Goals as goal

pub returns-in-Ok : goal.returns-in-Ok
returns-in-Ok g c =
    let features = c.args.listing.features in
    let a : Accepted = c.in-Ok.accepted in
    let h : Accepts features (items_view c.args.listing.items.items) a = c.in-Ok.ensures.ok in
    let d : Tree_stack = h.context in
    let counts : space_lengths a.state.spaces ≡ lengths d.top = sym (counted a.types a.state) ∙ h.spaces in
    let whole : report (space_lengths a.state.spaces) ++ type_text a.types.core (root_tree a.types a.ty) ≡ accepted_text d h.ty =
    ap (λ (ns : List ℕ). report ns ++ type_text a.types.core (root_tree a.types a.ty)) counts ∙
    ap (λ (gs : List Group). report (lengths d.top) ++ type_text gs (root_tree a.types a.ty)) h.core ∙
    ap (λ (t : List ℕ). report (lengths d.top) ++ t) (same_text d.groups (root_tree a.types a.ty) h.ty h.is_type.by_ids) in (
      status.Done,
      accepted_text d h.ty,
      inl (reported features (items_view c.args.listing.items.items) d h.ty h.valid h.typed),
      subst (λ (t : List ℕ). Finishes c.accept_last.result status.Done (g.K.Sink.taken c.args.sink.now) (g.K.Sink.taken c.accept_last.new.sink) t (g.K.Sink.faults c.args.sink.now) (g.K.Sink.faults c.accept_last.new.sink)) whole c.accept_last.ensures,
    )

pub returns-then-eq : goal.returns-then-eq
returns-then-eq g c = nothing_ends (sections c.args.listing.features (items_view c.args.listing.items.items) c.args.listing.end) _ _

pub returns-else-eq : goal.returns-else-eq
returns-else-eq g c =
    let kind : ErrorKind = error_kind c.in-Err.error in
    let offset : ℕ = error_offset c.in-Err.error in
    let refused : Refused c.args.listing.features (items_view c.args.listing.items.items) c.args.listing.end kind offset = search rules in
    let (text, is, finishes) = c.refuse.ensures in
    (status.Refused, text, inr (kind, offset, refused, refl, is), finishes)
