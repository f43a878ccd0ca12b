use Rattle.std.proofs.Common.{◌≤◌, ◌∙◌, sym, subst}
use Rattle.std.specs.Prelude.{ℕ, Option}
use Rattle.wcv_core.specs.declared.core_types.ValType.{ValType}
use Rattle.wcv_types.specs.Entities.{entry_trees}
use Rattle.wcv_types.specs.Unfold.{trees}
use Rattle.wcv_types.specs.declared.ids.ResourceId.{ResourceId}
use Rattle.wcv_lower.specs.Trees.{Entries}
use Rattle.wcv_resources.proofs.KeptPaths.{none_next, one_free, none_free}
use Rattle.wcv_resources.proofs.kept.first_free.Goals as goal

pub loop-k-preserved : goal.loop-k-preserved
loop-k-preserved c =
    let es : Entries = entry_trees (trees c.args.types.now.nodes) c.args.imports.now in
    let d : ResourceId × Option ValType = (c.in-Some.resource.now, c.in-Some.field-0-1.now) in
    none_next c.args.defined.now es c.loop-k.k d (sym c.in-Some.ensures) (sym (c.requires d.0) ∙ sym c.contains.ensures ∙ c.if-contains.false) c.loop-k.invariant

pub returns-then-contains : goal.returns-then-contains
returns-then-contains c =
    let es : Entries = entry_trees (trees c.args.types.now.nodes) c.args.imports.now in
    let d : ResourceId × Option ValType = (c.in-Some.resource.now, c.in-Some.field-0-1.now) in
    sym (one_free c.args.defined.now es c.loop-k.k d (sym c.in-Some.ensures) (sym (c.requires d.0) ∙ sym c.contains.ensures ∙ c.if-contains.true) c.loop-k.invariant)

pub returns : goal.returns
returns c =
    sym (none_free c.args.defined.now (entry_trees (trees c.args.types.now.nodes) c.args.imports.now) c.loop-k.k (subst (λ (n : ℕ). n ≤ c.loop-k.k) c.len-k-end.ensures.value c.loop-k-test.false) c.loop-k.invariant)
