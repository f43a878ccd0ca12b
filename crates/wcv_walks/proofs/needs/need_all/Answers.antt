use Rattle.std.proofs.Common.{◌≡◌, ◌++◌, ◌+◌, sym, ap, ◌∙◌, Some}
use Rattle.std.specs.Prelude.{option_copied, slice_get}
use Rattle.wcv_types.specs.Entities.{any_part}
use Rattle.wcv_types.specs.Named.{is_in}
use Rattle.wcv_types.specs.Sets.{identities}
use Rattle.wcv_types.specs.Standing.{identity_of}
use Rattle.wcv_walks.proofs.Needing.{beyond_needs, stands_at, one_done, among_from, among_next}
use Rattle.wcv_walks.proofs.needs.need_all.Goals as goal

pub loop-k-preserved : goal.loop-k-preserved
loop-k-preserved c =
    let at : slice_get c.args.more.now c.loop-k.k ≡ Some c.in-Some.id.now = sym c.get_index.ensures ∙ ap option_copied c.in-Some.is in
    one_done c.args.types.now (among_from c.args.types.now c.args.more.now c.args.created.now 0) (among_from c.args.types.now c.args.more.now c.args.created.now c.loop-k.k)
    (λ ids. is_in (ids ++ identities c.args.created.now) (identity_of (any_part c.in-Some.id.now))) (among_from c.args.types.now c.args.more.now c.args.created.now (c.loop-k.k + 1))
    c.args.needed.now c.loop-k.needed c.need_beyond.new.needed c.loop-k.invariant
    (beyond_needs c.args.types.now c.in-Some.id.now c.args.created.now c.loop-k.needed (stands_at c.args.types.now c.args.more.now c.loop-k.k c.in-Some.id.now c.requires.more at) c.requires.created c.loop-k.invariant.stand c.need_beyond.new.needed c.in_ok-need_beyond-in-Some.ensures)
    (among_next c.args.types.now c.args.more.now c.args.created.now c.loop-k.k c.in-Some.id.now at)
