use Rattle.std.proofs.Common.{◌≡◌, ℕ, ap, length, arith}
use Rattle.std.proofs.lemmas.List.{length-map}
use Rattle.wcv_spaces.specs.Contents.{Contents, core_entry_of}
use Rattle.wcv_state.proofs.intern.ComponentStateInternRecGroup.add_type_id.Goals as goal

pub push-requires : goal.push-requires
push-requires c =
    let viewed = ap (λ (s : Contents). length s.spaces.core_types) c.self.view_is in
    omega (arith, viewed, length-map c.args.self.now.spaces.core_types core_entry_of, c.requires)
