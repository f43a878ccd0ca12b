use Rattle.std.proofs.Common.{◌≡◌, ◌++◌, [], drop, codes, string_bytes}
use Rattle.wcv_types.specs.Text.{positions_text}
use Rattle.wcv_text.specs.Mentions.{separator}
use Rattle.wcv_text.proofs.paths.push_positions.Given as goal

abbrev pub invariant-loop-index : goal.invariant-loop-index
invariant-loop-index l =
    string_bytes l.text ++ positions_text (separator (codes ",") l.index) (drop l.index l.positions) ≡ string_bytes l.initial.text ++ positions_text [] l.positions
