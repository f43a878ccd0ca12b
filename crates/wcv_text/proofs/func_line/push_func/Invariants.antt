use Rattle.std.proofs.Common.{◌≡◌, ◌++◌, [], drop, codes, string_bytes}
use Rattle.wcv_types.specs.Tree.{Text}
use Rattle.wcv_text.specs.FuncLine.{params_said}
use Rattle.wcv_text.specs.Mentions.{separator}
use Rattle.wcv_text.specs.Numbers.{so_far}
use Rattle.wcv_text.proofs.func_line.push_func.Given as goal

abbrev pub invariant-loop-index : goal.invariant-loop-index
invariant-loop-index l =
    (t : Text) → string_bytes l.text ++ params_said (so_far l.numbers t) (separator (codes ", ") l.index) (drop l.index l.func.params.items) l.func.result ≡
    string_bytes l.initial.text ++ params_said (so_far l.numbers t) [] l.func.params.items l.func.result
