use Rattle.std.proofs.Common.{◌≡◌, ◌++◌, [], List, cond, codes, rules, string_bytes}
use Rattle.std.proofs.lemmas.Result.{on_ok_weaker}
use Rattle.wcv_types.specs.Tree.{Text}
use Rattle.wcv_types.specs.declared.shapes.ComponentValType.{ComponentValType}
use Rattle.wcv_text.specs.Numbers.{so_far}
use Rattle.wcv_text.proofs.FuncForm.{func_written}
use Rattle.wcv_text.proofs.func_line.push_func.Goals as goal

pub returns : goal.returns
returns c =
    let fs : List (Text × ComponentValType) = c.args.func.now.params.items in
    let async : string_bytes c.push_str.new.self ≡ string_bytes c.args.text.now ++ cond c.args.func.now.async_ (codes "async ") [] = search rules in
    let open_brace : string_bytes c.push_str-2.new.self ≡ string_bytes c.push_str.new.self ++ codes "func {" = search rules in
    let arrow : string_bytes c.push_str-3.new.self ≡ string_bytes c.loop-index.text ++ codes "} -> " = search rules in
    on_ok_weaker c.push_option.result
    (λ result t. func_written (string_bytes c.args.text.now) (string_bytes c.push_str.new.self) (string_bytes c.push_str-2.new.self) (string_bytes c.loop-index.text) (string_bytes c.push_str-3.new.self) (string_bytes c.push_option.new.text) _
    (so_far c.args.numbers.now t) c.loop-index.index fs c.args.func.now.result async open_brace (c.loop-index.invariant t) (search rules) arrow (result t))
    c.push_option.ensures
