use Rattle.std.proofs.Common.{◌≡◌, ◌++◌, [], ◌∙◌, ap, sym, codes, List, map, rules, append_assoc, string_bytes}
use Rattle.std.proofs.lemmas.Result.{on_ok_weaker}
use Rattle.wcv_core.specs.CoreForm.{composite_form}
use Rattle.wcv_core.specs.declared.core_types.CompositeInnerType.{CompositeInnerType}
use Rattle.wcv_core.specs.declared.core_types.FieldType.{FieldType}
use Rattle.wcv_core.specs.declared.core_types.ValType.{ValType}
use Rattle.wcv_types.specs.CoreText.{composite_text, field_text, spaced, val_text}
use Rattle.wcv_types.specs.Quoting.{listed}
use Rattle.wcv_types.specs.Tree.{Text}
use Rattle.wcv_text.specs.Numbers.{so_far}
use Rattle.wcv_text.proofs.core_line.push_composite.Goals as goal

pub returns-in-Func : goal.returns-in-Func
returns-in-Func c =
    let piece : Text → List ValType → List ValType → Text = λ t ps rs.
    string_bytes c.args.text.now ++ (codes "func (" ++ spaced [] (map (val_text (so_far c.args.numbers.now t).core (so_far c.args.numbers.now t).groups) ps) ++ codes ") -> (" ++ spaced [] (map (val_text (so_far c.args.numbers.now t).core (so_far c.args.numbers.now t).groups) rs) ++ codes ")") in
    on_ok_weaker c.push_func.result
    (λ said t. said t ∙ (λ j. piece t (c.deref.ensures.value j) (c.deref-in-Func.ensures.value j)) ∙ ap (λ (x : CompositeInnerType). string_bytes c.args.text.now ++ composite_text (so_far c.args.numbers.now t).core (so_far c.args.numbers.now t).groups (composite_form x)) (sym c.in-Func.is))
    c.push_func.ensures

pub returns-in-Struct : goal.returns-in-Struct
returns-in-Struct c =
    on_ok_weaker c.push_struct.result
    (λ said t. said t ∙
    ap (λ (fs : List FieldType). string_bytes c.args.text.now ++ (codes "struct {" ++ listed [] (map (field_text (so_far c.args.numbers.now t).core (so_far c.args.numbers.now t).groups) fs) ++ codes "}")) c.deref-in-Struct.ensures.value ∙ ap (λ (x : CompositeInnerType). string_bytes c.args.text.now ++ composite_text (so_far c.args.numbers.now t).core (so_far c.args.numbers.now t).groups (composite_form x)) (sym c.in-Struct.is))
    c.push_struct.ensures

pub returns-in_ok-push_str-in-Array : goal.returns-in_ok-push_str-in-Array
returns-in_ok-push_str-in-Array c =
    let start : Text = string_bytes c.args.text.now in
    let first : string_bytes c.push_str.new.self ≡ start ++ codes "array " = search rules in
    on_ok_weaker c.push_field.result
    (λ said t.
    let field : Text = field_text (so_far c.args.numbers.now t).core (so_far c.args.numbers.now t).groups c.in-Array.array.field in
    said t ∙ ap (λ (x : Text). x ++ field) first ∙ append_assoc start (codes "array ") field ∙
    ap (λ (x : CompositeInnerType). start ++ composite_text (so_far c.args.numbers.now t).core (so_far c.args.numbers.now t).groups (composite_form x)) (sym c.in-Array.is))
    c.push_field.ensures
