use Rattle.std.proofs.Common.{◌≡◌, ◌++◌, ◌∙◌, ◌<◌, ◌≤◌, length, get_or, codes, ap, subst, sym, rules, string_bytes}
use Rattle.wcv_core.specs.CoreForm.{SubForm, Group, sub_form}
use Rattle.wcv_types.specs.CoreText.{sub_text, group_at}
use Rattle.wcv_text.specs.Mentions.{separator}
use Rattle.wcv_text.specs.Numbers.{so_far}
use Rattle.wcv_text.proofs.Firsts.{group_length, group_get}
use Rattle.wcv_text.proofs.Listing.{next_listed, all_listed}
use Rattle.wcv_text.proofs.groups.push_types.Goals as goal

pub loop-k-preserved : goal.loop-k-preserved
loop-k-preserved c = λ t.
    let d : SubForm = sub_form c.get.result.now in
    let types : Group = group_at c.args.numbers.now.core.now c.args.id.index in
    let turn : c.loop-k.k < c.place-len.result.1 = search rules in
    let all : length types ≡ c.place-len.result.1 = group_length c.args.numbers.now.core.now c.args.id.index c.place-len.result.0.index c.place-len.result.1 c.place-len.ensures.place in
    let within : c.loop-k.k < length types = subst (λ n. c.loop-k.k < n) (sym all) turn in
    let found : sub_form c.get.result.now ≡ get_or types c.loop-k.k d =
    c.get.ensures d ∙ group_get c.args.numbers.now.core.now c.args.id.index c.place-len.result.0.index c.place-len.result.1 c.loop-k.k d c.place-len.ensures.place turn in
    let before : string_bytes c.push_str.new.self ≡ string_bytes c.loop-k.text ++ separator (codes ", ") c.loop-k.k = search rules in
    next_listed (sub_text (so_far c.args.numbers.now t).core (so_far c.args.numbers.now t).groups) (string_bytes c.loop-k.text) (string_bytes c.push_str.new.self) (string_bytes c.push_sub.new.text) _ c.loop-k.k d types within before
    (c.in_ok-push_sub.ensures t ∙ ap (λ s. string_bytes c.push_str.new.self ++ sub_text (so_far c.args.numbers.now t).core (so_far c.args.numbers.now t).groups s) found) (c.loop-k.invariant t)

pub returns : goal.returns
returns c = λ t.
    let types : Group = group_at c.args.numbers.now.core.now c.args.id.index in
    let all : length types ≡ c.place-len.result.1 = group_length c.args.numbers.now.core.now c.args.id.index c.place-len.result.0.index c.place-len.result.1 c.place-len.ensures.place in
    let past : c.place-len.result.1 ≤ c.loop-k.k = search rules in
    all_listed (sub_text (so_far c.args.numbers.now t).core (so_far c.args.numbers.now t).groups) (string_bytes c.loop-k.text) _ (separator (codes ", ") c.loop-k.k) c.loop-k.k types (subst (λ n. n ≤ c.loop-k.k) (sym all) past) (c.loop-k.invariant t)
