use Rattle.std.proofs.Common.{◌≡◌, true, bytes_eq, length, option_copied, sym, ap, ◌∙◌, arith}
use Rattle.wcv_names.proofs.Firsts.{first_at}
use Rattle.wcv_names.proofs.follows.first_item.Goals as goal

pub returns-then-eq : goal.returns-then-eq
returns-then-eq c =
    let many : length c.args.names.now ≡ length c.args.items.now = omega (arith, c.len.ensures.value, c.len-2.ensures, c.if-len.true) in
    let named : bytes_eq c.args.name.now c.in-Some-get_index.entry.now.0 ≡ true = sym (λ j. bytes_eq (c.as_str-in-Some-get_index.ensures j) (c.as_str-in-Some-get_index-2.ensures j)) ∙ sym c.eq.ensures ∙ c.if-eq.true in
    first_at c.args.name.now c.in-Some.place c.args.names.now c.args.items.now c.in-Some-get_index.entry.now c.requires c.len.ensures.unique many (sym c.get_index.ensures ∙ ap option_copied c.in-Some-get_index.is) named
