use Rattle.std.proofs.Common.{ap, ◌∙◌, ◌++◌, [], ◌∷◌}
use Rattle.wcv_spaces.specs.NameLists.{list_names}
use Rattle.wcv_decls.specs.Numbers.{number_of}
use Rattle.wcv_decls.proofs.Ascending.{numbers_next}
use Rattle.wcv_decls.proofs.alike.numbers.Goals as goal

pub loop-k-preserved : goal.loop-k-preserved
loop-k-preserved c =
    numbers_next (list_names c.args.list) c.loop-k.k c.text_at.result.now c.loop-k.numbers.items c.push.new.self.items c.text_at.ensures c.loop-k.invariant
    (c.in_ok-push.ensures.items ∙ ap (λ m. c.loop-k.numbers.items ++ m ∷ []) (c.number_of.ensures ∙ ap number_of c.as_str.ensures))
