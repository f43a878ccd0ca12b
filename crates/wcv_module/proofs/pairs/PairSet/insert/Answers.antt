use Rattle.std.proofs.Common.{◌||◌, List, not, ◌∙◌, ap}
use Rattle.wcv_syntax.specs.Model.{Text}
use Rattle.wcv_syntax.specs.ModuleTypes.{same_pair, is_pair_among}
use Rattle.wcv_module.specs.PairSet.{Pair, bytes_of, pairs_of}
use Rattle.wcv_module.proofs.Pairing.{has_pair, has_more}
use Rattle.wcv_module.proofs.pairs.PairSet.insert.Goals as goal

pub returns-clause-added : goal.returns-clause-added
returns-clause-added c =
    c.in_ok-insert.ensures.added ∙ ap not (has_pair c.args.pair c.self.inside.pairs.keys) ∙
    ap (λ (ps : List (Text × Text)). not (is_pair_among (bytes_of c.args.pair) ps)) c.self.view_is

pub returns-clause-has : goal.returns-clause-has
returns-clause-has c p =
    ap (λ (ks : List Pair). is_pair_among p (pairs_of ks)) c.in_ok-insert.ensures.keys ∙ has_more p c.args.pair c.self.inside.pairs.keys ∙
    ap (λ (ps : List (Text × Text)). same_pair p (bytes_of c.args.pair) || is_pair_among p ps) c.self.view_is
