use Rattle.std.proofs.Common.{◌∙◌, ap, ◌||◌}
use Rattle.std.specs.Str.{bytes_eq}
use Rattle.wcv_core.specs.Label.{lower_case, is_among}
use Rattle.wcv_types.specs.Tree.{Text}
use Rattle.wcv_spaces.proofs.Keys.{keys_joined}
use Rattle.wcv_spaces.proofs.labels.insert_label.Goals as goal

pub returns-clause-keys : goal.returns-clause-keys
returns-clause-keys c ks = keys_joined c.args.keys.now c.insert.new.self ks (lower_case c.args.name.now) (λ t. c.in_ok-insert.ensures.has t ∙ ap (λ (n : Text). bytes_eq t (lower_case n) || is_among t c.args.keys.now) c.as_str-text.ensures)
