use Rattle.std.proofs.Common.{◌++◌, ◌≡◌, drop}
use Rattle.wcv_write.specs.Json.{list_data, items_of, tokens_of, tokens_of_items}
use Rattle.wcv_write.proofs.list.write_list.Given as goal

abbrev pub invariant-loop-thing : goal.invariant-loop-thing
invariant-loop-thing g l = let f = g.T.ToJson.form (g.I.Indices.written l.indices) in l.out ++ tokens_of_items (items_of f (drop l.thing-index l.things)) ≡ l.fn.out ++ tokens_of (list_data f l.things)
