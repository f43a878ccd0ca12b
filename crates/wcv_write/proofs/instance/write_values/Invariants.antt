use Rattle.std.proofs.Common.{◌++◌, ◌≡◌, drop}
use Rattle.wcv_write.specs.Json.{list_data, items_of, tokens_of, tokens_of_items}
use Rattle.wcv_write.specs.declared.indices.Space.TheVariants.{Value}
use Rattle.wcv_write.proofs.instance.write_values.Given as goal

abbrev pub invariant-loop-value : goal.invariant-loop-value
invariant-loop-value g l = let f = g.I.Indices.written l.indices Value in l.out ++ tokens_of_items (items_of f (drop l.value-index l.values)) ≡ l.fn.out ++ tokens_of (list_data f l.values)
