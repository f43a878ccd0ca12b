-- The names of a list that is handed over for its labels.
use Rattle.std.specs.Prelude.{List, map}
use Rattle.wcv_types.specs.Tree.{Text}
use Rattle.wcv_spaces.specs.declared.labels.NameList.{NameList}
use Rattle.wcv_spaces.specs.declared.labels.NameList.TheVariants as list

abbrev pub list_names : NameList → List Text
list_names (list.Params ps) = map (λ p. p.0) ps.now
list_names (list.Fields fs) = map (λ f. f.0) fs.now
list_names (list.Cases cs) = map (λ c. c.name) cs.now
list_names (list.Flags ns) = ns.now
list_names (list.EnumCases ns) = ns.now
