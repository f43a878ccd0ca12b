-- What a label of the code holds.
use Rattle.std.specs.Prelude.{ℕ, List}
use Rattle.wcv_core.specs.declared.kebab.KebabString.{KebabString}

abbrev pub label_of : KebabString → List ℕ
label_of k = k.text
