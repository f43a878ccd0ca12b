-- Kinds of refusal and of entries, as the program writes them.
use Rattle.std.specs.Prelude.{ℕ, List, codes}
use Rattle.wcv_core.specs.declared.error.ErrorKind.{ErrorKind}
use Rattle.wcv_core.specs.declared.error.ErrorKind.TheVariants as kind
use Rattle.wcv_core.specs.declared.extern_kind.ExternKind.{ExternKind}
use Rattle.wcv_core.specs.declared.extern_kind.ExternKind.TheVariants.{Import, Export}

abbrev pub kind_name : ErrorKind → List ℕ
kind_name kind.OutOfBounds = codes "OutOfBounds"
kind_name kind.WrongSort = codes "WrongSort"
kind_name kind.UnknownExport = codes "UnknownExport"
kind_name kind.Feature = codes "Feature"
kind_name kind.Limit = codes "Limit"
kind_name kind.CoreType = codes "CoreType"
kind_name kind.Name = codes "Name"
kind_name kind.Conflict = codes "Conflict"
kind_name kind.MethodName = codes "MethodName"
kind_name kind.Options = codes "Options"
kind_name kind.Signature = codes "Signature"
kind_name kind.Shape = codes "Shape"
kind_name kind.Borrow = codes "Borrow"
kind_name kind.Mismatch = codes "Mismatch"
kind_name kind.Unnamed = codes "Unnamed"
kind_name kind.ResourceScope = codes "ResourceScope"
kind_name kind.AliasKind = codes "AliasKind"
kind_name kind.Value = codes "Value"
kind_name kind.StartTwice = codes "StartTwice"
kind_name kind.Context = codes "Context"
kind_name kind.OutOfMemory = codes "OutOfMemory"

abbrev pub extern_kind_name : ExternKind → List ℕ
extern_kind_name Import = codes "import"
extern_kind_name Export = codes "export"
