-- What a fault asks for.
use Rattle.wcv_bytes.specs.declared.class.Class.{Class}
use Rattle.wcv_bytes.specs.declared.class.Class.TheVariants as class
use Rattle.wcv_bytes.specs.declared.fault.Why.{Why}
use Rattle.wcv_bytes.specs.declared.fault.Why.TheVariants as why

abbrev pub class_of : Why → Class
class_of why.UnsupportedName = class.Unsupported
class_of why.TooDeep = class.Unsupported
class_of why.UnsupportedExact = class.Unsupported
class_of why.UnsupportedContinuation = class.Unsupported
class_of why.UnsupportedDescriptor = class.Unsupported
class_of why.UnsupportedImports = class.Unsupported
class_of why.UnsupportedAsyncDrop = class.Unsupported
class_of why.UnsupportedInstruction = class.Unsupported
class_of why.TooMuch = class.TooMuch
class_of _ = class.Malformed
