-- Keys of names: the names of one list differ in them.
use Rattle.std.specs.Prelude.{Some, None, if◌then◌else◌}
use Rattle.std.specs.Str.{bytes_eq}
use Rattle.wcv_core.specs.Label.{lower_case}
use Rattle.wcv_syntax.specs.ExternName.{Text, Access, call, get, set, Form, item, constructor, method, static, interface, spelled}
use Rattle.wcv_syntax.specs.declared.key.NameKey.{NameKey}
use Rattle.wcv_syntax.specs.declared.key.NameKey.TheVariants as key

-- a function that is named as its resource is told from it by nothing
abbrev pub member_key : Text → Text → NameKey
member_key r f = if bytes_eq r f then key.Item r else key.Member r f

abbrev pub item_key : Access → Text → NameKey
item_key call l = key.Item l
item_key get l = key.Item l
item_key set l = key.Setter None l

abbrev pub function_key : Access → Text → Text → NameKey
function_key call r f = member_key r f
function_key get r f = member_key r f
function_key set r f = key.Setter (Some r) f

-- labels are compared in lower case; what is static is not told from methods, nor getters from what is called
abbrev pub key_of : Form → NameKey
key_of (item a l) = item_key a (lower_case l)
key_of (constructor l) = key.Constructor (lower_case l)
key_of (method a r f) = function_key a (lower_case r) (lower_case f)
key_of (static a r f) = function_key a (lower_case r) (lower_case f)
key_of (interface n p i v) = key.Interface (spelled (interface n p i v))

-- a key as a text: that of a name which has the key
abbrev pub key_text : NameKey → Text
key_text (key.Item l) = spelled (item call l)
key_text (key.Constructor l) = spelled (constructor l)
key_text (key.Member r f) = spelled (method call r f)
key_text (key.Setter None l) = spelled (item set l)
key_text (key.Setter (Some r) f) = spelled (method set r f)
key_text (key.Interface t) = t
