-- Names of imports and exports: the forms that they have, and how each form is written.
use Rattle.std.specs.Prelude.{ℕ, List, [], ◌∷◌, ◌++◌, Bool, true, false, ◌&&◌, not, ◌==◌, length, Option, Some, None, codes, ◌≡◌}
use Rattle.std.specs.List.{list_any}
use Rattle.std.specs.Char.{is_ascii_uppercase}
use Rattle.wcv_core.specs.Label.{is_label}

abbrev pub Text : Type 0
Text = List ℕ

-- how a name uses what it names: a function is called, a value is gotten, a value is set
pub data Access : Type 0 where
  call get set : Access

-- what a name names
pub data Form : Type 0 where
  -- a function or an item of another sort; a getter or a setter
  item : Access → Text → Form
  constructor : Text → Form
  -- of a resource
  method static : Access → Text → Text → Form
  -- a namespace, a package, an interface, and maybe a version
  interface : Text → Text → Text → Option Text → Form

-- ## How forms are written

abbrev pub access_mark : Access → Text
access_mark call = []
access_mark get = codes "[get]"
access_mark set = codes "[set]"

abbrev pub constructor_mark : Text
constructor_mark = codes "[constructor]"

abbrev pub method_mark : Text
method_mark = codes "[method]"

abbrev pub static_mark : Text
static_mark = codes "[static]"

-- two texts around a byte
abbrev pub joined : ℕ → Text → Text → Text
joined b x y = x ++ b ∷ y

abbrev pub dot : ℕ
dot = 46

abbrev pub slash : ℕ
slash = 47

abbrev pub colon : ℕ
colon = 58

abbrev pub at_sign : ℕ
at_sign = 64

abbrev pub with_version : Text → Option Text → Text
with_version i None = i
with_version i (Some v) = joined at_sign i v

abbrev pub spelled : Form → Text
spelled (item a l) = access_mark a ++ l
spelled (constructor l) = constructor_mark ++ l
spelled (method a r f) = method_mark ++ (access_mark a ++ joined dot r f)
spelled (static a r f) = static_mark ++ (access_mark a ++ joined dot r f)
spelled (interface n p i v) = joined colon n (joined slash p (with_version i v))

-- ## Which forms there are

-- a label without upper case
abbrev pub is_lower_label : Text → Bool
is_lower_label l = is_label l && not (list_any is_ascii_uppercase l)

-- not the empty text
abbrev pub is_some_text : Option Text → Bool
is_some_text None = true
is_some_text (Some v) = not (length v == 0)

-- its parts are labels
abbrev pub is_formed : Form → Bool
is_formed (item a l) = is_label l
is_formed (constructor l) = is_label l
is_formed (method a r f) = is_label r && is_label f
is_formed (static a r f) = is_label r && is_label f
is_formed (interface n p i v) = is_lower_label n && (is_lower_label p && (is_label i && is_some_text v))

-- the text is a name of that form
pub record Names (t : Text) (f : Form) : Type 0 where
  pub written_so : spelled f ≡ t
  pub formed : is_formed f ≡ true

-- ## What a form needs

-- it reads or writes a value in place of a call
abbrev pub is_accessor : Access → Bool
is_accessor call = false
is_accessor get = true
is_accessor set = true

abbrev pub access_of : Form → Access
access_of (item a l) = a
access_of (constructor l) = call
access_of (method a r f) = a
access_of (static a r f) = a
access_of (interface n p i v) = call

-- the getter of the same spelling
abbrev pub getter_of : Form → Form
getter_of (item a l) = item get l
getter_of (method a r f) = method get r f
getter_of (static a r f) = static get r f
getter_of f = f
