-- Keys differ where their texts do.
use Rattle.std.proofs.Common.{◌≡◌, Bool, true, false, cond, Some, None, refl, sym, ap, ◌∙◌}
use Rattle.std.specs.Str.{bytes_eq}
use Rattle.std.proofs.lemmas.Bool.{and_parts, and_from}
use Rattle.wcv_core.specs.Label.{is_label, lower_case}
use Rattle.wcv_syntax.specs.ExternName.{Text, Access, call, get, set, Form, item, constructor, method, static, interface, spelled, is_formed}
use Rattle.wcv_syntax.specs.FormOf.{form_of}
use Rattle.wcv_syntax.specs.Keys.{key_of, key_text, item_key, function_key}
use Rattle.wcv_syntax.specs.declared.key.NameKey.{NameKey}
use Rattle.wcv_syntax.specs.declared.key.NameKey.TheVariants as key
use Rattle.wcv_syntax.proofs.Formed.{complete}
use Rattle.wcv_syntax.proofs.LowerCase.{lower_label}

-- a form whose name is the key's text
item_form : Access → Text → Form
item_form set l = item set l
item_form call l = item call l
item_form get l = item call l

function_form : Access → Text → Text → Form
function_form set r f = method set r f
function_form call r f = cond (bytes_eq r f) (item call r) (method call r f)
function_form get r f = cond (bytes_eq r f) (item call r) (method call r f)

abbrev key_form : Form → Form
key_form (item a l) = item_form a (lower_case l)
key_form (constructor l) = constructor (lower_case l)
key_form (method a r f) = function_form a (lower_case r) (lower_case f)
key_form (static a r f) = function_form a (lower_case r) (lower_case f)
key_form (interface n p i v) = interface n p i v

-- the key of such a form
abbrev back : Form → NameKey
back (item call l) = key.Item l
back (item get l) = key.Item l
back (item set l) = key.Setter None l
back (constructor l) = key.Constructor l
back (method call r f) = key.Member r f
back (method get r f) = key.Member r f
back (method set r f) = key.Setter (Some r) f
back (static a r f) = key.Member r f
back (interface n p i v) = key.Interface (spelled (interface n p i v))

member_written : (r f : Text) (b : Bool) → spelled (cond b (item call r) (method call r f)) ≡ key_text (cond b (key.Item r) (key.Member r f))
member_written r f true = refl
member_written r f false = refl

item_written : (a : Access) (l : Text) → spelled (item_form a l) ≡ key_text (item_key a l)
unfolding item_form
item_written call l = refl
item_written get l = refl
item_written set l = refl

function_written : (a : Access) (r f : Text) → spelled (function_form a r f) ≡ key_text (function_key a r f)
unfolding function_form
function_written call r f = member_written r f (bytes_eq r f)
function_written get r f = member_written r f (bytes_eq r f)
function_written set r f = refl

form_written : (f : Form) → spelled (key_form f) ≡ key_text (key_of f)
form_written (item a l) = item_written a (lower_case l)
form_written (constructor l) = refl
form_written (method a r f) = function_written a (lower_case r) (lower_case f)
form_written (static a r f) = function_written a (lower_case r) (lower_case f)
form_written (interface n p i v) = refl

member_back : (r f : Text) (b : Bool) → back (cond b (item call r) (method call r f)) ≡ cond b (key.Item r) (key.Member r f)
member_back r f true = refl
member_back r f false = refl

item_back : (a : Access) (l : Text) → back (item_form a l) ≡ item_key a l
unfolding item_form
item_back call l = refl
item_back get l = refl
item_back set l = refl

function_back : (a : Access) (r f : Text) → back (function_form a r f) ≡ function_key a r f
unfolding function_form
function_back call r f = member_back r f (bytes_eq r f)
function_back get r f = member_back r f (bytes_eq r f)
function_back set r f = refl

form_back : (f : Form) → back (key_form f) ≡ key_of f
form_back (item a l) = item_back a (lower_case l)
form_back (constructor l) = refl
form_back (method a r f) = function_back a (lower_case r) (lower_case f)
form_back (static a r f) = function_back a (lower_case r) (lower_case f)
form_back (interface n p i v) = refl

member_formed : (r f : Text) (b : Bool) → (is_label r ≡ true) → (is_label f ≡ true) → is_formed (cond b (item call r) (method call r f)) ≡ true
member_formed r f true h k = h
member_formed r f false h k = and_from (is_label r) (is_label f) h k

item_formed : (a : Access) (l : Text) → is_label l ≡ true → is_formed (item_form a l) ≡ true
unfolding item_form
item_formed call l h = h
item_formed get l h = h
item_formed set l h = h

function_formed : (a : Access) (r f : Text) → is_label r ≡ true → is_label f ≡ true → is_formed (function_form a r f) ≡ true
unfolding function_form
function_formed call r f h k = member_formed r f (bytes_eq r f) h k
function_formed get r f h k = member_formed r f (bytes_eq r f) h k
function_formed set r f h k = and_from (is_label r) (is_label f) h k

form_formed : (f : Form) → is_formed f ≡ true → is_formed (key_form f) ≡ true
form_formed (item a l) h = item_formed a (lower_case l) (lower_label l h)
form_formed (constructor l) h = lower_label l h
form_formed (method a r f) h =
    let k = and_parts (is_label r) (is_label f) h in
    function_formed a (lower_case r) (lower_case f) (lower_label r k.0) (lower_label f k.1)
form_formed (static a r f) h =
    let k = and_parts (is_label r) (is_label f) h in
    function_formed a (lower_case r) (lower_case f) (lower_label r k.0) (lower_label f k.1)
form_formed (interface n p i v) h = h

some : {X : Type 0} {x y : X} → Some x ≡ Some y → x ≡ y
some e = cc e

pub one_key : (f g : Form) → is_formed f ≡ true → is_formed g ≡ true → key_text (key_of f) ≡ key_text (key_of g) → key_of f ≡ key_of g
one_key f g hf hg e =
    let same : spelled (key_form f) ≡ spelled (key_form g) = form_written f ∙ e ∙ sym (form_written g) in
    let forms : Some (key_form f) ≡ Some (key_form g) = sym (complete (key_form f) (form_formed f hf)) ∙ ap form_of same ∙ complete (key_form g) (form_formed g hg) in
    sym (form_back f) ∙ ap back (some forms) ∙ form_back g
