-- What a set of keys holds: the keys of names.
use Rattle.std.specs.Prelude.{List, [], ◌∷◌, ◌≡◌, Option, Some, None}
use Rattle.wcv_core.specs.Label.{is_among}
use Rattle.wcv_syntax.specs.ExternName.{Form}
use Rattle.wcv_syntax.specs.FormOf.{form_of}
use Rattle.wcv_syntax.specs.Keys.{key_of, key_text}
use Rattle.wcv_types.specs.Tree.{Text}

abbrev pub key_text_of : Form → Text
key_text_of f = key_text (key_of f)

abbrev pub with_key : Option Form → List Text → List Text
with_key None ks = ks
with_key (Some f) ks = key_text_of f ∷ ks

-- the keys of names; a text that is no name has none
abbrev pub keys_in : List Text → List Text
keys_in [] = []
keys_in (t ∷ ts) = with_key (form_of t) (keys_in ts)

-- the set has exactly the keys of these names
abbrev pub HasKeys : List Text → List Text → Type 0
HasKeys set names = (t : Text) → is_among t set ≡ is_among t (keys_in names)
