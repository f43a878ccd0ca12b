-- A name joins a list, and its key a set of keys.
use Rattle.std.proofs.Common.{◌≡◌, List, [], ◌∷◌, ◌++◌, Bool, true, false, ◌||◌, Option, Some, None, bytes_eq, refl, sym, ◌∙◌, ap}
use Rattle.wcv_core.specs.Label.{is_among}
use Rattle.wcv_core.proofs.Among.{is_among-joined}
use Rattle.wcv_syntax.specs.ExternName.{Form}
use Rattle.wcv_syntax.specs.FormOf.{form_of}
use Rattle.wcv_types.specs.Tree.{Text}
use Rattle.wcv_names.specs.KeySet.{HasKeys, key_text_of, with_key, keys_in}

-- ## Keys of names

or_swap : (a b c : Bool) → (a || (b || c)) ≡ (b || (a || c))
or_swap true true c = refl
or_swap true false c = refl
or_swap false true c = refl
or_swap false false c = refl

or_self : (a b : Bool) → (a || (a || b)) ≡ (a || b)
or_self true b = refl
or_self false b = refl

pub key_once : (t : Text) (o : Option Form) (ks : List Text) → is_among t (with_key o (with_key o ks)) ≡ is_among t (with_key o ks)
key_once t None ks = refl
key_once t (Some f) ks = or_self (bytes_eq t (key_text_of f)) (is_among t ks)

pub keys_swap : (t : Text) (o p : Option Form) (ks : List Text) → is_among t (with_key o (with_key p ks)) ≡ is_among t (with_key p (with_key o ks))
keys_swap t None p ks = refl
keys_swap t (Some f) None ks = refl
keys_swap t (Some f) (Some g) ks = or_swap (bytes_eq t (key_text_of f)) (bytes_eq t (key_text_of g)) (is_among t ks)

pub key_on : (t : Text) (o : Option Form) (ks ls : List Text) → is_among t ks ≡ is_among t ls → is_among t (with_key o ks) ≡ is_among t (with_key o ls)
key_on t None ks ls h = h
key_on t (Some f) ks ls h = ap (λ (b : Bool). bytes_eq t (key_text_of f) || b) h

keys_behind : (t n : Text) (ns : List Text) → is_among t (keys_in (ns ++ n ∷ [])) ≡ is_among t (with_key (form_of n) (keys_in ns))
keys_behind t n [] = refl
keys_behind t n (m ∷ ns) = key_on t (form_of m) (keys_in (ns ++ n ∷ [])) (with_key (form_of n) (keys_in ns)) (keys_behind t n ns) ∙ keys_swap t (form_of m) (form_of n) (keys_in ns)

-- the set with the key of a name has the keys of the names with that one
pub key_joins : (n : Text) (f : Form) (k : Text) (old new ns : List Text) → Some f ≡ form_of n → k ≡ key_text_of f → new ≡ old ++ k ∷ [] → HasKeys old ns → HasKeys new (ns ++ n ∷ [])
key_joins n f k old new ns e w h has t =
    ap (is_among t) h ∙ sym (is_among-joined t k old) ∙ (λ j. bytes_eq t (w j) || has t j) ∙ ap (λ (o : Option Form). is_among t (with_key o (keys_in ns))) e ∙ sym (keys_behind t n ns)
