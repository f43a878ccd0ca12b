-- What a node tells of the value that begins at it.
use Rattle.std.proofs.Common.{◌≡◌, ℕ, List, ◌∷◌, ◌++◌, true, false, is_some, Option, Some, None, option_map, refl, sym, ap, ◌∙◌, subst}
use Rattle.std.proofs.Common as common
use Rattle.std.specs.Borrow.{Bor}
use Rattle.json.specs.Token.{Token}
use Rattle.json.specs.Json.{Json, null, boolean, number, string, array, object, Items, no_items, Members, no_members, after_end_array}
use Rattle.wcv_listing.specs.Grown.{node_token}
use Rattle.json.specs.Find.{as_array, as_object, as_str, as_number, as_bool, is_null}
use Rattle.json.specs.Tree.{json_tokens}
use Rattle.wcv_listing.specs.declared.tape_node.TapeNode.{TapeNode}
use Rattle.wcv_listing.specs.declared.tape_node.TapeNode.TheVariants.{Object, EndObject, Array, EndArray, Key, String, Number, Bool, Null}
use Rattle.json.proofs.Found.{IsKey}
use Rattle.json.proofs.Grammar.{value_is}
use Rattle.wcv_listing.specs.Tape.{or_else, found, value_here, json_of}
use Rattle.wcv_listing.proofs.Places.{spelled}

abbrev pub Shape : TapeNode → Json → Type 0
Shape (Object a) j = (ms : Members) × (j ≡ object ms)
Shape EndObject j = ⊥
Shape (Array a k) j = (js : Items) × (j ≡ array js)
Shape EndArray j = ⊥
Shape (Key s) j = ⊥
Shape (String s) j = j ≡ string s.now
Shape (Number s) j = j ≡ number s.now
Shape (Bool b) j = j ≡ boolean b
Shape Null j = j ≡ null

an_object : (a : ℕ) (ts : List Token) (i j : Json) (r : List Token) → i ≡ j → Token.begin_object ∷ ts ≡ json_tokens j ++ r → (ms : Members) × (i ≡ object ms)
an_object a ts i null r e s = absurd (cc)
an_object a ts i (boolean b) r e s = absurd (cc)
an_object a ts i (number x) r e s = absurd (cc)
an_object a ts i (string x) r e s = absurd (cc)
an_object a ts i (array js) r e s = absurd (cc)
an_object a ts i (object ms) r e s = (ms, e)

an_array : (a : ℕ) (ts : List Token) (i j : Json) (r : List Token) → i ≡ j → Token.begin_array ∷ ts ≡ json_tokens j ++ r → (js : Items) × (i ≡ array js)
an_array a ts i null r e s = absurd (cc)
an_array a ts i (boolean b) r e s = absurd (cc)
an_array a ts i (number x) r e s = absurd (cc)
an_array a ts i (string x) r e s = absurd (cc)
an_array a ts i (array js) r e s = (js, e)
an_array a ts i (object ms) r e s = absurd (cc)

nothing : (ts : List Token) → value_here ts ≡ None → is_some (value_here ts) ≡ true → ⊥
nothing ts none h = let no : is_some (value_here ts) ≡ false = ap is_some none in absurd (cc)

one : (j : Json) (all ts : List Token) → value_here all ≡ Some (j, ts) → value_here all ≡ Some (json_of all, ts)
one j all ts e = e ∙ ap (λ x. Some (x, ts)) (sym (ap (found null) e))

shape : (n : TapeNode) (ts : List Token) → is_some (value_here (node_token n ∷ ts)) ≡ true → Shape n (json_of (node_token n ∷ ts))
shape (Object a) ts h = let s = spelled _ h in an_object a ts _ _ s.0 refl s.1
shape EndObject ts h = nothing _ (value_is 127 _) h
shape (Array a k) ts h = let s = spelled _ h in an_array a ts _ _ s.0 refl s.1
shape EndArray ts h = nothing _ (value_is 127 _) h
shape (Key s) ts h = nothing _ (value_is 127 _) h
shape (String s) ts h = ap (found null) (value_is 127 _)
shape (Number s) ts h = ap (found null) (value_is 127 _)
shape (Bool b) ts h = ap (found null) (value_is 127 _)
shape Null ts h = ap (found null) (value_is 127 _)

passed : (n : TapeNode) (ts : List Token) → ((a : ℕ) → n ≡ Object a → ⊥) → ((a k : ℕ) → n ≡ Array a k → ⊥) → is_some (value_here (node_token n ∷ ts)) ≡ true → value_here (node_token n ∷ ts) ≡ Some (json_of (node_token n ∷ ts), ts)
passed (Object a) ts o q h = absurd (o a refl)
passed EndObject ts o q h = absurd (nothing _ (value_is 127 _) h)
passed (Array a k) ts o q h = absurd (q a k refl)
passed EndArray ts o q h = absurd (nothing _ (value_is 127 _) h)
passed (Key s) ts o q h = absurd (nothing _ (value_is 127 _) h)
passed (String s) ts o q h = one (string s.now) _ ts (value_is 127 _)
passed (Number s) ts o q h = one (number s.now) _ ts (value_is 127 _)
passed (Bool b) ts o q h = one (boolean b) _ ts (value_is 127 _)
passed Null ts o q h = one null _ ts (value_is 127 _)

-- a value of one token ends behind it
pub passed_at : (n : TapeNode) (ts all : List Token) → all ≡ node_token n ∷ ts → ((a : ℕ) → n ≡ Object a → ⊥) → ((a k : ℕ) → n ≡ Array a k → ⊥) → is_some (value_here all) ≡ true → value_here all ≡ Some (json_of all, ts)
passed_at n ts all e o q h = subst (λ x. value_here x ≡ Some (json_of x, ts)) (sym e) (passed n ts o q (subst (λ x. is_some (value_here x) ≡ true) e h))

-- the shape of what stands where a node does
pub shape_at : (n : TapeNode) (ts all : List Token) → all ≡ node_token n ∷ ts → is_some (value_here all) ≡ true → Shape n (json_of all)
shape_at n ts all e h = subst (λ x. Shape n (json_of x)) (sym e) (shape n ts (subst (λ x. is_some (value_here x) ≡ true) e h))

abbrev pub node_str : TapeNode → Option (List ℕ)
node_str (Object a) = None
node_str EndObject = None
node_str (Array a k) = None
node_str EndArray = None
node_str (Key s) = None
node_str (String s) = Some s.now
node_str (Number s) = None
node_str (Bool b) = None
node_str Null = None

pub node_str_is : (n : TapeNode) (j : Json) → Shape n j → node_str n ≡ as_str j
node_str_is (Object a) j h = ap (as_str) (sym h.1)
node_str_is EndObject j h = absurd h
node_str_is (Array a k) j h = ap (as_str) (sym h.1)
node_str_is EndArray j h = absurd h
node_str_is (Key s) j h = absurd h
node_str_is (String s) j h = ap (as_str) (sym h)
node_str_is (Number s) j h = ap (as_str) (sym h)
node_str_is (Bool b) j h = ap (as_str) (sym h)
node_str_is Null j h = ap (as_str) (sym h)

pub node_str_else : (n : TapeNode) → ((x : Bor (List ℕ)) → n ≡ String x → ⊥) → None ≡ node_str n
node_str_else (Object a) never = refl
node_str_else EndObject never = refl
node_str_else (Array a k) never = refl
node_str_else EndArray never = refl
node_str_else (Key s) never = refl
node_str_else (String s) never = absurd (never s refl)
node_str_else (Number s) never = refl
node_str_else (Bool b) never = refl
node_str_else Null never = refl

abbrev pub node_number : TapeNode → Option (List ℕ)
node_number (Object a) = None
node_number EndObject = None
node_number (Array a k) = None
node_number EndArray = None
node_number (Key s) = None
node_number (String s) = None
node_number (Number s) = Some s.now
node_number (Bool b) = None
node_number Null = None

pub node_number_is : (n : TapeNode) (j : Json) → Shape n j → node_number n ≡ as_number j
node_number_is (Object a) j h = ap (as_number) (sym h.1)
node_number_is EndObject j h = absurd h
node_number_is (Array a k) j h = ap (as_number) (sym h.1)
node_number_is EndArray j h = absurd h
node_number_is (Key s) j h = absurd h
node_number_is (String s) j h = ap (as_number) (sym h)
node_number_is (Number s) j h = ap (as_number) (sym h)
node_number_is (Bool b) j h = ap (as_number) (sym h)
node_number_is Null j h = ap (as_number) (sym h)

pub node_number_else : (n : TapeNode) → ((x : Bor (List ℕ)) → n ≡ Number x → ⊥) → None ≡ node_number n
node_number_else (Object a) never = refl
node_number_else EndObject never = refl
node_number_else (Array a k) never = refl
node_number_else EndArray never = refl
node_number_else (Key s) never = refl
node_number_else (String s) never = refl
node_number_else (Number s) never = absurd (never s refl)
node_number_else (Bool b) never = refl
node_number_else Null never = refl

abbrev pub node_bool : TapeNode → Option common.Bool
node_bool (Object a) = None
node_bool EndObject = None
node_bool (Array a k) = None
node_bool EndArray = None
node_bool (Key s) = None
node_bool (String s) = None
node_bool (Number s) = None
node_bool (Bool b) = Some b
node_bool Null = None

pub node_bool_is : (n : TapeNode) (j : Json) → Shape n j → node_bool n ≡ as_bool j
node_bool_is (Object a) j h = ap (as_bool) (sym h.1)
node_bool_is EndObject j h = absurd h
node_bool_is (Array a k) j h = ap (as_bool) (sym h.1)
node_bool_is EndArray j h = absurd h
node_bool_is (Key s) j h = absurd h
node_bool_is (String s) j h = ap (as_bool) (sym h)
node_bool_is (Number s) j h = ap (as_bool) (sym h)
node_bool_is (Bool b) j h = ap (as_bool) (sym h)
node_bool_is Null j h = ap (as_bool) (sym h)

pub node_bool_else : (n : TapeNode) → ((x : common.Bool) → n ≡ Bool x → ⊥) → None ≡ node_bool n
node_bool_else (Object a) never = refl
node_bool_else EndObject never = refl
node_bool_else (Array a k) never = refl
node_bool_else EndArray never = refl
node_bool_else (Key s) never = refl
node_bool_else (String s) never = refl
node_bool_else (Number s) never = refl
node_bool_else (Bool b) never = absurd (never b refl)
node_bool_else Null never = refl

abbrev pub node_null : TapeNode → common.Bool
node_null (Object a) = false
node_null EndObject = false
node_null (Array a k) = false
node_null EndArray = false
node_null (Key s) = false
node_null (String s) = false
node_null (Number s) = false
node_null (Bool b) = false
node_null Null = true

pub node_null_is : (n : TapeNode) (j : Json) → Shape n j → node_null n ≡ is_null j
node_null_is (Object a) j h = ap (is_null) (sym h.1)
node_null_is EndObject j h = absurd h
node_null_is (Array a k) j h = ap (is_null) (sym h.1)
node_null_is EndArray j h = absurd h
node_null_is (Key s) j h = absurd h
node_null_is (String s) j h = ap (is_null) (sym h)
node_null_is (Number s) j h = ap (is_null) (sym h)
node_null_is (Bool b) j h = ap (is_null) (sym h)
node_null_is Null j h = ap (is_null) (sym h)

pub node_null_else : (n : TapeNode) → (n ≡ Null → ⊥) → false ≡ node_null n
node_null_else (Object a) never = refl
node_null_else EndObject never = refl
node_null_else (Array a k) never = refl
node_null_else EndArray never = refl
node_null_else (Key s) never = refl
node_null_else (String s) never = refl
node_null_else (Number s) never = refl
node_null_else (Bool b) never = refl
node_null_else Null never = absurd (never refl)

pub no_array : (n : TapeNode) (j : Json) → ((a k : ℕ) → n ≡ Array a k → ⊥) → Shape n j → as_array j ≡ None
no_array (Object a) j never h = ap as_array h.1
no_array EndObject j never h = absurd h
no_array (Array a k) j never h = absurd (never a k refl)
no_array EndArray j never h = absurd h
no_array (Key s) j never h = absurd h
no_array (String s) j never h = ap as_array h
no_array (Number s) j never h = ap as_array h
no_array (Bool b) j never h = ap as_array h
no_array Null j never h = ap as_array h

pub no_object : (n : TapeNode) (j : Json) → ((a : ℕ) → n ≡ Object a → ⊥) → Shape n j → as_object j ≡ None
no_object (Object a) j never h = absurd (never a refl)
no_object EndObject j never h = absurd h
no_object (Array a k) j never h = ap as_object h.1
no_object EndArray j never h = absurd h
no_object (Key s) j never h = absurd h
no_object (String s) j never h = ap as_object h
no_object (Number s) j never h = ap as_object h
no_object (Bool b) j never h = ap as_object h
no_object Null j never h = ap as_object h

pub array_is : (j : Json) (js : Items) → j ≡ array js → j ≡ array (or_else no_items (as_array j))
array_is j js e = e ∙ ap (λ x. array (or_else no_items (as_array x))) (sym e)

pub object_is : (j : Json) (ms : Members) → j ≡ object ms → j ≡ object (or_else no_members (as_object j))
object_is j ms e = e ∙ ap (λ x. object (or_else no_members (as_object x))) (sym e)

pub no_close : (n : TapeNode) (ts : List Token) → (n ≡ EndArray → ⊥) → after_end_array (node_token n ∷ ts) ≡ None
no_close (Object a) ts never = refl
no_close EndObject ts never = refl
no_close (Array a k) ts never = refl
no_close EndArray ts never = absurd (never refl)
no_close (Key s) ts never = refl
no_close (String s) ts never = refl
no_close (Number s) ts never = refl
no_close (Bool b) ts never = refl
no_close Null ts never = refl

pub no_key : (n : TapeNode) → ((s : Bor (List ℕ)) → n ≡ Key s → ⊥) → IsKey (node_token n) → ⊥
no_key (Object a) never h = h
no_key EndObject never h = h
no_key (Array a k) never h = h
no_key EndArray never h = h
no_key (Key s) never h = never s refl
no_key (String s) never h = h
no_key (Number s) never h = h
no_key (Bool b) never h = h
no_key Null never h = h
