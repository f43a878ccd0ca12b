-- Words for JSON data that are made, and the tokens that they are written as.
use Rattle.std.specs.Prelude.{ℕ, List, [], ◌∷◌, Bool, true, if◌then◌else◌, Option, Some, None}
use Rattle.json.specs.Token.{Token}
use Rattle.json.specs.Tree.{json_tokens, items_tokens, members_tokens}
use Rattle.serde_json.specs.Data.{Data, boolean, number, array, object, unsigned, Items, no_items, item, Members, no_members, member}
use Rattle.serde_json.specs.Written.{outline, items_outline, members_outline}

-- a number
abbrev pub count : ℕ → Data
count n = number (unsigned n)

-- an array of things of one kind
abbrev pub items_of : {X : Type 0} → (X → Data) → List X → Items
items_of f [] = no_items
items_of f (x ∷ xs) = item (f x) (items_of f xs)

abbrev pub list_data : {X : Type 0} → (X → Data) → List X → Data
list_data f xs = array (items_of f xs)

-- an array of two
abbrev pub pair : Data → Data → Data
pair a b = array (item a (item b no_items))

-- an array of three
abbrev pub triple : Data → Data → Data → Data
triple a b c = array (item a (item b (item c no_items)))

-- an object of one member
abbrev pub under : List ℕ → Data → Data
under key d = object (member key d no_members)

-- a member where there is something for it, before others
abbrev pub with_optional : {X : Type 0} → List ℕ → (X → Data) → Option X → Members → Members
with_optional key f None ms = ms
with_optional key f (Some x) ms = member key (f x) ms

-- a mark where it is true, before others
abbrev pub with_mark : List ℕ → Bool → Members → Members
with_mark key mark ms = if mark then member key (boolean true) ms else ms

-- ## Tokens

abbrev pub tokens_of : Data → List Token
tokens_of d = json_tokens (outline d)

abbrev pub tokens_of_items : Items → List Token
tokens_of_items ds = items_tokens (items_outline ds)

abbrev pub tokens_of_members : Members → List Token
tokens_of_members ms = members_tokens (members_outline ms)

-- those of a mark where it is true
abbrev pub mark_tokens : List ℕ → Bool → List Token
mark_tokens key mark = if mark then Token.key key ∷ Token.boolean true ∷ [] else []

-- those of a member where there is something for it
abbrev pub optional_tokens : {X : Type 0} → List ℕ → (X → Data) → Option X → List Token
optional_tokens key f None = []
optional_tokens key f (Some x) = Token.key key ∷ tokens_of (f x)
