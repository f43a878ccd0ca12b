-- What the members of a root object say, as they are read one by one.
use Rattle.std.specs.Prelude.{ℕ, ◌≡◌, List, [], ◌∷◌, ◌++◌, length, true, not, if◌then◌else◌, Option, Some, None, option_map, Result, Ok, Err, codes}
use Rattle.json.specs.Json as json
use Rattle.json.specs.Token.{Token}
use Rattle.serde_json.specs.Data.{Data, null, boolean, number, string, array, object, Items, item, Members, no_members, put}
use Rattle.serde_json.specs.Find.{get}
use Rattle.wcv_syntax.specs.Model.{Entry}
use Rattle.wcv_syntax.specs.View.{entries}
use Rattle.wcv_listing.specs.Features.{features_in}
use Rattle.wcv_listing.specs.Fields.{only_keys, natural_in, array_in}
use Rattle.wcv_listing.specs.Listing.{entries_from}
use Rattle.wcv_listing.specs.Parsed.{data_of, items, members, value_in_range}
use Rattle.wcv_listing.specs.declared.root.RootSeen.{RootSeen}

abbrev pub root_keys : List (List ℕ)
root_keys = codes "version" ∷ codes "items" ∷ codes "end" ∷ codes "features" ∷ []

-- the entries that were made, or the position of the first item without a form
abbrev pub made : List Entry → Option ℕ → Result (List Entry) ℕ
made es None = Ok es
made es (Some at) = Err at

-- entries, and then the rest
abbrev pub after : List Entry → Result (List Entry) ℕ → Result (List Entry) ℕ
after before (Ok es) = Ok (before ++ es)
after before (Err at) = Err at

-- what was made, where the items are a list
abbrev pub seen_items : RootSeen → Option (Result (List Entry) ℕ)
seen_items s = if s.is_list then Some (made (entries s.items.items) s.bad) else None

-- what is made of items when more of them come: the entries are those so far, or the position is of one without a form
abbrev pub going : List Entry → Option ℕ → Items → Result (List Entry) ℕ
going es None ds = after es (entries_from (length es) ds)
going es (Some at) ds = Err at

-- what was seen is what these members say
pub record IsSeen (s : RootSeen) (ms : Members) : Type 0 where
  pub keys : not s.other ≡ only_keys root_keys ms
  pub version : s.version ≡ natural_in (codes "version") (object ms)
  pub end : s.end ≡ natural_in (codes "end") (object ms)
  pub features : s.features ≡ features_in (get (codes "features") (object ms))
  pub items : seen_items s ≡ option_map (entries_from 0) (array_in (codes "items") (object ms))

-- what was seen is what the root says; where it is no object, that there is something else
abbrev pub SeenOf : RootSeen → Data → Type 0
SeenOf s null = s.other ≡ true
SeenOf s (boolean b) = s.other ≡ true
SeenOf s (number n) = s.other ≡ true
SeenOf s (string t) = s.other ≡ true
SeenOf s (array ds) = s.other ≡ true
SeenOf s (object ms) = IsSeen s ms

-- all that was seen beside the items stands
pub record KeepsOthers (s s' : RootSeen) : Type 0 where
  pub version : s'.version ≡ s.version
  pub end : s'.end ≡ s.end
  pub features : s'.features ≡ s.features
  pub other : s'.other ≡ s.other

-- one item more was made
pub record HasItem (s s' : RootSeen) (d : Data) : Type 0 where
  pub made : (ds : Items) → going (entries s.items.items) s.bad (item d ds) ≡ going (entries s'.items.items) s'.bad ds
  pub list : s'.is_list ≡ s.is_list
  pub keeps : KeepsOthers s s'

-- a list of items was read up to its closing bracket
pub record ReadsItems (ts ts' : List Token) (s s' : RootSeen) : Type 0 where
  pub read : json.Items
  pub is_read : json.items (value_in_range 125) (length ts) ts ≡ Some (read, ts')
  pub made : seen_items s' ≡ Some (entries_from 0 (items read))
  pub keeps : KeepsOthers s s'

-- the value of a member was read
pub record ReadsMember (key : List ℕ) (ts ts' : List Token) (s s' : RootSeen) : Type 0 where
  pub read : json.Json
  pub is_read : value_in_range 126 ts ≡ Some (read, ts')
  pub seen : (ms : Members) → IsSeen s ms → IsSeen s' (put key (data_of read) ms)

-- all members were read up to the closing brace
pub record ReadsMembers (ts ts' : List Token) (s : RootSeen) : Type 0 where
  pub read : json.Members
  pub is_read : json.members (value_in_range 126) (length ts) ts ≡ Some (read, ts')
  pub seen : IsSeen s (members read no_members)

-- the root was read
pub record ReadsRoot (ts ts' : List Token) (s : RootSeen) : Type 0 where
  pub read : json.Json
  pub is_read : value_in_range 127 ts ≡ Some (read, ts')
  pub seen : SeenOf s (data_of read)
