-- The data that a parsed text holds. A number that is out of range is seen as an infinity; a text with such a number is refused.
use Rattle.std.specs.Prelude.{ℕ, Bool, true, false, ◌&&◌, if◌then◌else◌, Option, Some, None, is_some, option_and_then}
use Rattle.std.specs.Float.{inf}
use Rattle.json.specs.Json as json
use Rattle.json.specs.Json.{Parse}
use Rattle.serde_json.specs.Data.{Num, float, Data, null, boolean, number, string, array, object, Items, no_items, item, Members, no_members, put}
use Rattle.serde_json.specs.Read.{number_of}

abbrev pub number_data : Option Num → Data
number_data None = number (float (inf false))
number_data (Some n) = number n

abbrev mutual
  pub data_of : json.Json → Data
  data_of json.null = null
  data_of (json.boolean b) = boolean b
  data_of (json.number s) = number_data (number_of s)
  data_of (json.string s) = string s
  data_of (json.array js) = array (items js)
  data_of (json.object ms) = object (members ms no_members)

  pub items : json.Items → Items
  items json.no_items = no_items
  items (json.item j js) = item (data_of j) (items js)

  -- behind those found; the members go in one after another, so the last value of a key stays
  pub members : json.Members → Members → Members
  members json.no_members found = found
  members (json.member k j ms) found = members ms (put k (data_of j) found)

-- each number is in range
abbrev mutual
  pub in_range : json.Json → Bool
  in_range json.null = true
  in_range (json.boolean b) = true
  in_range (json.number s) = is_some (number_of s)
  in_range (json.string s) = true
  in_range (json.array js) = items_in_range js
  in_range (json.object ms) = members_in_range ms

  pub items_in_range : json.Items → Bool
  items_in_range json.no_items = true
  items_in_range (json.item j js) = in_range j && items_in_range js

  pub members_in_range : json.Members → Bool
  members_in_range json.no_members = true
  members_in_range (json.member k j ms) = in_range j && members_in_range ms

-- a value of JSON's grammar, with what is left behind it, where each number in it is in range
abbrev pub value_in_range : ℕ → Parse json.Json
value_in_range depth ts = option_and_then (λ p. if in_range p.0 then Some p else None) (json.value depth ts)
