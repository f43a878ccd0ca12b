-- How a tape grows while a value is read.
use Rattle.std.specs.Prelude.{◌≡◌, ℕ, ◌<◌, ◌≤◌, List, ◌++◌, map, length, take, get_or, ⊤}
use Rattle.json.specs.Token.{Token, begin_object, end_object, begin_array, end_array, key, string, number, boolean, null}
use Rattle.json.specs.Tape.{Passes}
use Rattle.wcv_listing.specs.Tape.{CountsAt}
use Rattle.wcv_listing.specs.declared.tape_node.TapeNode.{TapeNode}
use Rattle.wcv_listing.specs.declared.tape_node.TapeNode.TheVariants.{Object, EndObject, Array, EndArray, Key, String, Number, Bool, Null}

-- the token for which a node stands
abbrev pub node_token : TapeNode → Token
node_token (Object a) = begin_object
node_token EndObject = end_object
node_token (Array a k) = begin_array
node_token EndArray = end_array
node_token (Key s) = key s.now
node_token (String s) = string s.now
node_token (Number s) = number s.now
node_token (Bool b) = boolean b
node_token Null = null

-- what a link says among all tokens, those too that are still to be read
abbrev pub LinkAt : List Token → ℕ → TapeNode → Type 0
LinkAt all i (Object a) = Passes all i a
LinkAt all i EndObject = ⊤
LinkAt all i (Array a k) = Passes all i a × CountsAt all i k
LinkAt all i EndArray = ⊤
LinkAt all i (Key s) = ⊤
LinkAt all i (String s) = ⊤
LinkAt all i (Number s) = ⊤
LinkAt all i (Bool b) = ⊤
LinkAt all i Null = ⊤

abbrev pub Linked : List Token → ℕ → List TapeNode → Type 0
Linked all from nodes = (i : ℕ) → from ≤ i → i < length nodes → LinkAt all i (get_or nodes i Null)

-- tokens have moved from the reader to the nodes, and the new nodes are linked
pub record Grown (old : List TapeNode) (left : List Token) (new : List TapeNode) (rest : List Token) : Type 0 where
  pub same : map node_token new ++ rest ≡ map node_token old ++ left
  pub longer : length old ≤ length new
  pub front : take (length old) new ≡ old
  pub linked : Linked (map node_token old ++ left) (length old) new
