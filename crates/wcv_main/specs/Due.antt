-- What is due for the words and the bytes of a run, where nothing fails.
use Rattle.wcv_core.specs.Limits.{max_listing}
use Rattle.std.specs.Prelude.{ℕ, ◌≡◌, ◌⊎◌, ◌+◌, ◌*◌, List, [], ◌++◌, All, length, nat_lt, if◌then◌else◌, codes, Option, Some, None, Result, Ok, Err}
use Rattle.std.specs.Option.{option_map}
use Rattle.std.specs.Fmt.{decimal}
use Rattle.wcv_core.specs.Features.{default_features}
use Rattle.wcv_core.specs.Kinds.{kind_name}
use Rattle.wcv_core.specs.Names.{Place, base}
use Rattle.wcv_core.specs.declared.error.ErrorKind.{ErrorKind}
use Rattle.wcv_core.specs.declared.features.WasmFeatures.{WasmFeatures}
use Rattle.serde_json.specs.Written.{compact_text}
use Rattle.wcv_syntax.specs.Model.{Entry, Items}
use Rattle.wcv_syntax.specs.View.{items_of}
use Rattle.wcv_types.specs.Text.{type_text}
use Rattle.wcv_listing.specs.Generated.{generated}
use Rattle.wcv_listing.specs.Listing.{Outcome, not_json, bad_shape, listed, outcome_of}
use Rattle.wcv_write.specs.Indices.{numbers}
use Rattle.wcv_write.specs.Listing.{listing_data}
use Rattle.wcv_bytes.specs.declared.fault.BinaryFault.{BinaryFault}
use Rattle.wcv_bytes.specs.declared.class.Class.{Class}
use Rattle.wcv_bytes.specs.declared.class.Class.TheVariants.{Malformed, Unsupported, TooMuch}
use Rattle.wcv_bytes.specs.Faults.{class_of}
use Rattle.wcv_binary.specs.Binary.{binary_of, binary_within}
use Rattle.wcv_main.specs.declared.reading.Reading.{Reading}
use Rattle.wcv_main.specs.declared.reading.Reading.TheVariants as reading
use Rattle.wcv_main.specs.declared.status.Status.{Status}
use Rattle.wcv_main.specs.declared.status.Status.TheVariants as status
use Rattle.wcv_lower.specs.Context.{lengths}
use Rattle.wcv_lower.specs.Ending.{type_at_end}
use Rattle.wcv_lower.specs.Trees.{Type_tree, Tree_stack, node_tree}
use Rattle.wcv_growth.specs.Listed.{ListsResources}
use Rattle.wcv_growth.specs.Nested.{nested_types}
use Rattle.wcv_growth.specs.Valid.{ValidTo, Refused}
use Rattle.wcv_main.specs.Commands.{reading_of, made_number}
use Rattle.wcv_main.specs.Report.{line, report}

-- the outcome of a run
pub data Due : Type 0 where
  wrong_words : Due
  too_long : Due
  no_json : Due
  -- JSON that is no listing, with a position
  no_shape : ℕ → Due
  -- more bytes than a binary may have, or more of them to keep
  binary_too_long too_much_to_keep : Due
  -- bytes that are no component binary, or one with a part that no listing says, with the offset
  no_binary no_form : ℕ → Due
  -- a component, by the features that it may use, its items and the offset of its end
  sections : WasmFeatures → Items → ℕ → Due
  -- the listing of a component, by the features that it names, its items and the offset of its end
  listing : Option WasmFeatures → List Entry → ℕ → Due
  -- the listing that is made for a number
  made : ℕ → Due

-- ## What bytes read as

abbrev pub due_of_outcome : Outcome → Due
due_of_outcome not_json = no_json
due_of_outcome (bad_shape at) = no_shape at
due_of_outcome (listed l) = sections l.features (items_of l.entries) l.end

abbrev pub due_of_class : Class → ℕ → Due
due_of_class Malformed at = no_binary at
due_of_class Unsupported at = no_form at
due_of_class TooMuch at = too_much_to_keep

-- a component as a binary gives it: its items, and the offset of its end
abbrev pub Binary_form : Type 0
Binary_form = List Entry × ℕ

-- what is due for a binary that was read, or for what stopped it
abbrev pub due_of_read : (Binary_form → Due) → Result Binary_form BinaryFault → Due
due_of_read due (Ok b) = due b
due_of_read due (Err f) = due_of_class (class_of f.why) f.at

-- the component that it holds
abbrev pub component_due : WasmFeatures → Binary_form → Due
component_due features b = sections features (items_of b.0) b.1

-- its listing
abbrev pub listing_due : Option WasmFeatures → Binary_form → Due
listing_due features b = listing features b.0 b.1

-- how many components and declared types may stand in each other where a listing is written, the last of them not
-- counted: JSON nests 127 levels, of which each of them takes three, the root two, and what stands in an item at most nine
abbrev pub max_listed_depth : ℕ
max_listed_depth = 37

-- what bytes read as that are not too many
abbrev pub due_of_short : Reading → List ℕ → Due
due_of_short reading.Listing bytes = due_of_outcome (outcome_of bytes)
due_of_short (reading.Binary features) bytes = due_of_read (component_due features) (binary_of bytes)
due_of_short (reading.ToListing features) bytes = due_of_read (listing_due features) (binary_within max_listed_depth bytes)

abbrev pub due_of_long : Reading → Due
due_of_long reading.Listing = too_long
due_of_long (reading.Binary features) = binary_too_long
due_of_long (reading.ToListing features) = binary_too_long

abbrev pub due_of_bytes : Reading → List ℕ → Due
due_of_bytes r bytes = if nat_lt max_listing (length bytes) then due_of_long r else due_of_short r bytes

-- ## What words ask for

abbrev pub due_of_number : Option ℕ → Due
due_of_number None = wrong_words
due_of_number (Some n) = made n

-- what is due for words with which nothing is read
abbrev pub due_unread : List (List ℕ) → Due
due_unread words = due_of_number (made_number words)

-- what is due for words and bytes, where the source may not tell them: words that read none have their outcome
-- whatever the bytes are
abbrev pub told_by : Option Reading → List (List ℕ) → Option (List ℕ) → Option Due
told_by (Some r) words left = option_map (due_of_bytes r) left
told_by None words left = Some (due_unread words)

abbrev pub due_over : List (List ℕ) → Option (List ℕ) → Option Due
due_over words left = told_by (reading_of words) words left

abbrev pub usage : List ℕ
usage = line (codes "usage: wcv validate, wcv link TURNS or wcv make N")

-- the report of a valid root: the lengths of its index spaces, and its type at the end
abbrev pub accepted_text : Tree_stack → Type_tree → List ℕ
accepted_text d t = report (lengths d.top) ++ type_text d.groups t

-- the number for which a listing was made, and the lengths of the root's index spaces
abbrev pub made_text : ℕ → Tree_stack → List ℕ
made_text n d = line (codes "made " ++ decimal n) ++ report (lengths d.top)

-- the two lines of a refusal; the words of the message are not promised
abbrev pub refusal_text : ErrorKind → ℕ → List ℕ → List ℕ
refusal_text kind offset message = line (codes "refused " ++ kind_name kind ++ codes " at " ++ decimal offset) ++ line message

-- so it is, with some message
abbrev pub IsRefusalText : ErrorKind → ℕ → List ℕ → Type 0
IsRefusalText kind offset text = (message : List ℕ) × (text ≡ refusal_text kind offset message)

-- the root is valid: its report, of a type that lists each free resource as imported or defined, never both, at a path that leads to it,
-- as the type of each component inside it does
pub record IsReport (features : WasmFeatures) (is : Items) (s : Status) (text : List ℕ) : Type 0 where
  -- the stack at the root's end, and the type there
  pub context : Tree_stack
  pub ty : Type_tree
  pub valid : ValidTo features is context
  pub typed : type_at_end (node_tree (base [])) context.top ≡ Some ty
  pub listed : ListsResources ty
  pub inside : All (λ (x : Place × Type_tree). ListsResources x.1) (nested_types features is)
  pub status_is : s ≡ status.Done
  pub text_is : text ≡ accepted_text context ty

-- the listing that is made for a number is valid: no type is written
pub record IsSummary (n : ℕ) (s : Status) (text : List ℕ) : Type 0 where
  -- the stack at the root's end
  pub context : Tree_stack
  pub valid : ValidTo default_features (generated n) context
  pub status_is : s ≡ status.Done
  pub text_is : text ≡ made_text n context

-- the root is refused: a kind that is a cause at the place of refusal, and its offset
abbrev pub IsRefusal : WasmFeatures → Items → ℕ → Status → List ℕ → Type 0
IsRefusal features is end s text = (kind : ErrorKind) × (offset : ℕ) × Refused features is end kind offset × (s ≡ status.Refused) × IsRefusalText kind offset text

-- a line that says where a binary is not read on, and one with some message
abbrev pub IsFaultText : List ℕ → ℕ → List ℕ → Type 0
IsFaultText words at text = (message : List ℕ) × (text ≡ line (words ++ codes " at " ++ decimal at) ++ line message)

-- this status with this text is due
abbrev pub IsExpected : Due → Status → List ℕ → Type 0
IsExpected wrong_words s text = (s ≡ status.Words) × (text ≡ usage)
IsExpected too_long s text = (s ≡ status.TooLong) × (text ≡ line (codes "listing is longer than 67108864 bytes"))
IsExpected no_json s text = (s ≡ status.Listing) × (text ≡ line (codes "bad listing: not JSON"))
IsExpected (no_shape at) s text = (s ≡ status.Listing) × (text ≡ line (codes "bad listing at " ++ decimal at))
IsExpected binary_too_long s text = (s ≡ status.TooLong) × (text ≡ line (codes "binary is longer than 67108864 bytes"))
IsExpected too_much_to_keep s text = (s ≡ status.TooLong) × (text ≡ line (codes "binary has more than 8388608 bytes to keep"))
IsExpected (no_binary at) s text = (s ≡ status.Listing) × IsFaultText (codes "bad binary") at text
IsExpected (no_form at) s text = (s ≡ status.Listing) × IsFaultText (codes "unsupported") at text
IsExpected (sections features is end) s text = IsReport features is s text ⊎ IsRefusal features is end s text
IsExpected (listing features es end) s text = (s ≡ status.Done) × (text ≡ line (compact_text (listing_data numbers features es end)))
IsExpected (made n) s text = IsSummary n s text ⊎ IsRefusal default_features (generated n) (5 + 3 * n) s text
