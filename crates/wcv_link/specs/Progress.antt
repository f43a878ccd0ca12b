-- How items, one after another, change the states that are open.
use Rattle.std.specs.Prelude.{ℕ, List, length, All, Bool, true, false, Some, ◌<◌, ◌≡◌, ◌⊎◌}
use Rattle.wcv_core.specs.Names.{Place}
use Rattle.wcv_core.specs.Refusal.{error_kind, error_offset}
use Rattle.wcv_core.specs.declared.error.Error.{Error}
use Rattle.wcv_core.specs.declared.error.ErrorKind.TheVariants as kind
use Rattle.wcv_core.specs.declared.features.WasmFeatures.{WasmFeatures}
use Rattle.wcv_syntax.specs.Model.{Form, type_item, core_type_item, alias_item, component_item, Items}
use Rattle.wcv_syntax.specs.declared.component_type.ComponentTypeRef.{ComponentTypeRef}
use Rattle.wcv_syntax.specs.declared.name.ComponentExport.{ComponentExport}
use Rattle.wcv_types.specs.Arena.{Arena}
use Rattle.wcv_types.specs.Standing.{Extends}
use Rattle.wcv_lower.specs.Given.{GivenNames, names_of, GivesAt}
use Rattle.wcv_lower.specs.Items.{read_item}
use Rattle.wcv_lower.specs.Names.{Names, Under}
use Rattle.wcv_lower.specs.Trees.{Tree_context, Tree_stack, tree_maker}
use Rattle.wcv_spaces.specs.Contents.{Contents, stack_of}
use Rattle.wcv_instantiate.specs.Instances.{MayOpen, ItemMayOpen}
use Rattle.wcv_spaces.specs.Promises.{numbers_of, Keeps}
use Rattle.wcv_decls.specs.Declaring.{innermost, around, features_in, stack_in}
use Rattle.wcv_decls.specs.Stack.{IsOpen, AreCalm, all_uncharged}
use Rattle.wcv_growth.specs.Nested.{Nested_types}
use Rattle.wcv_link.specs.Reached.{IsReached}
use Rattle.wcv_growth.specs.Valid.{ValidItem, RefusedItem, Refused}
use Rattle.wcv_instances.specs.ComponentInstances.{AllMayInstantiate}
use Rattle.wcv_link.specs.ItemCalls.{ItemRead, ItemTells, ItemsRead, ItemRefused, ItemsRefused}
use Rattle.wcv_link.specs.Told.{Ended}
use Rattle.wcv_link.specs.declared.nesting.Nesting.{Nesting}

-- the states that are open may be used, the innermost last, their ids stand in the arena, and what stands in them owns apart
pub record IsReady (a : Arena) (ss : List Contents) : Type 0 where
  pub some : 0 < length ss
  pub usable : All (IsOpen a) ss
  pub calm : AreCalm a ss

-- ## One item

-- the item is a type, a core type, an alias or a component, which looks at the states around it too
abbrev pub looks_around : Form → Bool
looks_around (type_item t) = true
looks_around (core_type_item t) = true
looks_around (alias_item a) = true
looks_around (component_item is end) = true
looks_around f = false

-- the error is out of memory, or one of that kind and that offset is a refusal of the item
abbrev pub MemoryOrRefusedItem : {M : Type 0} → WasmFeatures → Names → Place → Tree_stack → ℕ → Form → Error M → Type 0
MemoryOrRefusedItem fs names p s at f e = (error_kind e ≡ kind.OutOfMemory) ⊎ RefusedItem fs names p s at f (error_kind e) (error_offset e)

-- the state grew by the item at that place, by names that the arena gave, in the contexts further out, which became others, and the item
-- is valid
pub record GrewAt (a b : Arena) (outer outer' : List Tree_context) (s s' : Contents) (f : Form) (p : Place) : Type 0 where
  pub names : GivenNames
  pub given : GivesAt (Under p) (numbers_of a) (numbers_of b) names
  pub grown : read_item s.features (tree_maker (names_of names)) p (stack_of a s outer) f ≡ Some (stack_of b s' outer')
  pub free : ValidItem s.features (names_of names) p (stack_of a s outer) f

-- the error is out of memory, or the item at that place is refused so by names that the arena gave; it stands at that offset
pub record RefusedAt {M : Type 0} (a b : Arena) (outer : List Tree_context) (s : Contents) (f : Form) (p : Place) (offset : ℕ) (e : Error M) : Type 0 where
  pub names : GivenNames
  pub given : GivesAt (Under p) (numbers_of a) (numbers_of b) names
  pub caused : MemoryOrRefusedItem s.features (names_of names) p (stack_of a s outer) offset f e

-- an instance may be made of each instance type that stands in the state, and of the type of each instance that is exported
abbrev pub AllMayOpen : Arena → Contents → Type 0
AllMayOpen a s = ((r : ComponentTypeRef) → MayOpen a s.spaces.types r) × ((e : ComponentExport) → ItemMayOpen a s.spaces.instances e)

-- so of each component that stands in the innermost state
abbrev pub LastMayInstantiate : Arena → List Contents → Type 0
LastMayInstantiate a ss = AllMayInstantiate a (innermost ss)

-- a state took the item, at whatever place and in whatever contexts
pub record TakesItem (a b : Arena) (s s' : Contents) (f : Form) : Type 0 where
  pub grew : (outer : List Tree_context) (p : Place) → GrewAt a b outer outer s s' f p
  pub live : s'.spent ≡ false
  pub keeps : Keeps a b s s'

-- it did not
pub record LeavesItem {M : Type 0} (a b : Arena) (s : Contents) (f : Form) (offset : ℕ) (e : Error M) : Type 0 where
  pub refused : (outer : List Tree_context) (p : Place) → RefusedAt a b outer s f p offset e
  pub arena : Extends a b

-- the states may be used further, and those around the innermost stay but for the sizes of what was aliased into them
pub record GoesOn (a b : Arena) (ss ss' : List Contents) : Type 0 where
  pub ready : IsReady b ss'
  pub around : all_uncharged (around ss') ≡ all_uncharged (around ss)
  pub features : features_in ss' ≡ features_in ss
  pub arena : Extends a b

-- the item was read into the innermost of them, at whatever place
pub record AcceptsItem (a b : Arena) (ss ss' : List Contents) (f : Form) : Type 0 where
  pub reads : (p : Place) → ItemRead (features_in ss) p (stack_in a ss) f (stack_in b ss') (numbers_of a) (numbers_of b)
  pub goes_on : GoesOn a b ss ss'

-- so where components of those types end in it, which ended too, at the place where it was read
pub record TellsItem (a b : Arena) (n n' : Nesting) (ss ss' : List Contents) (f : Form) : Type 0 where
  pub nested : Place → Nested_types
  pub reads : (p : Place) → ItemTells (features_in ss) p (stack_in a ss) f (stack_in b ss') (numbers_of a) (numbers_of b) (nested p)
  pub goes_on : GoesOn a b ss ss'
  pub ended : Ended b n n' (nested n.place.items)

-- it was refused, at whatever place; it stands at that offset
pub record RefusesItem {M : Type 0} (a b : Arena) (ss : List Contents) (f : Form) (offset : ℕ) (e : Error M) : Type 0 where
  pub refused : (p : Place) → (error_kind e ≡ kind.OutOfMemory) ⊎ ItemRefused (features_in ss) p (stack_in a ss) offset f (error_kind e) (error_offset e) (numbers_of a) (numbers_of b)
  pub arena : Extends a b

-- ## A list of items

-- they were read, one after another, at whatever place, where components of those types end in them
pub record AcceptsItems (a b : Arena) (ss ss' : List Contents) (is : Items) (nested : Place → Nested_types) : Type 0 where
  pub reads : (w : Place) → ItemsRead (features_in ss) w 0 (stack_in a ss) is (stack_in b ss') (numbers_of a) (numbers_of b) (nested w)
  pub goes_on : GoesOn a b ss ss'
  pub reached : IsReached b ss'

-- these ended too, at the place where they were read
pub record TellsItems (a b : Arena) (n n' : Nesting) (ss ss' : List Contents) (is : Items) : Type 0 where
  pub nested : Place → Nested_types
  pub accepts : AcceptsItems a b ss ss' is nested
  pub ended : Ended b n n' (nested n.place.items)

-- one of them was refused, whatever the offset of their end
pub record RefusesItems {M : Type 0} (a b : Arena) (ss : List Contents) (is : Items) (e : Error M) : Type 0 where
  pub refused : (w : Place) (end : ℕ) → (error_kind e ≡ kind.OutOfMemory) ⊎ ItemsRefused (features_in ss) w 0 (stack_in a ss) is end (error_kind e) (error_offset e) (numbers_of a) (numbers_of b)
  pub arena : Extends a b

-- the root was refused by a cause where it is refused, or out of memory
abbrev pub MemoryOrRefused : {M : Type 0} → WasmFeatures → Items → ℕ → Error M → Type 0
MemoryOrRefused features is end e = (error_kind e ≡ kind.OutOfMemory) ⊎ Refused features is end (error_kind e) (error_offset e)
