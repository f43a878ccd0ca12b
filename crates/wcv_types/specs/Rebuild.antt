-- A node that is made again with other parts.
use Rattle.std.specs.Prelude.{ℕ, suc, List, [], ◌∷◌, ◌++◌, drop, length, map, Option, Some, Bool, true, false, eqb, All, slice_get, ◌≡◌}
use Rattle.wcv_core.specs.CoreForm.{Group}
use Rattle.wcv_core.specs.Names.{Name, number}
use Rattle.wcv_core.specs.declared.core_types.CoreTypeId.{CoreTypeId}
use Rattle.wcv_types.specs.Tree.{Text, Head, defined, func, instance, component, core_module, core_instance, Role, here, label, node, Parts, part, head}
use Rattle.wcv_types.specs.Arena.{Arena}
use Rattle.wcv_types.specs.CoreParts.{exported_items}
use Rattle.wcv_types.specs.Replacing.{Replacement, replaced}
use Rattle.wcv_types.specs.Led.{Led}
use Rattle.wcv_types.specs.Standing.{Stands, Extends, KeepsTrees, own_size}
use Rattle.wcv_types.specs.Unfold.{rank, Slot, leaf, at, both, core, Slots, slot_refs, slots_at, slot_parts, parts_at, trees, tree_at, value_slots}
use Rattle.wcv_types.specs.declared.arena.Node.{Node}
use Rattle.wcv_types.specs.declared.arena.Node.TheVariants as n
use Rattle.wcv_types.specs.declared.ids.Part.{Part}
use Rattle.wcv_types.specs.declared.ids.Part.TheVariants as p
use Rattle.wcv_types.specs.declared.shapes.ComponentDefinedType.{ComponentDefinedType}
use Rattle.wcv_types.specs.declared.shapes.ComponentDefinedType.TheVariants as d
use Rattle.wcv_types.specs.declared.shapes.ComponentValType.{ComponentValType}

-- ## Other parts

-- the sorts, as numbers
abbrev pub sort_number : Part → ℕ
sort_number (p.Defined i) = 0
sort_number (p.Func i) = 1
sort_number (p.Instance i) = 2
sort_number (p.Component i) = 3
sort_number (p.Module i) = 4
sort_number (p.CoreInstance i) = 5
sort_number (p.Resource r) = 6
sort_number (p.Core i) = 7

abbrev pub same_sort : Part → Part → Bool
same_sort q r = eqb (sort_number q) (sort_number r)

-- as many parts, each of the sort of that in whose place it comes
abbrev pub SameSorts : List Part → List Part → Type 0
SameSorts [] [] = Unit {0}
SameSorts (q ∷ qs) (r ∷ rs) = (same_sort q r ≡ true) × SameSorts qs rs
SameSorts _ _ = ⊥

-- what a slot becomes with the first of these parts
abbrev pub refill_slot : Slot → List Part → Slot
refill_slot (leaf o) qs = leaf o
refill_slot (core e) qs = core e
refill_slot (at q) [] = at q
refill_slot (at q) (r ∷ rs) = at r
refill_slot (both c r) [] = both c r
refill_slot (both c r) (q ∷ []) = both c r
refill_slot (both c r) (q ∷ s ∷ qs) = both q s

-- the parts that are left behind it
abbrev pub after_slot : Slot → List Part → List Part
after_slot s qs = drop (length (slot_refs s)) qs

-- the slots with other parts, in order
abbrev pub refill : Slots → List Part → Slots
refill [] qs = []
refill (s ∷ ss) qs = (s.0, refill_slot s.1 qs) ∷ refill ss (after_slot s.1 qs)

-- the parts that are left behind all of them
abbrev pub after : Slots → List Part → List Part
after [] qs = qs
after (s ∷ ss) qs = after ss (after_slot s.1 qs)

-- parts of the sorts that a slot asks for come first
abbrev pub FillsSlot : Slot → List Part → Type 0
FillsSlot (leaf o) qs = Unit {0}
FillsSlot (core e) qs = Unit {0}
FillsSlot (at q) [] = ⊥
FillsSlot (at q) (r ∷ rs) = same_sort q r ≡ true
FillsSlot (both c r) [] = ⊥
FillsSlot (both c r) (q ∷ []) = ⊥
FillsSlot (both c r) (q ∷ s ∷ qs) = (same_sort c q ≡ true) × (same_sort r s ≡ true)

-- so of all slots, one after another
abbrev pub Fills : Slots → List Part → Type 0
Fills [] qs = Unit {0}
Fills (s ∷ ss) qs = FillsSlot s.1 qs × Fills ss (after_slot s.1 qs)

-- ## The node made again

-- the head under another identity
abbrev pub anew : Name → Head Name Name → Head Name Name
anew j (defined i k) = defined j k
anew j (func i b) = func j b
anew j (instance i own) = instance j own
anew j (component i ins outs) = component j ins outs
anew j (core_module i n) = core_module j n
anew j (core_instance i n) = core_instance j n
anew j h = h

-- a core instance that was made of a module states its own size
abbrev pub HeadCounts : List Group → Head Name Name → Parts Name Name → Type 0
HeadCounts gs (core_instance i n) (part here t ps) = n ≡ own_size gs (exported_items t)
HeadCounts gs h ps = Unit {0}

-- these may be the parts of that type
pub record Refits (a : Arena) (q : Part) (qs : List Part) : Type 0 where
  pub same_sorts : SameSorts (parts_at a q) qs
  pub stand : All (Stands a) qs
  -- what the node made again owns is led to
  pub led : Led (node (head (tree_at a q)) (slot_parts (trees a.nodes) (refill (slots_at a.nodes q) qs)))
  -- and what it states stays so
  pub counts : HeadCounts a.core (head (tree_at a q)) (slot_parts (trees a.nodes) (refill (slots_at a.nodes q) qs))

-- the core types that the declarations of a module gave: they are no part of its type
abbrev pub types_in : Option Node → List CoreTypeId
types_in (Some (n.Module s)) = s.types.items
types_in _ = []

abbrev pub given_types : Arena → Part → List CoreTypeId
given_types a (p.Module i) = types_in (slice_get a.nodes i.index)
given_types a q = []

-- one more node: it has the head of q under its own identity, and these parts
pub record MadeAgain (a b : Arena) (q : Part) (qs : List Part) (made : Part) : Type 0 where
  pub nodes : length b.nodes ≡ suc (length a.nodes)
  pub resources : b.resources ≡ a.resources
  pub stamps : b.stamps ≡ a.stamps
  pub core : b.core ≡ a.core
  pub grown : Extends a b
  pub stay : KeepsTrees a b
  pub stands : Stands b made
  pub of_sort : same_sort q made ≡ true
  pub last : rank made ≡ suc (length a.nodes)
  pub tree : tree_at b made ≡ node (anew (number (length a.nodes)) (head (tree_at a q))) (slot_parts (trees a.nodes) (refill (slots_at a.nodes q) qs))
  pub types : given_types b made ≡ given_types a q

-- a resource reference and a core type have no parts, and stay
abbrev pub Rebuilt : Arena → Arena → Part → List Part → Part → Type 0
Rebuilt a b (p.Resource r) qs made = (b ≡ a) × (made ≡ p.Resource r)
Rebuilt a b (p.Core i) qs made = (b ≡ a) × (made ≡ p.Core i)
Rebuilt a b q qs made = MadeAgain a b q qs made

-- ## Putting parts into slots, one slot after another

abbrev pub field_value : Text × ComponentValType → Role × Option ComponentValType
field_value f = (label f.0, Some f.1)

abbrev pub case_value : Text × Option ComponentValType → Role × Option ComponentValType
case_value c = (label c.0, c.1)

abbrev pub tuple_value : ComponentValType → Role × Option ComponentValType
tuple_value t = (here, Some t)

-- the type is made of a list
abbrev pub has_list : ComponentDefinedType → Bool
has_list (d.Record fs) = true
has_list (d.Variant cs) = true
has_list (d.Tuple ts) = true
has_list (d.Flags ns) = true
has_list (d.Enum ns) = true
has_list s = false

-- the slots of a list whose elements are value types in their roles
abbrev pub slots_by : {X : Type 0} → (X → Role × Option ComponentValType) → List X → Slots
slots_by g xs = value_slots (map g xs)

-- some slots are made, and the rest is still to be
pub record Refilling (all : Slots) (qs : List Part) (rest made : Slots) (left : List Part) : Type 0 where
  pub fills : Fills rest left
  pub slots : made ++ refill rest left ≡ refill all qs
  pub left_is : after rest left ≡ after all qs

-- ## What becomes of trees

-- the part has the replaced tree of that in whose place it comes
abbrev pub BecomesIn : Arena → Replacement → List Part → List Part → Type 0
BecomesIn a m [] [] = Unit {0}
BecomesIn a m (q ∷ qs) (r ∷ rs) = (tree_at a r ≡ replaced m (tree_at a q)) × BecomesIn a m qs rs
BecomesIn a m _ _ = ⊥
