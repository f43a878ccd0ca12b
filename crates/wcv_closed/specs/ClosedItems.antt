-- Matching of what core modules import and export, in closed form.
use Rattle.std.specs.Prelude.{◌≡◌, ℕ, ◌≤◌, Bool, true, false, Option, Some, None}
use Rattle.wcv_core.specs.declared.core_types.MemoryType.{MemoryType}
use Rattle.wcv_closed.specs.ClosedType.{Closed}
use Rattle.wcv_closed.specs.ClosedValue.{Ref, Val, i32, i64, f32, f64, v128, ref, Item, func, tag, table, memory, global}
use Rattle.wcv_closed.specs.ClosedMatching.{IsBelow, shared_mark, ValMatches, ValKeepsForm, IsValClosed}

-- ## Equality

-- a reference to a type is shared as the type is, so its own mark says nothing
pub record RefEqual (q r : Ref Closed) : Type 0 where
  pub nullable : q.nullable ≡ r.nullable
  pub shared : shared_mark q.heap q.shared ≡ shared_mark r.heap r.shared
  pub heap : q.heap ≡ r.heap

abbrev pub ValEqual : Val Closed → Val Closed → Type 0
ValEqual i32 i32 = Unit {0}
ValEqual i64 i64 = Unit {0}
ValEqual f32 f32 = Unit {0}
ValEqual f64 f64 = Unit {0}
ValEqual v128 v128 = Unit {0}
ValEqual (ref q) (ref r) = RefEqual q r
ValEqual _ _ = ⊥

-- ## Limits

-- where the second is a bound, so is the first, and a lower one or the same
abbrev pub IsBoundWithin : Option ℕ → Option ℕ → Type 0
IsBoundWithin m None = Unit {0}
IsBoundWithin (Some m) (Some n) = m ≤ n
IsBoundWithin None (Some n) = ⊥

-- from m to x is within from n to y, where a greatest count is left out that there is none of
pub record LimitsMatch (m : ℕ) (x : Option ℕ) (n : ℕ) (y : Option ℕ) : Type 0 where
  pub least : n ≤ m
  pub greatest : IsBoundWithin x y

-- ## Items

pub record MemoryMatches (m n : MemoryType) : Type 0 where
  pub wide : m.memory64 ≡ n.memory64
  pub shared : m.shared ≡ n.shared
  pub pages : m.page_size_log2 ≡ n.page_size_log2
  pub limits : LimitsMatch m.initial m.maximum n.initial n.maximum

pub record TableMatches (q : Ref Closed) (m : ℕ) (x : Option ℕ) (w s : Bool) (r : Ref Closed) (n : ℕ) (y : Option ℕ) (v t : Bool) : Type 0 where
  pub elements : RefEqual q r
  pub wide : w ≡ v
  pub shared : s ≡ t
  pub limits : LimitsMatch m x n y

-- what is written too has to be of the same type
abbrev pub ContentMatches : Bool → Val Closed → Val Closed → Type 0
ContentMatches true v w = ValEqual v w
ContentMatches false v w = ValMatches v w

pub record GlobalMatches (v : Val Closed) (m s : Bool) (w : Val Closed) (n t : Bool) : Type 0 where
  pub mutable : m ≡ n
  pub shared : s ≡ t
  pub content : ContentMatches m v w

-- a function matches by its type, which is the other's or has it as a declared supertype, and a tag where the types are equal
abbrev pub ItemMatches : Item Closed → Item Closed → Type 0
ItemMatches (func a) (func b) = IsBelow a b
ItemMatches (tag a) (tag b) = a ≡ b
ItemMatches (table q m x w s) (table r n y v t) = TableMatches q m x w s r n y v t
ItemMatches (memory m) (memory n) = MemoryMatches m n
ItemMatches (global v m s) (global w n t) = GlobalMatches v m s w n t
ItemMatches _ _ = ⊥

-- ## What the laws ask of items

-- no own type of a group is left in what a global holds
abbrev pub IsItemClosed : Item Closed → Type 0
IsItemClosed (global v m s) = IsValClosed v
IsItemClosed _ = Unit {0}

-- the declared supertypes of what a global holds have the form of their types
abbrev pub ItemKeepsForm : Item Closed → Type 0
ItemKeepsForm (global v m s) = ValKeepsForm v
ItemKeepsForm _ = Unit {0}
