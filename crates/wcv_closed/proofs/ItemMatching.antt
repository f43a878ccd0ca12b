-- Items match themselves, and matching of items goes on from one to the next.
use Rattle.std.proofs.Common.{◌≡◌, ℕ, ◌≤◌, [], Bool, true, false, Option, Some, None, refl, ◌∙◌, arith}
use Rattle.wcv_core.specs.declared.core_types.MemoryType.{MemoryType}
use Rattle.wcv_closed.specs.ClosedType.{Closed}
use Rattle.wcv_closed.specs.ClosedValue.{Ref, Val, i32, i64, f32, f64, v128, ref, Item, func, tag, table, memory, global}
use Rattle.wcv_closed.specs.ClosedMatching.{ValKeepsForm, IsValClosed}
use Rattle.wcv_closed.specs.ClosedItems.{RefEqual, ValEqual, IsBoundWithin, LimitsMatch, MemoryMatches, ContentMatches, ItemMatches, IsItemClosed, ItemKeepsForm}
use Rattle.wcv_closed.proofs.Transitive.{below_on, val_itself, val_on}

-- ## Themselves

val_equal_itself : (v : Val Closed) → ValEqual v v
val_equal_itself i32 = tt
val_equal_itself i64 = tt
val_equal_itself f32 = tt
val_equal_itself f64 = tt
val_equal_itself v128 = tt
val_equal_itself (ref r) = record { nullable = refl; shared = refl; heap = refl }

bound_itself : (m : Option ℕ) → IsBoundWithin m m
bound_itself None = tt
bound_itself (Some m) = omega arith

limits_itself : (m : ℕ) (x : Option ℕ) → LimitsMatch m x m x
limits_itself m x = record { least = omega arith; greatest = bound_itself x }

content_itself : (m : Bool) (v : Val Closed) → IsValClosed v → ContentMatches m v v
content_itself true v c = val_equal_itself v
content_itself false v c = val_itself v c

pub item_itself : (a : Item Closed) → IsItemClosed a → ItemMatches a a
item_itself (func a) c = ([], refl)
item_itself (tag a) c = refl
item_itself (table q m x w s) c = record { elements = record { nullable = refl; shared = refl; heap = refl }; wide = refl; shared = refl; limits = limits_itself m x }
item_itself (memory m) c = record { wide = refl; shared = refl; pages = refl; limits = limits_itself m.initial m.maximum }
item_itself (global v m s) c = record { mutable = refl; shared = refl; content = content_itself m v c }

-- ## On

ref_equal_on : (p q r : Ref Closed) → RefEqual p q → RefEqual q r → RefEqual p r
ref_equal_on p q r e f = record { nullable = e.nullable ∙ f.nullable; shared = e.shared ∙ f.shared; heap = e.heap ∙ f.heap }

val_equal_on : (u v w : Val Closed) → ValEqual u v → ValEqual v w → ValEqual u w
val_equal_on i32 i32 w p q = q
val_equal_on i64 i64 w p q = q
val_equal_on f32 f32 w p q = q
val_equal_on f64 f64 w p q = q
val_equal_on v128 v128 w p q = q
val_equal_on (ref x) (ref y) (ref z) p q = ref_equal_on x y z p q
val_equal_on (ref x) (ref y) _ p q = elim q [ ]
val_equal_on _ _ _ p q = elim p [ ]

bound_on : (m n o : Option ℕ) → IsBoundWithin m n → IsBoundWithin n o → IsBoundWithin m o
bound_on m n None p q = tt
bound_on (Some m) (Some n) (Some o) p q = omega arith
bound_on None (Some n) (Some o) p q = elim p [ ]
bound_on m None (Some o) p q = elim q [ ]

limits_on : (k m n : ℕ) (x y z : Option ℕ) → LimitsMatch k x m y → LimitsMatch m y n z → LimitsMatch k x n z
limits_on k m n x y z p q = let l : n ≤ k = omega (arith, p.least, q.least) in record { least = l; greatest = bound_on x y z p.greatest q.greatest }

content_on : (m n : Bool) (u v w : Val Closed) → m ≡ n → ValKeepsForm u → ValKeepsForm v → ContentMatches m u v → ContentMatches n v w → ContentMatches m u w
content_on true true u v w e f g p q = val_equal_on u v w p q
content_on false false u v w e f g p q = val_on u v w f g p q
content_on true false u v w e f g p q = cc
content_on false true u v w e f g p q = cc

memory_on : (k m n : MemoryType) → MemoryMatches k m → MemoryMatches m n → MemoryMatches k n
memory_on k m n p q = record {
  wide = p.wide ∙ q.wide;
  shared = p.shared ∙ q.shared;
  pages = p.pages ∙ q.pages;
  limits = limits_on k.initial m.initial n.initial k.maximum m.maximum n.maximum p.limits q.limits;
}

pub item_on : (a b c : Item Closed) → ItemKeepsForm a → ItemKeepsForm b → ItemMatches a b → ItemMatches b c → ItemMatches a c
item_on (func a) (func b) (func c) f g p q = below_on a b c p q
item_on (tag a) (tag b) (tag c) f g p q = p ∙ q
item_on (table t k x w s) (table u m y v r) (table o n z d e) f g p q = record {
  elements = ref_equal_on t u o p.elements q.elements;
  wide = p.wide ∙ q.wide;
  shared = p.shared ∙ q.shared;
  limits = limits_on k m n x y z p.limits q.limits;
}
item_on (memory k) (memory m) (memory n) f g p q = memory_on k m n p q
item_on (global u k r) (global v m s) (global w n t) f g p q = record {
  mutable = p.mutable ∙ q.mutable;
  shared = p.shared ∙ q.shared;
  content = content_on k m u v w p.mutable f g p.content q.content;
}
item_on (func a) (func b) _ f g p q = elim q [ ]
item_on (tag a) (tag b) _ f g p q = elim q [ ]
item_on (table t k x w s) (table u m y v r) _ f g p q = elim q [ ]
item_on (memory k) (memory m) _ f g p q = elim q [ ]
item_on (global u k r) (global v m s) _ f g p q = elim q [ ]
item_on _ _ _ f g p q = elim p [ ]
