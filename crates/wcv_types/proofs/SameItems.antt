-- The test on types of core imports and exports answers whether they are the same.
use Rattle.std.proofs.Common.{◌≡◌, ℕ, List, [], ◌++◌, Bool, true, false, ◌&&◌, Option, Some, None, refl, ap, arith, eq-eqb}
use Rattle.std.specs.Prelude.{eqb}
use Rattle.std.specs.Bool.{beq}
use Rattle.std.specs.Option.{option_eq}
use Rattle.std.proofs.lemmas.Bool.{eqb-true}
use Rattle.std.proofs.lemmas.Slice.Eq.{bytes_eq-Decides}
use Rattle.wcv_core.specs.CoreCode.{val_code}
use Rattle.wcv_core.specs.declared.core_types.EntityType.{EntityType}
use Rattle.wcv_core.specs.declared.core_types.EntityType.TheVariants as entity
use Rattle.wcv_core.specs.declared.core_types.GlobalType.{GlobalType}
use Rattle.wcv_core.specs.declared.core_types.MemoryType.{MemoryType}
use Rattle.wcv_core.specs.declared.core_types.TableType.{TableType}
use Rattle.wcv_core.specs.declared.core_types.ValType.{ValType}
use Rattle.wcv_core.specs.declared.core_types.ValType.TheVariants as val
use Rattle.wcv_core.proofs.Names.{and_left, and_right}
use Rattle.wcv_core.proofs.Reading.{val_read}
use Rattle.wcv_types.specs.SameItems.{same_val, same_table, same_memory, same_global, same_item}

both : (a b : Bool) → a ≡ true → b ≡ true → (a && b) ≡ true
both a b h k = grind arith

bool-true : (a b : Bool) → beq a b ≡ true → a ≡ b
bool-true true true h = refl
bool-true false false h = refl
bool-true _ _ h = cc

bool-refl : (a : Bool) → beq a a ≡ true
bool-refl true = refl
bool-refl false = refl

number-refl : (n : ℕ) → eqb n n ≡ true
number-refl n = eq-eqb n n refl

greatest-true : (o p : Option ℕ) → option_eq eqb o p ≡ true → o ≡ p
greatest-true None None h = refl
greatest-true (Some m) (Some n) h = ap Some (eqb-true m n h)
greatest-true _ _ h = cc

greatest-refl : (o : Option ℕ) → option_eq eqb o o ≡ true
greatest-refl None = refl
greatest-refl (Some n) = number-refl n

val-true : (v w : ValType) → same_val v w ≡ true → v ≡ w
val-true v w h = (val_read v w [] [] (ap (λ (c : List ℕ). c ++ []) ((bytes_eq-Decides (val_code v) (val_code w)).0 h))).0

val-refl : (v : ValType) → same_val v v ≡ true
val-refl v = (bytes_eq-Decides (val_code v) (val_code v)).1 refl

table-true : (t u : TableType) → same_table t u ≡ true → t ≡ u
table-true t u h =
    let a = and_right _ _ h in
    let b = and_right _ _ a in
    let c = and_right _ _ b in
    let e : val.Ref t.element_type ≡ val.Ref u.element_type = val-true (val.Ref t.element_type) (val.Ref u.element_type) (and_left _ _ h) in
    let e' : t.element_type ≡ u.element_type = cc in
    let i : t.initial ≡ u.initial = eqb-true t.initial u.initial (and_left _ _ a) in
    let m : t.maximum ≡ u.maximum = greatest-true t.maximum u.maximum (and_left _ _ b) in
    let x : t.table64 ≡ u.table64 = bool-true t.table64 u.table64 (and_left _ _ c) in
    let s : t.shared ≡ u.shared = bool-true t.shared u.shared (and_right _ _ c) in
    (λ j. record { element_type = e' j; initial = i j; maximum = m j; table64 = x j; shared = s j })

table-refl : (t : TableType) → same_table t t ≡ true
table-refl t =
    both _ _ (val-refl (val.Ref t.element_type)) (both _ _ (number-refl t.initial) (both _ _ (greatest-refl t.maximum) (both _ _ (bool-refl t.table64) (bool-refl t.shared))))

memory-true : (m k : MemoryType) → same_memory m k ≡ true → m ≡ k
memory-true m k h =
    let a = and_right _ _ h in
    let b = and_right _ _ a in
    let c = and_right _ _ b in
    let i : m.initial ≡ k.initial = eqb-true m.initial k.initial (and_left _ _ h) in
    let g : m.maximum ≡ k.maximum = greatest-true m.maximum k.maximum (and_left _ _ a) in
    let x : m.memory64 ≡ k.memory64 = bool-true m.memory64 k.memory64 (and_left _ _ b) in
    let s : m.shared ≡ k.shared = bool-true m.shared k.shared (and_left _ _ c) in
    let p : m.page_size_log2 ≡ k.page_size_log2 = eqb-true m.page_size_log2 k.page_size_log2 (and_right _ _ c) in
    (λ j. record { initial = i j; maximum = g j; memory64 = x j; shared = s j; page_size_log2 = p j })

memory-refl : (m : MemoryType) → same_memory m m ≡ true
memory-refl m =
    both _ _ (number-refl m.initial) (both _ _ (greatest-refl m.maximum) (both _ _ (bool-refl m.memory64) (both _ _ (bool-refl m.shared) (number-refl m.page_size_log2))))

global-true : (g h : GlobalType) → same_global g h ≡ true → g ≡ h
global-true g h k =
    let a = and_right _ _ k in
    let v : g.content_type ≡ h.content_type = val-true g.content_type h.content_type (and_left _ _ k) in
    let m : g.mutable ≡ h.mutable = bool-true g.mutable h.mutable (and_left _ _ a) in
    let s : g.shared ≡ h.shared = bool-true g.shared h.shared (and_right _ _ a) in
    (λ j. record { content_type = v j; mutable = m j; shared = s j })

global-refl : (g : GlobalType) → same_global g g ≡ true
global-refl g = both _ _ (val-refl g.content_type) (both _ _ (bool-refl g.mutable) (bool-refl g.shared))

pub item-true : (e d : EntityType) → same_item e d ≡ true → e ≡ d
item-true (entity.Func t) (entity.Func u) h = let i : t.index ≡ u.index = eqb-true t.index u.index h in (λ j. entity.Func (record { index = i j }))
item-true (entity.Tag t) (entity.Tag u) h = let i : t.index ≡ u.index = eqb-true t.index u.index h in (λ j. entity.Tag (record { index = i j }))
item-true (entity.Table t) (entity.Table u) h = ap entity.Table (table-true t u h)
item-true (entity.Memory m) (entity.Memory k) h = ap entity.Memory (memory-true m k h)
item-true (entity.Global g) (entity.Global k) h = ap entity.Global (global-true g k h)
item-true _ _ h = cc

pub item-refl : (e : EntityType) → same_item e e ≡ true
item-refl (entity.Func t) = number-refl t.index
item-refl (entity.Tag t) = number-refl t.index
item-refl (entity.Table t) = table-refl t
item-refl (entity.Memory m) = memory-refl m
item-refl (entity.Global g) = global-refl g
