-- A group that a table has already joins nothing: it may join there where it could join the table before it, and its types have the same ids.
use Rattle.std.proofs.Common.{◌≡◌, ◌∙◌, ℕ, ◌+◌, ◌<◌, ◌≤◌, List, [], ◌∷◌, ◌++◌, length, Bool, true, false, cond, Option, Some, None, refl, sym, ap, subst, arith}
use Rattle.std.specs.Prelude.{All, not, ◌&&◌, nat_lt}
use Rattle.std.specs.List.{range_with_len}
use Rattle.std.specs.Option.{unwrap_or}
use Rattle.std.specs.Str.{bytes_eq}
use Rattle.wcv_core.specs.Checks.{Checks, all_checks}
use Rattle.wcv_core.specs.CoreCode.{code_of}
use Rattle.wcv_core.specs.CoreForm.{CompositeForm, func_form, struct_form, array_form, SubForm, Group}
use Rattle.wcv_core.specs.CoreGroups.{total, id_from, id_of, IsClosed}
use Rattle.wcv_core.specs.CoreJoining.{is_free, order_checks, first_id, group_ids, grown, table_checks}
use Rattle.wcv_core.specs.CoreRules.{type_checks}
use Rattle.wcv_core.specs.CoreTable.{joined_to, with_group, limit_checks}
use Rattle.wcv_core.specs.CoreWritten.{Core_entry, IsKnown, heap_checks, val_checks, storage_checks, field_checks, form_checks, super_heap, super_index_checks, index_checks, closed_group}
use Rattle.wcv_core.specs.declared.core_types.FieldType.{FieldType}
use Rattle.wcv_core.specs.declared.core_types.HeapType.{HeapType}
use Rattle.wcv_core.specs.declared.core_types.HeapType.TheVariants as heap
use Rattle.wcv_core.specs.declared.core_types.StorageType.{StorageType}
use Rattle.wcv_core.specs.declared.core_types.StorageType.TheVariants as storage
use Rattle.wcv_core.specs.declared.core_types.SuperType.{SuperType}
use Rattle.wcv_core.specs.declared.core_types.ValType.{ValType}
use Rattle.wcv_core.specs.declared.core_types.ValType.TheVariants as val
use Rattle.wcv_core.proofs.Names.{and_left, and_right}
use Rattle.wcv_core.proofs.TableLaws.{interned}
use Rattle.wcv_closed.specs.ClosedTable.{IsTable}
use Rattle.wcv_closed.specs.ClosedType.{closed_at}
use Rattle.wcv_closed.proofs.Interning.{interned_unfolds}
use Rattle.wcv_closed.proofs.SameRules.{same_joining}
use Rattle.wcv_closed.proofs.Standing.{high, found_stands}
use Rattle.wcv_closed.proofs.Unfolding.{closed_stays, found_unfolds}
use Rattle.wcv_lower.specs.CoreItems.{is_core_rule, keeps_rules, is_closable, may_join}
use Rattle.wcv_lower.proofs.Joinable.{closable_closed}
use Rattle.wcv_safety.proofs.Tests.{and-true}

-- ## What is seen in the group alone

pub free-left : (cs ds : Checks) → is_free (cs ++ ds) ≡ true → is_free cs ≡ true
free-left [] ds e = refl
free-left (c ∷ cs) ds e = and-true (not c.1) (is_free cs) (and_left (not c.1) (is_free (cs ++ ds)) e) (free-left cs ds (and_right (not c.1) (is_free (cs ++ ds)) e))

pub free-right : (cs ds : Checks) → is_free (cs ++ ds) ≡ true → is_free ds ≡ true
free-right [] ds e = e
free-right (c ∷ cs) ds e = free-right cs ds (and_right (not c.1) (is_free (cs ++ ds)) e)

pub free-both : (cs ds : Checks) → is_free cs ≡ true → is_free ds ≡ true → is_free (cs ++ ds) ≡ true
free-both [] ds e f = f
free-both (c ∷ cs) ds e f = and-true (not c.1) (is_free (cs ++ ds)) (and_left (not c.1) (is_free cs) e) (free-both cs ds (and_right (not c.1) (is_free cs) e) f)

pub free-each : {A : Type 0} (f h : A → Checks) → ((x : A) → is_free (f x) ≡ true → is_free (h x) ≡ true) → (xs : List A) → is_free (all_checks f xs) ≡ true → is_free (all_checks h xs) ≡ true
free-each f h k [] e = refl
free-each f h k (x ∷ xs) e = free-both (h x) (all_checks h xs) (k x (free-left (f x) (all_checks f xs) e)) (free-each f h k xs (free-right (f x) (all_checks f xs) e))

module _ (n m : ℕ) (l : n ≤ m) (es : List Core_entry) (len : ℕ) where
  id-more : (i : ℕ) → (not (not (nat_lt i n)) && true) ≡ true → (not (not (nat_lt i m)) && true) ≡ true
  id-more i e = grind arith

  pub heap-more : (h : HeapType) → is_free (heap_checks n es len h) ≡ true → is_free (heap_checks m es len h) ≡ true
  heap-more (heap.Index k) e = e
  heap-more (heap.Id i) e = id-more i.index e
  heap-more (heap.Abstract a) e = e

  pub val-more : (v : ValType) → is_free (val_checks n es len v) ≡ true → is_free (val_checks m es len v) ≡ true
  val-more (val.Ref r) e = heap-more r.heap e
  val-more val.I32 e = e
  val-more val.I64 e = e
  val-more val.F32 e = e
  val-more val.F64 e = e
  val-more val.V128 e = e

  storage-more : (s : StorageType) → is_free (storage_checks n es len s) ≡ true → is_free (storage_checks m es len s) ≡ true
  storage-more (storage.Val v) e = val-more v e
  storage-more storage.I8 e = e
  storage-more storage.I16 e = e

  field-more : (f : FieldType) → is_free (field_checks n es len f) ≡ true → is_free (field_checks m es len f) ≡ true
  field-more f e = storage-more f.storage e

  form-more : (f : CompositeForm) → is_free (form_checks n es len f) ≡ true → is_free (form_checks m es len f) ≡ true
  form-more (func_form ps rs) e =
      free-both (all_checks (val_checks m es len) ps) (all_checks (val_checks m es len) rs)
      (free-each (val_checks n es len) (val_checks m es len) val-more ps (free-left (all_checks (val_checks n es len) ps) (all_checks (val_checks n es len) rs) e))
      (free-each (val_checks n es len) (val_checks m es len) val-more rs (free-right (all_checks (val_checks n es len) ps) (all_checks (val_checks n es len) rs) e))
  form-more (struct_form fs) e = free-each (field_checks n es len) (field_checks m es len) field-more fs e
  form-more (array_form f) e = field-more f e

  super-more : (o : Option SuperType) → is_free (super_index_checks n es len o) ≡ true → is_free (super_index_checks m es len o) ≡ true
  super-more None e = e
  super-more (Some t) e = heap-more (super_heap t) e

  sub-more : (s : SubForm) → is_free (index_checks n es len s) ≡ true → is_free (index_checks m es len s) ≡ true
  sub-more s e =
      free-both (super_index_checks m es len s.supertype) (form_checks m es len s.inner)
      (super-more s.supertype (free-left (super_index_checks n es len s.supertype) (form_checks n es len s.inner) e))
      (form-more s.inner (free-right (super_index_checks n es len s.supertype) (form_checks n es len s.inner) e))

-- what can be closed over a table can be over one with more
pub closable-more : (gs hs : List Group) (es : List Core_entry) (w : Group) → total gs ≤ total hs → is_closable gs es w ≡ true → is_closable hs es w ≡ true
closable-more gs hs es w l e =
    let old : Checks = all_checks (index_checks (total gs) es (length w)) w in
    free-both (all_checks (index_checks (total hs) es (length w)) w) (order_checks (length es) w)
    (free-each (index_checks (total gs) es (length w)) (index_checks (total hs) es (length w)) (sub-more (total gs) (total hs) l es (length w)) w (free-left old (order_checks (length es) w) e))
    (free-right old (order_checks (length es) w) e)

-- ## In a table that has it

found-before : (n : ℕ) (gs hs : List Group) (c : List ℕ) (i : ℕ) → id_from n gs c ≡ Some i → id_from n (gs ++ hs) c ≡ Some i
found-before n [] hs c i e = cc
found-before n (g ∷ gs) hs c i e = go (bytes_eq c (code_of g)) e (found-before (n + length g) gs hs c i)
  where
    go : (b : Bool) → cond b (Some n) (id_from (n + length g) gs c) ≡ Some i → (id_from (n + length g) gs c ≡ Some i → id_from (n + length g) (gs ++ hs) c ≡ Some i) → cond b (Some n) (id_from (n + length g) (gs ++ hs) c) ≡ Some i
    go true e f = e
    go false e f = f e

module _ (gs more : List Group) (g : Group) where
  abbrev wider : List Group
  wider = with_group gs g ++ more

  pub id-there : id_of wider g ≡ Some (first_id gs g)
  id-there = found-before 0 (with_group gs g) more (code_of g) (first_id gs g) (interned gs g)

  -- nothing joins
  pub with-same : with_group wider g ≡ wider
  with-same = ap (λ (o : Option ℕ). joined_to o wider g) id-there

  pub first-same : first_id wider g ≡ first_id gs g
  first-same = ap (λ (o : Option ℕ). unwrap_or o (total wider)) id-there

  closed-same : IsTable gs → IsTable wider → IsClosed (total gs) g → (k : ℕ) → k < length g → closed_at gs g k ≡ closed_at wider g k
  closed-same t u c k l =
      let room : first_id gs g + k < total (with_group gs g) = omega (arith, high 0 (with_group gs g) (first_id gs g) g (found_stands 0 (with_group gs g) (first_id gs g) g (interned gs g))) in
      sym (interned_unfolds gs g k t c l) ∙ (sym (closed_stays (with_group gs g) more (first_id gs g + k) room) ∙ found_unfolds wider g (first_id gs g) k u.closed id-there l)

  -- its types keep the rules where they did
  pub rules-same : IsTable gs → IsTable wider → IsClosed (total gs) g → IsClosed (total wider) g →
      all_checks (type_checks (with_group gs g)) (group_ids gs g) ≡ all_checks (type_checks (with_group wider g)) (group_ids wider g)
  rules-same t u c d = same_joining gs wider g g t u c d refl (closed-same t u c)

-- ## Joining

kept-right : (cs ds : Checks) → keeps_rules (cs ++ ds) ≡ true → keeps_rules ds ≡ true
kept-right [] ds e = e
kept-right (c ∷ cs) ds e = kept-right cs ds (and_right (not (is_core_rule c.0 && c.1)) (keeps_rules (cs ++ ds)) e)

-- a group that could join a table, in one that has that and the group
pub record Stays (gs hs : List Group) (es : List Core_entry) (w : Group) : Type 0 where
  pub may : may_join hs es w ≡ true
  pub groups : grown hs (closed_group es w) ≡ hs
  pub ids : group_ids hs (closed_group es w) ≡ group_ids gs (closed_group es w)

pub total-more : (gs hs : List Group) → total gs ≤ total (gs ++ hs)
total-more [] hs = omega arith
total-more (g ∷ gs) hs = omega (arith, total-more gs hs)

pub group-stays : (gs more hs : List Group) (es : List Core_entry) (w : Group) → hs ≡ grown gs (closed_group es w) ++ more → IsTable gs → IsTable hs → total gs ≤ total hs → All (IsKnown (total gs)) es → All (IsKnown (total hs)) es →
    may_join gs es w ≡ true → Stays gs hs es w
group-stays gs more hs es [] q t u l k j e = record {
  may = and-true (is_closable hs es []) (keeps_rules (table_checks hs (closed_group es []))) (closable-more gs hs es [] l (and_left (is_closable gs es []) (keeps_rules (table_checks gs (closed_group es []))) e)) refl;
  groups = refl;
  ids = refl;
}
group-stays gs more hs es (x ∷ w) q t u l k j e =
    let g : Group = closed_group es (x ∷ w) in
    let some : 0 < length (x ∷ w) = omega arith in
    let may : is_closable gs es (x ∷ w) ≡ true = and_left (is_closable gs es (x ∷ w)) (keeps_rules (table_checks gs g)) e in
    let there : is_closable hs es (x ∷ w) ≡ true = closable-more gs hs es (x ∷ w) l may in
    let c : IsClosed (total gs) g = closable_closed gs es (x ∷ w) k some may in
    let d : IsClosed (total hs) g = closable_closed hs es (x ∷ w) j some there in
    let wide : List Group = wider gs more g in
    let rules : keeps_rules (all_checks (type_checks (with_group gs g)) (group_ids gs g)) ≡ true = kept-right (limit_checks gs g) (all_checks (type_checks (with_group gs g)) (group_ids gs g)) (and_right (is_closable gs es (x ∷ w)) (keeps_rules (table_checks gs g)) e) in
    let same = rules-same gs more g t (subst IsTable q u) c (subst (λ (z : List Group). IsClosed (total z) g) q d) in
    let ruled : keeps_rules (all_checks (type_checks (with_group hs g)) (group_ids hs g)) ≡ true =
    subst (λ (z : List Group). keeps_rules (all_checks (type_checks (with_group z g)) (group_ids z g)) ≡ true) (sym q) (subst (λ (cs : Checks). keeps_rules cs ≡ true) same rules) in
    record {
      may = and-true (is_closable hs es (x ∷ w)) (keeps_rules (table_checks hs g)) there ruled;
      groups = subst (λ (z : List Group). with_group z g ≡ z) (sym q) (with-same gs more g);
      ids = ap (λ (z : List Group). group_ids z g) q ∙ ap (λ (i : ℕ). range_with_len i (length g)) (first-same gs more g);
    }
