-- Core types: what stands among them names the same types in both, and what a group appends is the same.
use Rattle.std.proofs.Common.{◌≡◌, ◌∙◌, ℕ, zero, suc, List, [], ◌∷◌, map, Bool, true, false, cond, Some, None, refl, sym, ap, subst, inl, inr}
use Rattle.std.specs.Prelude.{All, ◌≤◌}
use Rattle.std.specs.List.{AllZip}
use Rattle.std.proofs.lemmas.List.Elements.{All-head, All-tail}
use Rattle.wcv_core.specs.CoreForm.{Group}
use Rattle.wcv_core.specs.CoreGroups.{total}
use Rattle.wcv_core.specs.CoreJoining.{group_ids, grown}
use Rattle.wcv_core.specs.CoreWritten.{Core_entry, sub_entry, module_entry, IsKnown, closed_group}
use Rattle.wcv_core.specs.Names.{Name}
use Rattle.wcv_core.proofs.Ranges.{known_more}
use Rattle.wcv_closed.specs.ClosedTable.{IsTable}
use Rattle.wcv_types.specs.Seen.{seen_head, seen}
use Rattle.wcv_types.specs.Tree.{Head, nothing, primitive, resource, defined, func, instance, component, type_entity, core_module, core_instance, core_type, core_item, node, Sort, is_module, is_core_type, sort, head, sub_type}
use Rattle.wcv_types.specs.Unfold.{Type_tree}
use Rattle.wcv_types.proofs.Lists.{some-inj}
use Rattle.wcv_matching.specs.Matching.{Item_rule, Reading, outside, MatchBelow, MatchAs}
use Rattle.wcv_matching.specs.ModuleItems.{ItemsMatch}
use Rattle.wcv_lower.specs.Context.{core_types}
use Rattle.wcv_lower.specs.CoreItems.{core_entries, may_join, types_join, closed_step, group_step}
use Rattle.wcv_lower.specs.NewTypes.{type_entry}
use Rattle.wcv_lower.specs.Readers.{Reader}
use Rattle.wcv_lower.specs.Step.{Step, core_appends, interns, change, apply}
use Rattle.wcv_lower.specs.Tables.{TableStands}
use Rattle.wcv_lower.specs.Trees.{Tree_stack, tree_reader, core_entry, head_entry}
use Rattle.wcv_growth.specs.Kept.{IsPrefix}
use Rattle.wcv_world.specs.Growth.{Tokens}
use Rattle.wcv_world.specs.Reading.{Value_stack, value_reader}
use Rattle.wcv_world.specs.Values.{Value, typed, type_over}
use Rattle.wcv_safety.specs.Agreeing.{AgreesAsType, AgreeAll, AgreeStacks, AgreesNamed, AgreeReadings}
use Rattle.wcv_safety.specs.Standing.{HasSortIn, BothStand}
use Rattle.wcv_safety.proofs.Agreeing.{core-appends-agree, readings}
use Rattle.wcv_safety.proofs.Found.{entry-sort}
use Rattle.wcv_safety.proofs.Groups.{Stays, total-more, group-stays}
use Rattle.wcv_safety.proofs.Quiet.{AllQuiet, quiet-top}

-- ## Entries

module-entry : (t : Type_tree) → sort t ≡ is_module → core_entry t ≡ module_entry
module-entry (node nothing ps) e = cc
module-entry (node (primitive p) ps) e = cc
module-entry (node (resource r s) ps) e = cc
module-entry (node (defined i k) ps) e = cc
module-entry (node (func i b) ps) e = cc
module-entry (node (instance i own) ps) e = cc
module-entry (node (component i ins outs) ps) e = cc
module-entry (node type_entity ps) e = cc
module-entry (node (core_module i n) ps) e = refl
module-entry (node (core_instance i n) ps) e = cc
module-entry (node (core_type i) ps) e = cc
module-entry (node (core_item x) ps) e = cc

-- the id of a core type
type-entry : (t : Type_tree) → sort t ≡ is_core_type → (i : ℕ) × (head t ≡ core_type i)
type-entry (node nothing ps) e = absurd (cc)
type-entry (node (primitive p) ps) e = absurd (cc)
type-entry (node (resource r s) ps) e = absurd (cc)
type-entry (node (defined i k) ps) e = absurd (cc)
type-entry (node (func i b) ps) e = absurd (cc)
type-entry (node (instance i own) ps) e = absurd (cc)
type-entry (node (component i ins outs) ps) e = absurd (cc)
type-entry (node type_entity ps) e = absurd (cc)
type-entry (node (core_module i n) ps) e = absurd (cc)
type-entry (node (core_instance i n) ps) e = absurd (cc)
type-entry (node (core_type i) ps) e = (i, refl)
type-entry (node (core_item x) ps) e = absurd (cc)

abbrev id-in : {R I : Type 0} → Head R I → ℕ
id-in (core_type i) = i
id-in _ = zero

seen-id : {A : Type 0} (f g : Reading A) (a b : Type_tree) (i j : ℕ) → head a ≡ core_type i → head b ≡ core_type j → seen (outside f) a ≡ seen (outside g) b → i ≡ j
seen-id f g (node h ps) (node k qs) i j e d s = sym (ap (λ x. id-in (seen_head (outside f) x)) e) ∙ ap (λ t. id-in (head t)) s ∙ ap (λ x. id-in (seen_head (outside g) x)) d

module _ (C : Item_rule) {A : Type 0} where
  same-below : (d : ℕ) (f g : Reading A) (a b : Type_tree) → sort b ≡ is_core_type → MatchBelow C d A f g (type_entry a) (type_entry b) → seen (outside f) a ≡ seen (outside g) b
  same-below zero f g a b e m = absurd m
  same-below (suc zero) f g a b e m = absurd m.1.0
  same-below (suc (suc d)) f g a b e m = subst (λ (k : Sort). MatchAs C (MatchBelow C d) k A f g a b) (m.1.0.0 ∙ e) m.1.0.1

module _ (gs : List Group) (g : Name → Name) where
  entry-same : (x : Value) (t : Type_tree) → HasSortIn core_types (sort t) → AgreesAsType gs g x t → value_reader.core_entry x ≡ tree_reader.core_entry t
  entry-same x t (inr k) m =
      let s : sort (type_over x) ≡ is_module = entry-sort (ItemsMatch gs) {A = Name} (λ r. r) g (type_over x) t m ∙ k in
      module-entry (type_over x) s ∙ sym (module-entry t k)
  entry-same x t (inl k) m =
      let s : sort (type_over x) ≡ is_core_type = entry-sort (ItemsMatch gs) {A = Name} (λ r. r) g (type_over x) t m ∙ k in
      let i = type-entry (type_over x) s in
      let j = type-entry t k in
      ap head_entry i.1 ∙ ap sub_entry (seen-id (λ r. r) g (type_over x) t i.0 j.0 i.1 j.1 (same-below (ItemsMatch gs) {A = Name} m.0 (λ r. r) g (type_over x) t k m.1)) ∙ sym (ap head_entry j.1)

  -- the entries of both are the same
  pub entries-same : (xs : List Value) (ts : List Type_tree) → All (λ t. HasSortIn core_types (sort t)) ts → AllZip (AgreesAsType gs g) xs ts → map value_reader.core_entry xs ≡ map tree_reader.core_entry ts
  entries-same [] [] k w = refl
  entries-same [] (t ∷ ts) k w = absurd w
  entries-same (x ∷ xs) [] k w = absurd w
  entries-same (x ∷ xs) (t ∷ ts) k w =
      let e : value_reader.core_entry x ≡ tree_reader.core_entry t = entry-same x t (All-head (λ (t : Type_tree). HasSortIn core_types (sort t)) t ts k) w.0 in
      let r : map value_reader.core_entry xs ≡ map tree_reader.core_entry ts = entries-same xs ts (All-tail (λ (t : Type_tree). HasSortIn core_types (sort t)) t ts k) w.1 in
      λ j. e j ∷ r j

-- ## A group

module _ (ts : Tokens) (g : Name → Name) where
  types-join : (is : List ℕ) (v : Value_stack) (s : Tree_stack) → AgreeStacks ts g v s → AgreeStacks ts g (apply (types_join value_reader is) v) (apply (types_join tree_reader is) s)
  types-join [] v s a = a
  types-join (i ∷ is) v s a =
      types-join is (change (core_appends core_types (typed (sub_type i))) v) (change (core_appends core_types (sub_type i)) s)
      (core-appends-agree ts g core_types v s (typed (sub_type i)) (sub_type i) a (1, (refl, refl)) (λ e. (2, (refl, ((refl, refl), (refl, refl), λ r. refl)))))

types-quiet : (X : Reader) (is : List ℕ) → AllQuiet (types_join X is)
types-quiet X [] = tt
types-quiet X (i ∷ is) = (tt, types-quiet X is)

module _ (g : Name → Name) (v : Value_stack) (s : Tree_stack) (a : AgreeReadings g v s) where
  -- the table of the values has what the static one gets
  pub interned : (gs hs : List Group) → IsPrefix gs hs → v.groups ≡ hs → AgreeReadings g (change (interns hs) v) (change (interns gs) s)
  interned gs hs p e = record {
    stacks = record { groups = p; all = subst (λ (ks : List Group). AgreeAll ks v.top.defined g (v.top ∷ v.outer) (s.top ∷ s.outer)) e a.stacks.all };
    sides = λ d. subst (λ (ks : List Group). AllZip (AgreesNamed ks g) (v.top.side d) (s.top.side d)) e (a.sides d);
  }

module _ (g : Name → Name) (v : Value_stack) (s : Tree_stack) (h : BothStand v s) (a : AgreeReadings g v s) where
  pub core-entries : core_entries v.top ≡ core_entries s.top
  core-entries = entries-same v.groups g (v.top.core core_types) (s.top.core core_types) (h.types.core_sorted core_types) a.stacks.all.0.types

  closed-follows : (is js : List ℕ) (gs hs : List Group) → is ≡ js → IsPrefix gs hs → v.groups ≡ hs → AgreeReadings g (apply (interns hs ∷ types_join value_reader is) v) (apply (interns gs ∷ types_join tree_reader js) s)
  closed-follows is js gs hs q p e =
      let b : AgreeReadings g (change (interns hs) v) (change (interns gs) s) = interned g v s a gs hs p e in
      subst (λ (ks : List ℕ). AgreeReadings g (apply (interns hs ∷ types_join value_reader is) v) (apply (interns gs ∷ types_join tree_reader ks) s)) q
      (readings g (change (interns hs) v) (apply (types_join value_reader is) (change (interns hs) v)) (change (interns gs) s) (apply (types_join tree_reader is) (change (interns gs) s))
      (quiet-top (types_join value_reader is) (change (interns hs) v) (types-quiet value_reader is)) (quiet-top (types_join tree_reader is) (change (interns gs) s) (types-quiet tree_reader is)) b
      (types-join v.top.defined g is (change (interns hs) v) (change (interns gs) s) b.stacks))

  if-joins : {X : Reader} (b : Bool) (p y : Step X) → cond b (Some p) None ≡ Some y → (b ≡ true) × (p ≡ y)
  if-joins true p y e = (refl, some-inj e)
  if-joins false p y e = cc

  known-more : (n m : ℕ) → n ≤ m → (es : List Core_entry) → All (IsKnown n) es → All (IsKnown m) es
  known-more n m l es k = known_more n m es l k

  -- a group, where the table of the values has what the static one gets
  pub group-follows : (w : Group) (y : Step tree_reader) → IsTable v.groups → TableStands s → IsPrefix (apply y s).groups v.groups → group_step s w ≡ Some y → (x : Step value_reader) × (group_step v w ≡ Some x) × AgreeReadings g (apply x v) (apply y s)
  group-follows w y t u p e =
      let es : List Core_entry = core_entries s.top in
      let c : Group = closed_group es w in
      let m = if-joins {X = tree_reader} (may_join s.groups es w) (closed_step tree_reader s.groups c) y e in
      let same : (apply y s).groups ≡ grown s.groups c = ap (λ (z : Step tree_reader). (apply z s).groups) (sym m.1) ∙ (quiet-top (types_join tree_reader (group_ids s.groups c)) (change (interns (grown s.groups c)) s) (types-quiet tree_reader (group_ids s.groups c))).groups in
      let q : IsPrefix (grown s.groups c) v.groups = subst (λ (gs : List Group). IsPrefix gs v.groups) same p in
      let k : All (IsKnown (total s.groups)) es = All-head (λ (es : List Core_entry). All (IsKnown (total s.groups)) es) es (map core_entries s.outer) u.known in
      let l : total s.groups ≤ total v.groups = subst (λ (gs : List Group). total s.groups ≤ total gs) (sym a.stacks.groups.1) (total-more s.groups a.stacks.groups.0) in
      let st : Stays s.groups v.groups es w = group-stays s.groups q.0 v.groups es w q.1 u.table t l k (known-more (total s.groups) (total v.groups) l es k) m.0 in
      let f : core_entries v.top ≡ es = core-entries in
      let one : Step value_reader = closed_step value_reader v.groups c in (
        one,
        ap (λ (fs : List Core_entry). cond (may_join v.groups fs w) (Some (closed_step value_reader v.groups (closed_group fs w))) None) f ∙ ap (λ (b : Bool). cond b (Some one) None) st.may,
        subst (λ (z : Step tree_reader). AgreeReadings g (apply one v) (apply z s)) m.1
            (closed-follows (group_ids v.groups c) (group_ids s.groups c) (grown s.groups c) (grown v.groups c) st.ids (subst (λ (gs : List Group). IsPrefix (grown s.groups c) gs) (sym st.groups) q) (sym st.groups)),
      )
