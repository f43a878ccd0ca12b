-- Canonical functions: what a row appends, the lists that agree append too.
use Rattle.std.proofs.Common.{◌≡◌, ◌∙◌, ℕ, ◌≤◌, zero, suc, List, [], ◌∷◌, Bool, true, false, cond, Option, Some, None, refl, sym, ap, subst}
use Rattle.std.specs.Option.{option_map, option_and_then}
use Rattle.wcv_core.specs.Checks.{all_checks}
use Rattle.wcv_core.specs.CoreForm.{CompositeForm, Group}
use Rattle.wcv_core.specs.CoreGroups.{total}
use Rattle.wcv_core.specs.CoreJoining.{is_free, first_id, grown}
use Rattle.wcv_core.specs.CoreWritten.{Core_entry, closed_group}
use Rattle.wcv_core.specs.Names.{Name}
use Rattle.wcv_core.specs.declared.core_types.EntityType.TheVariants as entity
use Rattle.wcv_syntax.specs.Model.{Canon_form}
use Rattle.wcv_types.specs.Tree.{Sort, is_nothing, is_value, is_resource, is_func, is_instance, is_component, is_type, is_module, is_core_instance, is_core_type, is_core_item, sort}
use Rattle.wcv_types.specs.Unfold.{Type_tree}
use Rattle.wcv_types.proofs.Lists.{some-inj}
use Rattle.wcv_matching.specs.Matching.{Item_rule, Reading, MatchBelow}
use Rattle.wcv_matching.specs.ModuleItems.{ItemsMatch}
use Rattle.wcv_flat.specs.Rows.{Ask, Appends, canon_row, options_in}
use Rattle.wcv_flat.specs.Rows as row
use Rattle.wcv_lower.specs.CanonOptions.{memory_found}
use Rattle.wcv_lower.specs.Canons.{local_rep, row_form, alone, ask_found, appends_found, operands_found, canon_found, func_joins, func_step, func_added, row_step, slots_typed, canon_step}
use Rattle.wcv_lower.specs.Checks.{if_found, same_sort}
use Rattle.wcv_lower.specs.Context.{Stack, in_funcs, core_funcs, type_at}
use Rattle.wcv_lower.specs.CoreItems.{core_entries, is_closable}
use Rattle.wcv_lower.specs.NewTypes.{type_entry}
use Rattle.wcv_lower.specs.Readers.{Reader}
use Rattle.wcv_lower.specs.Step.{Step, core_appends, interns, types_slots, change, apply}
use Rattle.wcv_lower.specs.Tables.{TableStands}
use Rattle.wcv_lower.specs.Trees.{Tree_stack, tree_reader}
use Rattle.wcv_lower.specs.Values.{type_of_sort}
use Rattle.wcv_growth.specs.Kept.{IsPrefix}
use Rattle.wcv_growth.proofs.Known.{mapped-some, then-some}
use Rattle.wcv_growth.proofs.Looking.{sorted-here}
use Rattle.wcv_world.specs.Reading.{Value_stack, value_reader}
use Rattle.wcv_world.specs.Values.{type_over}
use Rattle.wcv_safety.specs.Agreeing.{Agrees, AgreesAs, AgreeReadings}
use Rattle.wcv_safety.specs.Fitting.{MatchesAs}
use Rattle.wcv_safety.specs.Standing.{BothStand}
use Rattle.wcv_safety.proofs.Agreeing.{appends-agree, core-appends-agree, both-unseen, quiet-follows}
use Rattle.wcv_safety.proofs.CanonRows.{asks-there, appends-there, options-there, form-same}
use Rattle.wcv_safety.proofs.CoreTypes.{core-entries, interned}
use Rattle.wcv_safety.proofs.Found.{sorted-found}
use Rattle.wcv_safety.proofs.Groups.{free-left, free-right, free-both, closable-more, total-more, with-same, first-same}
use Rattle.wcv_safety.proofs.Tests.{if-some}

-- the groups once a core function has joined
slots-groups : {X : Reader} (qs : List Ask) (gs : List Group) (c : Group) (s : Stack X) → (apply (slots_typed qs (func_joins X gs c)) s).groups ≡ grown gs c
slots-groups [] gs c s = refl
slots-groups (row.slot_of v n ∷ qs) gs c s = slots-groups qs gs c (change (types_slots v) s)
slots-groups (q ∷ qs) gs c s = slots-groups qs gs c s

module _ (g : Name → Name) where
  -- ## Slots

  slots-agree : (qs : List Ask) (x : Step value_reader) (y : Step tree_reader) (hs : List Group) → ((v : Value_stack) (s : Tree_stack) → AgreeReadings g v s → v.groups ≡ hs → AgreeReadings g (apply x v) (apply y s)) →
      (v : Value_stack) (s : Tree_stack) → AgreeReadings g v s → v.groups ≡ hs → AgreeReadings g (apply (slots_typed qs x) v) (apply (slots_typed qs y) s)
  slots-agree [] x y hs k v s a e = k v s a e
  slots-agree (row.slot_of w n ∷ qs) x y hs k v s a e =
      slots-agree qs x y hs k (change (types_slots w) v) (change (types_slots w) s)
      (quiet-follows g v s (types_slots w ∷ []) (types_slots w ∷ []) a (tt, tt) (tt, tt) (both-unseen v.top.defined g (types_slots w ∷ []) (types_slots w ∷ []) v s (tt, tt) (tt, tt) a.stacks)) e
  slots-agree (q ∷ qs) x y hs k v s a e = slots-agree qs x y hs k v s a e

  -- ## A core function

  -- of one type in both
  func-joins-agree : (gs hs : List Group) (i j : ℕ) → IsPrefix gs hs → i ≡ j → (v : Value_stack) (s : Tree_stack) → AgreeReadings g v s → v.groups ≡ hs →
      AgreeReadings g (apply (interns hs ∷ core_appends core_funcs (value_reader.core_item (entity.Func (record { index = i }))) ∷ []) v) (apply (interns gs ∷ core_appends core_funcs (tree_reader.core_item (entity.Func (record { index = j }))) ∷ []) s)
  func-joins-agree gs hs i j p q v s a e =
      let b : AgreeReadings g (change (interns hs) v) (change (interns gs) s) = interned g v s a gs hs p e in
      subst (λ (k : ℕ). AgreeReadings g (apply (interns hs ∷ core_appends core_funcs (value_reader.core_item (entity.Func (record { index = i }))) ∷ []) v) (apply (interns gs ∷ core_appends core_funcs (tree_reader.core_item (entity.Func (record { index = k }))) ∷ []) s)) q
      (quiet-follows g (change (interns hs) v) (change (interns gs) s) (core_appends core_funcs (value_reader.core_item (entity.Func (record { index = i }))) ∷ []) (core_appends core_funcs (tree_reader.core_item (entity.Func (record { index = i }))) ∷ []) b (tt, tt) (tt, tt)
      (core-appends-agree v.top.defined g core_funcs (change (interns hs) v) (change (interns gs) s) (value_reader.core_item (entity.Func (record { index = i }))) (tree_reader.core_item (entity.Func (record { index = i }))) b.stacks
      (entity.Func (record { index = i }), entity.Func (record { index = i }), refl, refl, ([], refl)) (λ c. absurd (cc))))

module _ (g : Name → Name) (v : Value_stack) (s : Tree_stack) (h : BothStand v s) (a : AgreeReadings g v s) where
  -- the type alone in its group, over a table that has it
  pub func-step-follows : (qs : List Ask) (b : Bool) (w : CompositeForm) (y : Step tree_reader) → TableStands s → IsPrefix (apply (slots_typed qs y) s).groups v.groups → func_step s (alone b w) ≡ Some y →
      (x : Step value_reader) × (func_step v (alone b w) ≡ Some x) × AgreeReadings g (apply (slots_typed qs x) v) (apply (slots_typed qs y) s)
  func-step-follows qs b w y u p e =
      let es : List Core_entry = core_entries s.top in
      let c : Group = closed_group es (alone b w) in
      let m = if-some (is_closable s.groups es (alone b w)) (Some (func_joins tree_reader s.groups c)) y e in
      let r : func_joins tree_reader s.groups c ≡ y = some-inj m.1 in
      let q : IsPrefix (grown s.groups c) v.groups = subst (λ (gs : List Group). IsPrefix gs v.groups) (ap (λ (z : Step tree_reader). (apply (slots_typed qs z) s).groups) (sym r) ∙ slots-groups {X = tree_reader} qs s.groups c s) p in
      let l : total s.groups ≤ total v.groups = subst (λ (gs : List Group). total s.groups ≤ total gs) (sym a.stacks.groups.1) (total-more s.groups a.stacks.groups.0) in
      let one : Step value_reader = func_joins value_reader v.groups c in
      let same : grown v.groups c ≡ v.groups = subst (λ (gs : List Group). grown gs c ≡ gs) (sym q.1) (with-same s.groups q.0 c) in
      let ids : first_id v.groups c ≡ first_id s.groups c = ap (λ (gs : List Group). first_id gs c) q.1 ∙ first-same s.groups q.0 c in (
        one,
        ap (λ (fs : List Core_entry). cond (is_closable v.groups fs (alone b w)) (Some (func_joins value_reader v.groups (closed_group fs (alone b w)))) None) (core-entries g v s h a) ∙ ap (λ (z : Bool). cond z (Some one) None) (closable-more s.groups v.groups es (alone b w) l m.0),
        subst (λ (z : Step tree_reader). AgreeReadings g (apply (slots_typed qs one) v) (apply (slots_typed qs z) s)) r
            (slots-agree g qs one (func_joins tree_reader s.groups c) v.groups
            (λ v' s' k f. func-joins-agree g (grown s.groups c) (grown v.groups c) (first_id v.groups c) (first_id s.groups c) (subst (λ (gs : List Group). IsPrefix (grown s.groups c) gs) (sym same) q) ids v' s' k (f ∙ sym same)) v s a refl),
      )

-- ## Rows

func-sort : (l : Sort) → same_sort is_func l ≡ true → l ≡ is_func
func-sort is_func e = refl
func-sort is_value e = cc
func-sort is_resource e = cc
func-sort is_instance e = cc
func-sort is_component e = cc
func-sort is_type e = cc
func-sort is_module e = cc
func-sort is_core_instance e = cc
func-sort is_core_type e = cc
func-sort is_core_item e = cc
func-sort is_nothing e = cc

module _ (C : Item_rule) {A : Type 0} (f g : Reading A) (a b : Type_tree) where
  -- types that match as entries match
  inside-below : (d : ℕ) → MatchBelow C d A f g (type_entry a) (type_entry b) → MatchesAs C f g a b
  inside-below zero m = absurd m
  inside-below (suc d) m = (d, m.1.0)

  inside : MatchesAs C f g (type_entry a) (type_entry b) → MatchesAs C f g a b
  inside m = inside-below m.0 m.1

module _ (g : Name → Name) (v : Value_stack) (s : Tree_stack) (h : BothStand v s) (a : AgreeReadings g v s) (u : TableStands s) where
  core-follows : (qs : List Ask) (b : Bool) (o p : Option CompositeForm) (y : Step tree_reader) → o ≡ p → IsPrefix (apply (slots_typed qs y) s).groups v.groups → option_and_then (λ w. func_step s (alone b w)) p ≡ Some y →
      (x : Step value_reader) × (option_and_then (λ w. func_step v (alone b w)) o ≡ Some x) × AgreeReadings g (apply (slots_typed qs x) v) (apply (slots_typed qs y) s)
  core-follows qs b o p y q l e =
      let m = then-some (λ w. func_step s (alone b w)) p y e in
      let f = func-step-follows g v s h a qs b m.0 y u l m.2 in
      (f.0, ap (option_and_then (λ w. func_step v (alone b w))) (q ∙ m.1) ∙ f.1, f.2)

  -- a function of the type at the index
  lifted-follows : (qs : List Ask) (t : ℕ) (y : Step tree_reader) → option_map func_added (type_of_sort is_func s.top t) ≡ Some y →
      (x : Step value_reader) × (option_map func_added (type_of_sort is_func v.top t) ≡ Some x) × AgreeReadings g (apply (slots_typed qs x) v) (apply (slots_typed qs y) s)
  lifted-follows qs t y e =
      let m = mapped-some (func_added {X = tree_reader}) (type_of_sort is_func s.top t) y e in
      let x = sorted-found v.groups v.top.defined g v.top s.top a.stacks.all.0 h.types is_func t m.0 m.1 in
      let l : sort m.0 ≡ is_func = func-sort (sort m.0) (sorted-here is_func (type_at s.top t) m.0 m.1).1 in
      let fits : Agrees v.groups g x.0 m.0 = subst (λ (k : Sort). AgreesAs k v.groups g (type_over x.0) m.0) (sym l) (inside (ItemsMatch v.groups) {A = Name} (λ r. r) g (type_over x.0) m.0 x.2) in (
        func_added x.0,
        ap (option_map (func_added {X = value_reader})) x.1,
        subst (λ (z : Step tree_reader). AgreeReadings g (apply (slots_typed qs (func_added x.0)) v) (apply (slots_typed qs z) s)) m.2
            (slots-agree g qs (func_added x.0) (func_added m.0) v.groups
            (λ w z k r. quiet-follows g w z (func_added x.0) (func_added m.0) k (tt, tt) (tt, tt) (appends-agree w.top.defined g in_funcs w z x.0 m.0 k.stacks (subst (λ (gs : List Group). Agrees gs g x.0 m.0) (sym r) fits))) v s a refl),
      )

  row-follows : (f : Canon_form) (qs : List Ask) (q : Appends) (y : Step tree_reader) → row_form v f q ≡ row_form s f q → IsPrefix (apply (slots_typed qs y) s).groups v.groups → row_step s f q ≡ Some y →
      (x : Step value_reader) × (row_step v f q ≡ Some x) × AgreeReadings g (apply (slots_typed qs x) v) (apply (slots_typed qs y) s)
  row-follows f qs (row.core_func ps rs) y r l e = core-follows qs false (row_form v f (row.core_func ps rs)) (row_form s f (row.core_func ps rs)) y r l e
  row-follows f qs (row.shared_func ps rs) y r l e = core-follows qs true (row_form v f (row.shared_func ps rs)) (row_form s f (row.shared_func ps rs)) y r l e
  row-follows f qs (row.lowered k) y r l e = core-follows qs false (row_form v f (row.lowered k)) (row_form s f (row.lowered k)) y r l e
  row-follows f qs (row.returning k) y r l e = core-follows qs false (row_form v f (row.returning k)) (row_form s f (row.returning k)) y r l e
  row-follows f qs (row.lifted t) y r l e = lifted-follows qs t y e

  pub canon-follows : ((k : ℕ) → is_free (ask_found s (row.local_resource_at k)) ≡ true → (is_free (ask_found v (row.local_resource_at k)) ≡ true) × (local_rep v.top k ≡ local_rep s.top k)) →
      (f : Canon_form) (y : Step tree_reader) → IsPrefix (apply y s).groups v.groups → canon_step s f ≡ Some y → (x : Step value_reader) × (canon_step v f ≡ Some x) × AgreeReadings g (apply x v) (apply y s)
  canon-follows local f y l e =
      let qs : List Ask = (canon_row f).asks in
      let q : Appends = (canon_row f).appends in
      let m = if-some (is_free (canon_found s f)) (option_map (slots_typed qs) (row_step s f q)) y e in
      let n = mapped-some (slots_typed qs) (row_step s f q) y m.1 in
      let operands : is_free (operands_found s f) ≡ true = free-left (operands_found s f) (if_found (memory_found s.top) (options_in f)) m.0 in
      let memory : is_free (if_found (memory_found s.top) (options_in f)) ≡ true = free-right (operands_found s f) (if_found (memory_found s.top) (options_in f)) m.0 in
      let asks : is_free (all_checks (ask_found s) qs) ≡ true = free-left (all_checks (ask_found s) qs) (appends_found s.top q) operands in
      let appends : is_free (appends_found s.top q) ≡ true = free-right (all_checks (ask_found s) qs) (appends_found s.top q) operands in
      let there : is_free (canon_found v f) ≡ true =
      free-both (operands_found v f) (if_found (memory_found v.top) (options_in f))
      (free-both (all_checks (ask_found v) qs) (appends_found v.top q) (asks-there g v s h a u local qs asks) (appends-there g v s h a u local q appends)) (options-there g v s h a u local f memory) in
      let r = row-follows f qs q n.0 (form-same g v s h a u local f q asks appends memory) (subst (λ (z : Step tree_reader). IsPrefix (apply z s).groups v.groups) (sym n.2) l) n.1 in (
        slots_typed qs r.0,
        ap (λ (b : Bool). cond b (option_map (slots_typed qs) (row_step v f q)) None) there ∙ ap (option_map (slots_typed qs)) r.1,
        subst (λ (z : Step tree_reader). AgreeReadings g (apply (slots_typed qs r.0) v) (apply z s)) n.2 r.2,
      )
