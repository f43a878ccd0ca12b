-- What canonical functions append, and that they look at no name in a type.
use Rattle.std.proofs.Common.{◌≡◌, ℕ, ◌+◌, List, [], ◌∷◌, ◌++◌, length, refl, sym, ◌∙◌, ap, subst, arith, Bool, true, false, cond, Some, None}
use Rattle.std.specs.Prelude.{Option}
use Rattle.std.specs.Option.{option_map, option_and_then, option_or, unwrap_or}
use Rattle.std.specs.Str.{bytes_eq}
use Rattle.wcv_core.specs.CoreCode.{code_of}
use Rattle.wcv_core.specs.CoreForm.{CompositeForm, func_form, SubForm, Group}
use Rattle.wcv_core.specs.CoreGroups.{total, id_from}
use Rattle.wcv_core.specs.CoreJoining.{is_free, first_id, grown}
use Rattle.wcv_core.specs.CoreMatching.{type_at}
use Rattle.wcv_core.specs.CoreTable.{with_group}
use Rattle.wcv_core.specs.CoreWritten.{closed_group}
use Rattle.wcv_core.specs.declared.core_types.EntityType.TheVariants as entity
use Rattle.wcv_core.specs.declared.core_types.ValType.{ValType}
use Rattle.wcv_core.proofs.TableLaws.{interned, stand}
use Rattle.wcv_syntax.specs.Model.{Canon_form, lift, builtin}
use Rattle.wcv_syntax.specs.declared.canonical.CanonicalFunction.TheVariants as canon
use Rattle.wcv_syntax.specs.declared.canonical.CanonicalOption.{CanonicalOption}
use Rattle.wcv_types.specs.Rename.{no_identity}
use Rattle.wcv_types.specs.Tree.{is_func, node, parts}
use Rattle.wcv_types.specs.Unfold.{Type_tree}
use Rattle.wcv_types.proofs.Lists.{some-inj}
use Rattle.wcv_flat.specs.Options.{pointer_size, type_checks}
use Rattle.wcv_flat.specs.RowTypes.{taking, sync, is_shared}
use Rattle.wcv_core.specs.Features.{cm_async}
use Rattle.wcv_flat.specs.Rows.{Ask, Appends, canon_row}
use Rattle.wcv_flat.specs.Rows as row
use Rattle.wcv_flat.specs.Signature.{core_type}
use Rattle.wcv_flat.specs.declared.options.Abi.TheVariants as abi
use Rattle.wcv_flat.specs.declared.options.CanonicalOptions.{CanonicalOptions}
use Rattle.wcv_flat.specs.declared.options.Concurrency.TheVariants as concurrency
use Rattle.wcv_flat.proofs.Renamed.{core_type_renamed, type_checks_renamed}
use Rattle.wcv_lower.specs.Canons.{lifted_form, lowered_form, returning_form, row_form, alone, row_group, canon_group, canon_found, func_joins, func_step, func_added, row_step, slots_typed, canon_step, lifted_asks, lowered_asks, returning_asks}
use Rattle.wcv_lower.specs.Context.{Stack, core_funcs, type_slots}
use Rattle.wcv_lower.specs.CoreItems.{core_entries, is_closable}
use Rattle.wcv_lower.specs.Readers.{Reader}
use Rattle.wcv_lower.specs.Step.{types_slots, Step, on_top, apply}
use Rattle.wcv_lower.specs.Trees.{tree_reader}
use Rattle.wcv_lower.specs.Values.{type_of_sort}
use Rattle.wcv_lower.proofs.Bringing.{map-some}

-- ## Ids

found_before : (n : ℕ) (gs hs : List Group) (c : List ℕ) (i : ℕ) → id_from n gs c ≡ Some i → id_from n (gs ++ hs) c ≡ Some i
found_before n [] hs c i e = cc
found_before n (g ∷ gs) hs c i e = go (bytes_eq c (code_of g)) e (found_before (n + length g) gs hs c i)
  where
    go : (b : Bool) → cond b (Some n) (id_from (n + length g) gs c) ≡ Some i → (id_from (n + length g) gs c ≡ Some i → id_from (n + length g) (gs ++ hs) c ≡ Some i) → cond b (Some n) (id_from (n + length g) (gs ++ hs) c) ≡ Some i
    go true e f = e
    go false e f = f e

-- a group that joined keeps its id, whatever joins behind it
pub id_stays : (gs hs : List Group) (g : Group) → first_id (with_group gs g ++ hs) g ≡ first_id gs g
id_stays gs hs g = ap (λ (o : Option ℕ). unwrap_or o (total (with_group gs g ++ hs))) (found_before 0 (with_group gs g) hs (code_of g) (first_id gs g) (interned gs g))

-- a type alone in its group stands at its id
pub type_there : (gs : List Group) (x : SubForm) → type_at (with_group gs (x ∷ [])) (first_id gs (x ∷ [])) ≡ x
type_there gs x =
    let g : Group = x ∷ [] in
    let e : first_id gs g ≡ first_id gs g + 0 = omega arith in
    ap (type_at (with_group gs g)) e ∙ stand (with_group gs g) g (first_id gs g) 0 (interned gs g) (omega arith)

-- ## Steps

module _ {X : Reader} where
  -- what the step is behind the type of slots
  stepped : (b : Bool) (qs : List Ask) (o : Option (Step X)) (p : Step X) → cond b (option_map (slots_typed qs) o) None ≡ Some p → (r : Step X) × (o ≡ Some r) × (slots_typed qs r ≡ p)
  stepped true qs None p e = cc
  stepped true qs (Some r) p e = (r, refl, some-inj e)
  stepped false qs o p e = cc

  joins_by : (s : Stack X) (w : Group) (r : Step X) → func_step s w ≡ Some r → func_joins X s.groups (closed_group (core_entries s.top) w) ≡ r
  joins_by s w r e = go (is_closable s.groups (core_entries s.top) w) e
    where
      go : (b : Bool) → cond b (Some (func_joins X s.groups (closed_group (core_entries s.top) w))) None ≡ Some r → func_joins X s.groups (closed_group (core_entries s.top) w) ≡ r
      go true e = some-inj e
      go false e = cc

  by_form : (s : Stack X) (f : Canon_form) (q : Appends) (w : CompositeForm) (r : Step X) → row_form s f q ≡ Some w → row_step s f q ≡ Some r → func_step s (alone (is_shared q) w) ≡ Some r
  by_form s f (row.core_func ps rs) w r e h = sym (ap (option_and_then (λ u. func_step s (alone false u))) e) ∙ h
  by_form s f (row.shared_func ps rs) w r e h = sym (ap (option_and_then (λ u. func_step s (alone true u))) e) ∙ h
  by_form s f (row.lowered k) w r e h = sym (ap (option_and_then (λ u. func_step s (alone false u))) e) ∙ h
  by_form s f (row.returning v) w r e h = sym (ap (option_and_then (λ u. func_step s (alone false u))) e) ∙ h
  by_form s f (row.lifted t) w r e h = cc

  slots_groups : (qs : List Ask) (gs : List Group) (g : Group) (t : Stack X) → (apply (slots_typed qs (func_joins X gs g)) t).groups ≡ grown gs g
  slots_groups [] gs g t = refl
  slots_groups (row.slot_of v n ∷ qs) gs g t = slots_groups qs gs g (on_top (type_slots v) t)
  slots_groups (q ∷ qs) gs g t = slots_groups qs gs g t

  slots_core : (qs : List Ask) (gs : List Group) (g : Group) (t : Stack X) → (apply (slots_typed qs (func_joins X gs g)) t).top.core core_funcs ≡ t.top.core core_funcs ++ X.core_item (entity.Func (record { index = first_id gs g })) ∷ []
  slots_core [] gs g t = refl
  slots_core (row.slot_of v n ∷ qs) gs g t = slots_core qs gs g (on_top (type_slots v) t)
  slots_core (q ∷ qs) gs g t = slots_core qs gs g t

  pub core_appended : (s : Stack X) (f : Canon_form) (p : Step X) (g : Group) → canon_step s f ≡ Some p → canon_group s f ≡ Some g →
      ((apply p s).groups ≡ grown s.groups g) × ((apply p s).top.core core_funcs ≡ s.top.core core_funcs ++ X.core_item (entity.Func (record { index = first_id s.groups g })) ∷ [])
  core_appended s f p g e h =
      let q : Appends = (canon_row f).appends in
      let qs : List Ask = (canon_row f).asks in
      let r = stepped (is_free (canon_found s f)) qs (row_step s f q) p e in
      let w = map-some (row_group s q) (row_form s f q) g h in
      let same : func_joins X s.groups g ≡ r.0 = ap (func_joins X s.groups) (sym (some-inj w.2)) ∙ joins_by s (alone (is_shared q) w.0) r.0 (by_form s f q w.0 r.0 w.1 r.1) in
      let whole : slots_typed qs (func_joins X s.groups g) ≡ p = ap (slots_typed qs) same ∙ r.2 in
      subst (λ (z : Step X). ((apply z s).groups ≡ grown s.groups g) × ((apply z s).top.core core_funcs ≡ s.top.core core_funcs ++ X.core_item (entity.Func (record { index = first_id s.groups g })) ∷ [])) whole
      (slots_groups qs s.groups g s, slots_core qs s.groups g s)

  pub func_appended : (s : Stack X) (k t : ℕ) (os : List CanonicalOption) (p : Step X) (x : X.Entry) → canon_step s (lift k t os) ≡ Some p → type_of_sort is_func s.top t ≡ Some x → p ≡ func_added x
  func_appended s k t os p x e h =
      let r = stepped (is_free (canon_found s (lift k t os))) (canon_row (lift k t os)).asks (row_step s (lift k t os) (row.lifted t)) p e in
      sym r.2 ∙ sym (some-inj (sym (ap (option_map func_added) h) ∙ r.1))

  -- the type of slots, behind a row that names one
  typed : (s : Stack X) (v : ValType) (w : Group) (o : Option (Step X)) (b : Bool) (bit n : ℕ) (p : Step X) → func_step s w ≡ o → cond b (option_map (slots_typed (row.feature bit ∷ row.slot_of v n ∷ [])) o) None ≡ Some p →
      (apply p s).top.context_type ≡ option_or s.top.context_type (Some v)
  typed s v w o b bit n p same e =
      let r = stepped b (row.feature bit ∷ row.slot_of v n ∷ []) o p e in
      subst (λ (z : Step X). (apply z s).top.context_type ≡ option_or s.top.context_type (Some v)) (ap (λ (z : Step X). types_slots v ∷ z) (joins_by s w r.0 (same ∙ r.1)) ∙ r.2) refl

  pub get_types : (s : Stack X) (v : ValType) (n : ℕ) (p : Step X) → canon_step s (builtin (canon.ContextGet v n)) ≡ Some p → (apply p s).top.context_type ≡ option_or s.top.context_type (Some v)
  get_types s v n p e = typed s v (alone false (func_form [] (v ∷ []))) _ (is_free (canon_found s (builtin (canon.ContextGet v n)))) cm_async n p refl e

  pub set_types : (s : Stack X) (v : ValType) (n : ℕ) (p : Step X) → canon_step s (builtin (canon.ContextSet v n)) ≡ Some p → (apply p s).top.context_type ≡ option_or s.top.context_type (Some v)
  set_types s v n p e = typed s v (alone false (func_form (v ∷ []) [])) _ (is_free (canon_found s (builtin (canon.ContextSet v n)))) cm_async n p refl e

-- ## Types without names

pub lifted_outline : (o : CanonicalOptions) (t : Type_tree) → lifted_form tree_reader o t ≡ core_type (pointer_size o) abi.Lift o.concurrency (parts t)
lifted_outline o (node h ps) = core_type_renamed no_identity no_identity (pointer_size o) abi.Lift o.concurrency ps

pub lowered_outline : (o : CanonicalOptions) (t : Type_tree) → lowered_form tree_reader o t ≡ core_type (pointer_size o) abi.Lower o.concurrency (parts t)
lowered_outline o (node h ps) = core_type_renamed no_identity no_identity (pointer_size o) abi.Lower o.concurrency ps

pub returning_outline : (o : CanonicalOptions) (t : Type_tree) → returning_form tree_reader o t ≡ core_type (pointer_size o) abi.Lower concurrency.Sync (taking t)
returning_outline o t = core_type_renamed no_identity no_identity (pointer_size o) abi.Lower concurrency.Sync (taking t)

pub lifted_asks_outline : (o : CanonicalOptions) (t : Type_tree) → lifted_asks tree_reader o t ≡ type_checks o abi.Lift (parts t)
lifted_asks_outline o (node h ps) = type_checks_renamed no_identity no_identity o abi.Lift ps

pub lowered_asks_outline : (o : CanonicalOptions) (t : Type_tree) → lowered_asks tree_reader o t ≡ type_checks o abi.Lower (parts t)
lowered_asks_outline o (node h ps) = type_checks_renamed no_identity no_identity o abi.Lower ps

pub returning_asks_outline : (o : CanonicalOptions) (t : Type_tree) → returning_asks tree_reader o t ≡ type_checks (sync o) abi.Lower (taking t)
returning_asks_outline o t = type_checks_renamed no_identity no_identity (sync o) abi.Lower (taking t)
