-- Rows of canonical functions: where a context has what a row asks, so do the lists that agree, and both append the same core type.
use Rattle.std.proofs.Common.{◌≡◌, ◌∙◌, ℕ, ◌≤◌, List, [], ◌∷◌, ◌++◌, map, Bool, true, false, not, ◌&&◌, Option, Some, None, refl, sym, ap, subst}
use Rattle.std.specs.Prelude.{All, slice_get}
use Rattle.std.specs.Option.{option_map, option_and_then, unwrap_or}
use Rattle.std.proofs.lemmas.List.Elements.{All-head}
use Rattle.wcv_core.specs.Checks.{all_checks}
use Rattle.wcv_core.specs.CoreForm.{SubForm, Group}
use Rattle.wcv_core.specs.CoreGroups.{total}
use Rattle.wcv_core.specs.CoreJoining.{is_free}
use Rattle.wcv_core.specs.CoreMatching as table
use Rattle.wcv_core.specs.CoreWritten.{Core_entry, sub_entry, module_entry, IsKnown, entry_checks, val_checks}
use Rattle.wcv_core.specs.Names.{Name}
use Rattle.wcv_core.specs.declared.core_types.EntityType.{EntityType}
use Rattle.wcv_core.specs.declared.error.ErrorKind.TheVariants as error
use Rattle.wcv_syntax.specs.Model.{Canon_form}
use Rattle.wcv_syntax.specs.declared.canonical.CanonicalOption.{CanonicalOption}
use Rattle.wcv_syntax.specs.declared.component_type.ComponentValType.{ComponentValType}
use Rattle.wcv_syntax.specs.declared.component_type.ComponentValType.TheVariants as val
use Rattle.wcv_syntax.specs.declared.core_section.ExternalKind.TheVariants as kind
use Rattle.wcv_types.specs.Seen.{seen}
use Rattle.wcv_types.specs.Tree.{Sort, is_func, is_value, is_resource, sort}
use Rattle.wcv_types.specs.Unfold.{Type_tree}
use Rattle.wcv_matching.specs.Matching.{outside}
use Rattle.wcv_matching.specs.ModuleItems.{ItemsMatch}
use Rattle.wcv_flat.specs.Options.{pointer_size}
use Rattle.wcv_flat.specs.RowTypes.{words_form}
use Rattle.wcv_flat.specs.Rows.{Ask, Appends, canon_row, options_in}
use Rattle.wcv_flat.specs.Rows as row
use Rattle.wcv_flat.specs.declared.options.Abi.TheVariants as abi
use Rattle.wcv_flat.specs.declared.options.CanonicalOptions.{CanonicalOptions}
use Rattle.wcv_flat.specs.declared.options.Concurrency.TheVariants as concurrency
use Rattle.wcv_flat.specs.declared.rows.RowFacts.{RowFacts}
use Rattle.wcv_lower.specs.CanonOptions.{memory_found, options_read}
use Rattle.wcv_lower.specs.Canons.{func_at, core_id, core_id_at, as_table, element_size, local_rep, first_param, start_param, canon_options, memory_alone, told_by, all_told, canon_facts, lowered_form, returning_form, row_form, outline_checks, ask_found, value_found, appends_found}
use Rattle.wcv_lower.specs.Checks.{missing, if_found}
use Rattle.wcv_lower.specs.Context.{in_funcs, type_at}
use Rattle.wcv_lower.specs.CoreInstances.{test_found}
use Rattle.wcv_lower.specs.CoreItems.{core_entries}
use Rattle.wcv_lower.specs.Outlines.{Outline, outline, is_stream, is_future}
use Rattle.wcv_lower.specs.Tables.{TableStands}
use Rattle.wcv_lower.specs.Trees.{Tree_stack, tree_reader}
use Rattle.wcv_lower.specs.Values.{sort_checks, option_entry}
use Rattle.wcv_lower.proofs.Joinable.{told_free}
use Rattle.wcv_lower.proofs.ValueLaws.{found_of}
use Rattle.wcv_growth.proofs.Known.{all-get}
use Rattle.wcv_growth.proofs.Looking.{sorted-here}
use Rattle.wcv_world.specs.Reading.{Value_stack, value_reader}
use Rattle.wcv_world.specs.Values.{Value, type_over}
use Rattle.wcv_safety.specs.Agreeing.{Agrees, AgreesAs, AgreeReadings}
use Rattle.wcv_safety.specs.Fitting.{Fits}
use Rattle.wcv_safety.specs.Standing.{BothStand}
use Rattle.wcv_safety.proofs.CanonOperands.{missing-there, func-there, item-there, entities-match, pointers-same, options-same, memory-there, sort-there, wide-table}
use Rattle.wcv_safety.proofs.CoreTypes.{core-entries}
use Rattle.wcv_safety.proofs.Found.{type-found, sorted-found}
use Rattle.wcv_safety.proofs.Groups.{free-left, free-right, free-each, val-more, total-more}
use Rattle.wcv_safety.proofs.Lists.{zip-get}
use Rattle.wcv_safety.proofs.Modules.{type-stays}
use Rattle.wcv_safety.proofs.Signatures.{alike-types, alike-taking, alike-stream, alike-future, stream-sort, future-sort}
use Rattle.wcv_safety.proofs.Starts.{seen-below}
use Rattle.wcv_safety.proofs.Types.{seen-alike, value-sort}

told : (b : Bool) → (not (not b) && true) ≡ true → b ≡ true
told true e = refl
told false e = cc

module _ (g : Name → Name) (v : Value_stack) (s : Tree_stack) (h : BothStand v s) (a : AgreeReadings g v s) (u : TableStands s) where
  -- ## Operands

  outline-there : (test : Outline → Bool) → ((t : Type_tree) → test (outline t) ≡ true → sort t ≡ is_value) →
      ((x t : Type_tree) → seen (outside (λ r. r)) x ≡ seen (outside g) t → test (outline x) ≡ test (outline t)) → (k : ℕ) → is_free (outline_checks test s.top k) ≡ true → is_free (outline_checks test v.top k) ≡ true
  outline-there test by same k e = go (type_at s.top k) refl e
    where
      go : (o : Option Type_tree) → type_at s.top k ≡ o → is_free (missing o ++ (error.WrongSort, test_found (λ (t : Type_tree). not (test (outline t))) o) ∷ []) ≡ true → is_free (outline_checks test v.top k) ≡ true
      go None q e = cc
      go (Some t) q e =
          let x = type-found v.groups v.top.defined g v.top s.top a.stacks.all.0 h.types k t q in
          let l = seen-alike (ItemsMatch v.groups) {A = Name} (λ r. r) g (type_over x.0) t is_value (λ d m. m) (by t (told (test (outline t)) e)) x.2 in
          ap (λ (o : Option Value). is_free (missing o ++ (error.WrongSort, test_found (λ (y : Value). not (test (outline (type_over y)))) o) ∷ [])) x.1 ∙ ap (λ (b : Bool). not (not b) && true) (same (type_over x.0) t l) ∙ e

  known : All (IsKnown (total s.groups)) (core_entries s.top)
  known = All-head (λ (es : List Core_entry). All (IsKnown (total s.groups)) es) (core_entries s.top) (map core_entries s.outer) u.known

  params-same : (t : ℕ) → option_and_then (start_param v.groups) (core_id_at v.top t) ≡ option_and_then (start_param s.groups) (core_id_at s.top t)
  params-same t = (λ j. option_and_then (start_param v.groups) (option_and_then core_id (slice_get (core-entries g v s h a j) t))) ∙ go (slice_get (core_entries s.top) t) refl
    where
      go : (o : Option Core_entry) → slice_get (core_entries s.top) t ≡ o → option_and_then (start_param v.groups) (option_and_then core_id o) ≡ option_and_then (start_param s.groups) (option_and_then core_id o)
      go None q = refl
      go (Some module_entry) q = refl
      go (Some (sub_entry i)) q =
          let l = all-get (IsKnown (total s.groups)) (core_entries s.top) t (sub_entry i) known q in
          ap (λ (z : SubForm). first_param z.inner) (ap (λ (gs : List Group). table.type_at gs i) a.stacks.groups.1 ∙ type-stays s.groups a.stacks.groups.0 i l)

  module _ (local : (k : ℕ) → is_free (ask_found s (row.local_resource_at k)) ≡ true → (is_free (ask_found v (row.local_resource_at k)) ≡ true) × (local_rep v.top k ≡ local_rep s.top k)) where
    ask-there : (q : Ask) → is_free (ask_found s q) ≡ true → is_free (ask_found v q) ≡ true
    ask-there (row.resource_at k) e = sort-there g v s h a is_resource k e
    ask-there (row.local_resource_at k) e = (local k e).0
    ask-there (row.stream_at k) e = outline-there is_stream stream-sort (alike-stream (outside (λ r. r)) (outside g)) k e
    ask-there (row.future_at k) e = outline-there is_future future-sort (alike-future (outside (λ r. r)) (outside g)) k e
    ask-there (row.memory_at m) e = item-there g v s h a kind.Memory m e
    ask-there (row.slot_of w n) e =
        let l : total s.groups ≤ total v.groups = subst (λ (gs : List Group). total s.groups ≤ total gs) (sym a.stacks.groups.1) (total-more s.groups a.stacks.groups.0) in
        subst (λ (es : List Core_entry). is_free (val_checks (total v.groups) es 0 w) ≡ true) (sym (core-entries g v s h a)) (val-more (total s.groups) (total v.groups) l (core_entries s.top) 0 w e)
    ask-there (row.spawn_type_at t) e = subst (λ (es : List Core_entry). is_free (entry_checks (slice_get es t)) ≡ true) (sym (core-entries g v s h a)) e
    ask-there (row.start_type_at t) e = subst (λ (es : List Core_entry). is_free (entry_checks (slice_get es t)) ≡ true) (sym (core-entries g v s h a)) e
    ask-there (row.spawn_table_at n) e = item-there g v s h a kind.Table n e
    ask-there (row.start_table_at n) e = item-there g v s h a kind.Table n e
    ask-there (row.lifts f t os) e = item-there g v s h a kind.Func f e
    ask-there q e = refl

    pub asks-there : (qs : List Ask) → is_free (all_checks (ask_found s) qs) ≡ true → is_free (all_checks (ask_found v) qs) ≡ true
    asks-there qs e = free-each (ask_found s) (ask_found v) ask-there qs e

    ask-told : (q : Ask) → is_free (ask_found s q) ≡ true → (f : RowFacts) → told_by v q f ≡ told_by s q f
    ask-told (row.local_resource_at k) e f = λ j. record f { rep = (local k e).1 j }
    ask-told (row.memory_at m) e f = λ j. record f { options = Some (memory_alone m (pointers-same g v s h a m e j)) }
    ask-told (row.spawn_type_at t) e f = λ j. record f { start = option_and_then core_id (slice_get (core-entries g v s h a j) t) }
    ask-told (row.start_type_at t) e f = λ j. record f { start_param = params-same t j }
    ask-told (row.start_table_at n) e f =
        let m = entities-match g v s h a kind.Table n e in
        let same = ap (λ (o : Option EntityType). option_map element_size (option_and_then as_table o)) m.2 ∙ wide-table v.groups m.0 m.1 m.4 ∙ sym (ap (λ (o : Option EntityType). option_map element_size (option_and_then as_table o)) m.3) in
        λ j. record f { table_index = same j }
    ask-told q e f = refl

    asks-told : (qs : List Ask) → is_free (all_checks (ask_found s) qs) ≡ true → (f : RowFacts) → all_told v qs f ≡ all_told s qs f
    asks-told [] e f = refl
    asks-told (q ∷ qs) e f =
        ap (told_by v q) (asks-told qs (free-right (ask_found s q) (all_checks (ask_found s) qs) e) f) ∙ ask-told q (free-left (ask_found s q) (all_checks (ask_found s) qs) e) (all_told s qs f)

    -- ## What is appended

    abbrev facts : Option CanonicalOptions → RowFacts
    facts o = record { options = o; function = None; rep = None; start = None; start_param = None; table_index = None }

    facts-same : (f : Canon_form) → is_free (all_checks (ask_found s) (canon_row f).asks) ≡ true → is_free (if_found (memory_found s.top) (options_in f)) ≡ true → canon_facts v f ≡ canon_facts s f
    facts-same f e m = ap (λ (o : Option CanonicalOptions). all_told v (canon_row f).asks (facts o)) (go (options_in f) m) ∙ asks-told (canon_row f).asks e (facts (option_map (options_read s.top) (options_in f)))
      where
        go : (o : Option (List CanonicalOption)) → is_free (if_found (memory_found s.top) o) ≡ true → option_map (options_read v.top) o ≡ option_map (options_read s.top) o
        go None m = refl
        go (Some os) m = ap Some (options-same g v s h a os m)

    canon-options-same : (f : Canon_form) → is_free (if_found (memory_found s.top) (options_in f)) ≡ true → canon_options v.top f ≡ canon_options s.top f
    canon-options-same f m = go (options_in f) m
      where
        go : (o : Option (List CanonicalOption)) → is_free (if_found (memory_found s.top) o) ≡ true → options_read v.top (unwrap_or o []) ≡ options_read s.top (unwrap_or o [])
        go None m = refl
        go (Some os) m = options-same g v s h a os m

    lowered-same : (o : CanonicalOptions) (k : ℕ) → is_free (missing (func_at s.top k)) ≡ true → option_map (lowered_form value_reader o) (func_at v.top k) ≡ option_map (lowered_form tree_reader o) (func_at s.top k)
    lowered-same o k e =
        let t = missing-there (func_at s.top k) e in
        let z = zip-get (Agrees v.groups g) (v.top.space in_funcs) (s.top.space in_funcs) k t.0 (a.stacks.all.0.space in_funcs) t.1 in
        let l : sort t.0 ≡ is_func = all-get (λ (x : Type_tree). sort x ≡ is_func) (s.top.space in_funcs) k t.0 (h.types.sorted in_funcs) t.1 in
        let fit : Fits v.groups g (type_over z.0) t.0 = subst (λ (l : Sort). AgreesAs l v.groups g (type_over z.0) t.0) l z.2 in
        let alike = seen-below (ItemsMatch v.groups) {A = Name} fit.0 (λ r. r) g (type_over z.0) t.0 l fit.1 in
        ap (option_map (lowered_form value_reader o)) z.1 ∙ ap Some (alike-types (pointer_size o) abi.Lower o.concurrency (outside (λ r. r)) (outside g) (type_over z.0) t.0 alike) ∙ sym (ap (option_map (lowered_form tree_reader o)) t.1)

    returning-same : (o : CanonicalOptions) (r : Option ComponentValType) → is_free (value_found s.top r) ≡ true → option_map (returning_form value_reader o) (option_entry v.top r) ≡ option_map (returning_form tree_reader o) (option_entry s.top r)
    returning-same o None e = refl
    returning-same o (Some (val.Primitive p)) e = refl
    returning-same o (Some (val.Ty k)) e =
        let t = found_of tree_reader is_value (type_at s.top k) (told_free (sort_checks is_value s.top k) e) in
        let x = sorted-found v.groups v.top.defined g v.top s.top a.stacks.all.0 h.types is_value k t.0 t.1 in
        let l : sort t.0 ≡ is_value = value-sort (sort t.0) (sorted-here is_value (type_at s.top k) t.0 t.1).1 in
        let alike = seen-alike (ItemsMatch v.groups) {A = Name} (λ r. r) g (type_over x.0) t.0 is_value (λ d m. m) l x.2 in
        ap (option_map (returning_form value_reader o)) x.1 ∙ ap Some (alike-taking (pointer_size o) abi.Lower concurrency.Sync (outside (λ r. r)) (outside g) (type_over x.0) t.0 alike) ∙ sym (ap (option_map (returning_form tree_reader o)) t.1)

    pub form-same : (f : Canon_form) (q : Appends) → is_free (all_checks (ask_found s) (canon_row f).asks) ≡ true → is_free (appends_found s.top q) ≡ true → is_free (if_found (memory_found s.top) (options_in f)) ≡ true → row_form v f q ≡ row_form s f q
    form-same f (row.core_func ps rs) e n m = ap (λ (x : RowFacts). Some (words_form x (row.core_func ps rs))) (facts-same f e m)
    form-same f (row.shared_func ps rs) e n m = ap (λ (x : RowFacts). Some (words_form x (row.shared_func ps rs))) (facts-same f e m)
    form-same f (row.lowered k) e n m = ap (λ (o : CanonicalOptions). option_map (lowered_form value_reader o) (func_at v.top k)) (canon-options-same f m) ∙ lowered-same (canon_options s.top f) k n
    form-same f (row.returning r) e n m = ap (λ (o : CanonicalOptions). option_map (returning_form value_reader o) (option_entry v.top r)) (canon-options-same f m) ∙ returning-same (canon_options s.top f) r n
    form-same f (row.lifted t) e n m = refl

    pub appends-there : (q : Appends) → is_free (appends_found s.top q) ≡ true → is_free (appends_found v.top q) ≡ true
    appends-there (row.lowered k) e = func-there g v s h a k e
    appends-there (row.returning None) e = refl
    appends-there (row.returning (Some (val.Primitive p))) e = refl
    appends-there (row.returning (Some (val.Ty k))) e = sort-there g v s h a is_value k e
    appends-there (row.lifted t) e = sort-there g v s h a is_func t e
    appends-there q e = refl

    pub options-there : (f : Canon_form) → is_free (if_found (memory_found s.top) (options_in f)) ≡ true → is_free (if_found (memory_found v.top) (options_in f)) ≡ true
    options-there f m = go (options_in f) m
      where
        go : (o : Option (List CanonicalOption)) → is_free (if_found (memory_found s.top) o) ≡ true → is_free (if_found (memory_found v.top) o) ≡ true
        go None m = refl
        go (Some os) m = memory-there g v s h a os m
