-- The core type that a row makes of what was looked up is the one that the rules append.
use Rattle.std.proofs.Common.{◌≡◌, ℕ, List, [], ◌∷◌, map, refl, sym, ◌∙◌, ap, subst, Bool, true, false, Some, None}
use Rattle.std.specs.Prelude.{Option, slice_get, IfSome}
use Rattle.std.specs.Option.{option_map, option_and_then}
use Rattle.std.proofs.lemmas.Bool.{false≢true}
use Rattle.wcv_core.specs.CoreForm.{func_form}
use Rattle.wcv_syntax.specs.Model.{Canon_form}
use Rattle.wcv_syntax.specs.Model as form
use Rattle.wcv_syntax.specs.declared.canonical.CanonicalFunction.{CanonicalFunction}
use Rattle.wcv_syntax.specs.declared.canonical.CanonicalFunction.TheVariants as canon
use Rattle.wcv_syntax.specs.declared.component_type.ComponentValType.{ComponentValType as Written}
use Rattle.wcv_syntax.specs.declared.component_type.ComponentValType.TheVariants as written
use Rattle.wcv_types.specs.Arena.{Arena}
use Rattle.wcv_types.specs.Tree.{is_value}
use Rattle.wcv_types.specs.Unfold.{option_slot, slot_tree, tree_at, trees}
use Rattle.wcv_types.specs.declared.ids.ComponentAnyTypeId.{ComponentAnyTypeId}
use Rattle.wcv_types.specs.declared.ids.ComponentAnyTypeId.TheVariants as any
use Rattle.wcv_types.specs.declared.ids.ComponentFuncTypeId.{ComponentFuncTypeId}
use Rattle.wcv_types.specs.declared.ids.Part.TheVariants as part
use Rattle.wcv_types.specs.declared.shapes.ComponentValType.{ComponentValType}
use Rattle.wcv_flat.specs.RowTypes as flat
use Rattle.wcv_flat.specs.RowTypes.{word_type, params_of, results_of, words_form, FunctionStands, told_form, told_checks, row_checks}
use Rattle.wcv_flat.specs.Rows.{Ask, Word, word, pointer_word, rep_word, element_word, start_word, spawned_word, Appends, canon_row}
use Rattle.wcv_flat.specs.Rows as row
use Rattle.wcv_flat.specs.declared.options.CanonicalOptions.{CanonicalOptions}
use Rattle.wcv_flat.specs.declared.rows.RowFacts.{RowFacts}
use Rattle.wcv_flat.specs.declared.rows.RowFunction.{RowFunction}
use Rattle.wcv_flat.specs.declared.rows.RowFunction.TheVariants as function
use Rattle.wcv_lower.specs.CanonOptions.{options_read}
use Rattle.wcv_lower.specs.Canons.{options_in, canon_options, canon_facts, lowered_form, returning_form, row_form, func_at, lowered_asks, returning_asks, appended_asks, value_found, appends_found}
use Rattle.wcv_lower.specs.Checks.{IsFree, if_found}
use Rattle.wcv_lower.specs.Context.{in_types, in_funcs}
use Rattle.wcv_lower.specs.Trees.{Tree_context, Tree_stack, tree_reader}
use Rattle.wcv_lower.specs.Values.{type_at, option_entry}
use Rattle.wcv_lower.proofs.Appended.{lowered_outline, returning_outline, lowered_asks_outline, returning_asks_outline}
use Rattle.wcv_lower.proofs.ValueLaws.{found_there, found_of, mapped}
use Rattle.wcv_spaces.specs.Contents.{Contents, IdStands, StateStands, context_of, stack_of, id_tree}
use Rattle.wcv_spaces.proofs.Found.{get_same, stands_at}
use Rattle.wcv_canon.specs.Facts.{told_in, all_told_in, defined_value, result_at, function_at, row_facts}
use Rattle.wcv_flat.specs.CodeRows.{is_lift}
use Rattle.wcv_canon.proofs.FoundFacts.{all_told_here, result_here}

-- ## Facts without the function

abbrev bare : RowFacts → RowFacts
bare x = record x { function = None }

word_bare : (x : RowFacts) (w : Word) → word_type x w ≡ word_type (bare x) w
word_bare x (word v) = refl
word_bare x pointer_word = refl
word_bare x rep_word = refl
word_bare x element_word = refl
word_bare x start_word = refl
word_bare x spawned_word = refl

words_bare : (x : RowFacts) (q : Appends) → words_form x q ≡ words_form (bare x) q
words_bare x q = λ j. func_form (map (λ w. word_bare x w j) (params_of q)) (map (λ w. word_bare x w j) (results_of q))

module _ (a : Arena) (s : Contents) where
  told_bare : (q : Ask) (x : RowFacts) → bare (told_in a s q x) ≡ told_in a s q (bare x)
  told_bare (row.local_resource_at k) x = refl
  told_bare (row.memory_at m) x = refl
  told_bare (row.spawn_type_at t) x = refl
  told_bare (row.start_type_at t) x = refl
  told_bare (row.start_table_at n) x = refl
  told_bare q x = refl

  all_bare : (qs : List Ask) (x : RowFacts) → bare (all_told_in a s qs x) ≡ all_told_in a s qs (bare x)
  all_bare [] x = refl
  all_bare (q ∷ qs) x = told_bare q (all_told_in a s qs x) ∙ ap (told_in a s q) (all_bare qs x)

  told_function : (q : Ask) (x : RowFacts) → (told_in a s q x).function ≡ x.function
  told_function (row.local_resource_at k) x = refl
  told_function (row.memory_at m) x = refl
  told_function (row.spawn_type_at t) x = refl
  told_function (row.start_type_at t) x = refl
  told_function (row.start_table_at n) x = refl
  told_function q x = refl

  all_function : (qs : List Ask) (x : RowFacts) → (all_told_in a s qs x).function ≡ x.function
  all_function [] x = refl
  all_function (q ∷ qs) x = told_function q (all_told_in a s qs x) ∙ all_function qs x

-- ## Rows of words

-- parameters and results stand in the row
abbrev has_words : Appends → Bool
has_words (row.core_func ps rs) = true
has_words (row.shared_func ps rs) = true
has_words q = false

builtin_words : (g : CanonicalFunction) → has_words (canon_row (form.builtin g)).appends ≡ true
builtin_words (canon.ResourceNew k) = refl
builtin_words g = refl

module _ (a : Arena) (s : Contents) (h : StateStands a s) (outer : List Tree_context) where
  abbrev Here : Tree_context
  Here = context_of a s

  abbrev Whole : Tree_stack
  Whole = stack_of a s outer

  abbrev found : Canon_form → RowFacts
  found f = row_facts a s f

  facts_here : (f : Canon_form) → bare (found f) ≡ canon_facts Whole f
  facts_here f =
      let o : Option CanonicalOptions = option_map (options_read Here) (options_in f) in
      let x : RowFacts = record { options = o; function = function_at s (canon_row f).appends; rep = None; start = None; start_param = None; table_index = None } in
      all_bare a s (canon_row f).asks x ∙ sym (all_told_here a s h outer (canon_row f).asks (bare x))

  pub words_here : (f : Canon_form) (q : Appends) → words_form (found f) q ≡ words_form (canon_facts Whole f) q
  words_here f q = words_bare (found f) q ∙ ap (λ (x : RowFacts). words_form x q) (facts_here f)

  abbrev SameForm : Canon_form → Appends → Type 0
  SameForm f q = flat.row_form a (found f) q ≡ row_form Whole f q

  by_words : (f : Canon_form) (q : Appends) → has_words q ≡ true → SameForm f q
  by_words f (row.core_func ps rs) e = ap Some (words_here f (row.core_func ps rs))
  by_words f (row.shared_func ps rs) e = ap Some (words_here f (row.shared_func ps rs))
  by_words f (row.lowered k) e = absurd (false≢true e)
  by_words f (row.returning r) e = absurd (false≢true e)
  by_words f (row.lifted t) e = absurd (false≢true e)

  -- of a function that is lowered
  by_func : (o : CanonicalOptions) (k : ℕ) → told_form a (Some o) (option_map function.Lowered (slice_get s.spaces.funcs k)) ≡ option_map (lowered_form tree_reader o) (func_at Here k)
  by_func o k = go (slice_get s.spaces.funcs k) ∙ sym (ap (option_map (lowered_form tree_reader o)) (get_same a s h in_funcs k))
    where
      go : (i : Option ComponentFuncTypeId) → told_form a (Some o) (option_map function.Lowered i) ≡ option_map (lowered_form tree_reader o) (option_map (id_tree (trees a.nodes) in_funcs) i)
      go None = refl
      go (Some i) = ap Some (sym (lowered_outline o (tree_at a (part.Func i))))

  func_checks : (o : CanonicalOptions) (k : ℕ) → told_checks a (Some o) (option_map function.Lowered (slice_get s.spaces.funcs k)) ≡ if_found (lowered_asks tree_reader o) (func_at Here k)
  func_checks o k = go (slice_get s.spaces.funcs k) ∙ sym (ap (if_found (lowered_asks tree_reader o)) (get_same a s h in_funcs k))
    where
      go : (i : Option ComponentFuncTypeId) → told_checks a (Some o) (option_map function.Lowered i) ≡ if_found (lowered_asks tree_reader o) (option_map (id_tree (trees a.nodes) in_funcs) i)
      go None = refl
      go (Some i) = sym (lowered_asks_outline o (tree_at a (part.Func i)))

  -- of one that takes the result of a task
  by_result : (o : CanonicalOptions) (r : Option Written) → told_form a (Some o) (option_map function.Returned (result_at s r)) ≡ option_map (returning_form tree_reader o) (option_entry Here r)
  by_result o r = go (result_at s r) ∙ sym (ap (option_map (returning_form tree_reader o)) (result_here a s h r))
    where
      go : (v : Option (Option ComponentValType)) → told_form a (Some o) (option_map function.Returned v) ≡ option_map (returning_form tree_reader o) (option_map (λ v. slot_tree (trees a.nodes) (option_slot v)) v)
      go None = refl
      go (Some v) = ap Some (sym (returning_outline o (slot_tree (trees a.nodes) (option_slot v))))

  result_checks : (o : CanonicalOptions) (r : Option Written) → told_checks a (Some o) (option_map function.Returned (result_at s r)) ≡ if_found (returning_asks tree_reader o) (option_entry Here r)
  result_checks o r = go (result_at s r) ∙ sym (ap (if_found (returning_asks tree_reader o)) (result_here a s h r))
    where
      go : (v : Option (Option ComponentValType)) → told_checks a (Some o) (option_map function.Returned v) ≡ if_found (returning_asks tree_reader o) (option_map (λ v. slot_tree (trees a.nodes) (option_slot v)) v)
      go None = refl
      go (Some v) = sym (returning_asks_outline o (slot_tree (trees a.nodes) (option_slot v)))

  pub form_here : (f : Canon_form) → SameForm f (canon_row f).appends
  form_here (form.lift k t os) = refl
  form_here (form.lower k os) = by_func (options_read Here os) k
  form_here (form.task_return r os) = by_result (options_read Here os) r
  form_here (form.builtin g) = by_words (form.builtin g) (canon_row (form.builtin g)).appends (builtin_words g)
  form_here (form.stream_read t os) = by_words (form.stream_read t os) (canon_row (form.stream_read t os)).appends refl
  form_here (form.stream_write t os) = by_words (form.stream_write t os) (canon_row (form.stream_write t os)).appends refl
  form_here (form.future_read t os) = by_words (form.future_read t os) (canon_row (form.future_read t os)).appends refl
  form_here (form.future_write t os) = by_words (form.future_write t os) (canon_row (form.future_write t os)).appends refl
  form_here (form.error_context_new os) = by_words (form.error_context_new os) (canon_row (form.error_context_new os)).appends refl
  form_here (form.error_context_message os) = by_words (form.error_context_message os) (canon_row (form.error_context_message os)).appends refl

  abbrev SameChecks : Canon_form → Appends → Type 0
  SameChecks f q = row_checks a (found f) q ≡ appended_asks Here (canon_options Here f) q

  no_checks : (f : Canon_form) (q : Appends) → has_words q ≡ true → SameChecks f q
  no_checks f (row.core_func ps rs) e = refl
  no_checks f (row.shared_func ps rs) e = refl
  no_checks f (row.lowered k) e = absurd (false≢true e)
  no_checks f (row.returning r) e = absurd (false≢true e)
  no_checks f (row.lifted t) e = absurd (false≢true e)

  -- what the function asks of the options, where nothing is lifted
  pub checks_here : (f : Canon_form) → is_lift f ≡ false → SameChecks f (canon_row f).appends
  checks_here (form.lift k t os) e = absurd (false≢true (sym e))
  checks_here (form.lower k os) e = func_checks (options_read Here os) k
  checks_here (form.task_return r os) e = result_checks (options_read Here os) r
  checks_here (form.builtin g) e = no_checks (form.builtin g) (canon_row (form.builtin g)).appends (builtin_words g)
  checks_here (form.stream_read t os) e = refl
  checks_here (form.stream_write t os) e = refl
  checks_here (form.future_read t os) e = refl
  checks_here (form.future_write t os) e = refl
  checks_here (form.error_context_new os) e = refl
  checks_here (form.error_context_message os) e = refl

  -- ## There is one

  abbrev Found : {A : Type 0} → Option A → Type 0
  Found {A} o = (x : A) × (o ≡ Some x)

  value_there : (r : Option Written) → IsFree (value_found Here r) → Found (option_entry Here r)
  value_there None g = (tree_reader.left_out, refl)
  value_there (Some (written.Primitive p)) g = (tree_reader.primitive p, refl)
  value_there (Some (written.Ty k)) g = found_of tree_reader is_value (type_at Here k) g

  words_there : (f : Canon_form) (q : Appends) → has_words q ≡ true → Found (row_form Whole f q)
  words_there f (row.core_func ps rs) e = (words_form (canon_facts Whole f) (row.core_func ps rs), refl)
  words_there f (row.shared_func ps rs) e = (words_form (canon_facts Whole f) (row.shared_func ps rs), refl)
  words_there f (row.lowered k) e = absurd (false≢true e)
  words_there f (row.returning r) e = absurd (false≢true e)
  words_there f (row.lifted t) e = absurd (false≢true e)

  pub form_there : (f : Canon_form) → is_lift f ≡ false → IsFree (appends_found Here (canon_row f).appends) → Found (row_form Whole f (canon_row f).appends)
  form_there (form.lift k t os) e g = absurd (false≢true (sym e))
  form_there (form.lower k os) e g = mapped (lowered_form tree_reader (options_read Here os)) (func_at Here k) (found_there (func_at Here k) g)
  form_there (form.task_return r os) e g = mapped (returning_form tree_reader (options_read Here os)) (option_entry Here r) (value_there r g)
  form_there (form.builtin h) e g = words_there (form.builtin h) (canon_row (form.builtin h)).appends (builtin_words h)
  form_there (form.stream_read t os) e g = words_there (form.stream_read t os) (canon_row (form.stream_read t os)).appends refl
  form_there (form.stream_write t os) e g = words_there (form.stream_write t os) (canon_row (form.stream_write t os)).appends refl
  form_there (form.future_read t os) e g = words_there (form.future_read t os) (canon_row (form.future_read t os)).appends refl
  form_there (form.future_write t os) e g = words_there (form.future_write t os) (canon_row (form.future_write t os)).appends refl
  form_there (form.error_context_new os) e g = words_there (form.error_context_new os) (canon_row (form.error_context_new os)).appends refl
  form_there (form.error_context_message os) e g = words_there (form.error_context_message os) (canon_row (form.error_context_message os)).appends refl

  -- the function stands in the arena
  function_stands : (q : Appends) → IfSome (function_at s q) (FunctionStands a)
  function_stands (row.lowered k) = go (slice_get s.spaces.funcs k) (λ i e. stands_at a s h in_funcs k i e)
    where
      go : (o : Option ComponentFuncTypeId) → ((i : ComponentFuncTypeId) → o ≡ Some i → IdStands a in_funcs i) → IfSome (option_map function.Lowered o) (FunctionStands a)
      go None p = tt
      go (Some i) p = p i refl
  function_stands (row.returning None) = tt
  function_stands (row.returning (Some (written.Primitive p))) = tt
  function_stands (row.returning (Some (written.Ty k))) = go (slice_get s.spaces.types k) (λ x e. stands_at a s h in_types k x e)
    where
      go : (o : Option ComponentAnyTypeId) → ((x : ComponentAnyTypeId) → o ≡ Some x → IdStands a in_types x) → IfSome (option_map function.Returned (option_map (λ x. Some x) (option_and_then defined_value o))) (FunctionStands a)
      go None p = tt
      go (Some (any.Defined i)) p = (p (any.Defined i) refl).0
      go (Some (any.Resource r)) p = tt
      go (Some (any.Func i)) p = tt
      go (Some (any.Instance i)) p = tt
      go (Some (any.Component i)) p = tt
  function_stands (row.core_func ps rs) = tt
  function_stands (row.shared_func ps rs) = tt
  function_stands (row.lifted t) = tt

  pub found_stands : (f : Canon_form) → IfSome (found f).function (FunctionStands a)
  found_stands f =
      let q : Appends = (canon_row f).appends in
      subst (λ (o : Option RowFunction). IfSome o (FunctionStands a))
      (sym (all_function a s (canon_row f).asks (record { options = option_map (options_read Here) (options_in f); function = function_at s q; rep = None; start = None; start_param = None; table_index = None }))) (function_stands q)
