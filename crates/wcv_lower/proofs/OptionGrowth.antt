-- What growth looks at in a list of options, and in a resource's destructor.
use Rattle.std.proofs.Common.{◌≡◌, ℕ, List, [], ◌∷◌, ◌++◌, refl, sym, ◌∙◌, ap, Bool, true, false, cond, not, ◌&&◌, Some, None}
use Rattle.std.specs.Prelude.{Option, is_some}
use Rattle.std.specs.Option.{option_map, option_and_then}
use Rattle.std.proofs.lemmas.Bool.{false≢true}
use Rattle.wcv_core.specs.CoreForm.{CompositeForm, func_form}
use Rattle.wcv_core.specs.CoreJoining.{is_free}
use Rattle.wcv_core.specs.declared.core_types.ValType.{ValType}
use Rattle.wcv_core.specs.declared.core_types.ValType.TheVariants as val
use Rattle.wcv_core.specs.declared.error.ErrorKind.TheVariants as error
use Rattle.wcv_syntax.specs.Model.{Canon_form, resource_type}
use Rattle.wcv_syntax.specs.Model as form
use Rattle.wcv_syntax.specs.declared.canonical.CanonicalOption.{CanonicalOption}
use Rattle.wcv_syntax.specs.declared.core_section.ExternalKind.TheVariants as kind
use Rattle.wcv_types.specs.Tree.{is_func, Parts, parts}
use Rattle.wcv_flat.specs.Flat.{pointer_type}
use Rattle.wcv_flat.specs.Options.{memory_size, pointer_size}
use Rattle.wcv_flat.specs.RowTypes.{taking}
use Rattle.wcv_flat.specs.Rows.{async_option, canon_row}
use Rattle.wcv_flat.specs.Signature.{core_type}
use Rattle.wcv_flat.specs.declared.options.Abi.TheVariants as abi
use Rattle.wcv_flat.specs.declared.options.Concurrency.TheVariants as concurrency
use Rattle.wcv_flat.specs.declared.options.PtrSize.{PtrSize}
use Rattle.wcv_lower.specs.CanonOptions.{stands, first, memory_in, callback_in, memory_pointers, concurrency_of, options_read, memory_found}
use Rattle.wcv_lower.specs.Canons.{func_at, options_in, lowered_form, alone, operands_found, func_step, func_added, row_step, slots_typed, canon_step}
use Rattle.wcv_lower.specs.Checks.{Checks, if_found, missing}
use Rattle.wcv_lower.specs.Context.{Context, Stack, is_concrete}
use Rattle.wcv_lower.specs.CoreInstances.{core_item_at}
use Rattle.wcv_lower.specs.Readers.{Reader, Maker}
use Rattle.wcv_lower.specs.Step.{Step, defines, joins_types}
use Rattle.wcv_lower.specs.Types.{type_step}
use Rattle.wcv_lower.specs.Values.{type_of_sort, option_entry}
use Rattle.wcv_lower.specs.WorkedCanons.{with_options}

-- a function that is lowered looks at no callback
lowered_async : (p : PtrSize) (x y : Option ℕ) (t : Parts (Unit {0}) (Unit {0})) (b d : Bool) → b ≡ d → core_type p abi.Lower (cond b (concurrency.Async x) concurrency.Sync) t ≡ core_type p abi.Lower (cond d (concurrency.Async y) concurrency.Sync) t
lowered_async p x y t true true e = refl
lowered_async p x y t false false e = refl
lowered_async p x y t true false e = absurd (false≢true (sym e))
lowered_async p x y t false true e = absurd (false≢true e)

module _ {X : Reader} (s : Stack X) (os ps : List CanonicalOption) (m : first memory_in os ≡ first memory_in ps) (a : stands async_option os ≡ stands async_option ps) where
  found_same : memory_found s.top os ≡ memory_found s.top ps
  found_same = ap (if_found (λ i. missing (core_item_at s.top kind.Memory i))) m

  size_same : pointer_size (options_read s.top os) ≡ pointer_size (options_read s.top ps)
  size_same = ap (λ (o : Option ℕ). memory_size (option_map (λ i. (i, memory_pointers s.top i)) o)) m

  lowered_same : (x : X.Entry) → lowered_form X (options_read s.top os) x ≡ lowered_form X (options_read s.top ps) x
  lowered_same x =
      ap (λ (p : PtrSize). core_type p abi.Lower (concurrency_of os) (parts (X.outline x))) size_same ∙
      lowered_async (pointer_size (options_read s.top ps)) (first callback_in os) (first callback_in ps) (parts (X.outline x)) (stands async_option os) (stands async_option ps) a

  -- one whose step goes by the size of pointers
  sized : (cs : Checks) (u : PtrSize → Option (Step X)) → cond (is_free (cs ++ memory_found s.top os)) (u (pointer_size (options_read s.top os))) None ≡ cond (is_free (cs ++ memory_found s.top ps)) (u (pointer_size (options_read s.top ps))) None
  sized cs u = λ j. cond (is_free (cs ++ found_same j)) (u (size_same j)) None

  -- behind the type of slots, which no such row has
  abbrev unslotted : Option (Step X) → Option (Step X)
  unslotted o = option_map (λ (y : Step X). y) o

  abbrev appended : List ValType → List ValType → Option (Step X)
  appended params results = unslotted (func_step s (alone false (func_form params results)))

  pub same_step : (f : Canon_form) → canon_step s (with_options os f) ≡ canon_step s (with_options ps f)
  same_step (form.lift k t _) = sized (operands_found s (form.lift k t os)) (λ p. unslotted (option_map func_added (type_of_sort is_func s.top t)))
  same_step (form.lower k _) = λ j. cond (is_free (operands_found s (form.lower k os) ++ found_same j)) (unslotted (option_and_then (λ w. func_step s (alone false w)) (option_map (λ x. lowered_same x j) (func_at s.top k)))) None
  same_step (form.task_return r _) =
      sized (operands_found s (form.task_return r os))
      (λ p. unslotted (option_and_then (λ (w : CompositeForm). func_step s (alone false w)) (option_map (λ (x : X.Entry). core_type p abi.Lower concurrency.Sync (taking (X.outline x))) (option_entry s.top r))))
  same_step (form.stream_read t _) = sized (operands_found s (form.stream_read t os)) (λ p. appended (val.I32 ∷ pointer_type p ∷ pointer_type p ∷ []) (pointer_type p ∷ []))
  same_step (form.stream_write t _) = sized (operands_found s (form.stream_write t os)) (λ p. appended (val.I32 ∷ pointer_type p ∷ pointer_type p ∷ []) (pointer_type p ∷ []))
  same_step (form.future_read t _) = sized (operands_found s (form.future_read t os)) (λ p. appended (val.I32 ∷ pointer_type p ∷ []) (val.I32 ∷ []))
  same_step (form.future_write t _) = sized (operands_found s (form.future_write t os)) (λ p. appended (val.I32 ∷ pointer_type p ∷ []) (val.I32 ∷ []))
  same_step (form.error_context_new _) = sized (operands_found s (form.error_context_new os)) (λ p. appended (pointer_type p ∷ pointer_type p ∷ []) (val.I32 ∷ []))
  same_step (form.error_context_message _) = sized (operands_found s (form.error_context_message os)) (λ p. appended (val.I32 ∷ pointer_type p ∷ []) [])
  same_step (form.builtin f) = refl

-- ## An index that has nothing

not_free : (cs : Checks) → is_free (cs ++ (error.OutOfBounds, true) ∷ []) ≡ false
not_free [] = refl
not_free (c ∷ cs) = go (not c.1) (not_free cs)
  where
    go : (b : Bool) → is_free (cs ++ (error.OutOfBounds, true) ∷ []) ≡ false → (b && is_free (cs ++ (error.OutOfBounds, true) ∷ [])) ≡ false
    go true e = e
    go false e = refl

module _ {X : Reader} where
  pub no_memory : (s : Stack X) (f : Canon_form) (os : List CanonicalOption) (i : ℕ) → options_in f ≡ Some os → first memory_in os ≡ Some i → core_item_at s.top kind.Memory i ≡ None → canon_step s f ≡ None
  no_memory s f os i e m h =
      let found : if_found (memory_found s.top) (options_in f) ≡ (error.OutOfBounds, true) ∷ [] = ap (if_found (memory_found s.top)) e ∙ ap (if_found (λ k. missing (core_item_at s.top kind.Memory k))) m ∙ ap missing h in
      ap (λ (b : Bool). cond b (option_map (slots_typed (canon_row f).asks) (row_step s f (canon_row f).appends)) None) (ap (λ (cs : Checks). is_free (operands_found s f ++ cs)) found ∙ not_free (operands_found s f))

  pub no_destructor : (mk : Maker X) (c : Context X) (rep : ValType) (i : ℕ) → core_item_at c kind.Func i ≡ None → type_step mk c (resource_type rep (Some i)) ≡ None
  no_destructor mk c rep i h = ap (λ (o : Option X.Entry). cond {A = Option (Step X)} (is_concrete c.kind && is_some o) (Some (defines mk.resource (Some rep) ∷ joins_types mk.reference)) None) h ∙ go (is_concrete c.kind)
    where
      go : (b : Bool) → cond {A = Option (Step X)} (b && false) (Some (defines mk.resource (Some rep) ∷ joins_types mk.reference)) None ≡ None
      go true = refl
      go false = refl
