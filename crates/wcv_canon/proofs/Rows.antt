-- Rows that are looked at one ask after the other: what is asked looks at no context further out.
use Rattle.std.proofs.Common.{◌≡◌, ◌<◌, ℕ, List, [], ◌∷◌, ◌++◌, length, get_or, refl, ap, ◌∙◌, subst, inl, inr, ⊎_elim, Some, None}
use Rattle.std.specs.Prelude.{◌⊎◌, Option}
use Rattle.std.specs.Option.{unwrap_or}
use Rattle.wcv_core.specs.Checks.{all_checks}
use Rattle.wcv_core.specs.Refusal.{error_kind}
use Rattle.wcv_core.specs.declared.error.Error.{Error}
use Rattle.wcv_core.specs.declared.error.ErrorKind.{ErrorKind}
use Rattle.wcv_core.proofs.Causes.{cause_left, cause_right, cause_either, free_both, free_left, free_right}
use Rattle.wcv_core.proofs.Closing.{caused_at}
use Rattle.wcv_syntax.specs.Model.{Canon_form}
use Rattle.wcv_syntax.specs.declared.canonical.CanonicalOption.{CanonicalOption}
use Rattle.wcv_types.specs.Arena.{Arena}
use Rattle.wcv_flat.specs.CodeRows.{ask_of, there, row_view}
use Rattle.wcv_flat.specs.Rows as row
use Rattle.wcv_flat.specs.Rows.{canon_row, options_in}
use Rattle.wcv_flat.specs.declared.canon_rows.Ask.{Ask}
use Rattle.wcv_flat.specs.declared.canon_rows.Row.{Row}
use Rattle.wcv_lower.specs.Canons.{ask_found, ask_rules}
use Rattle.wcv_lower.specs.Checks.{Checks, Cause, IsFree}
use Rattle.wcv_lower.specs.Trees.{Tree_context}
use Rattle.wcv_spaces.specs.Contents.{Contents, stack_of}
use Rattle.wcv_spaces.specs.Promises.{MemoryOrCausedBy}
use Rattle.wcv_spaces.proofs.Calls.{caused_more}
use Rattle.wcv_canon.specs.Operands.{operand_checks, asked, row_asked, asked_option}

-- ## Two lists of checks, over the elements of a list

module _ {A : Type 0} (f g : A → Checks) where
  abbrev one : A → Checks
  one x = f x ++ g x

  pub free_pairs : (xs : List A) → IsFree (all_checks one xs) → IsFree (all_checks f xs) × IsFree (all_checks g xs)
  free_pairs [] h = (tt, tt)
  free_pairs (x ∷ xs) h =
      let here : IsFree (one x) = free_left (one x) (all_checks one xs) h in
      let rest = free_pairs xs (free_right (one x) (all_checks one xs) h) in
      (free_both (f x) (all_checks f xs) (free_left (f x) (g x) here) rest.0, free_both (g x) (all_checks g xs) (free_right (f x) (g x) here) rest.1)

  pub cause_pairs : (xs : List A) (k : ErrorKind) → Cause (all_checks one xs) k → Cause (all_checks f xs) k ⊎ Cause (all_checks g xs) k
  cause_pairs [] k c = inl c
  cause_pairs (x ∷ xs) k c = go (λ d. cause_pairs xs k d) (cause_either (one x) (all_checks one xs) k c)
    where
      behind : Cause (all_checks f xs) k ⊎ Cause (all_checks g xs) k → Cause (f x ++ all_checks f xs) k ⊎ Cause (g x ++ all_checks g xs) k
      behind (inl d) = inl (cause_right (f x) (all_checks f xs) k d)
      behind (inr d) = inr (cause_right (g x) (all_checks g xs) k d)

      here : Cause (f x) k ⊎ Cause (g x) k → Cause (f x ++ all_checks f xs) k ⊎ Cause (g x ++ all_checks g xs) k
      here (inl d) = inl (cause_left (f x) (all_checks f xs) k d)
      here (inr d) = inr (cause_left (g x) (all_checks g xs) k d)

      go : (Cause (all_checks one xs) k → Cause (all_checks f xs) k ⊎ Cause (all_checks g xs) k) → Cause (one x) k ⊎ Cause (all_checks one xs) k → Cause (f x ++ all_checks f xs) k ⊎ Cause (g x ++ all_checks g xs) k
      go rest (inl d) = here (cause_either (f x) (g x) k d)
      go rest (inr d) = behind (rest d)

  -- both lists are free of causes as one
  pub free_joined : (xs : List A) → IsFree (all_checks one xs) → IsFree (all_checks f xs ++ all_checks g xs)
  free_joined xs h = let p = free_pairs xs h in free_both (all_checks f xs) (all_checks g xs) p.0 p.1

  pub cause_joined : (xs : List A) (k : ErrorKind) → Cause (all_checks one xs) k → Cause (all_checks f xs ++ all_checks g xs) k
  cause_joined xs k c = ⊎_elim (λ d. cause_left (all_checks f xs) (all_checks g xs) k d) (λ d. cause_right (all_checks f xs) (all_checks g xs) k d) (cause_pairs xs k c)

-- equal checks of each element
pub all_same : {A : Type 0} (f g : A → Checks) → ((x : A) → f x ≡ g x) → (xs : List A) → all_checks f xs ≡ all_checks g xs
all_same f g h xs = λ j. all_checks (λ x. h x j) xs

-- ## Rows

module _ (a : Arena) (s : Contents) (outer : List Tree_context) where
  abbrev found : row.Ask → Checks
  found = ask_found (stack_of a s outer)

  abbrev rules : row.Ask → Checks
  rules = ask_rules s.features (stack_of a s outer)

  asked_same : (q : row.Ask) → asked a s q ≡ found q ++ rules q
  asked_same (row.feature bit) = refl
  asked_same (row.more_where b) = refl
  asked_same (row.more_without_async os) = refl
  asked_same (row.bars ns os) = refl
  asked_same (row.has_to_stand n w os) = refl
  asked_same (row.async_func k os) = refl
  asked_same (row.resource_at k) = refl
  asked_same (row.local_resource_at k) = refl
  asked_same (row.stream_at k) = refl
  asked_same (row.future_at k) = refl
  asked_same (row.memory_at m) = refl
  asked_same (row.no_borrow r) = refl
  asked_same (row.slot_of v n) = refl
  asked_same (row.spawn_type_at t) = refl
  asked_same (row.start_type_at t) = refl
  asked_same (row.spawn_table_at n) = refl
  asked_same (row.start_table_at n) = refl
  asked_same (row.lifts f t os) = refl

  row_same : (qs : List row.Ask) → all_checks (asked a s) qs ≡ all_checks (λ q. found q ++ rules q) qs
  row_same qs = all_same (asked a s) (λ q. found q ++ rules q) asked_same qs

  pub operands_free : (f : Canon_form) → IsFree (row_asked a s f) → IsFree (operand_checks s.features (stack_of a s outer) f)
  operands_free f h = free_joined found rules (canon_row f).asks (subst IsFree (row_same (canon_row f).asks) h)

  pub operands_caused : {M : Type 0} (f : Canon_form) (offset : ℕ) (e : Error M) → MemoryOrCausedBy (row_asked a s f) offset e → MemoryOrCausedBy (operand_checks s.features (stack_of a s outer) f) offset e
  operands_caused f offset e t =
      caused_more (row_asked a s f) (operand_checks s.features (stack_of a s outer) f) offset e
      (λ c. cause_joined found rules (canon_row f).asks (error_kind e) (subst (λ (cs : Checks). Cause cs (error_kind e)) (row_same (canon_row f).asks) c)) t

-- ## As the code has them

-- what is asked where something is, and of those that are there alone
there_checks : (a : Arena) (s : Contents) (os : List CanonicalOption) (qs : List (Option Ask)) → all_checks (asked_option a s os) qs ≡ all_checks (asked a s) (there (ask_of os) qs)
there_checks a s os [] = refl
there_checks a s os (None ∷ qs) = there_checks a s os qs
there_checks a s os (Some q ∷ qs) = ap (λ (cs : Checks). asked a s (ask_of os q) ++ cs) (there_checks a s os qs)

pub asks_row : (a : Arena) (s : Contents) (os : List CanonicalOption) (r : Row) (f : Canon_form) → os ≡ unwrap_or (options_in f) [] → row_view (unwrap_or (options_in f) []) r ≡ canon_row f → all_checks (asked_option a s os) r.asks ≡ row_asked a s f
asks_row a s os r f e h =
    there_checks a s os r.asks
    ∙ ap (λ (opts : List CanonicalOption). all_checks (asked a s) (row_view opts r).asks) e
    ∙ ap (λ (x : row.Row). all_checks (asked a s) x.asks) h

-- ## One of a list

pub one_caused : {M : Type 0} {A : Type 0} (f : A → Checks) (xs : List A) (i : ℕ) (x : A) (offset : ℕ) (e : Error M) → i < length xs → MemoryOrCausedBy (f (get_or xs i x)) offset e → MemoryOrCausedBy (all_checks f xs) offset e
one_caused f xs i x offset e h (inl m) = inl m
one_caused f xs i x offset e h (inr t) = inr (caused_at f xs i x offset e h t)
