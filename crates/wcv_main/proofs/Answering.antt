-- From what the parts of a run did to what it answers.
use Rattle.wcv_core.specs.Limits.{max_listing}
use Rattle.std.proofs.Common.{◌≡◌, ℕ, ◌+◌, ◌*◌, ◌<◌, ◌≤◌, ◌⊎◌, inl, inr, List, [], ◌++◌, length, Option, Some, None, IfSome, refl, sym, ap, ◌∙◌, subst, arith, length-append, ⊎_elim}
use Rattle.std.proofs.lemmas.List.{append-nil}
use Rattle.std.proofs.lemmas.Bool.{cases_lt}
use Rattle.std.proofs.lemmas.Bool.Decides.{nat_tests}
use Rattle.std.specs.Io.KnownBytes.{Appends, Consumes, IsAtEnd}
use Rattle.wcv_main.specs.declared.reading.Reading.{Reading}
use Rattle.wcv_main.specs.declared.status.Status.{Status}
use Rattle.wcv_main.specs.declared.status.Status.TheVariants as status
use Rattle.wcv_core.specs.declared.error.ErrorKind.{ErrorKind}
use Rattle.wcv_core.specs.declared.features.WasmFeatures.{WasmFeatures}
use Rattle.wcv_core.specs.Features.{default_features}
use Rattle.wcv_syntax.specs.Model.{Items}
use Rattle.wcv_listing.specs.Generated.{generated}
use Rattle.wcv_lower.specs.Ending.{type_at_end, end_checks}
use Rattle.wcv_lower.specs.Marks.{unused_checks}
use Rattle.wcv_lower.specs.Trees.{Type_tree, Tree_stack, node_tree}
use Rattle.wcv_main.specs.Due.{Due, wrong_words, too_long, no_json, no_shape, binary_too_long, too_much_to_keep, no_binary, no_form, sections, listing, made, due_of_bytes, due_of_long, due_over, usage, IsReport, IsSummary, IsExpected, accepted_text, made_text, refusal_text}
use Rattle.wcv_core.specs.Names.{base}
use Rattle.wcv_lower.proofs.Causes.{free_right}
use Rattle.wcv_lower.proofs.EndingLaws.{has_type}
use Rattle.wcv_growth.specs.Valid.{ValidTo, Refused}
use Rattle.wcv_growth.proofs.Decided.{valid_or_refused}
use Rattle.wcv_growth.proofs.Ended.{valid_lists}
use Rattle.wcv_growth.proofs.NestedListed.{nested_list}
use Rattle.wcv_main.specs.Pump.{AppendsPrefix}
use Rattle.wcv_main.specs.Answers.{IsAnswer, MayStandIn, Answers, Cuts, Finishes}
use Rattle.wcv_main.proofs.Known.{appends_nothing}

-- the report of a valid root is due
pub reported : (features : WasmFeatures) (is : Items) (d : Tree_stack) (t : Type_tree) → ValidTo features is d → type_at_end (node_tree (base [])) d.top ≡ Some t → IsReport features is status.Done (accepted_text d t)
reported features is d t v e = record { context = d; ty = t; valid = v; typed = e; listed = valid_lists features is d (base []) t v e; inside = nested_list features is d v; status_is = refl; text_is = refl }

-- so is the summary of a valid one that is made for a number
pub summed : (n : ℕ) (d : Tree_stack) → ValidTo default_features (generated n) d → IsSummary n status.Done (made_text n d)
summed n d v = record { context = d; valid = v; status_is = refl; text_is = refl }

-- something is always due
pub some_due : (d : Due) → (s : Status) × (text : List ℕ) × IsExpected d s text
some_due wrong_words = (status.Words, usage, (refl, refl))
some_due too_long = (status.TooLong, _, (refl, refl))
some_due no_json = (status.Listing, _, (refl, refl))
some_due (no_shape at) = (status.Listing, _, (refl, refl))
some_due binary_too_long = (status.TooLong, _, (refl, refl))
some_due too_much_to_keep = (status.TooLong, _, (refl, refl))
some_due (no_binary at) = (status.Listing, _, (refl, ([], refl)))
some_due (no_form at) = (status.Listing, _, (refl, ([], refl)))
some_due (listing features es end) = (status.Done, _, (refl, refl))
some_due (sections features is end) = by_answer (valid_or_refused features is end)
  where
    by_answer : ((d : Tree_stack) × ValidTo features is d) ⊎ ((kind : ErrorKind) × (offset : ℕ) × Refused features is end kind offset) → (s : Status) × (text : List ℕ) × IsExpected (sections features is end) s text
    by_answer (inl v) =
        let t = has_type (node_tree (base [])) v.0.top (free_right (unused_checks v.0.top) (end_checks v.0.top) v.1.1) in
        (status.Done, accepted_text v.0 t.0, inl (reported features is v.0 t.0 v.1 t.1))
    by_answer (inr r) = (status.Refused, refusal_text r.0 r.1 [], inr (r.0, r.1, r.2, refl, ([], refl)))
some_due (made n) = by_answer (valid_or_refused default_features (generated n) (5 + 3 * n))
  where
    by_answer : ((d : Tree_stack) × ValidTo default_features (generated n) d) ⊎ ((kind : ErrorKind) × (offset : ℕ) × Refused default_features (generated n) (5 + 3 * n) kind offset) → (s : Status) × (text : List ℕ) × IsExpected (made n) s text
    by_answer (inl v) = (status.Done, made_text n v.0, inl (summed n v.0 v.1))
    by_answer (inr r) = (status.Refused, refusal_text r.0 r.1 [], inr (r.0, r.1, r.2, refl, ([], refl)))

-- nothing was written yet
pub nothing_cut : (words : List (List ℕ)) (left old : Option (List ℕ)) (s : Status) → Cuts words left s old old
nothing_cut words left old s may = go (due_over words left)
  where
    go : (told : Option Due) → IfSome told (λ due. (d : Status) × (text : List ℕ) × IsExpected due d text × AppendsPrefix old old text)
    go None = tt
    go (Some due) = let d = some_due due in (d.0, d.1, d.2, (0, appends_nothing old))

-- a status is no fault and not out of memory
no_stand_in : (s : Status) → IsAnswer s → MayStandIn s → ⊥
no_stand_in s is (inl e) = subst IsAnswer e is
no_stand_in s is (inr e) = subst IsAnswer e is

-- where the text that was written is the one that is due
module _ (words : List (List ℕ)) (left old new : Option (List ℕ)) (result s : Status) (text : List ℕ) (before now : ℕ) (answer : IsAnswer s) where
  abbrev IsDue : Option Due → Type 0
  IsDue told = IfSome told (λ due. IsExpected due s text)

  pub answers_after : IfSome (due_over words left) (λ due. IsExpected due s text) → Finishes result s old new text before now → Answers words left result old new
  answers_after due done is = answers_told (due_over words left) due done is
    where
      answers_told : (told : Option Due) → IsDue told → Finishes result s old new text before now → IsAnswer result → IfSome told (λ due. (t : List ℕ) × IsExpected due result t × Appends old new t)
      answers_told None due done is = tt
      answers_told (Some d) due (inl w) is = (text, subst (λ r. IsExpected d r text) (sym w.0) due, w.1)
      answers_told (Some d) due (inr (inl w)) is = absurd (subst IsAnswer w.0 is)
      answers_told (Some d) due (inr (inr w)) is = absurd (subst IsAnswer w.0 is)

  pub cuts_after : IfSome (due_over words left) (λ due. IsExpected due s text) → Finishes result s old new text before now → Cuts words left result old new
  cuts_after due done may = cuts_told (due_over words left) due done may
    where
      cuts_told : (told : Option Due) → IsDue told → Finishes result s old new text before now → MayStandIn result → IfSome told (λ due. (d : Status) × (t : List ℕ) × IsExpected due d t × AppendsPrefix old new t)
      cuts_told None due done may = tt
      cuts_told (Some d) due (inl w) may = absurd (no_stand_in s answer (subst MayStandIn w.0 may))
      cuts_told (Some d) due (inr (inl w)) may = (s, text, due, w.1)
      cuts_told (Some d) due (inr (inr w)) may = (s, text, due, w.1)

pub long_due : (r : Reading) (bytes : List ℕ) → max_listing < length bytes → due_of_bytes r bytes ≡ due_of_long r
long_due r bytes long = grind (arith, nat_tests)

-- What is due is the same for the bytes that were read as for all that were left.
pub same_due : (r : Reading) (left after : Option (List ℕ)) (v : List ℕ) → Consumes left after v → length v ≤ max_listing + 1 → (length v ≤ max_listing → IsAtEnd after)
    → IfSome left (λ bytes. due_of_bytes r v ≡ due_of_bytes r bytes)
same_due r None after v read short end = tt
same_due r (Some bytes) None v read short end = absurd read
same_due r (Some bytes) (Some rest) v read short end = ⊎_elim
    (λ h. long_due r v h ∙ sym (long_due r bytes (omega (arith, ap length read, length-append v rest))))
    (λ h. ap (due_of_bytes r) (sym (append-nil v) ∙ ap (λ r. v ++ r) (sym (end h)) ∙ sym read))
    (cases_lt max_listing (length v))
