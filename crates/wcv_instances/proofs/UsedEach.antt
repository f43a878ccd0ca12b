-- Values that are used one after another, and those among arguments and among listed items.
use Rattle.std.proofs.Common.{◌≡◌, ℕ, ◌+◌, ◌<◌, ◌≤◌, List, [], ◌∷◌, ◌++◌, length, take, drop, get_or, refl, sym, ◌∙◌, ap, subst, add-one, take-suc, take_all, take-append-drop}
use Rattle.wcv_core.specs.Checks.{Cause, CausedBy, IsFree}
use Rattle.wcv_core.specs.CoreCode.{all_codes}
use Rattle.wcv_core.specs.Refusal.{error_kind}
use Rattle.wcv_core.specs.declared.error.Error.{Error}
use Rattle.wcv_syntax.specs.declared.instance.ComponentInstantiationArg.{ComponentInstantiationArg}
use Rattle.wcv_syntax.specs.declared.name.ComponentExport.{ComponentExport}
use Rattle.wcv_lower.specs.Instances.{argument_values, listed_values}
use Rattle.wcv_lower.specs.Marks.{value_index}
use Rattle.wcv_spaces.specs.Contents.{Contents, with_uses}
use Rattle.wcv_spaces.specs.Values.{Values, uses_id_checks}
use Rattle.wcv_spaces.proofs.Uses.{uses_both, uses_free, uses_first, uses_then}

-- ## One after another

-- those before position k are used, without a cause
pub record UsedTo (s t : Contents) (xs : List ℕ) (k : ℕ) : Type 0 where
  pub state : t ≡ with_uses (take k xs) s
  pub free : IsFree (uses_id_checks s.spaces.values (take k xs))

module _ (s : Contents) (xs : List ℕ) where
  abbrev vs : Values
  vs = s.spaces.values

  pub none_used : UsedTo s s xs 0
  none_used = record { state = refl; free = (refl, tt) }

  module _ (t : Contents) (k d : ℕ) (h : k < length xs) (w : UsedTo s t xs k) where
    abbrev done : List ℕ
    done = take k xs

    abbrev one : List ℕ
    one = get_or xs k d ∷ []

    more : take (k + 1) xs ≡ done ++ one
    more = ap (λ (n : ℕ). take n xs) (add-one k) ∙ take-suc xs k d h

    pub use_next : (u : Contents) → u ≡ with_uses one t → IsFree (uses_id_checks t.spaces.values one) → UsedTo s u xs (k + 1)
    use_next u e f = record {
      state = e ∙ ap (with_uses one) w.state ∙ uses_both done one s ∙ ap (λ (ks : List ℕ). with_uses ks s) (sym more);
      free = subst (λ (ks : List ℕ). IsFree (uses_id_checks vs ks)) (sym more) (uses_free done one vs w.free (subst (λ (z : Contents). IsFree (uses_id_checks z.spaces.values one)) w.state f));
    }

    pub next_caused : {M : Type 0} (offset : ℕ) (e : Error M) → CausedBy (uses_id_checks t.spaces.values one) offset e → CausedBy (uses_id_checks vs xs) offset e
    next_caused offset e c =
        let so_far : Cause (uses_id_checks vs (done ++ one)) (error_kind e) = uses_then done one vs (error_kind e) (subst (λ (z : Contents). Cause (uses_id_checks z.spaces.values one) (error_kind e)) w.state c.0) in
        let all : (done ++ one) ++ drop (k + 1) xs ≡ xs = ap (λ (ks : List ℕ). ks ++ drop (k + 1) xs) (sym more) ∙ take-append-drop (k + 1) xs in
        (subst (λ (ks : List ℕ). Cause (uses_id_checks vs ks) (error_kind e)) all (uses_first (done ++ one) (drop (k + 1) xs) vs (error_kind e) so_far), c.1)

  pub all_used : (t : Contents) (k : ℕ) → length xs ≤ k → UsedTo s t xs k → (t ≡ with_uses xs s) × IsFree (uses_id_checks vs xs)
  all_used t k h w = (w.state ∙ ap (λ (ks : List ℕ). with_uses ks s) (take_all k xs h), subst (λ (ks : List ℕ). IsFree (uses_id_checks vs ks)) (take_all k xs h) w.free)

-- ## Values by index

abbrev pub argument_value : ComponentInstantiationArg → List ℕ
argument_value a = value_index a.kind a.index

abbrev pub listed_value : ComponentExport → List ℕ
listed_value e = value_index e.kind e.index

pub arguments_each : (xs : List ComponentInstantiationArg) → all_codes argument_value xs ≡ argument_values xs
arguments_each [] = refl
arguments_each (x ∷ xs) = ap (λ (ks : List ℕ). argument_value x ++ ks) (arguments_each xs)

pub listed_each : (xs : List ComponentExport) → all_codes listed_value xs ≡ listed_values xs
listed_each [] = refl
listed_each (x ∷ xs) = ap (λ (ks : List ℕ). listed_value x ++ ks) (listed_each xs)
