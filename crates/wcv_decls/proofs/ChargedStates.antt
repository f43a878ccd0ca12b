-- States of which the innermost became another, and those around it stayed but for what was aliased into them.
use Rattle.std.proofs.Common.{◌≡◌, ◌<◌, List, [], ◌∷◌, ◌++◌, length, sym, ◌∙◌, ap, subst, false, All, slice_index_or}
use Rattle.std.proofs.lemmas.List.Elements.{All-nil, All-cons, All-head, All-tail, All-push}
use Rattle.wcv_types.specs.Arena.{Arena}
use Rattle.wcv_lower.specs.Owned.{IsCalm}
use Rattle.wcv_spaces.specs.Contents.{Contents}
use Rattle.wcv_spaces.specs.Promises.{numbers_of, Keeps}
use Rattle.wcv_state.specs.Stack.{uncharged}
use Rattle.wcv_decls.specs.Declaring.{innermost, around, stack_in, AreReady, StayReady}
use Rattle.wcv_decls.specs.Stack.{IsOpen, all_uncharged, KeepsOn}
use Rattle.wcv_decls.proofs.InnermostStates.{innermost_at, around_at, parted, some_at, open_around}
use Rattle.wcv_decls.proofs.ReadingOn.{innermost_kept, around_of_kept}

abbrev list_rest : List Contents → List Contents
list_rest [] = []
list_rest (s ∷ ss) = ss

-- states that stayed but for what was aliased into them are open
charged_open : (a b : Arena) (ss ts : List Contents) → KeepsOn a b ss ts → all_uncharged ts ≡ all_uncharged ss → All (IsOpen a) ss → All (IsOpen b) ts
charged_open a b [] [] k e h = All-nil (IsOpen b)
charged_open a b [] (t ∷ ts) k e h = elim k [ ]
charged_open a b (s ∷ ss) [] k e h = elim k [ ]
charged_open a b (s ∷ ss) (t ∷ ts) k e h =
    let first : uncharged t ≡ uncharged s = ap (λ (xs : List Contents). slice_index_or xs 0 s) e in
    All-cons (IsOpen b) t ts (record { live = ap (λ (x : Contents). x.spent) first ∙ (All-head (IsOpen a) s ss h).live; stands = k.0.stands })
    (charged_open a b ss ts k.1 (ap list_rest e) (All-tail (IsOpen a) s ss h))

module _ (a b : Arena) (ss ss' : List Contents) (h : AreReady a ss) (kept : KeepsOn a b ss ss')
    (outer outer' : List Contents) (old new : Contents) (was : ss ≡ outer ++ old ∷ []) (becomes : ss' ≡ outer' ++ new ∷ []) (same : all_uncharged outer' ≡ all_uncharged outer) where
  still_around : all_uncharged (around ss') ≡ all_uncharged (around ss)
  still_around = ap all_uncharged (ap around becomes ∙ around_at outer' new) ∙ same ∙ sym (ap all_uncharged (ap around was ∙ around_at outer old))

  pub now_some : 0 < length ss'
  now_some = subst (λ (xs : List Contents). 0 < length xs) (sym becomes) (some_at outer' new)

  -- what the innermost keeps
  pub last_kept : Keeps a b old new
  last_kept =
      subst (λ (s : Contents). Keeps a b s new) (ap innermost was ∙ innermost_at outer old)
      (subst (Keeps a b (innermost ss)) (ap innermost becomes ∙ innermost_at outer' new) (innermost_kept a b ss ss' h.some kept))

  -- items may be read over them
  pub still_ready : new.spent ≡ false → IsCalm (numbers_of b) (stack_in b ss') → StayReady b ss ss'
  still_ready live calm = record {
    ready = record {
      some = now_some;
      each = subst (All (IsOpen b)) (sym (parted ss' now_some))
          (All-push (IsOpen b) (around ss') (innermost ss') (charged_open a b (around ss) (around ss') (around_of_kept a b ss ss' kept) still_around (open_around a ss h.some h.each))
          (record { live = ap (λ (s : Contents). s.spent) (ap innermost becomes ∙ innermost_at outer' new) ∙ live; stands = (innermost_kept a b ss ss' h.some kept).stands }));
      calm = calm;
    };
    around = still_around;
  }
