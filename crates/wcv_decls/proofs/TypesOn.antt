-- A type item that was read over the states, or refused.
use Rattle.std.proofs.Common.{◌≡◌, ℕ, ◌<◌, List, [], ◌∷◌, ◌++◌, map, length, refl, sym, ◌∙◌, ap, subst, arith, Bool, inl, inr, All}
use Rattle.std.specs.Prelude.{◌⊎◌}
use Rattle.std.proofs.lemmas.List.{map-append}
use Rattle.wcv_core.specs.Names.{Place}
use Rattle.wcv_core.specs.Refusal.{error_kind, error_offset}
use Rattle.wcv_core.specs.declared.error.Error.{Error}
use Rattle.wcv_core.specs.declared.error.ErrorKind.TheVariants as kind
use Rattle.wcv_syntax.specs.Model.{Type_form}
use Rattle.wcv_types.specs.Arena.{Arena}
use Rattle.wcv_types.proofs.Lists.{map-id}
use Rattle.wcv_lower.specs.Given.{none_given}
use Rattle.wcv_spaces.specs.Contents.{Contents, spent}
use Rattle.wcv_state.specs.Stack.{uncharged}
use Rattle.wcv_state.proofs.Stacks.{none_made}
use Rattle.wcv_decls.specs.Declaring.{innermost, around, AreReady, StayReady, SameAround, MemoryOr, ReadsType, RefusesType}
use Rattle.wcv_decls.specs.Items.{TypeCaused}
use Rattle.wcv_decls.specs.Stack.{IsOpen, AreCalm, all_spent, all_uncharged, DeclaresOn, RefusesOn, KeepsOn, contexts_around}
use Rattle.wcv_decls.proofs.InnermostStates.{parted, open_here, calm_here}

-- states as a trait sees them
pub states_ready : (a : Arena) (ss : List Contents) → 0 < length ss → All (IsOpen a) (map (λ x. x) ss) → AreCalm a (map (λ x. x) ss) → AreReady a ss
states_ready a ss n each calm =
    record { some = n; each = subst (All (IsOpen a)) (map-id ss) each; calm = calm_here a ss n (subst (AreCalm a) (map-id ss) calm) }

pub declares_on : (limited : Bool) (a b : Arena) (p : Place) (ss ss' : List Contents) (t : Type_form) → AreReady a ss → ReadsType limited a b ss ss' t → StayReady b ss ss' → DeclaresOn limited a b p ss ss' t
declares_on limited a b p ss ss' t h reads stay =
    let r = reads p in
    record {
      outer = around ss;
      outer' = around ss';
      old = innermost ss;
      new = innermost ss';
      was = parted ss h.some;
      becomes = parted ss' stay.ready.some;
      same = stay.around;
      declared = record {
        names = r.0;
        given = r.1;
        read = r.3;
        free = r.2;
        live = (open_here b ss' stay.ready.some stay.ready.each).live;
      };
    }

-- ## Refused

pub all_spent_parted : (ss : List Contents) → 0 < length ss → all_spent ss ≡ all_spent (around ss) ++ spent (innermost ss) ∷ []
all_spent_parted ss h = ap all_spent (parted ss h) ∙ map-append spent (around ss) (innermost ss ∷ [])

-- marks and sizes are apart
spent_uncharged : (ss : List Contents) → all_uncharged (all_spent ss) ≡ all_spent (all_uncharged ss)
spent_uncharged [] = refl
spent_uncharged (s ∷ ss) = ap (λ (xs : List Contents). uncharged (spent s) ∷ xs) (spent_uncharged ss)

as_many : (a b : Arena) (ss ss' : List Contents) → KeepsOn a b ss ss' → 0 < length ss → 0 < length ss'
as_many a b [] ss' k h = absurd (omega (arith, h))
as_many a b (s ∷ ss) [] k h = elim k [ ]
as_many a b (s ∷ ss) (t ∷ ts) k h = omega arith

pub refuses_on : {M : Type 0} (limited : Bool) (a b : Arena) (p : Place) (ss ss' ts : List Contents) (t : Type_form) (offset : ℕ) (e : Error M) → AreReady a ss → SameAround ss ss' → KeepsOn a b ss ss' → MemoryOr (RefusesType limited a b ss t) offset e → ts ≡ all_spent ss' → RefusesOn limited a b p ss ts t offset e
refuses_on limited a b p ss ss' ts t offset e h same kept r et = record {
  outer = around ss;
  outer' = all_spent (around ss');
  old = innermost ss;
  new = spent (innermost ss');
  was = parted ss h.some;
  becomes = et ∙ all_spent_parted ss' (as_many a b ss ss' kept h.some);
  same = spent_uncharged (around ss') ∙ same;
  spent = refl;
  caused = go (r p);
}
  where
    go : (error_kind e ≡ kind.OutOfMemory) ⊎ (RefusesType limited a b ss t p (error_kind e) × (error_offset e ≡ offset)) → TypeCaused limited a b (contexts_around a (around ss)) p (innermost ss) t offset e
    go (inl m) = record { names = none_given; given = none_made a b p; caused = inl m }
    go (inr c) = record { names = c.0.0; given = c.0.1; caused = inr (c.0.2, c.1) }
