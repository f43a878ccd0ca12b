-- What the call leaves where a canonical function is refused.
use Rattle.std.proofs.Common.{◌≡◌, ℕ, List, refl, sym, subst, true}
use Rattle.wcv_core.specs.Names.{Place}
use Rattle.wcv_core.specs.declared.error.Error.{Error}
use Rattle.wcv_syntax.specs.Model.{Canon_form, canon_item}
use Rattle.wcv_types.specs.Arena.{Arena}
use Rattle.wcv_lower.specs.Canons.{canon_checks}
use Rattle.wcv_lower.specs.Given.{none_given}
use Rattle.wcv_lower.specs.Trees.{Tree_context}
use Rattle.wcv_spaces.specs.Contents.{Contents, spent, stack_of}
use Rattle.wcv_spaces.specs.Promises.{MemoryOrCausedBy, Keeps, Refuses}
use Rattle.wcv_spaces.proofs.Keeping.{keeps_marked, keeps_trans}
use Rattle.wcv_state.proofs.Stacks.{none_made}

pub canon_refused : {M : Type 0} (a b : Arena) (s s' : Contents) (f : Canon_form) (offset : ℕ) (e : Error M) → s'.spent ≡ true → ((outer : List Tree_context) → MemoryOrCausedBy (canon_checks s.features (stack_of a s outer) f) offset e) →
    (outer : List Tree_context) (p : Place) → Refuses a b outer p s s' (canon_item f) offset e
canon_refused a b s s' f offset e m causes outer p = (m, record { names = none_given; given = none_made a b p; caused = causes outer })

pub marked_keeps : (a b : Arena) (s t z : Contents) → Keeps a b s t → z ≡ spent t → Keeps a b s z
marked_keeps a b s t z k e = subst (Keeps a b s) (sym e) (keeps_trans a b b s t (spent t) k (keeps_marked b t t true refl k.stands))
