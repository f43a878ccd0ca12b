-- Marks of use: a step behind uses of values does what it does without them, but for the marks.
use Rattle.std.proofs.Common.{◌≡◌, ℕ, zero, suc, List, [], ◌∷◌, ◌++◌, Bool, true, refl, sym, ◌∙◌, ap, subst}
use Rattle.wcv_core.specs.Names.{Place}
use Rattle.wcv_lower.specs.Context.{Side, importing, exporting}
use Rattle.wcv_lower.specs.Marks.{uses_each, marked}
use Rattle.wcv_lower.specs.Owned.{IsLed}
use Rattle.wcv_lower.specs.Step.{Change, appends, lists, introduces, defines, creates, core_appends, interns, charges, types_slots, marks_value, uses_value, names_start, Step, change_at, change, apply}
use Rattle.wcv_lower.specs.Trees.{Tree_context, Tree_stack, tree_reader}
use Rattle.wcv_lower.proofs.Bringing.{AllBring, uses_bring}
use Rattle.wcv_lower.proofs.MarkLaws.{uses-applied, apply-append}
use Rattle.wcv_growth.proofs.Growing.{Leads, Adds, Does}
use Rattle.wcv_growth.proofs.Known.{Fine, Any}
use Rattle.wcv_growth.proofs.Near.{Near}
use Rattle.wcv_growth.proofs.Tidy.{Known, TidyEntry, BringsTidy}

-- the stack with these marks
abbrev pub marked_as : List Bool → Tree_stack → Tree_stack
marked_as bs s = record s { top = record s.top { used = bs } }

-- a change makes other marks, and else what it makes
change-marked : (x : Change tree_reader) (bs : List Bool) (s : Tree_stack) → (cs : List Bool) × (change x (marked_as bs s) ≡ marked_as cs (change x s))
change-marked (appends k t) bs s = (bs, refl)
change-marked (lists d n t) bs s = (bs, refl)
change-marked (introduces importing rs) bs s = (bs, refl)
change-marked (introduces exporting rs) bs s = (bs, refl)
change-marked (defines r v) bs s = (bs, refl)
change-marked (creates d is) bs s = (bs, refl)
change-marked (core_appends k t) bs s = (bs, refl)
change-marked (interns gs) bs s = (bs, refl)
change-marked (charges zero n) bs s = (bs, refl)
change-marked (charges (suc k) n) bs s = (bs, refl)
change-marked (types_slots v) bs s = (bs, refl)
change-marked (marks_value b) bs s = (bs ++ b ∷ [], refl)
change-marked (uses_value k) bs s = (change_at k (λ b. true) bs, refl)
change-marked names_start bs s = (bs, refl)

apply-marked : (x : Step tree_reader) (bs : List Bool) (s : Tree_stack) → (cs : List Bool) × (apply x (marked_as bs s) ≡ marked_as cs (apply x s))
apply-marked [] bs s = (bs, refl)
apply-marked (y ∷ x) bs s =
    let c = change-marked y bs s in
    let d = apply-marked x c.0 (change y s) in
    (d.0, ap (apply x) c.1 ∙ d.1)

pub uses-marked : (ks : List ℕ) (x : Step tree_reader) (s : Tree_stack) → (cs : List Bool) × (apply (uses_each ks ++ x) s ≡ marked_as cs (apply x s))
uses-marked ks x s =
    let m = apply-marked x (marked ks s.top.used) s in
    (m.0, apply-append (uses_each ks) x s ∙ ap (apply x) (uses-applied ks s) ∙ m.1)

-- ## What a step does

adds-marked : (e : Side) (p : Place) (c d : Tree_context) (bs : List Bool) → Adds e p c d → Adds e p c (record d { used = bs })
adds-marked importing p c d bs a = record { more = a.more; new = a.new; imported = a.imported; defined = a.defined }
adds-marked exporting p c d bs a = record { more = a.more; new = a.new; imported = a.imported; defined = a.defined }

pub uses-does : (e : Side) (p : Place) (s : Tree_stack) (ks : List ℕ) (x : Step tree_reader) → Does e p s x → Does e p s (uses_each ks ++ x)
uses-does e p s ks x w =
    let m = uses-marked ks x s in
    record {
      brings = subst (λ (t : Tree_stack). AllBring (Fine (Near t)) Any (uses_each ks ++ x)) (sym m.1) (uses_bring (Fine (Near (apply x s))) Any ks x w.brings);
      leads = subst (λ (t : Tree_stack). Leads t.top) (sym m.1) w.leads;
      led = λ k. subst (λ (t : Tree_stack). IsLed t.top) (sym m.1) (w.led k);
      adds = subst (λ (t : Tree_stack). Adds e p s.top t.top) (sym m.1) (adds-marked e p s.top (apply x s).top m.0 w.adds);
    }

pub uses-tidy : (p : Place) (g : Known) (ks : List ℕ) (x : Step tree_reader) → BringsTidy p g x → BringsTidy p g (uses_each ks ++ x)
uses-tidy p g ks x w = record { known = w.known; more = w.more; brings = uses_bring (TidyEntry w.known) Any ks x w.brings }
