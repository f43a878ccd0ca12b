-- Steps that change no list of names and of resources, and no table: they leave both sides of the context on top, what it defines and the
-- groups as they are.
use Rattle.std.proofs.Common.{◌≡◌, ◌∙◌, ℕ, zero, suc, List, [], ◌∷◌, ◌++◌, Bool, refl}
use Rattle.wcv_types.specs.Tree.{Sort, is_nothing, is_value, is_resource, is_func, is_instance, is_component, is_type, is_module, is_core_instance, is_core_type, is_core_item}
use Rattle.wcv_lower.specs.Context.{Stack, Side}
use Rattle.wcv_lower.specs.Marks.{uses_each}
use Rattle.wcv_lower.specs.Readers.{Reader}
use Rattle.wcv_lower.specs.Step.{Change, appends, lists, introduces, defines, creates, core_appends, interns, charges, types_slots, marks_value, uses_value, names_start, Step, change, apply, joins}

abbrev pub Quiet : {X : Reader} → Change X → Type 0
Quiet (lists d n x) = ⊥
Quiet (introduces d rs) = ⊥
Quiet (defines r v) = ⊥
Quiet (interns gs) = ⊥
Quiet _ = Unit {0}

abbrev pub AllQuiet : {X : Reader} → Step X → Type 0
AllQuiet [] = Unit {0}
AllQuiet (x ∷ xs) = Quiet x × AllQuiet xs

pub record SameTop {X : Reader} (t s : Stack X) : Type 0 where
  pub groups : t.groups ≡ s.groups
  pub defined : t.top.defined ≡ s.top.defined
  pub side : (d : Side) → t.top.side d ≡ s.top.side d

module _ {X : Reader} where
  pub same-top : (s : Stack X) → SameTop s s
  same-top s = record { groups = refl; defined = refl; side = λ d. refl }

  pub top-trans : (s t u : Stack X) → SameTop u t → SameTop t s → SameTop u s
  top-trans s t u p q = record { groups = p.groups ∙ q.groups; defined = p.defined ∙ q.defined; side = λ d. p.side d ∙ q.side d }

  one-quiet : (x : Change X) (s : Stack X) → Quiet x → SameTop (change x s) s
  one-quiet (appends k x) s q = record { groups = refl; defined = refl; side = λ d. refl }
  one-quiet (lists d n x) s q = absurd q
  one-quiet (introduces d rs) s q = absurd q
  one-quiet (defines r v) s q = absurd q
  one-quiet (creates d is) s q = record { groups = refl; defined = refl; side = λ d. refl }
  one-quiet (core_appends k x) s q = record { groups = refl; defined = refl; side = λ d. refl }
  one-quiet (interns gs) s q = absurd q
  one-quiet (charges zero n) s q = record { groups = refl; defined = refl; side = λ d. refl }
  one-quiet (charges (suc k) n) s q = record { groups = refl; defined = refl; side = λ d. refl }
  one-quiet (types_slots v) s q = record { groups = refl; defined = refl; side = λ d. refl }
  one-quiet (marks_value b) s q = record { groups = refl; defined = refl; side = λ d. refl }
  one-quiet (uses_value k) s q = record { groups = refl; defined = refl; side = λ d. refl }
  one-quiet names_start s q = record { groups = refl; defined = refl; side = λ d. refl }

  pub quiet-top : (p : Step X) (s : Stack X) → AllQuiet p → SameTop (apply p s) s
  quiet-top [] s q = same-top s
  quiet-top (x ∷ xs) s q = top-trans s (change x s) (apply xs (change x s)) (quiet-top xs (change x s) q.1) (one-quiet x s q.0)

  pub quiet-both : (p q : Step X) → AllQuiet p → AllQuiet q → AllQuiet (p ++ q)
  quiet-both [] q w z = z
  quiet-both (x ∷ xs) q w z = (w.0, quiet-both xs q w.1 z)

module _ (X : Reader) where
  pub quiet-uses : (ks : List ℕ) → AllQuiet {X = X} (uses_each ks)
  quiet-uses [] = tt
  quiet-uses (k ∷ ks) = (tt, quiet-uses ks)

  pub quiet-joins : (b : Bool) (k : Sort) (x : X.Entry) → AllQuiet (joins X b k x)
  quiet-joins b is_func x = (tt, tt)
  quiet-joins b is_value x = (tt, (tt, tt))
  quiet-joins b is_instance x = (tt, tt)
  quiet-joins b is_component x = (tt, tt)
  quiet-joins b is_type x = (tt, tt)
  quiet-joins b is_module x = (tt, tt)
  quiet-joins b is_resource x = tt
  quiet-joins b is_nothing x = tt
  quiet-joins b is_core_instance x = tt
  quiet-joins b is_core_type x = tt
  quiet-joins b is_core_item x = tt
