-- Lists in which no name stands twice, and the new names of steps.
use Rattle.std.proofs.Common.{◌≡◌, ℕ, zero, suc, List, [], ◌∷◌, ◌++◌, length, sym, ◌∙◌, subst, true, false, ◌⊎◌, inl, inr}
use Rattle.std.specs.Prelude.{All}
use Rattle.std.proofs.lemmas.Bool.{false≢true, or_cases}
use Rattle.std.proofs.lemmas.List.Elements.{All-nil, All-cons, All-weaker}
use Rattle.wcv_core.specs.Names.{Name, same, member}
use Rattle.wcv_core.proofs.Names.{same-true, same-refl}
use Rattle.wcv_lower.specs.Context.{importing, exporting}
use Rattle.wcv_lower.specs.Owned.{own_resources, IsOwn, IsOnce}
use Rattle.wcv_lower.specs.Step.{Change, appends, lists, introduces, defines, creates, core_appends, interns, charges, types_slots, marks_value, uses_value, names_start, Step, change, apply}
use Rattle.wcv_lower.specs.Trees.{tree_reader, Tree_context, Tree_stack}
use Rattle.wcv_lower.proofs.Given.{or_left, or_right, not_so}
use Rattle.wcv_lower.proofs.Members.{member_cases, member_left, member_right, placed_firsts, unknown_firsts, defined_firsts, names_in, imported_own, defined_own, introduced_own, defines_own}

-- ## Lists

pub once_both : (xs ys : List Name) → IsOnce xs → IsOnce ys → ((r : Name) → member r xs ≡ true → member r ys ≡ true → ⊥) → IsOnce (xs ++ ys)
once_both [] ys a b d = b
once_both (x ∷ xs) ys a b d = (not_so (member x (xs ++ ys)) (λ e. go (member_cases x xs ys e)), once_both xs ys a.1 b (λ r e f. d r (or_right (same r x) (member r xs) e) f))
  where
    go : (member x xs ≡ true) ⊎ (member x ys ≡ true) → ⊥
    go (inl h) = false≢true (sym a.0 ∙ h)
    go (inr h) = d x (or_left (same x x) (member x xs) (same-refl x)) h

pub once_left : (xs ys : List Name) → IsOnce (xs ++ ys) → IsOnce xs
once_left [] ys a = tt
once_left (x ∷ xs) ys a = (not_so (member x xs) (λ e. false≢true (sym a.0 ∙ member_left x xs ys e)), once_left xs ys a.1)

pub once_right : (xs ys : List Name) → IsOnce (xs ++ ys) → IsOnce ys
once_right [] ys a = a
once_right (x ∷ xs) ys a = once_right xs ys a.1

pub once_apart : (xs ys : List Name) → IsOnce (xs ++ ys) → (r : Name) → member r xs ≡ true → member r ys ≡ true → ⊥
once_apart [] ys a r e f = false≢true e
once_apart (x ∷ xs) ys a r e f = go (or_cases (same r x) (member r xs) e) (λ h. once_apart xs ys a.1 r h f)
  where
    go : (same r x ≡ true) ⊎ (member r xs ≡ true) → (member r xs ≡ true → ⊥) → ⊥
    go (inl h) later = false≢true (sym a.0 ∙ member_right x xs ys (subst (λ (z : Name). member z ys ≡ true) (same-true r x h) f))
    go (inr h) later = later h

-- ## New names

abbrev pub change_names : Change tree_reader → List Name
change_names (introduces d rs) = names_in rs
change_names (defines r v) = r ∷ []
change_names (appends k x) = []
change_names (lists d n x) = []
change_names (creates d is) = []
change_names (core_appends k x) = []
change_names (interns gs) = []
change_names (charges k n) = []
change_names (types_slots v) = []
change_names (marks_value b) = []
change_names (uses_value k) = []
change_names names_start = []

abbrev pub new_names : Step tree_reader → List Name
new_names [] = []
new_names (x ∷ p) = change_names x ++ new_names p

each_in : (rs : List (Name × List ℕ)) → All (λ x. member x.0 (names_in rs) ≡ true) rs
each_in [] = All-nil (λ (x : Name × List ℕ). false ≡ true)
each_in (r ∷ rs) =
    All-cons (λ (x : Name × List ℕ). member x.0 (names_in (r ∷ rs)) ≡ true) r rs (or_left (same r.0 r.0) (member r.0 (names_in rs)) (same-refl r.0))
    (All-weaker (λ (x : Name × List ℕ). member x.0 (names_in rs) ≡ true) (λ x. member x.0 (names_in (r ∷ rs)) ≡ true) (λ x e. or_right (same x.0 r.0) (member x.0 (names_in rs)) e) rs (each_in rs))

-- the top had it, or it is new
change_cases : (x : Change tree_reader) (s : Tree_stack) (r : Name) → IsOwn (change x s).top r → IsOwn s.top r ⊎ (member r (change_names x) ≡ true)
change_cases (introduces d rs) s r o = introduced_own (λ q. member q (names_in rs) ≡ true) s.top d rs (each_in rs) r o
change_cases (defines q v) s r o = defines_own (λ z. member z (q ∷ []) ≡ true) s.top q v (or_left (same q q) false (same-refl q)) r o
change_cases (appends k x) s r o = inl o
change_cases (lists d n x) s r o = inl o
change_cases (creates d is) s r o = inl o
change_cases (core_appends k x) s r o = inl o
change_cases (interns gs) s r o = inl o
change_cases (charges zero n) s r o = inl o
change_cases (charges (suc k) n) s r o = inl o
change_cases (types_slots v) s r o = inl o
change_cases (marks_value b) s r o = inl o
change_cases (uses_value k) s r o = inl o
change_cases names_start s r o = inl o

-- and none twice
module _ (c : Tree_context) (a : IsOnce (own_resources c)) (ns : List Name) (b : IsOnce ns) (d : (r : Name) → IsOwn c r → member r ns ≡ true → ⊥) where
  abbrev I : List Name
  I = names_in c.imported

  abbrev D : List Name
  D = names_in c.defined

  more_imported : IsOnce ((I ++ ns) ++ D)
  more_imported = once_both (I ++ ns) D (once_both I ns (once_left I D a) b (λ r e f. d r (imported_own c r e) f)) (once_right I D a) (λ r e f. go r f (member_cases r I ns e))
    where
      go : (r : Name) → member r D ≡ true → (member r I ≡ true) ⊎ (member r ns ≡ true) → ⊥
      go r f (inl h) = once_apart I D a r h f
      go r f (inr h) = d r (defined_own c r f) h

  more_defined : IsOnce (I ++ (D ++ ns))
  more_defined = once_both I (D ++ ns) (once_left I D a) (once_both D ns (once_right I D a) b (λ r e f. d r (defined_own c r e) f)) (λ r e f. go r e (member_cases r D ns f))
    where
      go : (r : Name) → member r I ≡ true → (member r D ≡ true) ⊎ (member r ns ≡ true) → ⊥
      go r e (inl h) = once_apart I D a r e h
      go r e (inr h) = d r (imported_own c r e) h

change_once : (x : Change tree_reader) (s : Tree_stack) → IsOnce (own_resources s.top) → IsOnce (change_names x) → ((r : Name) → IsOwn s.top r → member r (change_names x) ≡ true → ⊥) → IsOnce (own_resources (change x s).top)
change_once (introduces importing rs) s a b d = subst (λ (xs : List Name). IsOnce (xs ++ names_in s.top.defined)) (sym (placed_firsts (length (s.top.side importing)) s.top.imported rs)) (more_imported s.top a (names_in rs) b d)
change_once (introduces exporting rs) s a b d = subst (λ (xs : List Name). IsOnce (names_in s.top.imported ++ xs)) (sym (unknown_firsts s.top.defined rs)) (more_defined s.top a (names_in rs) b d)
change_once (defines r v) s a b d = subst (λ (xs : List Name). IsOnce (names_in s.top.imported ++ xs)) (sym (defined_firsts s.top.defined r v)) (more_defined s.top a (r ∷ []) b d)
change_once (appends k x) s a b d = a
change_once (lists i n x) s a b d = a
change_once (creates i is) s a b d = a
change_once (core_appends k x) s a b d = a
change_once (interns gs) s a b d = a
change_once (charges zero n) s a b d = a
change_once (charges (suc k) n) s a b d = a
change_once (types_slots v) s a b d = a
change_once (marks_value v) s a b d = a
change_once (uses_value k) s a b d = a
change_once names_start s a b d = a

pub applied_cases : (p : Step tree_reader) (s : Tree_stack) (r : Name) → IsOwn (apply p s).top r → IsOwn s.top r ⊎ (member r (new_names p) ≡ true)
applied_cases [] s r o = inl o
applied_cases (x ∷ p) s r o = go (applied_cases p (change x s) r o)
  where
    first : IsOwn s.top r ⊎ (member r (change_names x) ≡ true) → IsOwn s.top r ⊎ (member r (new_names (x ∷ p)) ≡ true)
    first (inl h) = inl h
    first (inr h) = inr (member_left r (change_names x) (new_names p) h)

    go : IsOwn (change x s).top r ⊎ (member r (new_names p) ≡ true) → IsOwn s.top r ⊎ (member r (new_names (x ∷ p)) ≡ true)
    go (inl h) = first (change_cases x s r h)
    go (inr h) = inr (member_right r (change_names x) (new_names p) h)

pub applied_once : (p : Step tree_reader) (s : Tree_stack) → IsOnce (own_resources s.top) → IsOnce (new_names p) → ((r : Name) → IsOwn s.top r → member r (new_names p) ≡ true → ⊥) → IsOnce (own_resources (apply p s).top)
applied_once [] s a b d = a
applied_once (x ∷ p) s a b d =
    let ns : List Name = change_names x in
    applied_once p (change x s) (change_once x s a (once_left ns (new_names p) b) (λ r o e. d r o (member_left r ns (new_names p) e))) (once_right ns (new_names p) b) (λ r o e. go r e (change_cases x s r o))
  where
    go : (r : Name) → member r (new_names p) ≡ true → IsOwn s.top r ⊎ (member r (change_names x) ≡ true) → ⊥
    go r e (inl o) = d r o (member_right r (change_names x) (new_names p) e)
    go r e (inr h) = once_apart (change_names x) (new_names p) b r h e
