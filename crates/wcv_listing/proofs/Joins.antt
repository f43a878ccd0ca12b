-- Forms that join items, one list behind another.
use Rattle.std.proofs.Common.{◌≡◌, ◌∙◌, ℕ, ◌+◌, List, [], ◌∷◌, ◌++◌, length, refl, ap, sym, subst, arith, append_assoc, append-nil, length-append}
use Rattle.std.proofs.lemmas.List.FromFn.{map-range_with_len_more}
use Rattle.wcv_syntax.specs.Model.{Form, Entry}
use Rattle.wcv_syntax.specs.View.{items_of}
use Rattle.wcv_listing.specs.Generated.{at, spaced, each_below, imports, passing_component, passing_instance, passed_alias, passed_export, generated, Joins}

-- items that are spaced, and more of them behind
spaced_more : (k : ℕ) (fs gs : List Form) → spaced 1 k (fs ++ gs) ≡ spaced 1 k fs ++ spaced 1 (k + length fs) gs
spaced_more k [] gs = ap (λ m. spaced 1 m gs) (omega arith)
spaced_more k (f ∷ fs) gs = ap (λ es. at k f ∷ es) (spaced_more (k + 1) fs gs ∙ ap (λ m. spaced 1 (k + 1) fs ++ spaced 1 m gs) (omega arith))

length-spaced : (k : ℕ) (fs : List Form) → length (spaced 1 k fs) ≡ length fs
length-spaced k [] = refl
length-spaced k (f ∷ fs) = omega (arith, length-spaced (k + 1) fs)

pub joins_nothing : (es : List Entry) → Joins es [] es
joins_nothing es = sym (append-nil es)

pub joins_more : (a b c : List Entry) (fs gs : List Form) → Joins a fs b → Joins b gs c → Joins a (fs ++ gs) c
joins_more a b c fs gs p q =
    let long : length b ≡ length a + length fs = ap length p ∙ length-append a (spaced 1 (length a) fs) ∙ ap (λ m. length a + m) (length-spaced (length a) fs) in
    q ∙ ap (λ es. es ++ spaced 1 (length b) gs) p ∙ ap (λ m. (a ++ spaced 1 (length a) fs) ++ spaced 1 m gs) long
    ∙ append_assoc a (spaced 1 (length a) fs) (spaced 1 (length a + length fs) gs) ∙ ap (λ es. a ++ es) (sym (spaced_more (length a) fs gs))

-- one form more, for the next number
pub joins_next : (a b c : List Entry) (form : ℕ → Form) (i : ℕ) → Joins a (each_below i form) b → Joins b (form i ∷ []) c → Joins a (each_below (i + 1) form) c
joins_next a b c form i p q = subst (λ (fs : List Form). Joins a fs c) (sym (map-range_with_len_more form 0 i i (omega arith))) (joins_more a b c (each_below i form) (form i ∷ []) p q)

-- all that joins makes the items for a number
pub all_joined : (n : ℕ) (a b c d e : List Entry) → a ≡ spaced 1 0 imports → Joins a (passing_component ∷ []) b → Joins b (each_below n (λ i. passing_instance)) c
    → Joins c (each_below n passed_alias) d → Joins d (each_below n passed_export) e → items_of e ≡ generated n
unfolding generated
all_joined n a b c d e first p q r s =
    let component : List Form = imports ++ passing_component ∷ [] in
    let instances : List Form = component ++ each_below n (λ i. passing_instance) in
    let aliases : List Form = instances ++ each_below n passed_alias in
    ap items_of (joins_more [] d e aliases (each_below n passed_export)
    (joins_more [] c d instances (each_below n passed_alias) (joins_more [] b c component (each_below n (λ i. passing_instance)) (joins_more [] a b imports (passing_component ∷ []) first p) q) r) s)
