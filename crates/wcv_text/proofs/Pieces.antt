-- Pieces that are appended one after another.
use Rattle.std.proofs.Common.{◌≡◌, ℕ, suc, ◌+◌, ◌<◌, List, ◌++◌, length, get_or, drop, drop-cons, add-one, codes, sym, ◌∙◌, ap, append_assoc}
use Rattle.wcv_types.specs.Text.{Written, listed}
use Rattle.wcv_types.specs.Tree.{Text}
use Rattle.wcv_types.specs.declared.shapes.ComponentValType.{ComponentValType}
use Rattle.wcv_text.specs.DefinedLine.{types_said}
use Rattle.wcv_text.specs.Mentions.{separator, value_text}

-- a list behind its word, and the closing brace
pub in_braces : (start one two last word list : Text) → one ≡ start ++ word → two ≡ one ++ list → last ≡ two ++ codes "}" → last ≡ start ++ (word ++ list ++ codes "}")
in_braces start one two last word list p q r = r ∙ ap (λ (x : Text). x ++ codes "}") (q ∙ ap (λ (x : Text). x ++ list) p) ∙ simp append_assoc

-- so of a list whose first and whose second part are appended one after another
pub two_in_braces : (start one two three last word first second list : Text) → one ≡ start ++ word → two ≡ one ++ first → three ≡ two ++ second → last ≡ three ++ codes "}" → list ≡ first ++ second →
    last ≡ start ++ (word ++ list ++ codes "}")
two_in_braces start one two three last word first second list p q r s e =
    in_braces start one three last word list p (r ∙ ap (λ (x : Text). x ++ second) q ∙ append_assoc one first second ∙ ap (λ (x : Text). one ++ x) (sym e)) s

-- two pieces behind a word, with a space between them
pub two_pieces : (start one two three last word first second : Text) → one ≡ start ++ word → two ≡ one ++ first → three ≡ two ++ codes " " → last ≡ three ++ second →
    last ≡ start ++ (word ++ first ++ codes " " ++ second)
two_pieces start one two three last word first second p q r s =
    s ∙ ap (λ (x : Text). x ++ second) (r ∙ ap (λ (x : Text). x ++ codes " ") (q ∙ ap (λ (x : Text). x ++ first) p)) ∙ simp append_assoc

-- one type of a tuple more
pub next_type : (w : Written) (text one next all : Text) (i : ℕ) (t : ComponentValType) (ts : List ComponentValType) → i < length ts → one ≡ text ++ separator (codes ", ") i → next ≡ one ++ value_text w (get_or ts i t) →
    text ++ listed (separator (codes ", ") i) (types_said w (drop i ts)) ≡ all → next ++ listed (separator (codes ", ") (i + 1)) (types_said w (drop (i + 1) ts)) ≡ all
next_type w text one next all i t ts within p q h =
    let rest : Text = listed (codes ", ") (types_said w (drop (suc i) ts)) in
    ap (λ (j : ℕ). next ++ listed (separator (codes ", ") j) (types_said w (drop j ts))) (add-one i) ∙
    ap (λ (x : Text). x ++ rest) (q ∙ ap (λ (x : Text). x ++ value_text w (get_or ts i t)) p) ∙ regroup text (separator (codes ", ") i) (value_text w (get_or ts i t)) rest ∙
    sym (ap (λ (us : List ComponentValType). text ++ listed (separator (codes ", ") i) (types_said w us)) (drop-cons ts i t within)) ∙ h
  where
    regroup : (a b d e : Text) → ((a ++ b) ++ d) ++ e ≡ a ++ ((b ++ d) ++ e)
    regroup a b d e = simp append_assoc
