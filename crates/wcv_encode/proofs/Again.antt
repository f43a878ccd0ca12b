-- What is written is read again, whatever follows: how readers of parts make a reader of the whole.
use Rattle.std.proofs.Common.{◌≡◌, ℕ, Some, None, Result, Ok, List, [], ◌∷◌, ◌++◌, refl, sym, ap, ◌∙◌, subst, append_assoc}
use Rattle.wcv_bytes.specs.declared.fault.Fault.{Fault}
use Rattle.wcv_bytes.specs.Reading.{◌>>=◌, of_one, of_two}
use Rattle.wcv_encode.specs.Bytes.{Bytes, ◌⧺◌, byte}
use Rattle.wcv_encode.specs.Laws.{Reads}

-- a part, and what is read behind it
pub behind : {X Z : Type 0} (r : List ℕ → Result (X × List ℕ) Fault) (k : X × List ℕ → Result (Z × List ℕ) Fault) (a b : Bytes) (x : X) (z : Z) → Reads r a x → Reads (λ rest. k (x, rest)) b z → Reads (λ bytes. r bytes >>= k) (a ⧺ b) z
unfolding ◌⧺◌
behind r k None b x z first others c rest e = absurd (cc)
behind r k (Some a) None x z first others c rest e = absurd (cc)
behind r k (Some a) (Some b) x z first others c rest e =
    let same : a ++ b ≡ c = cc in
    ap (λ y. r y >>= k) (ap (λ y. y ++ rest) (sym same) ∙ append_assoc a b rest) ∙ ap (λ y. y >>= k) (first a (b ++ rest) refl) ∙ others b rest refl

-- a part alone
pub made : {X Z : Type 0} (r : List ℕ → Result (X × List ℕ) Fault) (f : X → Z) (a : Bytes) (x : X) → Reads r a x → Reads (of_one r f) a (f x)
made r f a x again b rest e = ap (λ y. y >>= λ p. Ok (f p.0, p.1)) (again b rest e)

-- two parts
pub made_of_two : {X Y Z : Type 0} (r : List ℕ → Result (X × List ℕ) Fault) (s : List ℕ → Result (Y × List ℕ) Fault) (f : X → Y → Z) (a b : Bytes) (x : X) (y : Y) → Reads r a x → Reads s b y → Reads (of_two r s f) (a ⧺ b) (f x y)
made_of_two r s f a b x y first second =
    behind r (λ p. s p.1 >>= λ q. Ok (f p.0 q.0, q.1)) a b x (f x y) first (made s (f x) b y second)

-- a byte that says what follows
pub led : {Z : Type 0} (n : ℕ) (f g : List ℕ → Result (Z × List ℕ) Fault) (b : Bytes) (z : Z) → ((rest : List ℕ) → f (n ∷ rest) ≡ g rest) → Reads g b z → Reads f (byte n ⧺ b) z
unfolding ◌⧺◌
led n f g None z step again c rest e = absurd (cc)
led n f g (Some b) z step again c rest e =
    let same : n ∷ b ≡ c = cc in
    ap (λ y. f (y ++ rest)) (sym same) ∙ step (b ++ rest) ∙ again b rest refl

-- known bytes alone
pub known : {Z : Type 0} (a : List ℕ) (f : List ℕ → Result (Z × List ℕ) Fault) (z : Z) → ((rest : List ℕ) → f (a ++ rest) ≡ Ok (z, rest)) → Reads f (Some a) z
known a f z step c rest e =
    let same : a ≡ c = cc in
    ap (λ y. f (y ++ rest)) (sym same) ∙ step rest

-- known bytes that say what follows
pub prefixed : {Z : Type 0} (a : List ℕ) (f g : List ℕ → Result (Z × List ℕ) Fault) (b : Bytes) (z : Z) → ((rest : List ℕ) → f (a ++ rest) ≡ g rest) → Reads g b z → Reads f (Some a ⧺ b) z
unfolding ◌⧺◌
prefixed a f g None z step again c rest e = absurd (cc)
prefixed a f g (Some b) z step again c rest e =
    let same : a ++ b ≡ c = cc in
    ap (λ y. f (y ++ rest)) (sym same) ∙ ap f (append_assoc a b rest) ∙ step (b ++ rest) ∙ again b rest refl

pub some_of : (a b : List ℕ) → Some a ≡ Some b → a ≡ b
some_of a b e = cc

-- what holds of all bytes that begin with a byte holds of what is written behind it
pub begun : (n : ℕ) (P : List ℕ → Type 0) (more : Bytes) → ((c : List ℕ) → P (n ∷ c)) → (b : List ℕ) → byte n ⧺ more ≡ Some b → P b
unfolding ◌⧺◌
begun n P None each b e = absurd (cc)
begun n P (Some c) each b e =
    let same : n ∷ c ≡ b = cc in
    subst P same (each c)

-- what holds of all that two parts make holds of what is written of both
pub parted : (P : List ℕ → Type 0) (a b : Bytes) → ((x y : List ℕ) → a ≡ Some x → b ≡ Some y → P (x ++ y)) → (c : List ℕ) → a ⧺ b ≡ Some c → P c
unfolding ◌⧺◌
parted P None b each c e = absurd (cc)
parted P (Some x) None each c e = absurd (cc)
parted P (Some x) (Some y) each c e =
    let same : x ++ y ≡ c = cc in
    subst P same (each x y refl refl)

-- so where it is known what is behind the byte
pub begun_by : (n : ℕ) (P : List ℕ → Type 0) (more : Bytes) → ((c : List ℕ) → more ≡ Some c → P (n ∷ c)) → (b : List ℕ) → byte n ⧺ more ≡ Some b → P b
begun_by n P more each b e =
    parted P (byte n) more (λ x y first second. subst (λ z. P (z ++ y)) (some_of (n ∷ []) x first) (each y second)) b e
