-- What was found under a name.
use Rattle.std.proofs.Common.{◌≡◌, List, Option, Some, None, subst, sym, ◌∙◌}
use Rattle.std.specs.Prelude.{All, IfSome, bytes_eq}
use Rattle.std.specs.Map.{lookup}
use Rattle.std.proofs.lemmas.Map.Entries.{All-lookup}
use Rattle.wcv_types.specs.Tree.{Text}
use Rattle.wcv_matching.specs.Standings.{FoundAs}

one_some : {A : Type 0} (x y : A) → Some x ≡ Some y → x ≡ y
one_some x y e = cc

pub nothing_found : {X Y : Type 0} (R : X → Y → Type 0) (o : Option X) (y : Y) → o ≡ None → FoundAs R o y → ⊥
nothing_found R o y e f = let g : None ≡ Some f.0 = sym e ∙ f.1 in cc

pub other_found : {X Y : Type 0} (R : X → Y → Type 0) (o : Option X) (x : X) (y : Y) → o ≡ Some x → (R x y → ⊥) → FoundAs R o y → ⊥
other_found {X} {Y} R o x y e n f =
    let same : f.0 ≡ x = one_some f.0 x (sym f.1 ∙ e) in
    n (subst (λ (z : X). R z y) same f.2)

-- so over an equal table, of what is equal
pub carried : {G X : Type 0} (P : G → Option X → Type 0) (g h : G) (o p : Option X) → g ≡ h → o ≡ p → P g o → P h p
carried {G} {X} P g h o p e f x = subst (λ (q : Option X). P h q) f (subst (λ (k : G). P k o) e x)

pub both_carried : {X Y : Type 0} (P : X → Y → Type 0) (x x' : X) (y y' : Y) → x ≡ x' → y ≡ y' → P x y → P x' y'
both_carried {X} {Y} P x x' y y' e f h = subst (λ (z : Y). P x' z) f (subst (λ (z : X). P z y) e h)

-- what holds of all holds of what a look-up finds
pub found_within : {X : Type 0} (P : X → Type 0) (q : Text) (es : List (Text × X)) (o : Option X) → o ≡ lookup (bytes_eq q) es → All (λ (e : Text × X). P e.1) es → IfSome o P
found_within {X} P q es o e a = subst (λ (r : Option X). IfSome r P) (sym e) (All-lookup P (bytes_eq q) es a)
