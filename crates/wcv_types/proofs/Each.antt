-- A fact of each element of a list, and lists that are mapped.
use Rattle.std.proofs.Common.{◌≡◌, ℕ, suc, List, [], ◌∷◌, ◌++◌, length, map, refl, ap, ◌∙◌, Bool, cond, ◌||◌, arith}
use Rattle.wcv_types.specs.Positions.{position_of, is_there}

-- a fact of each element of a list, by recursion on the list
abbrev pub Each : {X : Type 0} → (X → Type 0) → List X → Type 0
Each P [] = Unit {0}
Each P (x ∷ xs) = P x × Each P xs

pub push_each : {X : Type 0} (P : X → Type 0) (xs : List X) (x : X) → Each P xs → P x → Each P (xs ++ x ∷ [])
push_each P [] x e p = (p, tt)
push_each P (y ∷ xs) x e p = (e.0, push_each P xs x e.1 p)

pub map-push : {A B : Type 0} (f : A → B) (xs : List A) (x : A) → map f (xs ++ x ∷ []) ≡ map f xs ++ f x ∷ []
map-push f [] x = refl
map-push f (y ∷ xs) x = ap (λ ys. f y ∷ ys) (map-push f xs x)

pub length-mapped : {A B : Type 0} (f : A → B) (xs : List A) → length (map f xs) ≡ length xs
length-mapped f [] = refl
length-mapped f (x ∷ xs) =
    let h : length (map f xs) ≡ length xs = length-mapped f xs in
    omega arith

-- positions stay under a map that keeps the test
pub position_under : {X : Type 0} (eq : X → X → Bool) (P : X → Type 0) (h : X → X) → ((a b : X) → P a → P b → eq (h a) (h b) ≡ eq a b) → (x : X) → P x → (ys : List X) → Each P ys →
    position_of eq (h x) (map h ys) ≡ position_of eq x ys
position_under eq P h e x p [] w = refl
position_under eq P h e x p (y ∷ ys) w =
    ap (λ (b : Bool). cond b 0 (suc (position_of eq (h x) (map h ys)))) (e x y p w.0) ∙ ap (λ (n : ℕ). cond (eq x y) 0 (suc n)) (position_under eq P h e x p ys w.1)

pub there_under : {X : Type 0} (eq : X → X → Bool) (P : X → Type 0) (h : X → X) → ((a b : X) → P a → P b → eq (h a) (h b) ≡ eq a b) → (x : X) → P x → (ys : List X) → Each P ys →
    is_there eq (h x) (map h ys) ≡ is_there eq x ys
there_under eq P h e x p [] w = refl
there_under eq P h e x p (y ∷ ys) w =
    ap (λ (b : Bool). b || is_there eq (h x) (map h ys)) (e x y p w.0) ∙ ap (λ (b : Bool). eq x y || b) (there_under eq P h e x p ys w.1)
