-- Numbers by order of first appearance.
use Rattle.std.proofs.Common.{◌≡◌, ℕ, suc, ◌+◌, List, [], ◌∷◌, ◌++◌, length, refl, sym, ◌∙◌, ap, arith, Bool, true, false, cond, ◌||◌, Option, Some, None}
use Rattle.std.specs.Prelude.{is_some}
use Rattle.std.specs.Map.{lookup, keys_of}
use Rattle.wcv_types.specs.Positions.{position_of, is_there}
use Rattle.wcv_text.specs.Numbering.{AreNumberedFrom}

-- a number is found exactly where the key is there
found_there : {K : Type 0} (eq : K → K → Bool) (x : K) (es : List (K × ℕ)) → is_some (lookup (eq x) es) ≡ is_there eq x (keys_of es)
found_there eq x [] = refl
found_there eq x (e ∷ es) = go (eq x e.0) (found_there eq x es)
  where
    go : (b : Bool) → is_some (lookup (eq x) es) ≡ is_there eq x (keys_of es) → is_some (cond b (Some e.1) (lookup (eq x) es)) ≡ (b || is_there eq x (keys_of es))
    go true h = refl
    go false h = h

pub some_there : {K : Type 0} (eq : K → K → Bool) (x : K) (m : ℕ) (es : List (K × ℕ)) → lookup (eq x) es ≡ Some m → is_there eq x (keys_of es) ≡ true
some_there eq x m es h = sym (found_there eq x es) ∙ ap is_some h

pub none_there : {K : Type 0} (eq : K → K → Bool) (x : K) (es : List (K × ℕ)) → lookup (eq x) es ≡ None → is_there eq x (keys_of es) ≡ false
none_there eq x es h = sym (found_there eq x es) ∙ ap is_some h

pub none_found : {K : Type 0} (eq : K → K → Bool) (x : K) (es : List (K × ℕ)) → is_there eq x (keys_of es) ≡ false → lookup (eq x) es ≡ None
none_found eq x es h = none (lookup (eq x) es) (found_there eq x es ∙ h)
  where
    none : (o : Option ℕ) → is_some o ≡ false → o ≡ None
    none None e = refl
    none (Some n) e = cc

-- the number that is found is the position
found_position : {K : Type 0} (eq : K → K → Bool) (x : K) (k m : ℕ) (es : List (K × ℕ)) → AreNumberedFrom k es → lookup (eq x) es ≡ Some m → m ≡ k + position_of eq x (keys_of es)
found_position eq x k m [] n h = cc
found_position eq x k m (e ∷ es) n h = go (eq x e.0) (λ r. found_position eq x (suc k) m es n.1 r) h
  where
    go : (b : Bool) → (lookup (eq x) es ≡ Some m → m ≡ suc k + position_of eq x (keys_of es)) →
        cond b (Some e.1) (lookup (eq x) es) ≡ Some m → m ≡ k + cond b 0 (suc (position_of eq x (keys_of es)))
    go true later h =
        let s : e.1 ≡ m = cc in
        omega (arith, n.0, s)
    go false later h = omega (arith, later h)

-- so for keys that are numbered from 0
pub found_number : {K : Type 0} (eq : K → K → Bool) (x : K) (m : ℕ) (es : List (K × ℕ)) → AreNumberedFrom 0 es → lookup (eq x) es ≡ Some m → position_of eq x (keys_of es) ≡ m
found_number eq x m es n h =
    let p : m ≡ 0 + position_of eq x (keys_of es) = found_position eq x 0 m es n h in
    omega (arith, p)

pub none_number : {K : Type 0} (eq : K → K → Bool) (x : K) (es : List (K × ℕ)) → lookup (eq x) es ≡ None → position_of eq x (keys_of es) ≡ length es
none_number eq x [] h = refl
none_number eq x (e ∷ es) h = go (eq x e.0) (none_number eq x es) h
  where
    go : (b : Bool) → (lookup (eq x) es ≡ None → position_of eq x (keys_of es) ≡ length es) →
        cond b (Some e.1) (lookup (eq x) es) ≡ None → cond b 0 (suc (position_of eq x (keys_of es))) ≡ suc (length es)
    go true later h = cc
    go false later h = ap suc (later h)

-- the next key has the next number
pub next_numbered : {K : Type 0} (k m : ℕ) (x : K) (es : List (K × ℕ)) → AreNumberedFrom k es → m ≡ k + length es → AreNumberedFrom k (es ++ (x, m) ∷ [])
next_numbered k m x [] n h = (omega (arith, h), tt)
next_numbered k m x (e ∷ es) n h = (n.0, next_numbered (suc k) m x es n.1 (omega (arith, h)))
