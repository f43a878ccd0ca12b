-- What follows from tests that hold.
use Rattle.std.proofs.Common.{◌≡◌, Bool, true, false, not, ◌&&◌, cond, Option, Some, None, refl}
use Rattle.wcv_lower.specs.Checks.{is_none}

-- where something is made if the test holds, it does
pub if-some : {A : Type 0} (b : Bool) (o : Option A) (x : A) → cond b o None ≡ Some x → (b ≡ true) × (o ≡ Some x)
if-some true o x e = (refl, e)
if-some false o x e = cc

pub some-there : {A : Type 0} (o : Option A) → not (is_none o) ≡ true → (x : A) × (o ≡ Some x)
some-there None e = cc
some-there (Some x) e = (x, refl)

-- of two tests
pub both-true : (a b : Bool) → (a && b) ≡ true → (a ≡ true) × (b ≡ true)
both-true true b e = (refl, e)
both-true false b e = cc

pub and-true : (a b : Bool) → a ≡ true → b ≡ true → (a && b) ≡ true
and-true true b e f = f
and-true false b e f = cc
