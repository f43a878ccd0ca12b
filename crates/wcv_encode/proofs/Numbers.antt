-- The bytes of numbers, step by step.
use Rattle.std.proofs.Common.{◌≡◌, ◌≢◌, ℕ, zero, suc, ◌+◌, ◌-◌, ◌*◌, ◌/◌, ◌%◌, ◌^◌, ◌<◌, ◌≤◌, [], ◌∷◌, Some, refl, arith}
use Rattle.std.proofs.Math.Nat.{pow-succ'}
use Rattle.std.proofs.lemmas.Bool.Decides.{nat_tests}
use Rattle.wcv_encode.specs.Bytes.{leb128, ◌⧺◌}

pub leb_last : (bound n : ℕ) → leb128 bound 0 n ≡ n ∷ []
unfolding leb128
leb_last bound n = refl

pub leb_below : (bound more n : ℕ) → n < bound → leb128 bound more n ≡ n ∷ []
unfolding leb128
leb_below bound zero n h = refl
leb_below bound (suc more) n h = grind (arith, nat_tests)

leb_step : (bound more n : ℕ) → more ≢ 0 → bound ≤ n → leb128 bound more n ≡ (128 + n % 128) ∷ leb128 bound (more - 1) (n / 128)
unfolding leb128
leb_step bound zero n h b = absurd (h refl)
leb_step bound (suc more) n h b = grind (arith, nat_tests)

pub leb_above : (bound more n : ℕ) → more ≢ 0 → bound ≤ n → Some (leb128 bound more n) ≡ Some ((128 + n % 128) ∷ []) ⧺ Some (leb128 bound (more - 1) (n / 128))
unfolding ◌⧺◌
leb_above bound more n h b = rw (leb_step bound more n h b) refl

pub less_fits : (more n : ℕ) → more ≢ 0 → n < 128 * 128 ^ more → n / 128 < 128 * 128 ^ (more - 1)
less_fits zero n h b = absurd (h refl)
less_fits (suc more) n h b =
    let e : suc more - 1 ≡ more = omega arith in
    rw e (omega (arith, pow-succ' 128 more))

pub ruleset lebs = (leb_last, leb_below, leb_above, less_fits)
