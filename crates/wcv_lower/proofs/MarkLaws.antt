-- Marks of use: no entry stands in them, and a step that uses values marks each.
use Rattle.std.proofs.Common.{◌≡◌, ℕ, List, [], ◌∷◌, ◌++◌, refl, ap}
use Rattle.wcv_lower.specs.Context.{Stack}
use Rattle.wcv_lower.specs.Mapped.{Map, map_step}
use Rattle.wcv_lower.specs.Marks.{uses_each, use_all}
use Rattle.wcv_lower.specs.Readers.{Reader}
use Rattle.wcv_lower.specs.Step.{Step, uses_value, change, apply}

-- values are used first, under a map of entries
pub uses-mapped : {X Y : Reader} (m : Map X Y) (ks : List ℕ) (p : Step X) → uses_each ks ++ map_step m p ≡ map_step m (uses_each ks ++ p)
uses-mapped m [] p = refl
uses-mapped {X} {Y} m (k ∷ ks) p = ap (λ (q : Step Y). uses_value k ∷ q) (uses-mapped m ks p)

module _ {X : Reader} where
  pub uses-applied : (ks : List ℕ) (s : Stack X) → apply (uses_each ks) s ≡ record s { top = use_all ks s.top }
  uses-applied [] s = refl
  uses-applied (k ∷ ks) s = uses-applied ks (change (uses_value k) s)

  -- one step behind another
  pub apply-append : (p q : Step X) (s : Stack X) → apply (p ++ q) s ≡ apply q (apply p s)
  apply-append [] q s = refl
  apply-append (x ∷ p) q s = apply-append p q (change x s)
