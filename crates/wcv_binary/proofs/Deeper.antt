-- Components that nest in components.
use Rattle.std.proofs.Common.{◌≡◌, ℕ, zero, suc, ◌-◌, List, length, Err, refl, sym, subst}
use Rattle.wcv_bytes.specs.declared.fault.Why.TheVariants.{TooDeep}
use Rattle.wcv_binary.specs.Components.{component_over, component_within}
use Rattle.wcv_bytes.specs.Sections.{fault_at}

pub too_deep : (n end room : ℕ) (bytes : List ℕ) → n ≡ 0 → component_within n end room bytes ≡ Err (fault_at TooDeep (end - length bytes))
unfolding component_within
too_deep zero end room bytes e = refl
too_deep (suc n) end room bytes e = absurd (cc)

pub one_deeper : (n k end room : ℕ) (bytes : List ℕ) → n ≡ suc k → component_within n end room bytes ≡ component_over k (component_within k) end room bytes
unfolding component_within
one_deeper n k end room bytes e = subst (λ m. component_within m end room bytes ≡ component_over k (component_within k) end room bytes) (sym e) refl
