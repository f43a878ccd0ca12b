-- How a type lies in memory, and what stands in it, are the same under a renaming.
use Rattle.std.proofs.Common.{◌≡◌, ℕ, suc, max, ◌+◌, refl, ap, ◌∙◌, ◌||◌}
use Rattle.wcv_types.specs.Abi.{align_up, former_size, former_align, former_has, count, abi_align, greatest_align, abi_size, end_of, greatest_size, Mark, contains, any_contains}
use Rattle.wcv_types.specs.Rename.{rename, rename_parts}
use Rattle.wcv_types.specs.Tree.{nothing, primitive, defined, Tree, node, Parts, none, part}

module _ {R S I J : Type 0} (f : R → S) (g : I → J) where
  count-rename : (ps : Parts R I) → count (rename_parts f g ps) ≡ count ps
  count-rename none = refl
  count-rename (part r t ps) = ap suc (count-rename ps)

  mutual
    pub abi_align-rename : (p : ℕ) (t : Tree R I) → abi_align p (rename f g t) ≡ abi_align p t
    abi_align-rename p (node (primitive q) ps) = refl
    abi_align-rename p (node (defined i k) ps) =
        let a : greatest_align p (rename_parts f g ps) ≡ greatest_align p ps = greatest_align-rename p ps in
        let n : count (rename_parts f g ps) ≡ count ps = count-rename ps in
        λ j. former_align p k (a j) (n j)
    abi_align-rename p (node nothing ps) = refl
    abi_align-rename p (node h ps) = refl

    greatest_align-rename : (p : ℕ) (ps : Parts R I) → greatest_align p (rename_parts f g ps) ≡ greatest_align p ps
    greatest_align-rename p none = refl
    greatest_align-rename p (part r t ps) =
        let a : abi_align p (rename f g t) ≡ abi_align p t = abi_align-rename p t in
        let b : greatest_align p (rename_parts f g ps) ≡ greatest_align p ps = greatest_align-rename p ps in
        λ j. max (a j) (b j)

  mutual
    pub abi_size-rename : (p : ℕ) (t : Tree R I) → abi_size p (rename f g t) ≡ abi_size p t
    abi_size-rename p (node (primitive q) ps) = refl
    abi_size-rename p (node (defined i k) ps) =
        let e : end_of p 0 (rename_parts f g ps) ≡ end_of p 0 ps = end_of-rename p 0 ps in
        let a : greatest_align p (rename_parts f g ps) ≡ greatest_align p ps = greatest_align-rename p ps in
        let s : greatest_size p (rename_parts f g ps) ≡ greatest_size p ps = greatest_size-rename p ps in
        let n : count (rename_parts f g ps) ≡ count ps = count-rename ps in
        λ j. former_size p k (e j) (a j) (s j) (n j)
    abi_size-rename p (node nothing ps) = refl
    abi_size-rename p (node h ps) = refl

    end_of-rename : (p at : ℕ) (ps : Parts R I) → end_of p at (rename_parts f g ps) ≡ end_of p at ps
    end_of-rename p at none = refl
    end_of-rename p at (part r t ps) =
        let a : abi_align p (rename f g t) ≡ abi_align p t = abi_align-rename p t in
        let s : abi_size p (rename f g t) ≡ abi_size p t = abi_size-rename p t in
        let next : align_up (abi_align p (rename f g t)) at + abi_size p (rename f g t) ≡ align_up (abi_align p t) at + abi_size p t = λ j. align_up (a j) at + s j in
        ap (λ (n : ℕ). end_of p n (rename_parts f g ps)) next ∙ end_of-rename p (align_up (abi_align p t) at + abi_size p t) ps

    greatest_size-rename : (p : ℕ) (ps : Parts R I) → greatest_size p (rename_parts f g ps) ≡ greatest_size p ps
    greatest_size-rename p none = refl
    greatest_size-rename p (part r t ps) =
        let a : abi_size p (rename f g t) ≡ abi_size p t = abi_size-rename p t in
        let b : greatest_size p (rename_parts f g ps) ≡ greatest_size p ps = greatest_size-rename p ps in
        λ j. max (a j) (b j)

  mutual
    pub contains-rename : (m : Mark) (t : Tree R I) → contains m (rename f g t) ≡ contains m t
    contains-rename m (node (defined i k) ps) = ap (former_has m k) (any_contains-rename m ps)
    contains-rename m (node h ps) = refl

    pub any_contains-rename : (m : Mark) (ps : Parts R I) → any_contains m (rename_parts f g ps) ≡ any_contains m ps
    any_contains-rename m none = refl
    any_contains-rename m (part r t ps) =
        let a : contains m (rename f g t) ≡ contains m t = contains-rename m t in
        let b : any_contains m (rename_parts f g ps) ≡ any_contains m ps = any_contains-rename m ps in
        λ j. a j || b j
