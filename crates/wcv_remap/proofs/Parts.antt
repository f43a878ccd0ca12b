-- Ids of types: when two are one, and what stands at their place.
use Rattle.std.proofs.Common.{◌≡◌, ℕ, suc, ◌<◌, refl, sym, ◌∙◌, ap, arith, Bool, true, false, ◌&&◌, eqb, eq-eqb, Some}
use Rattle.std.proofs.lemmas.Bool.{eqb-true}
use Rattle.std.specs.Prelude.{slice_get}
use Rattle.wcv_core.proofs.Names.{and_left, and_right}
use Rattle.wcv_core.specs.Names.{Name, number}
use Rattle.wcv_types.proofs.Grown.{node_stays}
use Rattle.wcv_types.proofs.Lists.{some-inj}
use Rattle.wcv_types.specs.Arena.{Arena}
use Rattle.wcv_types.specs.Identity.{of_node, of_reference}
use Rattle.wcv_types.specs.Rebuild.{sort_number, same_sort}
use Rattle.wcv_types.specs.Standing.{Stands, Extends, HasIdentity, identity_of}
use Rattle.wcv_types.specs.Unfold.{place, rank, slots_at, slots_if}
use Rattle.wcv_types.specs.declared.arena.Node.{Node}
use Rattle.wcv_types.specs.declared.arena.Node.TheVariants as n
use Rattle.wcv_types.specs.declared.ids.AliasableResourceId.{AliasableResourceId}
use Rattle.wcv_types.specs.declared.ids.Part.{Part}
use Rattle.wcv_types.specs.declared.ids.Part.TheVariants as p
use Rattle.wcv_remap.specs.Map.{same_part, is_node, is_type}

-- ## When two are one

reference_same : (q r : AliasableResourceId) → q.resource.index ≡ r.resource.index → q.stamp ≡ r.stamp → q ≡ r
reference_same q r e f =
    let P : ℕ → AliasableResourceId = λ x. record { resource = record { index = x }; stamp = q.stamp } in
    let Q : ℕ → AliasableResourceId = λ y. record { resource = r.resource; stamp = y } in
    let a : P q.resource.index ≡ P r.resource.index = ap P e in
    let b : Q q.stamp ≡ Q r.stamp = ap Q f in
    a ∙ b

pub same_part-true : (q r : Part) → same_part q r ≡ true → q ≡ r
same_part-true (p.Resource q) (p.Resource r) h =
    ap p.Resource (reference_same q r (eqb-true q.resource.index r.resource.index (and_left _ _ h)) (eqb-true q.stamp r.stamp (and_right _ _ h)))
same_part-true (p.Defined i) (p.Defined j) h = let P : ℕ → Part = λ x. p.Defined (record { index = x }) in ap P (eqb-true i.index j.index h)
same_part-true (p.Func i) (p.Func j) h = let P : ℕ → Part = λ x. p.Func (record { index = x }) in ap P (eqb-true i.index j.index h)
same_part-true (p.Instance i) (p.Instance j) h = let P : ℕ → Part = λ x. p.Instance (record { index = x }) in ap P (eqb-true i.index j.index h)
same_part-true (p.Component i) (p.Component j) h = let P : ℕ → Part = λ x. p.Component (record { index = x }) in ap P (eqb-true i.index j.index h)
same_part-true (p.Module i) (p.Module j) h = let P : ℕ → Part = λ x. p.Module (record { index = x }) in ap P (eqb-true i.index j.index h)
same_part-true (p.CoreInstance i) (p.CoreInstance j) h = let P : ℕ → Part = λ x. p.CoreInstance (record { index = x }) in ap P (eqb-true i.index j.index h)
same_part-true (p.Core i) (p.Core j) h = let P : ℕ → Part = λ x. p.Core (record { index = x }) in ap P (eqb-true i.index j.index h)
same_part-true _ _ h = cc

pub same_part-refl : (q : Part) → same_part q q ≡ true
same_part-refl (p.Resource q) = both (eqb q.resource.index q.resource.index) (eqb q.stamp q.stamp) (eq-eqb q.resource.index q.resource.index refl) (eq-eqb q.stamp q.stamp refl)
  where
    both : (a b : Bool) → a ≡ true → b ≡ true → (a && b) ≡ true
    both a b h k = grind arith
same_part-refl (p.Defined i) = eq-eqb i.index i.index refl
same_part-refl (p.Func i) = eq-eqb i.index i.index refl
same_part-refl (p.Instance i) = eq-eqb i.index i.index refl
same_part-refl (p.Component i) = eq-eqb i.index i.index refl
same_part-refl (p.Module i) = eq-eqb i.index i.index refl
same_part-refl (p.CoreInstance i) = eq-eqb i.index i.index refl
same_part-refl (p.Core i) = eq-eqb i.index i.index refl

-- of unequal ranks two are two
pub apart : (q r : Part) → rank q < rank r → same_part q r ≡ false
apart q r h = go (same_part q r) refl
  where
    go : (b : Bool) → same_part q r ≡ b → b ≡ false
    go true e = let f : q ≡ r = same_part-true q r e in absurd (omega (arith, h, ap rank f))
    go false e = refl

-- ## Sorts

pub node_rank : (q : Part) → is_node q ≡ true → rank q ≡ suc (place q)
node_rank (p.Resource r) h = cc
node_rank (p.Core i) h = cc
node_rank (p.Module i) h = cc
node_rank (p.CoreInstance i) h = cc
node_rank (p.Defined i) h = refl
node_rank (p.Func i) h = refl
node_rank (p.Instance i) h = refl
node_rank (p.Component i) h = refl

pub node_type : (q : Part) → is_node q ≡ true → is_type q ≡ true
node_type (p.Resource r) h = refl
node_type (p.Core i) h = h
node_type (p.Module i) h = h
node_type (p.CoreInstance i) h = h
node_type (p.Defined i) h = h
node_type (p.Func i) h = h
node_type (p.Instance i) h = h
node_type (p.Component i) h = h

pub node_identity : (q : Part) → is_node q ≡ true → identity_of q ≡ of_node (number (place q))
node_identity (p.Resource r) h = cc
node_identity (p.Core i) h = cc
node_identity (p.Module i) h = cc
node_identity (p.CoreInstance i) h = cc
node_identity (p.Defined i) h = refl
node_identity (p.Func i) h = refl
node_identity (p.Instance i) h = refl
node_identity (p.Component i) h = refl

-- what is of the sort of a type is one
pub sort_type : (q r : Part) → is_type q ≡ true → same_sort q r ≡ true → is_type r ≡ true
sort_type q (p.Resource r) n s = refl
sort_type q (p.Defined i) n s = refl
sort_type q (p.Func i) n s = refl
sort_type q (p.Instance i) n s = refl
sort_type q (p.Component i) n s = refl
sort_type (p.Resource q) r n s = absurd (let e = s in cc)
sort_type (p.Defined i) r n s = absurd (let e = s in cc)
sort_type (p.Func i) r n s = absurd (let e = s in cc)
sort_type (p.Instance i) r n s = absurd (let e = s in cc)
sort_type (p.Component i) r n s = absurd (let e = s in cc)
sort_type _ r n s = absurd (let e = n in cc)

-- ## Places

abbrev node_number : Node → ℕ
node_number (n.Defined s) = 0
node_number (n.Func s) = 1
node_number (n.Instance s) = 2
node_number (n.Component s) = 3
node_number (n.Module s) = 4
node_number (n.CoreInstance s) = 5

-- a node of its sort is at its place
standing : (a : Arena) (q : Part) → Stands a q → 0 < rank q → (x : Node) × (slice_get a.nodes (place q) ≡ Some x) × (sort_number q ≡ node_number x)
standing a (p.Resource r) s h = absurd (omega (arith, h))
standing a (p.Core i) s h = absurd (omega (arith, h))
standing a (p.Defined i) s h = (n.Defined s.0, s.1, refl)
standing a (p.Func i) s h = (n.Func s.0, s.1, refl)
standing a (p.Instance i) s h = (n.Instance s.0, s.1, refl)
standing a (p.Component i) s h = (n.Component s.0, s.1, refl)
standing a (p.Module i) s h = (n.Module s.0, s.1, refl)
standing a (p.CoreInstance i) s h = (n.CoreInstance s.0, s.1, refl)

by_sort : (q r : Part) → 0 < rank q → sort_number q ≡ sort_number r → place q ≡ place r → q ≡ r
by_sort (p.Resource q) r h s e = absurd (omega (arith, h))
by_sort (p.Core i) r h s e = absurd (omega (arith, h))
by_sort (p.Defined i) (p.Defined j) h s e = let P : ℕ → Part = λ x. p.Defined (record { index = x }) in ap P e
by_sort (p.Func i) (p.Func j) h s e = let P : ℕ → Part = λ x. p.Func (record { index = x }) in ap P e
by_sort (p.Instance i) (p.Instance j) h s e = let P : ℕ → Part = λ x. p.Instance (record { index = x }) in ap P e
by_sort (p.Component i) (p.Component j) h s e = let P : ℕ → Part = λ x. p.Component (record { index = x }) in ap P e
by_sort (p.Module i) (p.Module j) h s e = let P : ℕ → Part = λ x. p.Module (record { index = x }) in ap P e
by_sort (p.CoreInstance i) (p.CoreInstance j) h s e = let P : ℕ → Part = λ x. p.CoreInstance (record { index = x }) in ap P e
by_sort _ _ h s e = absurd (omega (arith, s))

-- two that stand at one place are one
pub one_place : (a : Arena) (q r : Part) → Stands a q → Stands a r → 0 < rank q → 0 < rank r → place q ≡ place r → q ≡ r
one_place a q r sq sr hq hr e =
    let w = standing a q sq hq in
    let v = standing a r sr hr in
    let same : w.0 ≡ v.0 = some-inj (sym w.1 ∙ ap (slice_get a.nodes) e ∙ v.1) in
    by_sort q r hq (w.2 ∙ ap node_number same ∙ sym v.2) e

-- ## Identities

number_same : (i j : ℕ) → of_node (number i) ≡ of_node (number j) → i ≡ j
number_same i j e = cc

by_node : (a : Arena) (q r : Part) → 0 < rank q → Stands a q → Stands a r → HasIdentity r → of_node (number (place q)) ≡ identity_of r → q ≡ r
by_node a q (p.Resource r) h sq sr k e = absurd (let f = e in cc)
by_node a q (p.Core i) h sq sr k e = absurd k
by_node a q (p.Defined i) h sq sr k e = one_place a q (p.Defined i) sq sr h (omega arith) (number_same (place q) i.index e)
by_node a q (p.Func i) h sq sr k e = one_place a q (p.Func i) sq sr h (omega arith) (number_same (place q) i.index e)
by_node a q (p.Instance i) h sq sr k e = one_place a q (p.Instance i) sq sr h (omega arith) (number_same (place q) i.index e)
by_node a q (p.Component i) h sq sr k e = one_place a q (p.Component i) sq sr h (omega arith) (number_same (place q) i.index e)
by_node a q (p.Module i) h sq sr k e = one_place a q (p.Module i) sq sr h (omega arith) (number_same (place q) i.index e)
by_node a q (p.CoreInstance i) h sq sr k e = one_place a q (p.CoreInstance i) sq sr h (omega arith) (number_same (place q) i.index e)

no_node : (r s k : Name) → of_reference r s ≡ of_node k → ⊥
no_node r s k e = cc

by_reference : (q : AliasableResourceId) (r : Part) → HasIdentity r → identity_of (p.Resource q) ≡ identity_of r → p.Resource q ≡ r
by_reference q (p.Resource r) k e =
    let f : q.resource.index ≡ r.resource.index = cc in
    let g : q.stamp ≡ r.stamp = cc in
    ap p.Resource (reference_same q r f g)
by_reference q (p.Core i) k e = absurd k
by_reference q (p.Defined i) k e = absurd (no_node _ _ _ e)
by_reference q (p.Func i) k e = absurd (no_node _ _ _ e)
by_reference q (p.Instance i) k e = absurd (no_node _ _ _ e)
by_reference q (p.Component i) k e = absurd (no_node _ _ _ e)
by_reference q (p.Module i) k e = absurd (no_node _ _ _ e)
by_reference q (p.CoreInstance i) k e = absurd (no_node _ _ _ e)

-- two that stand under one identity are one
pub one_identity : (a : Arena) (q r : Part) → Stands a q → Stands a r → is_type q ≡ true → HasIdentity r → identity_of q ≡ identity_of r → q ≡ r
one_identity a (p.Resource q) r sq sr t k e = by_reference q r k e
one_identity a (p.Core i) r sq sr t k e = absurd (let f = t in cc)
one_identity a (p.Module i) r sq sr t k e = absurd (let f = t in cc)
one_identity a (p.CoreInstance i) r sq sr t k e = absurd (let f = t in cc)
one_identity a (p.Defined i) r sq sr t k e = by_node a (p.Defined i) r (omega arith) sq sr k e
one_identity a (p.Func i) r sq sr t k e = by_node a (p.Func i) r (omega arith) sq sr k e
one_identity a (p.Instance i) r sq sr t k e = by_node a (p.Instance i) r (omega arith) sq sr k e
one_identity a (p.Component i) r sq sr t k e = by_node a (p.Component i) r (omega arith) sq sr k e

-- what a map may send has an identity
pub type_identity : (q : Part) → is_type q ≡ true → HasIdentity q
type_identity (p.Core i) h = absurd (let e = h in cc)
type_identity (p.Resource r) h = tt
type_identity (p.Module i) h = tt
type_identity (p.CoreInstance i) h = tt
type_identity (p.Defined i) h = tt
type_identity (p.Func i) h = tt
type_identity (p.Instance i) h = tt
type_identity (p.Component i) h = tt

-- ## An arena that grew

-- what a type is made of stays
pub slots_stay : (a b : Arena) (q : Part) → Extends a b → Stands a q → slots_at b.nodes q ≡ slots_at a.nodes q
slots_stay a b (p.Resource r) e s = refl
slots_stay a b (p.Core i) e s = refl
slots_stay a b (p.Defined i) e s = ap slots_if (node_stays a b i.index (n.Defined s.0) e s.1 ∙ sym s.1)
slots_stay a b (p.Func i) e s = ap slots_if (node_stays a b i.index (n.Func s.0) e s.1 ∙ sym s.1)
slots_stay a b (p.Instance i) e s = ap slots_if (node_stays a b i.index (n.Instance s.0) e s.1 ∙ sym s.1)
slots_stay a b (p.Component i) e s = ap slots_if (node_stays a b i.index (n.Component s.0) e s.1 ∙ sym s.1)
slots_stay a b (p.Module i) e s = ap slots_if (node_stays a b i.index (n.Module s.0) e s.1 ∙ sym s.1)
slots_stay a b (p.CoreInstance i) e s = ap slots_if (node_stays a b i.index (n.CoreInstance s.0) e s.1 ∙ sym s.1)
