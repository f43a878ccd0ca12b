-- The test of atoms answers whether they are one, and the test of values whether these are seen alike.
use Rattle.std.proofs.Common.{◌≡◌, true, refl, ap, subst, eq-eqb, eqb}
use Rattle.std.specs.Bool.{Decides}
use Rattle.std.proofs.lemmas.Bool.{eqb-true}
use Rattle.wcv_core.proofs.Names.{and_left, and_right, same-true, same-refl}
use Rattle.wcv_core.specs.Names.{same}
use Rattle.wcv_types.proofs.SameSeen.{tree-decides, within-decides}
use Rattle.wcv_types.specs.SameSeen.{same_within}
use Rattle.wcv_matching.specs.AtomTests.{same_atom, same_seen}
use Rattle.wcv_matching.specs.OnePass.{Atom, given, owned_in, made_in, Seen_tree}
use Rattle.wcv_matching.proofs.PassSame.{and_both}

atom-true : (v w : Atom) → same_atom v w ≡ true → v ≡ w
atom-true (given r) (given q) h = ap given (same-true r q h)
atom-true (owned_in j r) (owned_in k q) h = let e : j ≡ k = eqb-true j k (and_left _ _ h) in let d : r ≡ q = same-true r q (and_right _ _ h) in (λ i. owned_in (e i) (d i))
atom-true (made_in j r) (made_in k q) h = let e : j ≡ k = eqb-true j k (and_left _ _ h) in let d : r ≡ q = same-true r q (and_right _ _ h) in (λ i. made_in (e i) (d i))
atom-true _ _ h = cc

atom-refl : (w : Atom) → same_atom w w ≡ true
atom-refl (given r) = same-refl r
atom-refl (owned_in k r) = and_both (eqb k k) (same r r) (eq-eqb k k refl) (same-refl r)
atom-refl (made_in k r) = and_both (eqb k k) (same r r) (eq-eqb k k refl) (same-refl r)

atom-decides : (v w : Atom) → Decides (same_atom v w) (v ≡ w)
atom-decides v w = (atom-true v w, λ e. subst (λ (z : Atom). same_atom v z ≡ true) e (atom-refl v))

pub seen-decides : (s t : Seen_tree) → Decides (same_seen s t) (s ≡ t)
seen-decides = tree-decides (same_within same_atom) (within-decides same_atom atom-decides)
