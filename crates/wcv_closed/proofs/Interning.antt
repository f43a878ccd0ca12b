-- A table with one more group.
use Rattle.std.proofs.Common.{◌≤◌, ◌≡◌, ℕ, ◌+◌, ◌<◌, List, [], ◌∷◌, length, All, Option, Some, None, refl, sym, ◌∙◌, ap, arith, subst}
use Rattle.wcv_core.specs.CoreForm.{Group}
use Rattle.wcv_core.specs.CoreGroups.{total, id_of, IsClosed}
use Rattle.wcv_core.specs.CoreIds.{ids_in_group, NamesOlder}
use Rattle.wcv_core.specs.CoreJoining.{first_id}
use Rattle.wcv_core.specs.CoreTable.{joined_to, with_group}
use Rattle.wcv_core.proofs.Finding.{distinct-append}
use Rattle.wcv_core.proofs.Rowing.{closed-append, length-map, total-append}
use Rattle.wcv_core.proofs.TableLaws.{interned}
use Rattle.wcv_closed.specs.NumberedIds.{moved_sub, moved_group}
use Rattle.wcv_closed.specs.ClosedType.{Closed, all_closed, closed_in, closed, closed_at}
use Rattle.wcv_closed.specs.ClosedTable.{IsTable}
use Rattle.wcv_closed.proofs.Moving.{moved_closed}
use Rattle.wcv_closed.proofs.Standing.{high, found_stands}
use Rattle.wcv_closed.proofs.Unfolding.{closed_stays, closed_in-stays, length-closed_after, after_both, found_unfolds, one_in_table}

pub table_joined : (gs : List Group) (g : Group) → IsTable gs → IsClosed (total gs) g → IsTable (with_group gs g)
table_joined gs g t c = go (id_of gs g) refl
  where
    z : total gs ≡ 0 + total gs
    z = omega arith

    go : (o : Option ℕ) → id_of gs g ≡ o → IsTable (joined_to o gs g)
    go None e = record {
      closed = closed-append 0 gs g t.closed (subst (λ (m : ℕ). IsClosed m g) z c);
      distinct = distinct-append gs g e t.distinct;
    }
    go (Some i) e = t

-- a group that names types of the table has one closed form, whether it is there or joins
joined_at : (gs : List Group) (g : Group) (k : ℕ) → NamesOlder (total gs) g → (o : Option ℕ) → closed_at (joined_to o gs g) g k ≡ closed_at gs g k
unfolding closed_at
joined_at gs g k h (Some i) = refl
joined_at gs g k h None =
    let l : total gs ≡ length (all_closed gs) = omega (arith, length-closed_after [] gs) in
    sym (closed_in-stays (all_closed gs) (g ∷ []) g k (subst (λ (m : ℕ). NamesOlder m g) l h) ∙ ap (λ (cs : List Closed). closed_in cs g k) (sym (after_both [] gs (g ∷ []))))

pub interned_unfolds : (gs : List Group) (g : Group) (k : ℕ) → IsTable gs → IsClosed (total gs) g → k < length g → closed (with_group gs g) (first_id gs g + k) ≡ closed_at gs g k
interned_unfolds gs g k t c l =
    found_unfolds (with_group gs g) g (first_id gs g) k (table_joined gs g t c).closed (interned gs g) l ∙ joined_at gs g k c.older (id_of gs g)

-- so in another table
pub moved_interned : (gs hs : List Group) (f : ℕ → ℕ) (g : Group) (k : ℕ) → IsTable hs → All (λ i. closed hs (f i) ≡ closed gs i) (ids_in_group g) → IsClosed (total hs) (moved_group f g) → k < length g → closed (with_group hs (moved_group f g)) (first_id hs (moved_group f g) + k) ≡ closed_at gs g k
moved_interned gs hs f g k t a c l =
    let m : length (moved_group f g) ≡ length g = length-map (moved_sub f) g in
    interned_unfolds hs (moved_group f g) k t c (omega arith) ∙ moved_closed f gs hs g k a

pub no_table : IsTable []
no_table = record { closed = tt; distinct = tt }

pub found_in_table : (gs : List Group) (g : Group) (m k : ℕ) → IsTable gs → id_of gs g ≡ Some m → k < length g → closed gs (m + k) ≡ closed_at gs g k
found_in_table gs g m k t e h = found_unfolds gs g m k t.closed e h

-- ## A type that is there

pub kept : (gs : List Group) (g : Group) (p : ℕ) → p < total gs → (o : Option ℕ) → closed (joined_to o gs g) p ≡ closed gs p
kept gs g p l None = closed_stays gs (g ∷ []) p l
kept gs g p l (Some i) = refl

pub not_fewer : (gs : List Group) (g : Group) (o : Option ℕ) → total gs ≤ total (joined_to o gs g)
not_fewer gs g None = omega (arith, total-append gs g)
not_fewer gs g (Some i) = omega arith

-- interning answers the id of the type that has the closed form, if there is one
pub interned_found : (gs : List Group) (g : Group) (k p : ℕ) → IsTable gs → IsClosed (total gs) g → k < length g → p < total gs → closed_at gs g k ≡ closed gs p → first_id gs g + k ≡ p
interned_found gs g k p t c l m e =
    let joined : IsTable (with_group gs g) = table_joined gs g t c in
    let room : first_id gs g + length g ≤ 0 + total (with_group gs g) = high 0 (with_group gs g) (first_id gs g) g (found_stands 0 (with_group gs g) (first_id gs g) g (interned gs g)) in
    let more : total gs ≤ total (with_group gs g) = not_fewer gs g (id_of gs g) in
    one_in_table (with_group gs g) (first_id gs g + k) p joined (omega arith) (omega arith)
    (interned_unfolds gs g k t c l ∙ (e ∙ sym (kept gs g p m (id_of gs g))))
