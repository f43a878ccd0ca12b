-- A table stands as groups join that may: those of items and declarations, and those of canonical functions.
use Rattle.std.proofs.Common.{◌≡◌, ℕ, zero, suc, ◌+◌, ◌<◌, ◌≤◌, List, [], ◌∷◌, ◌++◌, length, get_or, refl, ◌∙◌, ap, subst, arith, Bool, true, false, Some, None}
use Rattle.std.specs.Prelude.{All, Option, not, ◌&&◌, nat_lt}
use Rattle.std.specs.List.{range_with_len}
use Rattle.std.proofs.lemmas.List.Elements.{All-nil, All-cons, All-weaker}
use Rattle.wcv_core.specs.Checks.{all_checks}
use Rattle.wcv_core.specs.CoreForm.{CompositeForm, Group}
use Rattle.wcv_core.specs.CoreGroups.{total, parents_from, depths_of, IsClosed}
use Rattle.wcv_core.specs.CoreJoining.{first_id, group_ids, grown, table_checks}
use Rattle.wcv_core.specs.CoreMatching.{form_heap, type_at, same_bool}
use Rattle.wcv_core.specs.CoreRules.{form_at, form_matches, form_shared, super_checks, type_checks}
use Rattle.wcv_core.specs.CoreTable.{with_group, limit_checks}
use Rattle.wcv_core.specs.CoreWritten.{Core_entry, IsKnown, closed_group}
use Rattle.wcv_core.specs.Limits.{max_supertypes}
use Rattle.wcv_core.specs.declared.error.ErrorKind.TheVariants as kind
use Rattle.wcv_core.proofs.Joining.{old_room}
use Rattle.wcv_core.proofs.Names.{and_left, and_right}
use Rattle.wcv_core.proofs.Ranges.{known_more, total_with}
use Rattle.wcv_core.proofs.TableLaws.{interned}
use Rattle.wcv_closed.specs.ClosedMatching.{supertype}
use Rattle.wcv_closed.specs.ClosedType.{closed, closed_at}
use Rattle.wcv_closed.proofs.Interning.{interned_unfolds, table_joined}
use Rattle.wcv_closed.proofs.KeptForms.{joined_forms}
use Rattle.wcv_closed.proofs.MatchingIds.{matched_keeps_form}
use Rattle.wcv_closed.proofs.Shown.{closed_parent, super_shown}
use Rattle.wcv_lower.specs.Canons.{alone}
use Rattle.wcv_lower.specs.Checks.{Checks}
use Rattle.wcv_lower.specs.CoreItems.{is_closable, is_core_rule, keeps_rules, may_join}
use Rattle.wcv_lower.specs.Tables.{StandsOver}
use Rattle.wcv_lower.proofs.Joinable.{closable_closed}

-- ## The rules

kept_left : (cs ds : Checks) → keeps_rules (cs ++ ds) ≡ true → keeps_rules cs ≡ true
kept_left [] ds e = refl
kept_left (c ∷ cs) ds e =
    let b : Bool = not (is_core_rule c.0 && c.1) in
    let l : b ≡ true = and_left b (keeps_rules (cs ++ ds)) e in
    let r : keeps_rules cs ≡ true = kept_left cs ds (and_right b (keeps_rules (cs ++ ds)) e) in
    λ j. l j && r j

kept_right : (cs ds : Checks) → keeps_rules (cs ++ ds) ≡ true → keeps_rules ds ≡ true
kept_right [] ds e = e
kept_right (c ∷ cs) ds e = kept_right cs ds (and_right (not (is_core_rule c.0 && c.1)) (keeps_rules (cs ++ ds)) e)

kept_at : (f : ℕ → Checks) (a n k : ℕ) → k < n → keeps_rules (all_checks f (range_with_len a n)) ≡ true → keeps_rules (f (a + k)) ≡ true
kept_at f a zero k l e = Prim.absurd (omega arith)
kept_at f a (suc n) zero l e =
    let z : a ≡ a + 0 = omega arith in
    subst (λ (i : ℕ). keeps_rules (f i) ≡ true) z (kept_left (f a) (all_checks f (range_with_len (a + 1) n)) e)
kept_at f a (suc n) (suc k) l e =
    let z : a + 1 + k ≡ a + suc k = omega arith in
    subst (λ (i : ℕ). keeps_rules (f i) ≡ true) z (kept_at f (a + 1) n k (omega arith) (kept_right (f a) (all_checks f (range_with_len (a + 1) n)) e))

twice_not : (b : Bool) → not (not b) ≡ true → b ≡ true
twice_not true e = refl
twice_not false e = cc

-- a supertype has the form of a type that keeps the rules
ruled_form : (gs : List Group) (i p : ℕ) → keeps_rules (type_checks gs i) ≡ true → get_or (parents_from 0 gs) i None ≡ Some p → form_heap (type_at gs p).inner ≡ form_heap (type_at gs i).inner
ruled_form gs i p r e =
    let none_shared : Checks = (kind.CoreType, (type_at gs i).shared && not (form_shared gs (form_at gs i))) ∷ [] in
    let before : Checks = (kind.CoreType, (type_at gs p).is_final) ∷ (kind.CoreType, not (same_bool (type_at gs i).shared (type_at gs p).shared)) ∷ [] in
    let matched : Checks = (kind.CoreType, not (form_matches gs (form_at gs i) (form_at gs p))) ∷ [] in
    let deep : Checks = (kind.Limit, nat_lt max_supertypes (get_or (depths_of gs) i 0)) ∷ [] in
    let supers : keeps_rules (super_checks gs i (get_or (parents_from 0 gs) i None)) ≡ true = kept_right none_shared (super_checks gs i (get_or (parents_from 0 gs) i None)) r in
    let some : keeps_rules (super_checks gs i (Some p)) ≡ true = subst (λ (o : Option ℕ). keeps_rules (super_checks gs i o) ≡ true) e supers in
    let one : keeps_rules matched ≡ true = kept_left matched deep (kept_right before (matched ++ deep) some) in
    matched_keeps_form gs i p (twice_not (form_matches gs (form_at gs i) (form_at gs p)) (and_left (not (not (form_matches gs (form_at gs i) (form_at gs p)))) true one))

-- ## The table

known_on : (n m : ℕ) → n ≤ m → (ess : List (List Core_entry)) → All (λ es. All (IsKnown n) es) ess → All (λ es. All (IsKnown m) es) ess
known_on n m l ess a = All-weaker (λ es. All (IsKnown n) es) (λ es. All (IsKnown m) es) (λ es k. known_more n m es l k) ess a

abbrev SupersFit : List Group → Group → Type 0
SupersFit gs g = (k p : ℕ) → k < length g → get_or (parents_from 0 (with_group gs g)) (first_id gs g + k) None ≡ Some p → form_heap (type_at (with_group gs g) p).inner ≡ form_heap (type_at (with_group gs g) (first_id gs g + k)).inner

with_stands : (gs : List Group) (g : Group) (ess : List (List Core_entry)) → StandsOver gs ess → IsClosed (total gs) g → SupersFit gs g → StandsOver (with_group gs g) ess
with_stands gs g ess h c w = record {
  table = table_joined gs g h.table c;
  forms = joined_forms gs g h.table h.forms c w;
  known = known_on (total gs) (total (with_group gs g)) (total_with gs g) ess h.known;
}

-- a group that may join
pub joined_stands : (gs : List Group) (ess : List (List Core_entry)) (es : List Core_entry) (w : Group) → StandsOver gs ess → All (IsKnown (total gs)) es → may_join gs es w ≡ true → StandsOver (grown gs (closed_group es w)) ess
joined_stands gs ess es [] h k e = h
joined_stands gs ess es (x ∷ w) h k e =
    let g : Group = closed_group es (x ∷ w) in
    let hs : List Group = with_group gs g in
    let named : is_closable gs es (x ∷ w) ≡ true = and_left (is_closable gs es (x ∷ w)) (keeps_rules (table_checks gs g)) e in
    let kept : keeps_rules (table_checks gs g) ≡ true = and_right (is_closable gs es (x ∷ w)) (keeps_rules (table_checks gs g)) e in
    let rules : keeps_rules (all_checks (type_checks hs) (group_ids gs g)) ≡ true = kept_right (limit_checks gs g) (all_checks (type_checks hs) (group_ids gs g)) kept in
    with_stands gs g ess h (closable_closed gs es (x ∷ w) k (omega arith) named)
    (λ j p l f. ruled_form hs (first_id gs g + j) p (kept_at (type_checks hs) (first_id gs g) (length g) j l rules) f)

-- the types of a group that joined are of the table
range_below : (a n m : ℕ) → a + n ≤ m → All (λ i. i < m) (range_with_len a n)
range_below a zero m l = All-nil (λ i. i < m)
range_below a (suc n) m l = All-cons (λ i. i < m) a (range_with_len (a + 1) n) (omega arith) (range_below (a + 1) n m (omega arith))

pub ids_known : (gs : List Group) (g : Group) → All (λ i. i < total (grown gs g)) (group_ids gs g)
ids_known gs [] = All-nil (λ i. i < total gs)
ids_known gs (x ∷ g) = range_below (first_id gs (x ∷ g)) (length (x ∷ g)) (total (with_group gs (x ∷ g))) (old_room (with_group gs (x ∷ g)) (x ∷ g) (first_id gs (x ∷ g)) (interned gs (x ∷ g)))

-- ## A type alone in its group

-- it has no supertype
alone_super : (gs : List Group) (es : List Core_entry) (b : Bool) (f : CompositeForm) (k : ℕ) → k < 1 → supertype (closed_at gs (closed_group es (alone b f)) k) ≡ None
unfolding closed_at
alone_super gs es b f zero l = refl
alone_super gs es b f (suc k) l = Prim.absurd (omega (arith, l))

pub alone_stands : (gs : List Group) (ess : List (List Core_entry)) (es : List Core_entry) (b : Bool) (f : CompositeForm) → StandsOver gs ess → All (IsKnown (total gs)) es → is_closable gs es (alone b f) ≡ true →
    StandsOver (grown gs (closed_group es (alone b f))) ess
alone_stands gs ess es b f h k e = with_stands gs g ess h c fits
  where
    g : Group
    g = closed_group es (alone b f)

    hs : List Group
    hs = with_group gs g

    c : IsClosed (total gs) g
    c = closable_closed gs es (alone b f) k (omega arith) e

    fits : SupersFit gs g
    fits j p l w =
        let i : ℕ = first_id gs g + j in
        let room : first_id gs g + length g ≤ total hs = old_room hs g (first_id gs g) (interned gs g) in
        let parent : supertype (closed hs i) ≡ closed_parent hs (Some p) = super_shown hs i (table_joined gs g h.table c) (omega (arith, room, l)) ∙ ap (closed_parent hs) w in
        let none : supertype (closed hs i) ≡ None = ap supertype (interned_unfolds gs g j h.table c l) ∙ alone_super gs es b f j l in
        cc
