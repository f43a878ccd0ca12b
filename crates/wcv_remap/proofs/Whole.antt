-- The rebuilding of an entity from that of its parts.
use Rattle.std.proofs.Common.{◌≡◌, ℕ, suc, max, ◌<◌, ◌≤◌, [], length, Bool, true, false, not, ◌||◌, refl, ap, sym, subst, ◌∙◌, arith}
use Rattle.std.proofs.Math.Nat.{le-max_left, le-max_right}
use Rattle.std.proofs.lemmas.Bool.{eqb-true}
use Rattle.std.specs.Prelude.{Contains}
use Rattle.wcv_types.proofs.Grown.{extends_trans, stands_more, same_tree}
use Rattle.wcv_types.specs.Arena.{Arena}
use Rattle.wcv_types.specs.Entities.{entity_slot, entity_tree, SlotStands, EntityStands}
use Rattle.wcv_types.specs.Rebuild.{sort_number}
use Rattle.wcv_types.specs.Replacing.{Replacement, changed, replaced}
use Rattle.wcv_types.specs.Standing.{Stands, Extends}
use Rattle.wcv_types.specs.Tree.{type_of}
use Rattle.wcv_types.specs.Unfold.{Slot, at, both, any_part, rank, slot_refs, slot_tree, trees, tree_at}
use Rattle.wcv_types.specs.declared.ids.ComponentAnyTypeId.{ComponentAnyTypeId}
use Rattle.wcv_types.specs.declared.ids.ComponentAnyTypeId.TheVariants as any
use Rattle.wcv_types.specs.declared.ids.Part.{Part}
use Rattle.wcv_types.specs.declared.ids.Part.TheVariants as p
use Rattle.wcv_types.specs.declared.shapes.ComponentEntityType.{ComponentEntityType}
use Rattle.wcv_types.specs.declared.shapes.ComponentEntityType.TheVariants as entity
use Rattle.wcv_types.specs.declared.shapes.ComponentValType.TheVariants as v
use Rattle.wcv_remap.specs.Entities.{held, with_part, top_rank, EntityHygienic, EntityRemapped}
use Rattle.wcv_remap.specs.Hygiene.{Hygienic}
use Rattle.wcv_remap.specs.Map.{Map, same_part}
use Rattle.wcv_remap.specs.Remap.{Serves, Sound, ReachedFrom, HygienicAt, IsInside, Remapped, Right, Becomes}
use Rattle.wcv_remap.specs.declared.entity.Held.TheVariants as h
use Rattle.wcv_remap.proofs.Inside.{AllInside, entity_inside}
use Rattle.wcv_remap.proofs.Keeping.{longer, reached_later}
use Rattle.wcv_remap.proofs.Maps.{visits_none, visits_more, visits_both, right_later, hygienic_later}
use Rattle.wcv_remap.proofs.Parts.{same_part-true}

-- what a part needs to be rebuilt
pub record IsReady (a : Arena) (map : Map) (q : Part) : Type 0 where
  pub stands : Stands a q
  pub inside : IsInside q
  pub hygienic : HygienicAt a map q

not_false : (b c : Bool) → b ≡ not c → b ≡ false → c ≡ true
not_false b c e f = grind arith

-- where nothing in a part changes, it keeps its id
stays_same : (a b : Arena) (map : Map) (m : Replacement) (q to : Part) → Extends a b → Stands a q → Right b map q to → Serves b map m → changed m (tree_at a q) ≡ false → to ≡ q
stays_same a b map m q to g st r s c =
    let w : Becomes m b q to = r.becomes m s in
    sym (same_part-true q to (not_false (changed m (tree_at b q)) (same_part q to) w.another (ap (changed m) (same_tree a b q g st) ∙ c)))

-- ## No part

pub nothing_held : (a : Arena) (map : Map) (s : ℕ) (x : ComponentEntityType) → held x ≡ h.Nothing → Sound a map → EntityStands a x → EntityRemapped a a map map s s x x
nothing_held a map s (entity.Value (v.Primitive q)) k snd st =
    record { core = refl; sound = snd; stands = st; tree = λ m w. refl; same = λ m w c. refl; visits = visits_none (ReachedFrom a (slot_refs (entity_slot (entity.Value (v.Primitive q))))) (length a.nodes) (suc (top_rank [])) map; steps = omega arith; nodes = omega arith }
nothing_held a map s (entity.Value (v.Ty i)) k snd st = absurd (let e = k in cc)
nothing_held a map s (entity.Module i) k snd st = absurd (let e = k in cc)
nothing_held a map s (entity.Func i) k snd st = absurd (let e = k in cc)
nothing_held a map s (entity.Ty c r) k snd st = absurd (let e = k in cc)
nothing_held a map s (entity.Instance i) k snd st = absurd (let e = k in cc)
nothing_held a map s (entity.Component i) k snd st = absurd (let e = k in cc)

-- ## One part

pub record IsOne (x : ComponentEntityType) (q : Part) : Type 0 where
  pub slot : entity_slot x ≡ at q
  pub small : sort_number q < 5
  pub same : with_part q x ≡ x

one_of : (x : ComponentEntityType) (q r : Part) → entity_slot x ≡ at q → sort_number q < 5 → with_part q x ≡ x → h.One q ≡ h.One r → IsOne x r
one_of x q r s l w k = let f : q ≡ r = cc in subst (IsOne x) f (record { slot = s; small = l; same = w })

is_one : (x : ComponentEntityType) (q : Part) → held x ≡ h.One q → IsOne x q
is_one (entity.Value (v.Primitive z)) q k = absurd (let e = k in cc)
is_one (entity.Ty c r) q k = absurd (let e = k in cc)
is_one (entity.Value (v.Ty i)) q k = one_of (entity.Value (v.Ty i)) (p.Defined i) q refl (omega arith) refl k
is_one (entity.Module i) q k = one_of (entity.Module i) (p.Module i) q refl (omega arith) refl k
is_one (entity.Func i) q k = one_of (entity.Func i) (p.Func i) q refl (omega arith) refl k
is_one (entity.Instance i) q k = one_of (entity.Instance i) (p.Instance i) q refl (omega arith) refl k
is_one (entity.Component i) q k = one_of (entity.Component i) (p.Component i) q refl (omega arith) refl k

new_slot : (q : Part) (x : ComponentEntityType) → sort_number q < 5 → entity_slot (with_part q x) ≡ at q
new_slot (p.Resource r) x l = absurd (omega (arith, l))
new_slot (p.Core i) x l = absurd (omega (arith, l))
new_slot (p.CoreInstance i) x l = absurd (omega (arith, l))
new_slot (p.Module i) x l = refl
new_slot (p.Defined i) x l = refl
new_slot (p.Func i) x l = refl
new_slot (p.Instance i) x l = refl
new_slot (p.Component i) x l = refl

pub one_ready : (a : Arena) (map : Map) (x : ComponentEntityType) (q : Part) → held x ≡ h.One q → EntityStands a x → EntityHygienic a map x → IsReady a map q
one_ready a map x q k st y =
    let o : IsOne x q = is_one x q k in
    let i : AllInside (slot_refs (at q)) = subst (λ (s : Slot). AllInside (slot_refs s)) o.slot (entity_inside x) in
    record {
      stands = subst (SlotStands a) o.slot st;
      inside = i.0;
      hygienic = λ m s. subst (λ (z : Slot). Hygienic m (slot_tree (trees a.nodes) z)) o.slot (y m s);
    }

pub one_remapped : (a b : Arena) (map map' : Map) (s s' : ℕ) (x : ComponentEntityType) (q to : Part) → held x ≡ h.One q → EntityStands a x → Remapped a b map map' s s' q to → EntityRemapped a b map map' s s' x (with_part to x)
one_remapped a b map map' s s' x q to k st w =
    let o : IsOne x q = is_one x q k in
    let l : sort_number q ≡ sort_number to = eqb-true (sort_number q) (sort_number to) w.right.of_sort in
    let n : entity_slot (with_part to x) ≡ at to = new_slot to x (omega (arith, o.small, l)) in
    let sq : Stands a q = subst (SlotStands a) o.slot st in
    let old : entity_tree (trees a.nodes) x ≡ tree_at a q = ap (slot_tree (trees a.nodes)) o.slot in
    record {
      core = w.core;
      sound = w.sound;
      stands = subst (SlotStands b) (sym n) w.right.stands;
      tree = λ m sv. let c : Becomes m b q to = w.right.becomes m sv in
          ap (slot_tree (trees b.nodes)) n ∙ c.tree ∙ ap (replaced m) (same_tree a b q w.grown sq ∙ sym old);
      same = λ m sv c. ap (λ (r : Part). with_part r x) (stays_same a b map' m q to w.grown sq w.right sv (ap (changed m) (sym old) ∙ c)) ∙ o.same;
      visits = visits_more (length a.nodes) (length a.nodes) (suc (rank q)) (suc (top_rank (slot_refs (entity_slot x)))) map map' (omega arith) (omega (arith, subst (λ (z : Slot). rank q ≤ top_rank (slot_refs z)) (sym o.slot) (le-max_left (rank q) 0))) (λ j z. (q, subst (λ (z : Slot). Contains (slot_refs z) q) (sym o.slot) (0, omega arith, refl), z)) w.visits;
      steps = w.steps;
      nodes = w.nodes;
    }

-- ## Two parts

is_two : (x : ComponentEntityType) (c r : Part) → held x ≡ h.Two c r → entity_slot x ≡ both c r
is_two (entity.Ty d s) c r k = let e : any_part d ≡ c = cc in let f : any_part s ≡ r = cc in λ j. both (e j) (f j)
is_two (entity.Value (v.Primitive z)) c r k = absurd (let e = k in cc)
is_two (entity.Value (v.Ty i)) c r k = absurd (let e = k in cc)
is_two (entity.Module i) c r k = absurd (let e = k in cc)
is_two (entity.Func i) c r k = absurd (let e = k in cc)
is_two (entity.Instance i) c r k = absurd (let e = k in cc)
is_two (entity.Component i) c r k = absurd (let e = k in cc)

any_same : (c d : ComponentAnyTypeId) → any_part c ≡ any_part d → c ≡ d
any_same (any.Resource r) (any.Resource s) e = let f : r ≡ s = cc in ap any.Resource f
any_same (any.Defined i) (any.Defined j) e = let f : i ≡ j = cc in ap any.Defined f
any_same (any.Func i) (any.Func j) e = let f : i ≡ j = cc in ap any.Func f
any_same (any.Instance i) (any.Instance j) e = let f : i ≡ j = cc in ap any.Instance f
any_same (any.Component i) (any.Component j) e = let f : i ≡ j = cc in ap any.Component f
any_same _ _ e = absurd (let f = e in cc)

two_same : (x : ComponentEntityType) (c r : Part) (d s : ComponentAnyTypeId) → held x ≡ h.Two c r → any_part d ≡ c → any_part s ≡ r → entity.Ty d s ≡ x
two_same (entity.Ty d' s') c r d s k e f =
    let e' : any_part d' ≡ c = cc in
    let f' : any_part s' ≡ r = cc in
    let d_is : d ≡ d' = any_same d d' (e ∙ sym e') in
    let s_is : s ≡ s' = any_same s s' (f ∙ sym f') in
    λ j. entity.Ty (d_is j) (s_is j)
two_same (entity.Value (v.Primitive z)) c r d s k e f = absurd (let g = k in cc)
two_same (entity.Value (v.Ty i)) c r d s k e f = absurd (let g = k in cc)
two_same (entity.Module i) c r d s k e f = absurd (let g = k in cc)
two_same (entity.Func i) c r d s k e f = absurd (let g = k in cc)
two_same (entity.Instance i) c r d s k e f = absurd (let g = k in cc)
two_same (entity.Component i) c r d s k e f = absurd (let g = k in cc)

two_inside : (x : ComponentEntityType) (c r : Part) → held x ≡ h.Two c r → AllInside (slot_refs (both c r))
two_inside x c r k = subst (λ (s : Slot). AllInside (slot_refs s)) (is_two x c r k) (entity_inside x)

two_hygienic : (a : Arena) (map : Map) (x : ComponentEntityType) (c r : Part) → held x ≡ h.Two c r → EntityHygienic a map x → (m : Replacement) → Serves a map m → Hygienic m (type_of (tree_at a c) (tree_at a r))
two_hygienic a map x c r k y m s = subst (λ (z : Slot). Hygienic m (slot_tree (trees a.nodes) z)) (is_two x c r k) (y m s)

pub second_ready : (a b : Arena) (map map' : Map) (s s' : ℕ) (x : ComponentEntityType) (c r to : Part) → held x ≡ h.Two c r → EntityStands a x → EntityHygienic a map x → Sound a map → Remapped a b map map' s s' c to → IsReady b map' r
second_ready a b map map' s s' x c r to k st y snd w =
    let sr : Stands a r = (subst (SlotStands a) (is_two x c r k) st).1 in
    record {
      stands = stands_more a b r w.grown sr;
      inside = (two_inside x c r k).1.0;
      hygienic = hygienic_later a b (suc (rank c)) map map' r snd w.grown w.visits sr (λ m sv. (two_hygienic a map x c r k y m sv).1.1.0);
    }

left_none : (b c : Bool) → (b || (c || false)) ≡ false → b ≡ false
left_none b c e = grind arith

right_none : (b c : Bool) → (b || (c || false)) ≡ false → c ≡ false
right_none b c e = grind arith

pub two_remapped : (a b c : Arena) (map map' map'' : Map) (s s' s'' : ℕ) (x : ComponentEntityType) (q r q' r' : Part) (d e : ComponentAnyTypeId) → held x ≡ h.Two q r → EntityStands a x →
    Remapped a b map map' s s' q q' → Remapped b c map' map'' s' s'' r r' → any_part d ≡ q' → any_part e ≡ r' → EntityRemapped a c map map'' s s'' x (entity.Ty d e)
two_remapped a b c map map' map'' s s' s'' x q r q' r' d e k st v w d_is e_is =
    let two : entity_slot x ≡ both q r = is_two x q r k in
    let both_stand : SlotStands a (both q r) = subst (SlotStands a) two st in
    let sq : Stands a q = both_stand.0 in
    let sr : Stands a r = both_stand.1 in
    let grown : Extends a c = extends_trans a b c v.grown w.grown in
    let later : Right c map'' q q' = right_later b c (suc (rank r)) map' map'' q q' v.sound w.grown w.visits (stands_more a b q v.grown sq) v.right in
    let old : entity_tree (trees a.nodes) x ≡ type_of (tree_at a q) (tree_at a r) = ap (slot_tree (trees a.nodes)) two in
    let in_first : Contains (slot_refs (entity_slot x)) q = subst (λ (z : Slot). Contains (slot_refs z) q) (sym two) (0, omega arith, refl) in
    let in_second : Contains (slot_refs (entity_slot x)) r = subst (λ (z : Slot). Contains (slot_refs z) r) (sym two) (1, omega arith, refl) in
    let first : rank q ≤ top_rank (slot_refs (entity_slot x)) = subst (λ (z : Slot). rank q ≤ top_rank (slot_refs z)) (sym two) (le-max_left (rank q) (max (rank r) 0)) in
    let rest : rank r ≤ top_rank (slot_refs (entity_slot x)) =
    subst (λ (z : Slot). rank r ≤ top_rank (slot_refs z)) (sym two) (let y : max (rank r) 0 ≤ max (rank q) (max (rank r) 0) = le-max_right (rank q) (max (rank r) 0) in omega (arith, le-max_left (rank r) 0, y)) in
    record {
      core = w.core ∙ v.core;
      sound = w.sound;
      stands = (subst (Stands c) (sym d_is) later.stands, subst (Stands c) (sym e_is) w.right.stands);
      tree = λ m sv.
          let y : tree_at c (any_part d) ≡ replaced m (tree_at a q) = ap (tree_at c) d_is ∙ (later.becomes m sv).tree ∙ ap (replaced m) (same_tree a c q grown sq) in
          let z : tree_at c (any_part e) ≡ replaced m (tree_at a r) = ap (tree_at c) e_is ∙ (w.right.becomes m sv).tree ∙ ap (replaced m) (same_tree a c r grown sr) in
          (λ j. type_of (y j) (z j)) ∙ ap (replaced m) (sym old);
      same = λ m sv n.
          let f : (changed m (tree_at a q) || (changed m (tree_at a r) || false)) ≡ false = ap (changed m) (sym old) ∙ n in
          two_same x q r d e k (d_is ∙ stays_same a c map'' m q q' grown sq later sv (left_none _ _ f)) (e_is ∙ stays_same a c map'' m r r' grown sr w.right sv (right_none _ _ f));
      visits = visits_both (suc (top_rank (slot_refs (entity_slot x)))) map map' map''
          (visits_more (length a.nodes) (length a.nodes) (suc (rank q)) (suc (top_rank (slot_refs (entity_slot x)))) map map' (omega arith) (omega (arith, first)) (λ j z. (q, in_first, reached_later b c q j w.grown z)) v.visits)
          (visits_more (length b.nodes) (length a.nodes) (suc (rank r)) (suc (top_rank (slot_refs (entity_slot x)))) map' map'' (longer a b v.grown) (omega (arith, rest)) (λ j z. (r, in_second, z)) w.visits);
      steps = omega (arith, v.steps, w.steps);
      nodes = omega (arith, v.nodes, w.nodes);
    }
