use Rattle.std.proofs.Common.{◌≡◌, ℕ, List, [], ◌∷◌, ◌++◌, length, map, sym, ◌∙◌, ap, arith, subst, rules, take}
use Rattle.wcv_core.specs.declared.core_rows.Row.{Row}
use Rattle.wcv_core.specs.CoreForm.{SubForm, Group, group_form, sub_form}
use Rattle.wcv_core.specs.declared.core_types.SubType.{SubType}
use Rattle.wcv_core.specs.CoreGroups.{total, AreOrdered, IsClosed, parent_in, add_depths}
use Rattle.wcv_core.specs.CoreRows.{AreRows, place_in, AreLow}
use Rattle.wcv_core.proofs.Rowing.{length-map, take-front, take-depths}
use Rattle.wcv_core.proofs.Kept.{places_len, depths_len, joined, map-append}
use Rattle.wcv_core.proofs.core_rows.Rows.push.Goals as goal

pub push_types-requires-clause-even : goal.push_types-requires-clause-even
push_types-requires-clause-even c =
    let gs : List Group = map group_form c.self.inside.groups.items in
    depths_len gs c.self.inside.places.items c.self.inside.depths.items c.self.invariant ∙ sym (places_len gs c.self.inside.places.items c.self.inside.depths.items c.self.invariant)

pub push_types-requires-clause-ordered : goal.push_types-requires-clause-ordered
push_types-requires-clause-ordered c =
    let gs : List Group = map group_form c.self.inside.groups.items in
    let n : total c.args.self.now ≡ length c.self.inside.places.items = ap total (sym c.self.view_is) ∙ sym (places_len gs c.self.inside.places.items c.self.inside.depths.items c.self.invariant) in
    subst (λ (m : ℕ). AreOrdered m m (map sub_form c.as_slice.result.now)) n
    (subst (λ (xs : List SubType). AreOrdered (total c.args.self.now) (total c.args.self.now) (map sub_form xs)) (sym c.as_slice.ensures.value) c.requires.ordered)

pub invariant_of-self-in-Ok : goal.invariant_of-self-in-Ok
invariant_of-self-in-Ok c =
    let gs : List Group = map group_form c.self.inside.groups.items in
    let ps : List Row = c.self.inside.places.items in
    let g : Group = group_form c.args.group in
    let es : List ℕ = c.push_types.new.depths.items in
    let sl : map sub_form c.as_slice.result.now ≡ g = ap (map sub_form) c.as_slice.ensures.value in
    let number : c.len-number.result ≡ length gs = omega (arith, c.len-number.ensures, length-map group_form c.self.inside.groups.items) in
    let cl : IsClosed (total gs) g = subst (λ (xs : List Group). IsClosed (total xs) g) (sym c.self.view_is) c.requires in
    let a0 : c.push.new.self.items ≡ c.self.inside.groups.items ++ c.args.group ∷ [] = search rules in
    let a : map group_form c.push.new.self.items ≡ gs ++ g ∷ [] = ap (map group_form) a0 ∙ map-append group_form c.self.inside.groups.items (c.args.group ∷ []) in
    let b0 : c.push_types.new.places.items ≡ ps ++ map (place_in c.len-number.result (length ps)) (map sub_form c.as_slice.result.now) = search rules in
    let b : c.push_types.new.places.items ≡ ps ++ map (place_in (length gs) (length ps)) g = b0 ∙ λ j. ps ++ map (place_in (number j) (length ps)) (sl j) in
    let e0 : es ≡ add_depths c.self.inside.depths.items (map (parent_in (length ps)) (map sub_form c.as_slice.result.now)) = search rules in
    let e : es ≡ add_depths c.self.inside.depths.items (map (parent_in (length ps)) g) = e0 ∙ λ j. add_depths c.self.inside.depths.items (map (parent_in (length ps)) (sl j)) in
    let low : AreLow es = search rules in
    subst (λ (xs : List Group). AreRows xs c.push_types.new.places.items es) (sym a)
    (subst (λ (qs : List Row). AreRows (gs ++ g ∷ []) qs es) (sym b) (joined gs ps c.self.inside.depths.items es g c.self.invariant cl e low))

pub invariant_of-self-in-Err : goal.invariant_of-self-in-Err
invariant_of-self-in-Err c =
    let gs : List Group = map group_form c.self.inside.groups.items in
    let ps : List Row = c.self.inside.places.items in
    let ds : List ℕ = c.self.inside.depths.items in
    let qs : List SubForm = map sub_form c.as_slice.result.now in
    let f : c.len-first.result ≡ length ps = omega (arith, c.len-first.ensures) in
    let pl : length ps ≡ total gs = places_len gs ps ds c.self.invariant in
    let dl : length ds ≡ total gs = depths_len gs ps ds c.self.invariant in
    let k : c.len-first.result ≡ length ds = omega arith in
    let a0 : c.push.new.self.items ≡ c.self.inside.groups.items = search rules in
    let a : map group_form c.push.new.self.items ≡ gs = ap (map group_form) a0 in
    let b0 : c.push_types.new.places.items ≡ ps ++ map (place_in c.len-number.result (length ps)) qs = search rules in
    let b : c.truncate.new.self.items ≡ ps = c.truncate.ensures.items ∙ ((λ j. take (f j) (b0 j)) ∙ take-front ps (map (place_in c.len-number.result (length ps)) qs)) in
    let e0 : c.push_types.new.depths.items ≡ add_depths ds (map (parent_in (length ps)) qs) = search rules in
    let e : c.truncate-in-Err.new.self.items ≡ ds = c.truncate-in-Err.ensures.items ∙ ((λ j. take (k j) (e0 j)) ∙ take-depths ds (map (parent_in (length ps)) qs)) in
    subst (λ (xs : List Group). AreRows xs c.truncate.new.self.items c.truncate-in-Err.new.self.items) (sym a)
    (subst (λ (qs : List Row). AreRows gs qs c.truncate-in-Err.new.self.items) (sym b) (subst (λ (es : List ℕ). AreRows gs ps es) (sym e) c.self.invariant))
