use Rattle.std.proofs.Common.{◌≡◌, ℕ, ◌+◌, ◌-◌, List, [], ◌∷◌, ◌++◌, length, map, take, sym, ◌∙◌, ap, arith, subst, rules}
use Rattle.wcv_core.specs.declared.core_types.RecGroup.{RecGroup}
use Rattle.wcv_core.specs.declared.core_rows.Row.{Row}
use Rattle.wcv_core.specs.CoreForm.{Group, group_form, sub_form}
use Rattle.wcv_core.specs.CoreGroups.{total}
use Rattle.wcv_core.specs.CoreRows.{AreRows}
use Rattle.wcv_core.proofs.Rowing.{length-map, total-append}
use Rattle.wcv_core.proofs.Kept.{places_len, left, map-append}
use Rattle.wcv_core.proofs.core_rows.Rows.pop.Goals as goal

pub overflow_sub-keep : goal.overflow_sub-keep
overflow_sub-keep c =
    let old : List RecGroup = c.self.inside.groups.items in
    let rest : List RecGroup = c.pop.new.self.items in
    let it : old ≡ rest ++ c.in-Some.group ∷ [] = search rules in
    let a : map group_form old ≡ map group_form rest ++ group_form c.in-Some.group ∷ [] = ap (map group_form) it ∙ map-append group_form rest (c.in-Some.group ∷ []) in
    let p : length c.self.inside.places.items ≡ total (map group_form old) = places_len (map group_form old) c.self.inside.places.items c.self.inside.depths.items c.self.invariant in
    let t : total (map group_form old) ≡ total (map group_form rest) + length (group_form c.in-Some.group) = ap total a ∙ total-append (map group_form rest) (group_form c.in-Some.group) in
    let l : length (group_form c.in-Some.group) ≡ length c.in-Some.group.types.items = length-map sub_form c.in-Some.group.types.items in
    omega (arith, c.len.ensures, c.len-in-Some.ensures)

pub invariant_of-self : goal.invariant_of-self
invariant_of-self c =
    let old : List RecGroup = c.self.inside.groups.items in
    let rest : List RecGroup = c.pop.new.self.items in
    let ps : List Row = c.self.inside.places.items in
    let ds : List ℕ = c.self.inside.depths.items in
    let it : old ≡ rest ++ c.in-Some.group ∷ [] = search rules in
    let g : Group = group_form c.in-Some.group in
    let a : map group_form old ≡ map group_form rest ++ g ∷ [] = ap (map group_form) it ∙ map-append group_form rest (c.in-Some.group ∷ []) in
    let r : AreRows (map group_form rest ++ g ∷ []) ps ds = subst (λ (xs : List Group). AreRows xs ps ds) a c.self.invariant in
    let l : length g ≡ length c.in-Some.group.types.items = length-map sub_form c.in-Some.group.types.items in
    let keep : ℕ = c.len.result - c.len-in-Some.result in
    let k : keep ≡ length ps - length g = omega (arith, c.len.ensures, c.len-in-Some.ensures) in
    subst (λ (qs : List Row). AreRows (map group_form rest) qs c.truncate-in-Some.new.self.items) (sym c.truncate.ensures.items)
    (subst (λ (es : List ℕ). AreRows (map group_form rest) (take keep ps) es) (sym c.truncate-in-Some.ensures.items) (left (map group_form rest) g ps ds keep r k))
