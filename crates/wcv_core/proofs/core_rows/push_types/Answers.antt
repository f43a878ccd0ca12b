use Rattle.std.proofs.Common.{◌≡◌, ◌+◌, ◌<◌, ◌++◌, ◌∷◌, [], List, ℕ, arith, length, take, map, get_or, sym, ◌∙◌, ap, subst, Option, IfSome, rules, length-append}
use Rattle.wcv_core.specs.declared.core_rows.Row.{Row}
use Rattle.wcv_core.specs.CoreForm.{SubForm, sub_form}
use Rattle.wcv_core.specs.CoreGroups.{parent_in, add_depths, depth_after, AreOrdered}
use Rattle.wcv_core.specs.CoreRows.{place_in}
use Rattle.wcv_core.proofs.Rowing.{weaken, item, next_place, next_depth, length-taken, length-map, ordered_at, length-depths, take-depths}
use Rattle.wcv_core.proofs.core_rows.push_types.Goals as goal

pub parent_of-parent-requires : goal.parent_of-parent-requires
parent_of-parent-requires c =
    let n = c.len-first.result in
    let i = c.loop-ty.ty-index in
    let xs : List SubForm = map sub_form c.args.types.now in
    let s : SubForm = sub_form c.ty-item.result in
    let f : n ≡ length c.args.places.now.items = c.loop-ty.invariant.first in
    let l : length xs ≡ length c.args.types.now = length-map sub_form c.args.types.now in
    let h : i < length xs = omega arith in
    let o : AreOrdered n n xs = subst (λ (m : ℕ). AreOrdered m m xs) (sym f) c.requires.ordered in
    let e : get_or xs i s ≡ s = item sub_form c.args.types.now i c.ty-item.result c.ty-item.is in
    let p : IfSome (parent_in n s) (λ p. p < n + i) = subst (λ (t : SubForm). IfSome (parent_in n t) (λ p. p < n + i)) e (ordered_at n n xs i s o h) in
    let k : length (map (place_in c.args.group n) (take i xs)) ≡ i = length-taken (place_in c.args.group n) xs i (omega arith) in
    let g : length c.loop-ty.places.items ≡ n + i = ap (length {A = Row}) c.loop-ty.invariant.places ∙ (length-append c.args.places.now.items (map (place_in c.args.group n) (take i xs)) ∙ omega arith) in
    weaken (parent_in n s) (n + i) 18446744073709551616 (omega arith) p

pub push_type-requires-clause-within : goal.push_type-requires-clause-within
push_type-requires-clause-within c =
    let n = c.len-first.result in
    let i = c.loop-ty.ty-index in
    let xs : List SubForm = map sub_form c.args.types.now in
    let s : SubForm = sub_form c.ty-item.result in
    let f : n ≡ length c.args.places.now.items = c.loop-ty.invariant.first in
    let l : length xs ≡ length c.args.types.now = length-map sub_form c.args.types.now in
    let h : i < length xs = omega arith in
    let o : AreOrdered n n xs = subst (λ (m : ℕ). AreOrdered m m xs) (sym f) c.requires.ordered in
    let e : get_or xs i s ≡ s = item sub_form c.args.types.now i c.ty-item.result c.ty-item.is in
    let p : IfSome (parent_in n s) (λ p. p < n + i) = subst (λ (t : SubForm). IfSome (parent_in n t) (λ p. p < n + i)) e (ordered_at n n xs i s o h) in
    let k : length (map (parent_in n) (take i xs)) ≡ i = length-taken (parent_in n) xs i (omega arith) in
    let g : length c.loop-ty.depths.items ≡ n + i = ap (length {A = ℕ}) c.loop-ty.invariant.depths ∙ (length-depths c.args.depths.now.items (map (parent_in n) (take i xs)) ∙ omega (arith, c.requires.even)) in
    let q : IfSome (parent_in n s) (λ p. p < length c.loop-ty.depths.items) = weaken (parent_in n s) (n + i) (length c.loop-ty.depths.items) (omega arith) p in
    subst (λ (t : Option ℕ). IfSome t (λ p. p < length c.loop-ty.depths.items)) (sym c.parent_of-parent.ensures) q

pub returns-in-Err-clause-depths_stay : goal.returns-in-Err-clause-depths_stay
returns-in-Err-clause-depths_stay c =
    let n = c.len-first.result in
    let f : n ≡ length c.args.depths.now.items = c.loop-ty.invariant.first ∙ sym c.requires.even in
    let ps : List (Option ℕ) = map (parent_in n) (take c.loop-ty.ty-index (map sub_form c.args.types.now)) in
    let d : c.push_type.new.depths.items ≡ c.loop-ty.depths.items = search rules in
    c.truncate-in-Err.ensures.items ∙
    (ap (take n) (d ∙ c.loop-ty.invariant.depths) ∙
    (ap (λ (m : ℕ). take m (add_depths c.args.depths.now.items ps)) f ∙ take-depths c.args.depths.now.items ps))

pub loop-ty-preserved : goal.loop-ty-preserved
loop-ty-preserved c =
    let n = c.len-first.result in
    let i = c.loop-ty.ty-index in
    let xs : List SubForm = map sub_form c.args.types.now in
    let s : SubForm = sub_form c.ty-item.result in
    let l : length xs ≡ length c.args.types.now = length-map sub_form c.args.types.now in
    let h : i < length xs = omega arith in
    let e : get_or xs i s ≡ s = item sub_form c.args.types.now i c.ty-item.result c.ty-item.is in
    let place : Row = record { group = c.args.group; first = n; parent = c.parent_of-parent.result } in
    let is : place ≡ place_in c.args.group n s = λ j. record { group = c.args.group; first = n; parent = c.parent_of-parent.ensures j } in
    let a : c.push_type.new.places.items ≡ c.loop-ty.places.items ++ place ∷ [] = search rules in
    let b : c.push_type.new.depths.items ≡ c.loop-ty.depths.items ++ depth_after c.loop-ty.depths.items c.parent_of-parent.result ∷ [] = search rules in
    record {
      first = c.loop-ty.invariant.first;
      places = a ∙ ((λ j. c.loop-ty.invariant.places j ++ is j ∷ []) ∙ next_place (place_in c.args.group n) c.args.places.now.items xs i s h e);
      depths = b ∙ ((λ j. c.loop-ty.invariant.depths j ++ depth_after (c.loop-ty.invariant.depths j) (c.parent_of-parent.ensures j) ∷ []) ∙ next_depth (parent_in n) c.args.depths.now.items xs i s h e);
      low = c.push_type.ensures.low;
    }
