use Rattle.std.proofs.Common.{◌≡◌, refl, ℕ, suc, List, [], ◌∷◌, ◌++◌, length, sym, ◌∙◌, ap, subst, arith, ◌≤◌, rules}
use Rattle.std.specs.Vec.Iter.{into_iter_items}
use Rattle.std.specs.Prelude.{OnOk}
use Rattle.std.proofs.lemmas.List.{length-append, nil_from_length}
use Rattle.std.proofs.lemmas.Result.{err_from_is_err_and, on_ok_weaker}
use Rattle.wcv_syntax.specs.Model.{Form, core_type_item, type_item, alias_item, Items, no_items, next_item}
use Rattle.wcv_syntax.specs.View.{core_type_view, type_view, section_view, item_view, items_view}
use Rattle.wcv_syntax.specs.declared.item.Item.{Item}
use Rattle.wcv_syntax.specs.declared.item.Section.{the_lemmas}
use Rattle.wcv_core.specs.Names.{Place, deeper}
use Rattle.wcv_types.specs.ComponentTrees.{root_tree}
use Rattle.wcv_lower.specs.Checks.{IsFree}
use Rattle.wcv_lower.specs.Items.{item_count, component_checks}
use Rattle.wcv_spaces.specs.Contents.{Contents}
use Rattle.wcv_spaces.specs.Promises.{MemoryOrCausedBy}
use Rattle.wcv_decls.specs.Declaring.{stack_in, component_room}
use Rattle.wcv_link.specs.Progress.{TellsItem}
use Rattle.wcv_link.specs.Told.{Ended}
use Rattle.wcv_link.proofs.Component.{barred, inside_refused, end_refused, later, memory_refused, whole}
use Rattle.wcv_link.proofs.ItemSizes.{items_size, rest_smaller, counted}
use Rattle.wcv_link.proofs.ItemsOn.{none_ends, plain_tells, so_far_memory, so_far_refused, ToldSoFar, told_start, told_next, told_all}
use Rattle.wcv_link.proofs.Making.{last_may}
use Rattle.wcv_link.proofs.NestedEnds.{told_at_end}
use Rattle.wcv_link.proofs.Open.{ready_here, ready_then}
use Rattle.wcv_link.proofs.Reaching.{reached_within}
use Rattle.wcv_link.proofs.Telling.{ended_both, ended_one}
use Rattle.wcv_link.proofs.reading.+items.Goals as goal

-- ## An item by its form

pub read_item-read_in_last-requires : goal.read_item-read_in_last-requires
read_item-read_in_last-requires t c = record { ready = c.requires.ready; makes = last_may c.args.types.now c.args.components.now.items c.requires.reached; kind = search (rules, the_lemmas) }

pub read_item-returns-in-CoreType-clause-ok : goal.read_item-returns-in-CoreType-clause-ok
read_item-returns-in-CoreType-clause-ok t c =
    let same : (item_view c.args.item).form ≡ core_type_item (core_type_view c.in-CoreType.ty) = search (rules, the_lemmas) in
    subst (λ (f : Form). OnOk c.read_core_type.result (TellsItem c.args.types.now c.read_core_type.new.types c.args.nesting.now c.args.nesting.now c.args.components.now.items c.read_core_type.new.components.items f)) (sym same)
    (on_ok_weaker c.read_core_type.result (plain_tells c.args.types.now c.read_core_type.new.types c.args.nesting.now c.args.components.now.items c.read_core_type.new.components.items (core_type_item (core_type_view c.in-CoreType.ty)) (λ fs names p s. refl)) c.read_core_type.ensures.ok)

pub read_item-returns-in-Ty-clause-ok : goal.read_item-returns-in-Ty-clause-ok
read_item-returns-in-Ty-clause-ok t c =
    let same : (item_view c.args.item).form ≡ type_item (type_view c.in-Ty.ty) = search (rules, the_lemmas) in
    subst (λ (f : Form). OnOk c.read_type.result (TellsItem c.args.types.now c.read_type.new.types c.args.nesting.now c.args.nesting.now c.args.components.now.items c.read_type.new.components.items f)) (sym same)
    (on_ok_weaker c.read_type.result (plain_tells c.args.types.now c.read_type.new.types c.args.nesting.now c.args.components.now.items c.read_type.new.components.items (type_item (type_view c.in-Ty.ty)) (λ fs names p s. refl)) c.read_type.ensures.ok)

pub read_item-returns-in-Alias-clause-ok : goal.read_item-returns-in-Alias-clause-ok
read_item-returns-in-Alias-clause-ok t c =
    let same : (item_view c.args.item).form ≡ alias_item c.in-Alias.alias = search (rules, the_lemmas) in
    subst (λ (f : Form). OnOk c.read_alias.result (TellsItem c.args.types.now c.read_alias.new.types c.args.nesting.now c.args.nesting.now c.args.components.now.items c.read_alias.new.components.items f)) (sym same)
    (on_ok_weaker c.read_alias.result (plain_tells c.args.types.now c.read_alias.new.types c.args.nesting.now c.args.components.now.items c.read_alias.new.components.items (alias_item c.in-Alias.alias) (λ fs names p s. refl)) c.read_alias.ensures.ok)

pub read_item-returns-in_default-clause-ok : goal.read_item-returns-in_default-clause-ok
read_item-returns-in_default-clause-ok t c =
    let f : Form = section_view c.args.item.section in
    let same : (item_view c.args.item).form ≡ f = search (rules, the_lemmas) in
    subst (λ (g : Form). OnOk c.read_in_last.result (TellsItem c.args.types.now c.read_in_last.new.types c.args.nesting.now c.args.nesting.now c.args.components.now.items c.read_in_last.new.components.items g)) (sym same)
    (on_ok_weaker c.read_in_last.result (plain_tells c.args.types.now c.read_in_last.new.types c.args.nesting.now c.args.components.now.items c.read_in_last.new.components.items f (none_ends f (search (rules, the_lemmas)))) c.read_in_last.ensures.ok)

-- ## A component

pub read_component-open_component-requires : goal.read_component-open_component-requires
read_component-open_component-requires t c = ready_here c.args.types.now c.args.components.now.items c.requires.ready

pub read_component-returns-in_err-open_component-clause-err : goal.read_component-returns-in_err-open_component-clause-err
read_component-returns-in_err-open_component-clause-err t c =
    let a = c.args.types.now in
    let ss : List Contents = c.args.components.now.items in
    let is : Items = items_view c.args.items.items in
    let e = c.in_err-open_component.field-0.0 in
    let many : item_count is ≡ c.len.result = counted c.args.items.items ∙ sym (c.len.ensures ∙ c.args.items.ok.0) in
    let p = err_from_is_err_and c.from_residual.result c.from_residual.ensures.1 in
    rw (p.1, p.2) (barred a ss is c.args.end c.args.offset e (subst (λ (n : ℕ). MemoryOrCausedBy (component_room (stack_in a ss) n) c.args.offset e) (sym many) c.in_err-open_component.ensures.err))

pub read_component-read_items-requires : goal.read_component-read_items-requires
read_component-read_items-requires t c =
    let a = c.args.types.now in
    let ss : List Contents = c.args.components.now.items in
    let is : Items = items_view c.args.items.items in
    let ts : List Contents = c.open_component.new.components.items in
    let many : item_count is ≡ c.len.result = counted c.args.items.items ∙ sym (c.len.ensures ∙ c.args.items.ok.0) in
    let free : IsFree (component_checks (stack_in a ss) is) = subst (λ (n : ℕ). IsFree (component_room (stack_in a ss) n)) (sym many) c.in_ok-open_component.ensures.free in
    (omega (arith, c.decreases), (ready_then a ts c.in_ok-open_component.ensures.ready, reached_within a ss ts is c.requires.ready.some c.requires.reached c.in_ok-open_component.ensures.ok free))

pub read_component-returns-in_err-read_items-clause-err : goal.read_component-returns-in_err-read_items-clause-err
read_component-returns-in_err-read_items-clause-err t c =
    let a = c.args.types.now in
    let ss : List Contents = c.args.components.now.items in
    let is : Items = items_view c.args.items.items in
    let ts : List Contents = c.open_component.new.components.items in
    let many : item_count is ≡ c.len.result = counted c.args.items.items ∙ sym (c.len.ensures ∙ c.args.items.ok.0) in
    let free : IsFree (component_checks (stack_in a ss) is) = subst (λ (n : ℕ). IsFree (component_room (stack_in a ss) n)) (sym many) c.in_ok-open_component.ensures.free in
    let p = err_from_is_err_and c.from_residual-in_err-read_items.result c.from_residual-in_err-read_items.ensures.1 in
    rw (p.1, p.2) (inside_refused a ss ts c.requires.ready.some c.in_ok-open_component.ensures.ok is c.args.end free c.read_items.new.types c.args.offset c.in_err-read_items.field-0.0 c.in_err-read_items.ensures.err)

pub read_component-end_component-requires-clause-ready : goal.read_component-end_component-requires-clause-ready
read_component-end_component-requires-clause-ready t c = ready_here c.read_items.new.types c.read_items.new.components.items c.in_ok-read_items.ensures.ok.accepts.goes_on.ready

pub read_component-returns-in_err-id-clause-err : goal.read_component-returns-in_err-id-clause-err
read_component-returns-in_err-id-clause-err t c =
    let a = c.args.types.now in
    let ss : List Contents = c.args.components.now.items in
    let is : Items = items_view c.args.items.items in
    let ts : List Contents = c.open_component.new.components.items in
    let many : item_count is ≡ c.len.result = counted c.args.items.items ∙ sym (c.len.ensures ∙ c.args.items.ok.0) in
    let free : IsFree (component_checks (stack_in a ss) is) = subst (λ (n : ℕ). IsFree (component_room (stack_in a ss) n)) (sym many) c.in_ok-open_component.ensures.free in
    let p = err_from_is_err_and c.from_residual-in_err-id.result c.from_residual-in_err-id.ensures.1 in
    rw (p.1, p.2)
    (end_refused a ss ts c.requires.ready.some c.in_ok-open_component.ensures.ok is c.args.end free c.read_items.new.types c.read_items.new.components.items c.in_ok-read_items.ensures.ok.nested c.in_ok-read_items.ensures.ok.accepts c.end_component.new.types c.end_component.new.components.items
    c.end_component.ensures.keeps c.args.offset c.in_err-id.field-0.0 c.in_err-id.ensures.err)

pub read_component-returns-in_err-end-clause-err : goal.read_component-returns-in_err-end-clause-err
read_component-returns-in_err-end-clause-err t c =
    let a = c.args.types.now in
    let ss : List Contents = c.args.components.now.items in
    let is : Items = items_view c.args.items.items in
    let ts : List Contents = c.open_component.new.components.items in
    let many : item_count is ≡ c.len.result = counted c.args.items.items ∙ sym (c.len.ensures ∙ c.args.items.ok.0) in
    let free : IsFree (component_checks (stack_in a ss) is) = subst (λ (n : ℕ). IsFree (component_room (stack_in a ss) n)) (sym many) c.in_ok-open_component.ensures.free in
    let p = err_from_is_err_and c.from_residual-in_err-end.result c.from_residual-in_err-end.ensures.1 in
    rw p.1
    (memory_refused a ss ts c.requires.ready.some c.in_ok-open_component.ensures.ok is c.args.end free c.read_items.new.types c.read_items.new.components.items c.in_ok-read_items.ensures.ok.nested c.in_ok-read_items.ensures.ok.accepts c.end_component.new.types c.end_component.new.components.items
    c.end_component.ensures.keeps c.args.offset p.0 p.2)

pub read_component-returns-clause-ok : goal.read_component-returns-clause-ok
read_component-returns-clause-ok t c =
    let a = c.args.types.now in
    let ss : List Contents = c.args.components.now.items in
    let is : Items = items_view c.args.items.items in
    let ts : List Contents = c.open_component.new.components.items in
    let many : item_count is ≡ c.len.result = counted c.args.items.items ∙ sym (c.len.ensures ∙ c.args.items.ok.0) in
    let free : IsFree (component_checks (stack_in a ss) is) = subst (λ (n : ℕ). IsFree (component_room (stack_in a ss) n)) (sym many) c.in_ok-open_component.ensures.free in
    let m = c.read_items.new.types in
    let us : List Contents = c.read_items.new.components.items in
    let b = c.end_component.new.types in
    let vs : List Contents = c.end_component.new.components.items in
    let r = c.in_ok-read_items.ensures.ok in
    let kept = c.in_ok-id.ensures.kept in
    let old = c.args.nesting.now in
    let now = c.read_items.new.nesting in
    let new = c.end.new.self in
    let p : Place = old.place.items in
    let q : Place = now.place.items in
    let last : Ended b now new ((p, root_tree m kept.ty) ∷ []) =
    subst (λ (w : Place). Ended b now new ((w, root_tree m kept.ty) ∷ [])) r.ended.place
    (ended_one b now new (record { place = q; ty = c.in_ok-id.id }) (q, root_tree m kept.ty) c.in_ok-end.ensures.place c.in_ok-end.ensures.ended (told_at_end m b us r.accepts.goes_on.ready r.accepts.reached c.in_ok-id.id kept q)) in
    whole a ss ts c.requires.ready.some c.in_ok-open_component.ensures.ok is c.args.end free m us r.nested r.accepts b vs c.end_component.ensures.keeps c.in_ok-id.ensures.ok kept.ty kept.finished old new
    (ended_both m b (later a ss ts c.requires.ready.some c.in_ok-open_component.ensures.ok is c.args.end free m us r.nested r.accepts b vs c.end_component.ensures.keeps) old now new (r.nested p) ((p, root_tree m kept.ty) ∷ []) r.ended last)

-- ## Items, one after another

pub read_items-loop-item-init : goal.read_items-loop-item-init
read_items-loop-item-init t c =
    let a = c.args.types.now in
    let ss : List Contents = c.args.components.now.items in
    let is : Items = items_view c.args.items.items in
    let items : into_iter_items c.into_iter-item-iterator.result ≡ c.args.items.items = c.into_iter-item-iterator.ensures.into_iter_gives.0 in
    record {
      far = subst (λ (xs : List Item). ToldSoFar a c.args.nesting.now ss is a c.args.nesting.now ss 0 (items_view xs)) (sym items) (told_start a c.args.nesting.now ss is c.requires.ready c.requires.reached);
      position = refl;
      count = omega (arith, ap length items);
      left = c.into_iter-item-iterator.ensures.into_iter_gives.1 ∙ c.args.items.ok.0 ∙ sym (ap length items);
      small = subst (λ (xs : List Item). items_size (items_view xs) ≤ items_size is) (sym items) (omega arith);
    }

pub read_items-loop-item-preserved : goal.read_items-loop-item-preserved
read_items-loop-item-preserved t c =
    let a = c.args.types.now in
    let ss : List Contents = c.args.components.now.items in
    let is : Items = items_view c.args.items.items in
    let ts : List Contents = c.loop-item.components.items in
    let k = length c.loop-item.yielded in
    let x = item_view c.in-Some.item in
    let rest : Items = items_view (into_iter_items c.next.new.self) in
    let left : items_view (into_iter_items c.loop-item.item-iterator) ≡ next_item x.offset x.form rest = ap items_view c.in-Some.ensures.steps.0 in
    let far : ToldSoFar a c.args.nesting.now ss is c.loop-item.types c.loop-item.nesting ts k (next_item x.offset x.form rest) = subst (λ (z : Items). ToldSoFar a c.args.nesting.now ss is c.loop-item.types c.loop-item.nesting ts k z) left c.loop-item.invariant.far in
    let small : items_size (next_item x.offset x.form rest) ≤ items_size is = subst (λ (z : Items). items_size z ≤ items_size is) left c.loop-item.invariant.small in
    let b = c.read_item.new.types in
    let us : List Contents = c.read_item.new.components.items in
    let more : suc k ≡ length (c.loop-item.yielded ++ c.in-Some.item ∷ []) = omega (arith, length-append c.loop-item.yielded (c.in-Some.item ∷ [])) in
    record {
      far = subst (λ (j : ℕ). ToldSoFar a c.args.nesting.now ss is b c.leave.new.self us j rest) more
          (told_next a c.args.nesting.now ss is c.loop-item.types c.loop-item.nesting ts k x.offset x.form rest b us c.enter.new.self c.read_item.new.nesting c.leave.new.self far (c.in_ok-enter.ensures.place ∙ ap (deeper c.loop-item.nesting.place.items) c.loop-item.invariant.position) c.enter.ensures.ended c.in-Ok.ensures.ok c.leave.ensures.place c.leave.ensures.ended);
      position = let next = c.saturating_add-position.ensures in let before = c.loop-item.invariant.position in let all = c.loop-item.invariant.count in let short = ap length c.in-Some.ensures.steps.0 in let fits = c.args.items.ok in let small = c.args.items.small in
          omega (arith, next, before, all, short, fits.0, fits.1, small, more);
      count = let short = ap length c.in-Some.ensures.steps.0 in let before = c.loop-item.invariant.count in omega (arith, short, before, more);
      left = let gone = c.in-Some.ensures.steps.1 in let short = ap length c.in-Some.ensures.steps.0 in let before = c.loop-item.invariant.left in omega (arith, gone, short, before);
      small = rest_smaller x.offset x.form rest is small;
    }

pub read_items-returns-clause-ok : goal.read_items-returns-clause-ok
read_items-returns-clause-ok t c =
    let a = c.args.types.now in
    let ss : List Contents = c.args.components.now.items in
    let is : Items = items_view c.args.items.items in
    let none = c.in-None.ensures.steps in
    let empty : into_iter_items c.loop-item.item-iterator ≡ [] = nil_from_length _ (sym c.loop-item.invariant.left ∙ none.0) in
    let z : items_view (into_iter_items c.loop-item.item-iterator) ≡ no_items = ap items_view empty in
    told_all a c.args.nesting.now ss is c.loop-item.types c.loop-item.nesting c.loop-item.components.items (length c.loop-item.yielded) _ z c.loop-item.invariant.far

pub read_items-returns-in-Err-clause-err : goal.read_items-returns-in-Err-clause-err
read_items-returns-in-Err-clause-err t c =
    let a = c.args.types.now in
    let ss : List Contents = c.args.components.now.items in
    let is : Items = items_view c.args.items.items in
    let ts : List Contents = c.loop-item.components.items in
    let k = length c.loop-item.yielded in
    let x = item_view c.in-Some.item in
    let rest : Items = items_view (into_iter_items c.next.new.self) in
    let left : items_view (into_iter_items c.loop-item.item-iterator) ≡ next_item x.offset x.form rest = ap items_view c.in-Some.ensures.steps.0 in
    let far : ToldSoFar a c.args.nesting.now ss is c.loop-item.types c.loop-item.nesting ts k (next_item x.offset x.form rest) = subst (λ (z : Items). ToldSoFar a c.args.nesting.now ss is c.loop-item.types c.loop-item.nesting ts k z) left c.loop-item.invariant.far in
    so_far_refused a ss is c.loop-item.types ts k far.nested x.offset x.form rest c.read_item.new.types c.in-Err.error c.at_position.result far.far c.at_position.ensures.kind c.at_position.ensures.offset c.in-Err.ensures.err

pub read_items-returns-in_err-enter-clause-err : goal.read_items-returns-in_err-enter-clause-err
read_items-returns-in_err-enter-clause-err t c =
    let a = c.args.types.now in
    let ss : List Contents = c.args.components.now.items in
    let is : Items = items_view c.args.items.items in
    let ts : List Contents = c.loop-item.components.items in
    let k = length c.loop-item.yielded in
    let far = c.loop-item.invariant.far in
    let p = err_from_is_err_and c.from_residual.result c.from_residual.ensures.1 in
    rw p.1 (so_far_memory a ss is c.loop-item.types ts k far.nested (items_view (into_iter_items c.loop-item.item-iterator)) p.0 far.far p.2)
