use Rattle.std.proofs.Common.{◌≡◌, ◌-◌, Some, None, ap, ◌∙◌, sym, option_map, arith, rules}
use Rattle.serde_json.specs.Data.{no_items, item}
use Rattle.wcv_syntax.specs.View.{type_view, component_decl_view, instance_decl_view}
use Rattle.wcv_listing.specs.Fields.{sole}
use Rattle.wcv_listing.specs.Forms.{component_decl_of, instance_decl_of, type_over, type_within}
use Rattle.wcv_listing.specs.Keyed.{under, type_rows, component_decl_rows, instance_decl_rows}
use Rattle.wcv_listing.specs.Parsed.{items}
use Rattle.wcv_listing.specs.Seen.{view, json_view, list_view}
use Rattle.wcv_listing.proofs.Grown.{if_ok}
use Rattle.wcv_listing.proofs.Keyed.{none_is, some_is, type_by_key, component_decl_by_key, instance_decl_by_key}
use Rattle.wcv_listing.proofs.Lists.{one_more, no_more, none_read}
use Rattle.wcv_listing.proofs.Nested.{none_within, over_within}
use Rattle.wcv_listing.proofs.type_form.+types.Goals as goal

pub read_type_within-returns-then-depth-eq0 : goal.read_type_within-returns-then-depth-eq0
read_type_within-returns-then-depth-eq0 t c = none_within c.args.depth (view c.args.value) (omega arith)

pub read_type_within-returns-else-depth-eq0 : goal.read_type_within-returns-else-depth-eq0
read_type_within-returns-else-depth-eq0 t c =
    if_ok c.read_type_over.result (λ ty h. over_within c.args.depth (c.args.depth - 1) (view c.args.value) (option_map type_view ty) (omega arith) h) c.read_type_over.ensures

pub read_component_decls-loop-item-preserved : goal.read_component_decls-loop-item-preserved
read_component_decls-loop-item-preserved t c =
    let next : list_view c.loop-item.values ≡ item (view c.in-Some-next.item) (list_view c.in-Some-next.rest) = ap items c.in-Some-next.ensures.value in
    one_more component_decl_view (component_decl_of (type_within c.args.depth)) _ (list_view c.loop-item.values) (list_view c.in-Some-next.rest) (view c.in-Some-next.item) c.loop-item.list.items c.push.new.self.items c.in-Some-2.decl next
    (ap (option_map component_decl_view) (sym c.in-Some-2.is) ∙ c.in_ok-decl.ensures) c.in_ok-push-in-Some-2.ensures.items c.loop-item.invariant

pub read_component_decls-returns-in-None : goal.read_component_decls-returns-in-None
read_component_decls-returns-in-None t c =
    let next : list_view c.loop-item.values ≡ item (view c.in-Some-next.item) (list_view c.in-Some-next.rest) = ap items c.in-Some-next.ensures.value in
    none_read component_decl_view (component_decl_of (type_within c.args.depth)) _ (list_view c.loop-item.values) (list_view c.in-Some-next.rest) (view c.in-Some-next.item) c.loop-item.list.items next
    (ap (option_map component_decl_view) (sym c.in-None.is) ∙ c.in_ok-decl.ensures) c.loop-item.invariant

pub read_component_decls-returns : goal.read_component_decls-returns
read_component_decls-returns t c =
    let end : list_view c.loop-item.values ≡ no_items = search rules in
    no_more component_decl_view (component_decl_of (type_within c.args.depth)) _ (list_view c.loop-item.values) c.loop-item.list.items end c.loop-item.invariant

pub read_instance_decls-loop-item-preserved : goal.read_instance_decls-loop-item-preserved
read_instance_decls-loop-item-preserved t c =
    let next : list_view c.loop-item.values ≡ item (view c.in-Some-next.item) (list_view c.in-Some-next.rest) = ap items c.in-Some-next.ensures.value in
    one_more instance_decl_view (instance_decl_of (type_within c.args.depth)) _ (list_view c.loop-item.values) (list_view c.in-Some-next.rest) (view c.in-Some-next.item) c.loop-item.list.items c.push.new.self.items c.in-Some-2.decl next
    (ap (option_map instance_decl_view) (sym c.in-Some-2.is) ∙ c.in_ok-decl.ensures) c.in_ok-push-in-Some-2.ensures.items c.loop-item.invariant

pub read_instance_decls-returns-in-None : goal.read_instance_decls-returns-in-None
read_instance_decls-returns-in-None t c =
    let next : list_view c.loop-item.values ≡ item (view c.in-Some-next.item) (list_view c.in-Some-next.rest) = ap items c.in-Some-next.ensures.value in
    none_read instance_decl_view (instance_decl_of (type_within c.args.depth)) _ (list_view c.loop-item.values) (list_view c.in-Some-next.rest) (view c.in-Some-next.item) c.loop-item.list.items next
    (ap (option_map instance_decl_view) (sym c.in-None.is) ∙ c.in_ok-decl.ensures) c.loop-item.invariant

pub read_instance_decls-returns : goal.read_instance_decls-returns
read_instance_decls-returns t c =
    let end : list_view c.loop-item.values ≡ no_items = search rules in
    no_more instance_decl_view (instance_decl_of (type_within c.args.depth)) _ (list_view c.loop-item.values) c.loop-item.list.items end c.loop-item.invariant

pub read_type_over-returns-in-Some : goal.read_type_over-returns-in-Some
read_type_over-returns-in-Some t c =
    let some : Some (c.in-Some.key.now, view c.in-Some.body) ≡ sole (view c.args.value) = search rules in
    if_ok c.read_type_under.result (λ x h. some_is (λ k b. under (type_rows (type_within c.args.depth)) k b) (view c.args.value) (type_over (type_within c.args.depth) (view c.args.value)) (type_by_key (type_within c.args.depth) (json_view c.args.value)) c.in-Some.key.now (view c.in-Some.body) (option_map type_view x) some h) c.read_type_under.ensures

pub read_type_over-returns-in-None : goal.read_type_over-returns-in-None
read_type_over-returns-in-None t c =
    let none : None ≡ sole (view c.args.value) = search rules in
    none_is (λ k b. under (type_rows (type_within c.args.depth)) k b) (view c.args.value) (type_over (type_within c.args.depth) (view c.args.value)) (type_by_key (type_within c.args.depth) (json_view c.args.value)) none

pub read_component_decl-returns-in-Some : goal.read_component_decl-returns-in-Some
read_component_decl-returns-in-Some t c =
    let some : Some (c.in-Some.key.now, view c.in-Some.body) ≡ sole (view c.args.value) = search rules in
    if_ok c.read_component_decl_under.result (λ x h. some_is (λ k b. under (component_decl_rows (type_within c.args.depth)) k b) (view c.args.value) (component_decl_of (type_within c.args.depth) (view c.args.value)) (component_decl_by_key (type_within c.args.depth) (json_view c.args.value)) c.in-Some.key.now (view c.in-Some.body) (option_map component_decl_view x) some h) c.read_component_decl_under.ensures

pub read_component_decl-returns-in-None : goal.read_component_decl-returns-in-None
read_component_decl-returns-in-None t c =
    let none : None ≡ sole (view c.args.value) = search rules in
    none_is (λ k b. under (component_decl_rows (type_within c.args.depth)) k b) (view c.args.value) (component_decl_of (type_within c.args.depth) (view c.args.value)) (component_decl_by_key (type_within c.args.depth) (json_view c.args.value)) none

pub read_instance_decl-returns-in-Some : goal.read_instance_decl-returns-in-Some
read_instance_decl-returns-in-Some t c =
    let some : Some (c.in-Some.key.now, view c.in-Some.body) ≡ sole (view c.args.value) = search rules in
    if_ok c.read_instance_decl_under.result (λ x h. some_is (λ k b. under (instance_decl_rows (type_within c.args.depth)) k b) (view c.args.value) (instance_decl_of (type_within c.args.depth) (view c.args.value)) (instance_decl_by_key (type_within c.args.depth) (json_view c.args.value)) c.in-Some.key.now (view c.in-Some.body) (option_map instance_decl_view x) some h) c.read_instance_decl_under.ensures

pub read_instance_decl-returns-in-None : goal.read_instance_decl-returns-in-None
read_instance_decl-returns-in-None t c =
    let none : None ≡ sole (view c.args.value) = search rules in
    none_is (λ k b. under (instance_decl_rows (type_within c.args.depth)) k b) (view c.args.value) (instance_decl_of (type_within c.args.depth) (view c.args.value)) (instance_decl_by_key (type_within c.args.depth) (json_view c.args.value)) none
