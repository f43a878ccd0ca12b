use Rattle.std.proofs.Common.{◌≡◌, ◌-◌, Some, None, ap, ◌∙◌, sym, option_map, arith, rules}
use Rattle.serde_json.specs.Data.{no_items, item}
use Rattle.wcv_syntax.specs.View.{section_view, item_view}
use Rattle.wcv_listing.specs.Keyed.{parts_of, form_under, form_rows}
use Rattle.wcv_listing.specs.Listing.{item_within}
use Rattle.wcv_listing.specs.Parsed.{items}
use Rattle.wcv_listing.specs.Seen.{view, json_view, list_view}
use Rattle.wcv_listing.proofs.Beside.{no_parts, some_parts}
use Rattle.wcv_listing.proofs.Grown.{if_ok}
use Rattle.wcv_listing.proofs.Lists.{one_more, no_more, none_read}
use Rattle.wcv_listing.proofs.Made.{item_made}
use Rattle.wcv_listing.proofs.Nested.{no_item_within, item_over_within}
use Rattle.wcv_listing.proofs.item.+items.Goals as goal

pub read_item_within-returns-then-depth-eq0 : goal.read_item_within-returns-then-depth-eq0
read_item_within-returns-then-depth-eq0 t c = no_item_within c.args.depth (view c.args.value) (omega arith)

pub read_item_within-returns-else-depth-eq0 : goal.read_item_within-returns-else-depth-eq0
read_item_within-returns-else-depth-eq0 t c =
    if_ok c.read_item_over.result (λ e h. item_over_within c.args.depth (c.args.depth - 1) (view c.args.value) (option_map item_view e) (omega arith) h) c.read_item_over.ensures

pub read_items-loop-inner-preserved : goal.read_items-loop-inner-preserved
read_items-loop-inner-preserved t c =
    let following : list_view c.loop-inner.values ≡ item (view c.in-Some-next.inner) (list_view c.in-Some-next.rest) = ap items c.in-Some-next.ensures.value in
    one_more item_view (item_within c.args.depth) _ (list_view c.loop-inner.values) (list_view c.in-Some-next.rest) (view c.in-Some-next.inner) c.loop-inner.list.items c.push.new.self.items c.in-Some-2.item following
    (ap (option_map item_view) (sym c.in-Some-2.is) ∙ c.in_ok-item.ensures) c.in_ok-push-in-Some-2.ensures.items c.loop-inner.invariant

pub read_items-returns-in-None : goal.read_items-returns-in-None
read_items-returns-in-None t c =
    let following : list_view c.loop-inner.values ≡ item (view c.in-Some-next.inner) (list_view c.in-Some-next.rest) = ap items c.in-Some-next.ensures.value in
    none_read item_view (item_within c.args.depth) _ (list_view c.loop-inner.values) (list_view c.in-Some-next.rest) (view c.in-Some-next.inner) c.loop-inner.list.items following
    (ap (option_map item_view) (sym c.in-None.is) ∙ c.in_ok-item.ensures) c.loop-inner.invariant

pub read_items-returns : goal.read_items-returns
read_items-returns t c =
    let end : list_view c.loop-inner.values ≡ no_items = search rules in
    no_more item_view (item_within c.args.depth) _ (list_view c.loop-inner.values) c.loop-inner.list.items end c.loop-inner.invariant

pub read_item_over-returns-in_default : goal.read_item_over-returns-in_default
read_item_over-returns-in_default t c =
    let none : None ≡ parts_of (json_view c.args.value) = search rules in
    no_parts (item_within c.args.depth) (json_view c.args.value) none

pub read_item_over-returns-in_default-2 : goal.read_item_over-returns-in_default-2
read_item_over-returns-in_default-2 t c =
    let some : Some (c.in-Some.offset, (c.in-Some.name.now, view c.in-Some.body)) ≡ parts_of (json_view c.args.value) = search rules in
    let form : None ≡ form_under (form_rows (item_within c.args.depth)) c.in-Some.name.now (view c.in-Some.body) = search rules in
    some_parts (item_within c.args.depth) (json_view c.args.value) c.in-Some.offset c.in-Some.name.now (view c.in-Some.body) None some form

pub read_item_over-returns : goal.read_item_over-returns
read_item_over-returns t c =
    let some : Some (c.in-Some.offset, (c.in-Some.name.now, view c.in-Some.body)) ≡ parts_of (json_view c.args.value) = search rules in
    let form : Some (section_view c.in-Some-2.section) ≡ form_under (form_rows (item_within c.args.depth)) c.in-Some.name.now (view c.in-Some.body) = ap (option_map section_view) (sym c.in-Some-2.is) ∙ c.in_ok-section.ensures in
    ap Some (item_made c.in-Some.offset c.in-Some-2.section)
    ∙ some_parts (item_within c.args.depth) (json_view c.args.value) c.in-Some.offset c.in-Some.name.now (view c.in-Some.body) (Some (section_view c.in-Some-2.section)) some form
