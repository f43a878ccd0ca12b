use Rattle.std.proofs.Common.{◌≡◌, ap, ◌∙◌, sym, option_map, rules}
use Rattle.serde_json.specs.Data.{no_items, item}
use Rattle.wcv_listing.specs.Parsed.{items}
use Rattle.wcv_listing.specs.Seen.{view, list_view}
use Rattle.wcv_listing.proofs.Lists.{one_more, no_more, none_read}
use Rattle.wcv_listing.proofs.list.read_list.Goals as goal

pub loop-item-preserved : goal.loop-item-preserved
loop-item-preserved g c =
    let element = g.T.FromValue in
    let next : list_view c.loop-item.values ≡ item (view c.in-Some-next.item) (list_view c.in-Some-next.rest) = ap items c.in-Some-next.ensures.value in
    one_more element.seen element.meant _ (list_view c.loop-item.values) (list_view c.in-Some-next.rest) (view c.in-Some-next.item) c.loop-item.list.items c.push.new.self.items c.in-Some-2.thing next
    (ap (option_map element.seen) (sym c.in-Some-2.is) ∙ c.in_ok-thing.ensures) c.in_ok-push-in-Some-2.ensures.items c.loop-item.invariant

pub returns-in-None : goal.returns-in-None
returns-in-None g c =
    let element = g.T.FromValue in
    let next : list_view c.loop-item.values ≡ item (view c.in-Some-next.item) (list_view c.in-Some-next.rest) = ap items c.in-Some-next.ensures.value in
    none_read element.seen element.meant _ (list_view c.loop-item.values) (list_view c.in-Some-next.rest) (view c.in-Some-next.item) c.loop-item.list.items next
    (ap (option_map element.seen) (sym c.in-None.is) ∙ c.in_ok-thing.ensures) c.loop-item.invariant

pub returns : goal.returns
returns g c =
    let element = g.T.FromValue in
    let end : list_view c.loop-item.values ≡ no_items = search rules in
    no_more element.seen element.meant _ (list_view c.loop-item.values) c.loop-item.list.items end c.loop-item.invariant
