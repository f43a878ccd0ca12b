use Rattle.std.proofs.Common.{◌≡◌, ◌∙◌, ◌++◌, ap, map, sym, subst, List, string_bytes}
use Rattle.std.proofs.lemmas.Result.{on_ok_weaker}
use Rattle.wcv_core.specs.declared.core_types.EntityType.{EntityType}
use Rattle.wcv_types.specs.Arena.{Arena}
use Rattle.wcv_types.specs.Standing.{kind_items}
use Rattle.wcv_types.specs.declared.ids.Part.{Part}
use Rattle.wcv_text.specs.EntryList.{write_items}
use Rattle.wcv_text.specs.Nodes.{items_at, items_if}
use Rattle.wcv_text.specs.Numbers.{Shows}
use Rattle.wcv_text.proofs.Items.{items_append}
use Rattle.wcv_text.proofs.item_groups.push_items.Goals as goal

pub returns-in_ok-push_imports-in-Module : goal.returns-in_ok-push_imports-in-Module
returns-in_ok-push_imports-in-Module c =
    let a : Arena = c.args.types.now in
    let ins : List EntityType = map (λ i. i.1) c.get-shape.result.now.imports in
    let outs : List EntityType = map (λ e. e.1) c.get-shape.result.now.exports in
    let items : items_at a c.args.part ≡ ins ++ outs = ap (λ (q : Part). items_at a q) c.in-Module.is ∙ ap items_if c.get-shape.ensures.found in
    on_ok_weaker c.push_exports.result
    (λ last before w h.
    subst (Shows c.push_exports.new.numbers before (string_bytes c.push_exports.new.text)) (sym (ap (λ (es : List EntityType). write_items es w) items ∙ items_append ins outs w))
    (last before _ (c.in_ok-push_imports-in-Module.ensures before w h)))
    c.push_exports.ensures

pub returns-in-CoreInstance : goal.returns-in-CoreInstance
returns-in-CoreInstance c =
    let a : Arena = c.args.types.now in
    let items : items_at a c.args.part ≡ kind_items c.get.result.now.kind = ap (λ (q : Part). items_at a q) c.in-CoreInstance.is ∙ ap items_if c.get.ensures.found in
    on_ok_weaker c.push_kind.result
    (λ last before w h. subst (Shows c.push_kind.new.numbers before (string_bytes c.push_kind.new.text)) (sym (ap (λ (es : List EntityType). write_items es w) items)) (last before w h))
    c.push_kind.ensures
