use Rattle.std.proofs.Common.{◌≡◌, ◌∷◌, ◌++◌, ◌≤◌, [], List, Option, Some, ap, sym, subst, length, take, take_all, rules}
use Rattle.std.specs.Prelude.{slice_get}
use Rattle.wcv_types.specs.Entities.{entity_tree, entry_tree}
use Rattle.wcv_types.specs.Text.{Written, write}
use Rattle.wcv_types.specs.Tree.{Text}
use Rattle.wcv_types.specs.Unfold.{Type_tree, trees}
use Rattle.wcv_types.specs.declared.item_map.ComponentItem.{ComponentItem}
use Rattle.wcv_text.specs.Entries.{write_entry, write_list}
use Rattle.wcv_text.specs.LineList.{Lists, entries_of, entry_word, with_entry}
use Rattle.wcv_text.specs.declared.line_list.Line.TheVariants as line
use Rattle.wcv_text.proofs.Folds.{fold_step}
use Rattle.wcv_text.proofs.LineLists.{line_listed}
use Rattle.wcv_text.proofs.line_list.list_entries.Goals as goal

pub loop-k-preserved : goal.loop-k-preserved
loop-k-preserved c = λ start w h.
    let ts : List Type_tree = trees c.args.types.now.nodes in
    let word : Text = entry_word c.args.exported in
    let es : List (Text × ComponentItem) = entries_of c.args.ty.now c.args.exported in
    let e : Text × ComponentItem = c.in-Some.entry.now in
    let f : Written → Text × ComponentItem → Written = λ v x. write_entry word (entry_tree ts x) v in
    let found : slice_get es c.loop-k.k ≡ Some e = search rules in
    let items : c.push.new.self.items ≡ c.list_entity.new.lines.items ++ line.Entry c.args.exported c.loop-k.k ∷ [] = search rules in
    let before : Written = write_list word ts (take c.loop-k.k es) w in
    let mentioned : Written = write before (entity_tree ts e.1.ty) in
    let nodes_listed = c.in_ok-list_entity-in-Some.ensures c.args.ty.now start before (c.loop-k.invariant start w h) in
    subst (Lists c.args.types.now c.args.ty.now c.list_entity.new.seen c.push.new.self.items start) (sym (fold_step f w es c.loop-k.k e found))
    (line_listed c.args.types.now c.args.ty.now c.list_entity.new.seen c.list_entity.new.seen c.list_entity.new.lines.items c.push.new.self.items (line.Entry c.args.exported c.loop-k.k) start mentioned (write_entry word (entry_tree ts e) before) items tt
    (sym (ap (λ (o : Option (Text × ComponentItem)). with_entry word ts o mentioned) found)) nodes_listed.nodes nodes_listed)

pub returns : goal.returns
returns c = λ start w h.
    let ts : List Type_tree = trees c.args.types.now.nodes in
    let word : Text = entry_word c.args.exported in
    let es : List (Text × ComponentItem) = entries_of c.args.ty.now c.args.exported in
    let long : length es ≤ c.loop-k.k = search rules in
    subst (λ (xs : List (Text × ComponentItem)). Lists c.args.types.now c.args.ty.now c.loop-k.seen c.loop-k.lines.items start (write_list word ts xs w)) (take_all c.loop-k.k es long) (c.loop-k.invariant start w h)
