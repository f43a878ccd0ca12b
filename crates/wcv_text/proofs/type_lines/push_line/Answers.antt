use Rattle.std.proofs.Common.{◌≡◌, ◌++◌, ◌∙◌, ℕ, List, Option, Some, ap, sym, subst, option_copied, string_bytes}
use Rattle.std.specs.Prelude.{slice_get}
use Rattle.std.proofs.lemmas.Result.{on_ok_weaker}
use Rattle.wcv_types.specs.Arena.{Arena}
use Rattle.wcv_types.specs.Tree.{Text}
use Rattle.wcv_types.specs.Unfold.{trees}
use Rattle.wcv_types.specs.declared.component_type.ComponentType.{ComponentType}
use Rattle.wcv_types.specs.declared.ids.ResourceId.{ResourceId}
use Rattle.wcv_types.specs.declared.item_map.ComponentItem.{ComponentItem}
use Rattle.wcv_text.specs.Entries.{write_path}
use Rattle.wcv_text.specs.LineList.{entries_of, entry_word, path_word, paths_of, say, with_entry, with_path}
use Rattle.wcv_text.specs.Mentions.{entry_said}
use Rattle.wcv_text.specs.Numbers.{so_far, Appends, Shows, Writes}
use Rattle.wcv_text.specs.declared.line_list.Line.{Line}
use Rattle.wcv_text.specs.declared.numbers.Numbers.{Numbers}
use Rattle.wcv_text.proofs.EntryLines.{entry_shown, entry_stands}
use Rattle.wcv_text.proofs.type_lines.push_line.Goals as goal

pub returns-in-Some : goal.returns-in-Some
returns-in-Some c =
    let a : Arena = c.args.types.now in
    let ty : ComponentType = c.args.ty.now in
    let numbers : Numbers = c.args.numbers.now in
    let text : Text = string_bytes c.args.text.now in
    let next : Text = string_bytes c.push_entry_line.new.text in
    let word : Text = entry_word c.in-Entry.exported in
    let e : Text × ComponentItem = c.in-Some.entry.now in
    let found : slice_get (entries_of ty c.in-Entry.exported) c.in-Entry.k ≡ Some e =
    ap (λ (es : List (Text × ComponentItem)). slice_get es c.in-Entry.k) (sym c.entries_in.ensures) ∙ sym c.get_index.ensures ∙ ap option_copied c.in-Some.is in
    on_ok_weaker {Q = Writes numbers text numbers next (say a ty c.args.line)} c.push_entry_line.result
    (λ said before w h.
    let appended : Appends numbers text next (entry_said word e) = λ t. said t ∙ ap (λ (x : Text). text ++ entry_said x e (so_far numbers t)) c.entry_word.ensures in
    subst (λ (l : Line). Shows numbers before next (say a ty l w)) (sym c.in-Entry.is)
    (subst (λ (o : Option (Text × ComponentItem)). Shows numbers before next (with_entry word (trees a.nodes) o w)) (sym found)
    (entry_shown a numbers before text next word w e (entry_stands a ty c.in-Entry.exported c.in-Entry.k e c.requires.entries found) appended h)))
    c.push_entry_line.ensures

pub returns-in-Some-get_index : goal.returns-in-Some-get_index
returns-in-Some-get_index c =
    let a : Arena = c.args.types.now in
    let ty : ComponentType = c.args.ty.now in
    let new : Numbers = c.push_path.new.numbers in
    let next : Text = string_bytes c.push_path.new.text in
    let word : Text = path_word c.in-Path.defined in
    let r : ResourceId = c.in-Some-get_index.resource.now in
    let path : List ℕ = c.in-Some-get_index.place.now in
    let found : slice_get (paths_of ty c.in-Path.defined) c.in-Path.k ≡ Some (r, path) =
    ap (λ (ps : List (ResourceId × List ℕ)). slice_get ps c.in-Path.k) (sym c.paths_in.ensures) ∙ sym c.in-Some-get_index.ensures in
    on_ok_weaker {Q = Writes c.args.numbers.now (string_bytes c.args.text.now) new next (say a ty c.args.line)} c.push_path.result
    (λ wrote before w h.
    subst (λ (l : Line). Shows new before next (say a ty l w)) (sym c.in-Path.is)
    (subst (λ (o : Option (ResourceId × List ℕ)). Shows new before next (with_path word o w)) (sym found)
    (subst (λ (x : List ℕ). Shows new before next (write_path word (r, x) w)) c.positions.ensures
    (subst (λ (x : Text). Shows new before next (write_path x (r, c.positions.result.now) w)) c.path_word.ensures (wrote before w h)))))
    c.push_path.ensures
