-- The lines of entries and of paths.
use Rattle.std.proofs.Common.{◌≡◌, List, ◌++◌, ℕ, codes, refl, sym, ◌∙◌, ap, subst, append_assoc, Bool, true, false, Some}
use Rattle.std.specs.Prelude.{slice_get}
use Rattle.wcv_core.specs.Names.{Name}
use Rattle.wcv_types.specs.Arena.{Arena}
use Rattle.wcv_types.specs.ComponentTrees.{ComponentStands}
use Rattle.wcv_types.specs.Entities.{any_part, entity_tree, entry_name, EntityStands, EntryStands}
use Rattle.wcv_types.specs.Quoting.{quoted}
use Rattle.wcv_types.specs.Standing.{identity_of}
use Rattle.wcv_types.specs.Text.{Written, node_number, mention, entity_text, name_text, entry_text, entry_line, path_text, path_line, with_resource}
use Rattle.wcv_types.specs.Tree.{Text, Head, head}
use Rattle.wcv_types.specs.Unfold.{Type_tree, tree_at, trees}
use Rattle.wcv_types.specs.declared.arena.Node.TheVariants as n
use Rattle.wcv_types.specs.declared.component_type.ComponentType.{ComponentType}
use Rattle.wcv_types.specs.declared.ids.Part.TheVariants as p
use Rattle.wcv_types.specs.declared.item_map.ComponentItem.{ComponentItem}
use Rattle.wcv_types.specs.declared.shapes.ComponentEntityType.{ComponentEntityType}
use Rattle.wcv_types.specs.declared.shapes.ComponentEntityType.TheVariants as entity
use Rattle.wcv_types.specs.declared.shapes.ComponentValType.TheVariants as v
use Rattle.wcv_types.proofs.Unfolding.{head_in}
use Rattle.wcv_text.specs.LineList.{entries_of}
use Rattle.wcv_text.specs.Mentions.{entity_said, entry_said}
use Rattle.wcv_text.specs.Numbers.{so_far, Shows, Appends}
use Rattle.wcv_text.specs.declared.numbers.Numbers.{Numbers}
use Rattle.wcv_text.proofs.Folds.{all_there, piece_shown}
use Rattle.wcv_text.proofs.Mentioned.{mention_is, mention_any}

-- ## Entities by ids

pub entity_is : (a : Arena) (w : Written) (x : ComponentEntityType) → EntityStands a x → entity_text w (head (entity_tree (trees a.nodes) x)) (entity_tree (trees a.nodes) x) ≡ entity_said w x
entity_is a w (entity.Module i) s =
    let t : Type_tree = tree_at a (p.Module i) in
    ap (λ (h : Head Name Name). entity_text w h t) (head_in a.nodes i.index (n.Module s.0) s.1) ∙ ap (λ (x : Text). codes "module " ++ x) (mention_is a w (p.Module i) tt s)
entity_is a w (entity.Func i) s =
    let t : Type_tree = tree_at a (p.Func i) in
    ap (λ (h : Head Name Name). entity_text w h t) (head_in a.nodes i.index (n.Func s.0) s.1) ∙ ap (λ (x : Text). codes "func " ++ x) (mention_is a w (p.Func i) tt s)
entity_is a w (entity.Instance i) s =
    let t : Type_tree = tree_at a (p.Instance i) in
    ap (λ (h : Head Name Name). entity_text w h t) (head_in a.nodes i.index (n.Instance s.0) s.1) ∙ ap (λ (x : Text). codes "instance " ++ x) (mention_is a w (p.Instance i) tt s)
entity_is a w (entity.Component i) s =
    let t : Type_tree = tree_at a (p.Component i) in
    ap (λ (h : Head Name Name). entity_text w h t) (head_in a.nodes i.index (n.Component s.0) s.1) ∙ ap (λ (x : Text). codes "component " ++ x) (mention_is a w (p.Component i) tt s)
entity_is a w (entity.Value (v.Primitive q)) s = refl
entity_is a w (entity.Value (v.Ty i)) s =
    let t : Type_tree = tree_at a (p.Defined i) in
    ap (λ (h : Head Name Name). entity_text w h t) (head_in a.nodes i.index (n.Defined s.0) s.1) ∙ ap (λ (x : Text). codes "value " ++ x) (mention_is a w (p.Defined i) tt s)
entity_is a w (entity.Ty c r) s =
    let e : mention w (tree_at a (any_part c)) ≡ node_number w (identity_of (any_part c)) = mention_any a w c s.0 in
    let e' : mention w (tree_at a (any_part r)) ≡ node_number w (identity_of (any_part r)) = mention_any a w r s.1 in
    λ j. codes "type " ++ e j ++ codes " of " ++ e' j

-- an entry of a type that stands
pub entry_stands : (a : Arena) (ty : ComponentType) (exported : Bool) (k : ℕ) (e : Text × ComponentItem) → ComponentStands a ty → slice_get (entries_of ty exported) k ≡ Some e → EntryStands a e
entry_stands a ty true k e s found = all_there (EntryStands a) ty.exports k e found s.exports
entry_stands a ty false k e s found = all_there (EntryStands a) ty.imports k e found s.imports

-- ## Lines

-- the line of an entry is appended
pub entry_shown : (a : Arena) (numbers : Numbers) (before : Text × Text) (text next word : Text) (w : Written) (e : Text × ComponentItem) → EntryStands a e → Appends numbers text next (entry_said word e) →
    Shows numbers before text w → Shows numbers before next (entry_line w word (entry_name e) (entity_tree (trees a.nodes) e.1.ty))
entry_shown a numbers before text next word w e s said h =
    let t : Type_tree = entity_tree (trees a.nodes) e.1.ty in
    let line : entry_said word e (so_far numbers w.text) ≡ entry_text w word (entry_name e) t ++ codes "\n" =
    ap (entry_said word e) (sym h.numbers_are) ∙ ap (λ (x : Text). word ++ quoted e.0 ++ codes " " ++ x ++ name_text (entry_name e) ++ codes "\n") (sym (entity_is a w e.1.ty s)) in
    record {
      text_is = piece_shown before.0 before.1 text next w.text (entry_text w word (entry_name e) t ++ codes "\n") (said w.text ∙ ap (λ (x : Text). text ++ x) line) h.text_is ∙
          ap (λ (x : Text). before.1 ++ x) (sym (append_assoc w.text (entry_text w word (entry_name e) t) (codes "\n")));
      numbers_are = ap (λ (z : Written). record z { text = w.text ++ entry_text w word (entry_name e) t ++ codes "\n" }) h.numbers_are;
    }

-- the line of a resource and its path is appended
pub path_shown : (old new : Numbers) (before : Text × Text) (text next word : Text) (w : Written) (r : Name) (path : List ℕ) →
    ((x : Text) → so_far new x ≡ with_resource (so_far old x) r) → ((x : Text) → next ≡ text ++ (path_text (so_far new x) word r path ++ codes "\n")) →
    Shows old before text w → Shows new before next (path_line (with_resource w r) word r path)
path_shown old new before text next word w r path given said h =
    let u : Written = so_far new w.text in
    let same : with_resource w r ≡ u = ap (λ (z : Written). with_resource z r) h.numbers_are ∙ sym (given w.text) in
    subst (λ (z : Written). Shows new before next (path_line z word r path)) (sym same) (record {
      text_is = piece_shown before.0 before.1 text next w.text (path_text u word r path ++ codes "\n") (said w.text) h.text_is ∙
          ap (λ (x : Text). before.1 ++ x) (sym (append_assoc w.text (path_text u word r path) (codes "\n")));
      numbers_are = refl;
    })
