-- The lines of a type, one behind the others.
use Rattle.std.proofs.Common.{◌≡◌, List, [], ◌∷◌, ◌++◌, sym, ◌∙◌, ap, subst, Bool, false, cond, Some}
use Rattle.std.specs.Prelude.{All}
use Rattle.std.proofs.lemmas.List.Elements.{All-push}
use Rattle.std.proofs.lemmas.List.Sums.{fold-append}
use Rattle.wcv_types.specs.Arena.{Arena}
use Rattle.wcv_types.specs.Identity.{Identity, same_identity}
use Rattle.wcv_types.specs.Positions.{is_there}
use Rattle.wcv_types.specs.Standing.{HasIdentity, Stands, Unfolds, identity_of}
use Rattle.wcv_types.specs.Text.{Written, has_line, write}
use Rattle.wcv_types.specs.Tree.{head}
use Rattle.wcv_types.specs.Unfold.{Type_tree, parts_at, tree_at}
use Rattle.wcv_types.specs.declared.component_type.ComponentType.{ComponentType}
use Rattle.wcv_types.specs.declared.ids.Part.{Part}
use Rattle.wcv_text.specs.EntryList.{write_items}
use Rattle.wcv_text.specs.LineList.{LineStands, Lists, say, say_all}
use Rattle.wcv_text.specs.Nodes.{items_at, own_line, write_all}
use Rattle.wcv_text.specs.Numbers.{so_far}
use Rattle.wcv_text.specs.declared.line_list.Line.{Line}
use Rattle.wcv_text.specs.declared.line_list.Line.TheVariants as line
use Rattle.wcv_text.specs.declared.numbers.Numbers.{Numbers}
use Rattle.wcv_text.proofs.Items.{items_keep}
use Rattle.wcv_text.proofs.Lines.{resources_keep, write_new}

-- one line more
pub line_listed : (a : Arena) (ty : ComponentType) (seen more : Numbers) (lines next : List Line) (l : Line) (start w v : Written) → next ≡ lines ++ l ∷ [] → LineStands a l →
    v ≡ say a ty l w → v.nodes ≡ (so_far more []).nodes → Lists a ty seen lines start w → Lists a ty more next start v
line_listed a ty seen more lines next l start w v e s said nodes h = record {
  said = said ∙ ap (λ (u : Written). say a ty l u) h.said ∙ sym (fold-append (λ (u : Written) (x : Line). say a ty x u) start lines (l ∷ [])) ∙ ap (λ (ls : List Line). say_all a ty ls start) (sym e);
  nodes = nodes;
  stand = subst (All (LineStands a)) (sym e) (All-push (LineStands a) lines l h.stand s);
}

-- that of a node which has none, behind those of its parts
pub node_listed : (a : Arena) (q : Part) (ty : ComponentType) (seen more : Numbers) (lines next : List Line) (start w : Written) → HasIdentity q → Stands a q → Unfolds a q → next ≡ lines ++ line.Node q ∷ [] →
    has_line w (Some (identity_of q)) ≡ false → has_line (so_far seen []) (Some (identity_of q)) ≡ false → (so_far more []).nodes ≡ (so_far seen []).nodes ++ identity_of q ∷ [] →
    Lists a ty seen lines start (write_all a w (parts_at a q)) → Lists a ty more next start (write w (tree_at a q))
node_listed a q ty seen more lines next start w known stands unfolds e absent none added h =
    let v : Written = write_all a w (parts_at a q) in
    let u : Written = write_items (items_at a q) v in
    let t : Type_tree = tree_at a q in
    let own : write w t ≡ own_line q t u = write_new a q w unfolds absent in
    let new : has_line v (Some (identity_of q)) ≡ false = ap (λ (is : List Identity). is_there same_identity (identity_of q) is) h.nodes ∙ none in
    line_listed a ty seen more lines next (line.Node q) start v (write w t) e (stands, known) (own ∙ sym (ap (λ (b : Bool). cond b v (own_line q t u)) new))
    (ap (λ (z : Written). z.nodes) own ∙ ap (λ (is : List Identity). is ++ identity_of q ∷ []) (resources_keep u (head t) ∙ items_keep (items_at a q) v ∙ h.nodes) ∙ sym added) h
