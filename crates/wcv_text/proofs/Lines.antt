-- The own line of a node.
use Rattle.std.proofs.Common.{◌≡◌, ℕ, List, [], ◌∷◌, ◌++◌, length, refl, sym, ◌∙◌, ap, subst, Bool, true, false, cond, Option, Some}
use Rattle.std.specs.Prelude.{slice_get}
use Rattle.std.proofs.lemmas.List.Elements.{All-get_or}
use Rattle.std.proofs.lemmas.Option.{get_or_from_slice_get, slice_get_within}
use Rattle.wcv_core.specs.Names.{Name}
use Rattle.wcv_types.specs.Arena.{Arena}
use Rattle.wcv_types.specs.Identity.{Identity, identity_at}
use Rattle.wcv_types.specs.Standing.{HasIdentity, Stands, StandsBefore, Unfolds, identity_of}
use Rattle.wcv_types.specs.Text.{Written, line_text, line_if, with_line, with_resource, with_each, with_paths, with_resources, has_line, write, write_parts}
use Rattle.wcv_types.specs.Tree.{Text, Head, nothing, primitive, resource, defined, func, instance, component, type_entity, core_module, core_instance, core_type, core_item, Parts, node, head, parts}
use Rattle.wcv_types.specs.Unfold.{Type_tree, slot_parts, parts_at, rank, slots_at, trees, tree_at}
use Rattle.wcv_types.specs.declared.ids.Part.{Part}
use Rattle.wcv_types.proofs.Unfolding.{known_stands}
use Rattle.wcv_text.specs.EntryList.{write_items}
use Rattle.wcv_text.specs.Nodes.{form_of, items_at, own_line, write_all}
use Rattle.wcv_text.specs.Numbers.{so_far, Shows}
use Rattle.wcv_text.specs.declared.numbers.Numbers.{Numbers}
use Rattle.wcv_text.proofs.Folds.{piece_shown}
use Rattle.wcv_text.proofs.Parts.{parts_written}

-- ## Numbers of resources leave the lines alone

pub resource_keeps : (w : Written) (r : Name) → (with_resource w r).nodes ≡ w.nodes
resource_keeps w r = go _
  where
    go : (b : Bool) → (cond b w (record w { resources = w.resources ++ r ∷ [] })).nodes ≡ w.nodes
    go true = refl
    go false = refl

each_keeps : (w : Written) (rs : List Name) → (with_each w rs).nodes ≡ w.nodes
each_keeps w [] = refl
each_keeps w (r ∷ rs) = each_keeps (with_resource w r) rs ∙ resource_keeps w r

paths_keep : (w : Written) (ps : List (Name × List ℕ)) → (with_paths w ps).nodes ≡ w.nodes
paths_keep w [] = refl
paths_keep w (p ∷ ps) = paths_keep (with_resource w p.0) ps ∙ resource_keeps w p.0

pub resources_keep : (w : Written) (h : Head Name Name) → (with_resources w h).nodes ≡ w.nodes
resources_keep w (resource r s) = resource_keeps w r
resources_keep w (instance i own) = each_keeps w own
resources_keep w (component i ins outs) = paths_keep (with_paths w ins) outs ∙ paths_keep w ins
resources_keep w nothing = refl
resources_keep w (primitive p) = refl
resources_keep w (defined i k) = refl
resources_keep w (func i b) = refl
resources_keep w type_entity = refl
resources_keep w (core_module i m) = refl
resources_keep w (core_instance i m) = refl
resources_keep w (core_type i) = refl
resources_keep w (core_item e) = refl

-- ## The line

-- the line of a type is appended
pub line_shown : (old mid new : Numbers) (before : Text × Text) (text next : Text) (w : Written) (number : ℕ) (q : Part) (t : Type_tree) →
    number ≡ length (so_far old []).nodes → ((x : Text) → so_far mid x ≡ with_resources (so_far old x) (head t)) →
    ((x : Text) → next ≡ text ++ line_text number (form_of (so_far mid x) t)) →
    ((x : Text) → so_far new x ≡ record (so_far mid x) { nodes = (so_far mid x).nodes ++ identity_of q ∷ [] }) →
    Shows old before text w → Shows new before next (own_line q t w)
line_shown old mid new before text next w number q t count given said added h =
    let x : Text = w.text in
    let u : Written = so_far mid x in
    let same : with_resources w (head t) ≡ u = ap (λ (z : Written). with_resources z (head t)) h.numbers_are ∙ sym (given x) in
    let here : number ≡ length u.nodes = count ∙ sym (ap (λ (z : Written). length z.nodes) (given x) ∙ ap length (resources_keep (so_far old x) (head t))) in
    subst (λ (z : Written). Shows new before next (with_line z (identity_of q) (head t) (parts t))) (sym same) (record {
      text_is = piece_shown before.0 before.1 text next x (line_text (length u.nodes) (form_of u t)) (said x ∙ ap (λ (k : ℕ). text ++ line_text k (form_of u t)) here) h.text_is;
      numbers_are = sym (added (x ++ line_text (length u.nodes) (form_of u t)));
    })

-- ## Parts before the whole

-- a part of a type stands before it
pub part_before : (a : Arena) (q r : Part) (k : ℕ) → Unfolds a q → slice_get (parts_at a q) k ≡ Some r → StandsBefore a (rank q) r
part_before a q r k u h =
    let P : Part → Type 0 = StandsBefore a (rank q) in
    subst P (get_or_from_slice_get (parts_at a q) k r r h) (All-get_or P (parts_at a q) k r (slice_get_within (parts_at a q) k r h) u.before)

write_again : (w : Written) (t : Type_tree) → has_line w (identity_at (head t)) ≡ true → write w t ≡ w
write_again w (node h ps) e = ap (λ (b : Bool). cond b w (line_if (write_parts w ps) (identity_at h) h ps)) e

-- a type that has a line is written already
pub write_old : (a : Arena) (q : Part) (w : Written) → HasIdentity q → Stands a q → has_line w (Some (identity_of q)) ≡ true → write w (tree_at a q) ≡ w
write_old a q w i s h = write_again w (tree_at a q) (ap (has_line w) (known_stands a q i s) ∙ h)

-- one that has none gets it after its parts and after the groups that its core items name
pub write_new : (a : Arena) (q : Part) (w : Written) → Unfolds a q → has_line w (Some (identity_of q)) ≡ false →
    write w (tree_at a q) ≡ own_line q (tree_at a q) (write_items (items_at a q) (write_all a w (parts_at a q)))
write_new a q w u h =
    let t : Type_tree = tree_at a q in
    let ps : Parts Name Name = slot_parts (trees a.nodes) (slots_at a.nodes q) in
    let before : Written = write_items (items_at a q) (write_all a w (parts_at a q)) in
    ap (write w) u.tree ∙ ap (λ (i : Option Identity). cond (has_line w i) w (line_if (write_parts w ps) i (head t) ps)) u.known ∙
    ap (λ (b : Bool). cond b w (line_if (write_parts w ps) (Some (identity_of q)) (head t) ps)) h ∙
    ap (λ (v : Written). with_line (with_resources v (head t)) (identity_of q) (head t) ps) (parts_written a w q) ∙
    ap (λ (rs : Parts Name Name). with_line (with_resources before (head t)) (identity_of q) (head t) rs) (sym (ap parts u.tree))
