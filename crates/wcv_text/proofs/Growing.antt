-- What is written stands behind what was written: lines are only appended.
use Rattle.std.proofs.Common.{◌≡◌, ℕ, zero, suc, ◌≤◌, List, [], ◌∷◌, ◌++◌, codes, length, drop, drop_of_length-le, refl, sym, ◌∙◌, ap, append_assoc, append-nil, Bool, true, false, cond, Option, Some, None, arith}
use Rattle.std.specs.List.{fold}
use Rattle.std.specs.Prelude.{slice_get}
use Rattle.wcv_core.specs.Names.{Name}
use Rattle.wcv_core.specs.declared.core_types.EntityType.{EntityType}
use Rattle.wcv_types.specs.Arena.{Arena}
use Rattle.wcv_types.specs.CoreText.{item_ids, older_ids}
use Rattle.wcv_types.specs.Standing.{identity_of}
use Rattle.wcv_types.specs.Text.{Written, has_group, has_line, with_group, with_new_group, write_group, write_groups, with_resource, with_each, with_paths, with_resources}
use Rattle.wcv_types.specs.Tree.{Text, Head, nothing, primitive, resource, defined, func, instance, component, type_entity, core_module, core_instance, core_type, core_item, head}
use Rattle.wcv_types.specs.Unfold.{Type_tree, tree_at, trees}
use Rattle.wcv_types.specs.declared.component_type.ComponentType.{ComponentType}
use Rattle.wcv_types.specs.declared.ids.Part.{Part}
use Rattle.wcv_types.specs.declared.ids.ResourceId.{ResourceId}
use Rattle.wcv_types.specs.declared.item_map.ComponentItem.{ComponentItem}
use Rattle.wcv_text.specs.EntryList.{write_items}
use Rattle.wcv_text.specs.LineList.{entries_of, entry_word, paths_of, path_word, with_entry, with_path, say_node, say, say_all}
use Rattle.wcv_text.specs.Nodes.{items_at, own_line}
use Rattle.wcv_text.specs.Numbers.{name_of, so_far}
use Rattle.wcv_text.specs.TypeLines.{Leads, lines_left}
use Rattle.wcv_text.specs.declared.line_list.Line.{Line}
use Rattle.wcv_text.specs.declared.line_list.Line.TheVariants as line
use Rattle.wcv_text.specs.declared.type_lines.TypeLines.{TypeLines}

-- the second has the text of the first, and something behind it
abbrev Grows : Written → Written → Type 0
Grows w v = (rest : Text) × (v.text ≡ w.text ++ rest)

stays : (w : Written) → Grows w w
stays w = ([], sym (append-nil w.text))

grows_on : (u v w : Written) → Grows u v → Grows v w → Grows u w
grows_on u v w g h = (g.0 ++ h.0, h.1 ∙ ap (λ (x : Text). x ++ h.0) g.1 ∙ append_assoc u.text g.0 h.0)

where_new : (b : Bool) (w v : Written) → Grows w v → Grows w (cond b w v)
where_new true w v g = stays w
where_new false w v g = g

all_grow : {X : Type 0} (f : Written → X → Written) → ((v : Written) (x : X) → Grows v (f v x)) → (w : Written) (xs : List X) → Grows w (fold f w xs)
all_grow f h w [] = stays w
all_grow f h w (x ∷ xs) = grows_on w (f w x) (fold f (f w x) xs) (h w x) (all_grow f h (f w x) xs)

-- ## Groups

new_group_grows : (w : Written) (i : ℕ) → Grows w (with_new_group w i)
new_group_grows w i = where_new (has_group w i) w (with_group w i) (_, append_assoc w.text (codes "g") _)

group_grows : (k : ℕ) (w : Written) (i : ℕ) → Grows w (write_group k w i)
group_grows zero w i = stays w
group_grows (suc k) w i =
    let older : Written = fold (write_group k) w (older_ids w.core i) in
    where_new (has_group w i) w (with_new_group older i) (grows_on w older (with_new_group older i) (all_grow (write_group k) (group_grows k) w (older_ids w.core i)) (new_group_grows older i))

items_grow : (es : List EntityType) (w : Written) → Grows w (write_items es w)
items_grow [] w = stays w
items_grow (e ∷ es) w =
    let next : Written = write_groups w (item_ids e) in
    grows_on w next (write_items es next) (all_grow (λ v i. write_group (suc i) v i) (λ v i. group_grows (suc i) v i) w (item_ids e)) (items_grow es next)

-- ## Numbers of resources

resource_grows : (w : Written) (r : Name) → Grows w (with_resource w r)
resource_grows w r = where_new _ w (record w { resources = w.resources ++ r ∷ [] }) ([], sym (append-nil w.text))

each_grows : (w : Written) (rs : List Name) → Grows w (with_each w rs)
each_grows w [] = stays w
each_grows w (r ∷ rs) = grows_on w (with_resource w r) (with_each (with_resource w r) rs) (resource_grows w r) (each_grows (with_resource w r) rs)

paths_grow : (w : Written) (ps : List (Name × List ℕ)) → Grows w (with_paths w ps)
paths_grow w [] = stays w
paths_grow w (p ∷ ps) = grows_on w (with_resource w p.0) (with_paths (with_resource w p.0) ps) (resource_grows w p.0) (paths_grow (with_resource w p.0) ps)

resources_grow : (w : Written) (h : Head Name Name) → Grows w (with_resources w h)
resources_grow w (resource r s) = resource_grows w r
resources_grow w (instance i own) = each_grows w own
resources_grow w (component i ins outs) = grows_on w (with_paths w ins) (with_paths (with_paths w ins) outs) (paths_grow w ins) (paths_grow (with_paths w ins) outs)
resources_grow w nothing = stays w
resources_grow w (primitive p) = stays w
resources_grow w (defined i k) = stays w
resources_grow w (func i b) = stays w
resources_grow w type_entity = stays w
resources_grow w (core_module i m) = stays w
resources_grow w (core_instance i m) = stays w
resources_grow w (core_type i) = stays w
resources_grow w (core_item e) = stays w

-- ## Lines

node_grows : (a : Arena) (q : Part) (w : Written) → Grows w (say_node a q w)
node_grows a q w =
    let t : Type_tree = tree_at a q in
    let u : Written = write_items (items_at a q) w in
    let v : Written = with_resources u (head t) in
    where_new (has_line w (Some (identity_of q))) w (own_line q t u) (grows_on w u (own_line q t u) (items_grow (items_at a q) w) (grows_on u v (own_line q t u) (resources_grow u (head t)) (_, refl)))

entry_grows : (word : Text) (ts : List Type_tree) (o : Option (Text × ComponentItem)) (w : Written) → Grows w (with_entry word ts o w)
entry_grows word ts None w = stays w
entry_grows word ts (Some e) w = (_, append_assoc w.text _ (codes "\n"))

path_grows : (word : Text) (o : Option (ResourceId × List ℕ)) (w : Written) → Grows w (with_path word o w)
path_grows word None w = stays w
path_grows word (Some p) w =
    let v : Written = with_resource w (name_of p.0) in
    grows_on w v (with_path word (Some p) w) (resource_grows w (name_of p.0)) (_, append_assoc v.text _ (codes "\n"))

line_grows : (a : Arena) (ty : ComponentType) (w : Written) (l : Line) → Grows w (say a ty l w)
line_grows a ty w (line.Node q) = node_grows a q w
line_grows a ty w (line.Entry exported k) = entry_grows (entry_word exported) (trees a.nodes) (slice_get (entries_of ty exported) k) w
line_grows a ty w (line.Path own k) = path_grows (path_word own) (slice_get (paths_of ty own) k) w

-- ## The whole text

-- what was said so far is the beginning of the whole text
pub leads_on : (l : TypeLines) (said whole : Text) → Leads l said whole → (rest : Text) × (whole ≡ said ++ rest)
leads_on l said whole h =
    let a : Arena = l.types.now in
    let w : Written = so_far l.numbers h.lines in
    let g : Grows w (say_all a l.ty.now (drop l.at l.lines.items) w) = all_grow (λ v x. say a l.ty.now x v) (λ v x. line_grows a l.ty.now v x) w (drop l.at l.lines.items) in
    (g.0, h.whole_is ∙ ap (λ (x : Text). h.before ++ x) g.1 ∙ sym (append_assoc h.before h.lines g.0) ∙ ap (λ (x : Text). x ++ g.0) (sym h.said_is))

-- where no line is left, it is all of it
pub leads_to_end : (l : TypeLines) (said whole : Text) → lines_left l ≡ 0 → Leads l said whole → whole ≡ said
leads_to_end l said whole none h =
    let past : length l.lines.items ≤ l.at = omega (arith, none) in
    h.whole_is ∙ ap (λ (ls : List Line). h.before ++ (say_all l.types.now l.ty.now ls (so_far l.numbers h.lines)).text) (drop_of_length-le l.lines.items past) ∙ sym h.said_is
