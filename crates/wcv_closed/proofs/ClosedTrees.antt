-- Trees and their closed forms.
use Rattle.std.proofs.Common.{◌≡◌, ℕ, List, ◌++◌, refl, ap}
use Rattle.wcv_core.specs.CoreForm.{Group}
use Rattle.wcv_core.specs.CoreGroups.{total}
use Rattle.wcv_types.specs.Tree.{Role, Head, Tree, Parts, nothing, primitive, resource, defined, func, instance, component, type_entity, core_module, core_instance, core_type, core_item, node, none, part}
use Rattle.wcv_types.specs.Rename.{rename_head, rename, rename_parts, UpToRenaming}
use Rattle.wcv_closed.specs.ClosedTable.{IsTable}
use Rattle.wcv_closed.specs.ClosedType.{Closed, closed}
use Rattle.wcv_closed.specs.ClosedValue.{Item, closed_item}
use Rattle.wcv_closed.proofs.Telling.{item_stays, items_told}
use Rattle.wcv_closed.proofs.Unfolding.{closed_stays, one_in_table}
use Rattle.wcv_closed.specs.ClosedTree.{Closed_head, Closed_tree, Closed_parts, closed_head, closed_tree, closed_parts, IsHeadWithin, IsTreeWithin, ArePartsWithin, UpToRenamingOver}

-- ## Groups that come behind

module _ {R I : Type 0} (gs hs : List Group) where
  head_stays : (h : Head R I) → IsHeadWithin (total gs) h → closed_head (gs ++ hs) h ≡ closed_head gs h
  head_stays (core_type i) w = ap core_type (closed_stays gs hs i w)
  head_stays (core_item e) w = ap core_item (item_stays gs hs e w)
  head_stays nothing w = refl
  head_stays (primitive p) w = refl
  head_stays (resource r s) w = refl
  head_stays (defined i k) w = refl
  head_stays (func i b) w = refl
  head_stays (instance i owned) w = refl
  head_stays (component i ins outs) w = refl
  head_stays type_entity w = refl
  head_stays (core_module i n) w = refl
  head_stays (core_instance i n) w = refl

  mutual
    pub tree_stays : (t : Tree R I) → IsTreeWithin (total gs) t → closed_tree (gs ++ hs) t ≡ closed_tree gs t
    tree_stays (node h ps) w =
        let a : closed_head (gs ++ hs) h ≡ closed_head gs h = head_stays h w.0 in
        let b : closed_parts (gs ++ hs) ps ≡ closed_parts gs ps = parts_stay ps w.1 in
        λ j. node (a j) (b j)

    pub parts_stay : (ps : Parts R I) → ArePartsWithin (total gs) ps → closed_parts (gs ++ hs) ps ≡ closed_parts gs ps
    parts_stay none w = refl
    parts_stay (part r t ps) w =
        let a : closed_tree (gs ++ hs) t ≡ closed_tree gs t = tree_stays t w.0 in
        let b : closed_parts (gs ++ hs) ps ≡ closed_parts gs ps = parts_stay ps w.1 in
        λ j. part r (a j) (b j)

-- ## One tree for each closed form

module _ {R I : Type 0} (gs : List Group) (u : IsTable gs) where
  abbrev typed : Closed → Closed_head R I
  typed c = core_type c

  abbrev listed : Item Closed → Closed_head R I
  listed c = core_item c

  same_types : (c d : Closed) → typed c ≡ typed d → c ≡ d
  same_types c d e = cc

  same_items : (c d : Item Closed) → listed c ≡ listed d → c ≡ d
  same_items c d e = cc

  same_heads : (h k : Closed_head R I) (ps qs : Closed_parts R I) → node h ps ≡ node k qs → h ≡ k
  same_heads h k ps qs e = cc

  same_parts : (h k : Closed_head R I) (ps qs : Closed_parts R I) → node h ps ≡ node k qs → ps ≡ qs
  same_parts h k ps qs e = cc

  same_role : (r s : Role) (t v : Closed_tree R I) (ps qs : Closed_parts R I) → part r t ps ≡ part s v qs → r ≡ s
  same_role r s t v ps qs e = cc

  same_tree : (r s : Role) (t v : Closed_tree R I) (ps qs : Closed_parts R I) → part r t ps ≡ part s v qs → t ≡ v
  same_tree r s t v ps qs e = cc

  same_rest : (r s : Role) (t v : Closed_tree R I) (ps qs : Closed_parts R I) → part r t ps ≡ part s v qs → ps ≡ qs
  same_rest r s t v ps qs e = cc

  head_told : (h k : Head R I) → IsHeadWithin (total gs) h → IsHeadWithin (total gs) k → closed_head gs h ≡ closed_head gs k → h ≡ k
  head_told (core_type i) (core_type j) v w e = ap core_type (one_in_table gs i j u v w (same_types (closed gs i) (closed gs j) e))
  head_told (core_item a) (core_item b) v w e = ap core_item (items_told gs a b u v w (same_items (closed_item gs a) (closed_item gs b) e))
  head_told nothing nothing v w e = refl
  head_told (primitive p) (primitive q) v w e = cc
  head_told (resource r s) (resource q t) v w e = cc
  head_told (defined i k) (defined j l) v w e = cc
  head_told (func i b) (func j c) v w e = cc
  head_told (instance i owned) (instance j own) v w e = cc
  head_told (component i ins outs) (component j is os) v w e = cc
  head_told type_entity type_entity v w e = refl
  head_told (core_module i n) (core_module j m) v w e = cc
  head_told (core_instance i n) (core_instance j m) v w e = cc
  head_told _ _ v w e = cc

  mutual
    pub tree_told : (s t : Tree R I) → IsTreeWithin (total gs) s → IsTreeWithin (total gs) t → closed_tree gs s ≡ closed_tree gs t → s ≡ t
    tree_told (node h ps) (node k qs) v w e =
        let a : h ≡ k = head_told h k v.0 w.0 (same_heads (closed_head gs h) (closed_head gs k) (closed_parts gs ps) (closed_parts gs qs) e) in
        let b : ps ≡ qs = parts_told ps qs v.1 w.1 (same_parts (closed_head gs h) (closed_head gs k) (closed_parts gs ps) (closed_parts gs qs) e) in
        λ j. node (a j) (b j)

    pub parts_told : (ps qs : Parts R I) → ArePartsWithin (total gs) ps → ArePartsWithin (total gs) qs → closed_parts gs ps ≡ closed_parts gs qs → ps ≡ qs
    parts_told none none v w e = refl
    parts_told (part r t ps) (part s x qs) v w e =
        let a : r ≡ s = same_role r s (closed_tree gs t) (closed_tree gs x) (closed_parts gs ps) (closed_parts gs qs) e in
        let b : t ≡ x = tree_told t x v.0 w.0 (same_tree r s (closed_tree gs t) (closed_tree gs x) (closed_parts gs ps) (closed_parts gs qs) e) in
        let c : ps ≡ qs = parts_told ps qs v.1 w.1 (same_rest r s (closed_tree gs t) (closed_tree gs x) (closed_parts gs ps) (closed_parts gs qs) e) in
        λ j. part (a j) (b j) (c j)
    parts_told none (part s x qs) v w e = cc
    parts_told (part r t ps) none v w e = cc

-- ## Renaming over one table

module _ {R S I J : Type 0} (n : ℕ) (f : R → S) (g : I → J) where
  renamed_head : (h : Head R I) → IsHeadWithin n h → IsHeadWithin n (rename_head f g h)
  renamed_head nothing w = tt
  renamed_head (primitive p) w = tt
  renamed_head (resource r s) w = tt
  renamed_head (defined i k) w = tt
  renamed_head (func i b) w = tt
  renamed_head (instance i owned) w = tt
  renamed_head (component i ins outs) w = tt
  renamed_head type_entity w = tt
  renamed_head (core_module i k) w = tt
  renamed_head (core_instance i k) w = tt
  renamed_head (core_type i) w = w
  renamed_head (core_item e) w = w

  mutual
    pub renamed_within : (t : Tree R I) → IsTreeWithin n t → IsTreeWithin n (rename f g t)
    renamed_within (node h ps) w = (renamed_head h w.0, renamed_parts ps w.1)

    pub renamed_parts : (ps : Parts R I) → ArePartsWithin n ps → ArePartsWithin n (rename_parts f g ps)
    renamed_parts none w = tt
    renamed_parts (part r t ps) w = (renamed_within t w.0, renamed_parts ps w.1)

pub over_one : {R S I J : Type 0} (gs : List Group) (s : Tree R I) (t : Tree S J) → UpToRenaming s t → UpToRenamingOver gs gs s t
over_one gs s t u = record {
  resource_to = u.resource_to;
  resource_back = u.resource_back;
  identity_to = u.identity_to;
  identity_back = u.identity_back;
  renamed = ap (closed_tree gs) u.renamed;
  one_to_one = u.one_to_one;
}

pub by_ids : {R S I J : Type 0} (gs : List Group) (s : Tree R I) (t : Tree S J) → IsTable gs → IsTreeWithin (total gs) s → IsTreeWithin (total gs) t → UpToRenamingOver gs gs s t → UpToRenaming s t
by_ids gs s t b v w u = record {
  resource_to = u.resource_to;
  resource_back = u.resource_back;
  identity_to = u.identity_to;
  identity_back = u.identity_back;
  renamed = tree_told gs b (rename u.resource_to u.identity_to s) t (renamed_within (total gs) u.resource_to u.identity_to s v) w u.renamed;
  one_to_one = u.one_to_one;
}
