-- How many steps are left of a comparison, while it goes through lists, and how they add up to those of a type.
use Rattle.std.proofs.Common.{◌≡◌, ℕ, suc, ◌+◌, ◌≤◌, List, [], ◌∷◌, ◌++◌, drop, map, bytes_eq, Bool, true, false, cond, Option, None, Some, refl, sym, ◌∙◌, ap, subst, arith}
use Rattle.std.specs.Prelude.{slice_get}
use Rattle.std.specs.List.{AllByRecursion, IsDistinct}
use Rattle.std.specs.Map.{keys_of, lookup}
use Rattle.std.proofs.lemmas.Map.Keys.{IsDistinct-head, IsDistinct-tail}
use Rattle.wcv_closed.proofs.ModuleMatching.{one_text, same_text}
use Rattle.wcv_types.specs.Arena.{Arena}
use Rattle.wcv_types.specs.ByName.{NamesDiffer}
use Rattle.wcv_types.specs.Entities.{entity_tree}
use Rattle.wcv_types.specs.Standing.{AllFit}
use Rattle.wcv_types.specs.Tree.{Text, Extern_name, Role, import, export, head}
use Rattle.wcv_types.specs.Unfold.{Type_tree, Slots, entry_slots, resource_path, slot_parts, trees, unfolded}
use Rattle.wcv_types.specs.declared.arena.Node.TheVariants as n
use Rattle.wcv_types.specs.declared.component_type.ComponentType.{ComponentType}
use Rattle.wcv_types.specs.declared.core_shapes.ModuleType.{ModuleType}
use Rattle.wcv_types.specs.declared.ids.ResourceId.{ResourceId}
use Rattle.wcv_types.specs.declared.instance_type.ComponentInstanceType.{ComponentInstanceType}
use Rattle.wcv_types.specs.declared.item_map.ComponentItem.{ComponentItem}
use Rattle.wcv_matching.specs.NamedPaths.{entry}
use Rattle.wcv_matching.specs.OnePass.{imported_paths, made_paths}
use Rattle.wcv_atoms.specs.Extent.{entries_extent, extent, extents, found_extent, matched_extent, walk, walks}
use Rattle.wcv_atoms.specs.IdPasses.{named_trees}
use Rattle.wcv_atoms.proofs.PassSteps.{found_tree, tree_at_place}
use Rattle.wcv_atoms.proofs.Walking.{at_drop}

-- ## Entries

entry_parts_extent : (ts : List Type_tree) (role : Extern_name → Role) (es : List (Text × ComponentItem)) → extents (slot_parts ts (entry_slots role es)) ≡ entries_extent (named_trees ts es)
entry_parts_extent ts role [] = refl
entry_parts_extent ts role (e ∷ es) = ap (λ (k : ℕ). extent (entity_tree ts e.1.ty) + k) (entry_parts_extent ts role es)

slots_extent : (ts : List Type_tree) (ss rs : Slots) → extents (slot_parts ts (ss ++ rs)) ≡ extents (slot_parts ts ss) + extents (slot_parts ts rs)
slots_extent ts [] rs = omega arith
slots_extent ts (s ∷ ss) rs = let l = slots_extent ts ss rs in omega (arith, l)

pub instance_extent : (a : Arena) (i : ℕ) (s : ComponentInstanceType) (x : Type_tree) → x ≡ unfolded a i (n.Instance s) → extent x ≡ suc (entries_extent (named_trees (trees a.nodes) s.exports))
instance_extent a i s x e = ap extent e ∙ ap suc (entry_parts_extent (trees a.nodes) export s.exports)

pub component_extent : (a : Arena) (i : ℕ) (s : ComponentType) (x : Type_tree) → x ≡ unfolded a i (n.Component s) →
    extent x ≡ suc (walks (imported_paths (head x)) + walks (made_paths (head x)) + (entries_extent (named_trees (trees a.nodes) s.imports) + entries_extent (named_trees (trees a.nodes) s.exports)))
component_extent a i s x e =
    subst (λ (t : Type_tree). extent t ≡ suc (walks (imported_paths (head t)) + walks (made_paths (head t)) + (entries_extent (named_trees (trees a.nodes) s.imports) + entries_extent (named_trees (trees a.nodes) s.exports)))) (sym e)
    (ap (λ (k : ℕ). suc (walks (map resource_path s.imported_resources) + walks (map resource_path s.defined_resources) + k)) (slots_extent (trees a.nodes) (entry_slots import s.imports) (entry_slots export s.exports) ∙
    (λ j. entry_parts_extent (trees a.nodes) import s.imports j + entry_parts_extent (trees a.nodes) export s.exports j)))

pub imported_walks : (a : Arena) (i : ℕ) (s : ComponentType) (x : Type_tree) → x ≡ unfolded a i (n.Component s) → walks (imported_paths (head x)) ≡ walks (map resource_path s.imported_resources)
imported_walks a i s x e = ap (λ (t : Type_tree). walks (imported_paths (head t))) e

-- ## Core modules

pub module_extent : (a : Arena) (i : ℕ) (s : ModuleType) (x : Type_tree) → AllFit a → slice_get a.nodes i ≡ Some (n.Module s) → x ≡ unfolded a i (n.Module s) → 1 ≤ extent x
module_extent a i s x fit h e =
    let stated = (fit i (n.Module s) h).stated in
    subst (λ (t : Type_tree). 1 ≤ extent t) (sym e) (omega (arith, stated))

-- ## What is found by names

pub found_is : (ts : List Type_tree) (xs : List (Text × ComponentItem)) (t : Text) (x : ComponentItem) → lookup (bytes_eq t) xs ≡ Some x → found_extent (named_trees ts xs) t ≡ extent (entity_tree ts x.ty)
found_is ts xs t x h = ap (λ (o : Option Type_tree). elim o [ None ↦ 0 | Some y ↦ extent y ]) (found_tree ts xs t x h)

-- the k-th, and those behind it
pub entries_next : (ts : List Type_tree) (es : List (Text × ComponentItem)) (k : ℕ) (y : Text × ComponentItem) → slice_get es k ≡ Some y →
    entries_extent (drop k (named_trees ts es)) ≡ extent (entity_tree ts y.1.ty) + entries_extent (drop (k + 1) (named_trees ts es))
entries_next ts es k y h = ap entries_extent (at_drop (named_trees ts es) k (y.0, entity_tree ts y.1.ty) (tree_at_place ts es k y h))

pub matched_next : (ts : List Type_tree) (xs : List (Text × Type_tree)) (es : List (Text × ComponentItem)) (k : ℕ) (y : Text × ComponentItem) → slice_get es k ≡ Some y →
    matched_extent xs (drop k (named_trees ts es)) ≡ found_extent xs y.0 + matched_extent xs (drop (k + 1) (named_trees ts es))
matched_next ts xs es k y h = ap (matched_extent xs) (at_drop (named_trees ts es) k (y.0, entity_tree ts y.1.ty) (tree_at_place ts es k y h))

none_matched : (ys : List (Text × Type_tree)) → matched_extent [] ys ≡ 0
none_matched [] = refl
none_matched (y ∷ ys) = let l = none_matched ys in omega (arith, l)

apart_from : (n m u : Text) → bytes_eq n m ≡ true → bytes_eq n u ≡ false → bytes_eq u m ≡ false
apart_from n m u e h = go (bytes_eq u m) refl
  where
    go : (b : Bool) → bytes_eq u m ≡ b → b ≡ false
    go false k = refl
    go true k =
        let one : n ≡ u = same_text n m e ∙ sym (same_text u m k) in
        sym (one_text n u one) ∙ h

-- who finds none of that name finds in the rest
not_matched : (e : Text × Type_tree) (n : Text) (xs ys : List (Text × Type_tree)) → bytes_eq n e.0 ≡ true → AllByRecursion (λ (u : Text). bytes_eq n u ≡ false) (keys_of ys) → matched_extent (e ∷ xs) ys ≡ matched_extent xs ys
not_matched e n xs [] h k = refl
not_matched e n xs (y ∷ ys) h k =
    let f : found_extent (e ∷ xs) y.0 ≡ found_extent xs y.0 = ap (λ (b : Bool). elim (cond b (Some e.1) (entry y.0 xs)) [ None ↦ 0 | Some x ↦ extent x ]) (apart_from n e.0 y.0 h k.0) in
    λ j. f j + not_matched e n xs ys h k.1 j

-- one more is found once
one_matched : (e : Text × Type_tree) (xs ys : List (Text × Type_tree)) → NamesDiffer ys → matched_extent (e ∷ xs) ys ≤ extent e.1 + matched_extent xs ys
one_matched e xs [] d = omega arith
one_matched e xs (y ∷ ys) d = go (bytes_eq y.0 e.0) refl (one_matched e xs ys (IsDistinct-tail bytes_eq y.0 (keys_of ys) d))
  where
    go : (b : Bool) → bytes_eq y.0 e.0 ≡ b → matched_extent (e ∷ xs) ys ≤ extent e.1 + matched_extent xs ys → matched_extent (e ∷ xs) (y ∷ ys) ≤ extent e.1 + matched_extent xs (y ∷ ys)
    go true h r =
        let f : found_extent (e ∷ xs) y.0 ≡ extent e.1 = ap (λ (b : Bool). elim (cond b (Some e.1) (entry y.0 xs)) [ None ↦ 0 | Some x ↦ extent x ]) h in
        let q = not_matched e y.0 xs ys h (IsDistinct-head bytes_eq y.0 (keys_of ys) d) in
        omega (arith, f, q)
    go false h r =
        let f : found_extent (e ∷ xs) y.0 ≡ found_extent xs y.0 = ap (λ (b : Bool). elim (cond b (Some e.1) (entry y.0 xs)) [ None ↦ 0 | Some x ↦ extent x ]) h in
        omega (arith, f, r)

-- names that differ find no more than there is
all_matched : (xs ys : List (Text × Type_tree)) → NamesDiffer ys → matched_extent xs ys ≤ entries_extent xs
all_matched [] ys d = let l = none_matched ys in omega (arith, l)
all_matched (x ∷ xs) ys d =
    let l = one_matched x xs ys d in
    let r = all_matched xs ys d in
    omega (arith, l, r)

keys_are : (ts : List Type_tree) (es : List (Text × ComponentItem)) → keys_of (named_trees ts es) ≡ keys_of es
keys_are ts [] = refl
keys_are ts (e ∷ es) = ap (λ (ks : List Text). e.0 ∷ ks) (keys_are ts es)

pub matched_within : (ts : List Type_tree) (xs : List (Text × Type_tree)) (es : List (Text × ComponentItem)) → NamesDiffer es → matched_extent xs (named_trees ts es) ≤ entries_extent xs
matched_within ts xs es d = all_matched xs (named_trees ts es) (subst (λ (ks : List Text). IsDistinct bytes_eq ks) (sym (keys_are ts es)) d)

-- ## Paths

pub walks_next : (rs : List (ResourceId × List ℕ)) (k : ℕ) (r : ResourceId × List ℕ) → slice_get rs k ≡ Some r → walks (map resource_path (drop k rs)) ≡ walk r.1 + walks (map resource_path (drop (k + 1) rs))
walks_next rs k r h = ap (λ (qs : List (ResourceId × List ℕ)). walks (map resource_path qs)) (at_drop rs k r h)
