-- What is read of an instance type, and the node that is pushed for an instance of it.
use Rattle.std.proofs.Common.{◌≡◌, ℕ, suc, ◌<◌, ◌≤◌, List, [], ◌∷◌, length, refl, sym, ◌∙◌, ap, subst, arith, eqb, Some, All, length-append}
use Rattle.std.specs.Prelude.{Contains, slice_get}
use Rattle.std.specs.List.{IsDistinct}
use Rattle.std.specs.Map.{keys_of}
use Rattle.std.proofs.Math.Nat.{max-le}
use Rattle.std.proofs.lemmas.Bool.{ne_eqb}
use Rattle.std.proofs.lemmas.List.Elements.{All-nil, All-cons, All-head, All-tail, All-append, All-contains, All-weaker}
use Rattle.wcv_core.specs.Names.{Name, number}
use Rattle.wcv_types.proofs.Gathered.{refs_all}
use Rattle.wcv_types.proofs.Grown.{extends_push, length-trees}
use Rattle.wcv_types.proofs.Knowing.{refs_stand}
use Rattle.wcv_types.proofs.Unfolding.{all_left, all_right, head_in}
use Rattle.wcv_types.specs.Arena.{Arena}
use Rattle.wcv_types.specs.ByName.{NamesDiffer}
use Rattle.wcv_types.specs.Entities.{entity_slot, entity_tree, entry_name, entry_trees, EntryStands}
use Rattle.wcv_walks.specs.ExplicitPaths.{explicit_paths}
use Rattle.wcv_types.specs.FirstPath.{first_path}
use Rattle.wcv_types.specs.Led.{HasPath, Led}
use Rattle.wcv_types.specs.Sets.{same_resource}
use Rattle.wcv_types.specs.Standing.{Extends, Stands, StandsBefore, Unfolds, with_node}
use Rattle.wcv_types.specs.Tree.{Head, instance, instance_type, node, Parts, none, part, entries, export}
use Rattle.wcv_types.specs.Unfold.{Type_tree, Slots, entry_slots, head_of, parts_in, rank, resource_names, slot_parts, slot_refs, slots_if, tree_at, tree_of, trees, unfolded}
use Rattle.wcv_types.specs.declared.arena.Node.TheVariants as n
use Rattle.wcv_types.specs.declared.ids.ComponentInstanceTypeId.{ComponentInstanceTypeId}
use Rattle.wcv_types.specs.declared.ids.Part.{Part}
use Rattle.wcv_types.specs.declared.ids.Part.TheVariants as p
use Rattle.wcv_types.specs.declared.ids.ResourceId.{ResourceId}
use Rattle.wcv_types.specs.declared.instance_type.ComponentInstanceType.{ComponentInstanceType}
use Rattle.wcv_lower.specs.Trees.{Entries}
use Rattle.wcv_remap.specs.Entities.{top_rank}
use Rattle.wcv_instantiate.proofs.MadeAnew.{exports_read}
use Rattle.wcv_instantiate.proofs.ExportsAnew.{Item}
use Rattle.wcv_instantiate.proofs.NewResources.{With_path, all_found, first_found, keys_pathed, names_pathed, pathed}
use Rattle.wcv_instantiate.specs.Opening.{Items, Paths, InstancePushed, IsOpened, entry_rank, is_empty, names_of_resources, owns_none}
use Rattle.wcv_instantiate.specs.declared.instances.Opened.{Opened}

-- ## Entries

parts_are : (ts : List Type_tree) (es : Items) → slot_parts ts (entry_slots export es) ≡ entries export (entry_trees ts es) none
parts_are ts [] = refl
parts_are ts (e ∷ es) = ap (λ (ps : Parts Name Name). part (export (entry_name e)) (entity_tree ts e.1.ty) ps) (parts_are ts es)

pub entries_stand : (a : Arena) (bound : ℕ) (es : Items) → All (StandsBefore a bound) (parts_in (entry_slots export es)) → All (EntryStands a) es
entries_stand a bound [] h = All-nil (EntryStands a)
entries_stand a bound (e ∷ es) h =
    All-cons (EntryStands a) e es
    (refs_stand a (entity_slot e.1.ty) (All-weaker (StandsBefore a bound) (Stands a) (λ q w. w.stands) (slot_refs (entity_slot e.1.ty)) (all_left (StandsBefore a bound) (slot_refs (entity_slot e.1.ty)) (parts_in (entry_slots export es)) h)))
    (entries_stand a bound es (all_right (StandsBefore a bound) (slot_refs (entity_slot e.1.ty)) (parts_in (entry_slots export es)) h))

pub entries_parts : (a : Arena) (es : Items) → All (EntryStands a) es → All (Stands a) (parts_in (entry_slots export es))
entries_parts a [] h = All-nil (Stands a)
entries_parts a (e ∷ es) h =
    All-append (Stands a) (slot_refs (entity_slot e.1.ty)) (parts_in (entry_slots export es)) (refs_all a (entity_slot e.1.ty) (All-head (EntryStands a) e es h)) (entries_parts a es (All-tail (EntryStands a) e es h))

refs_before : (a : Arena) (k : ℕ) (qs : List Part) → All (StandsBefore a (suc k)) qs → top_rank qs ≤ k
refs_before a k [] h = omega arith
refs_before a k (q ∷ qs) h =
    let b : rank q < suc k = (All-head (StandsBefore a (suc k)) q qs h).before in
    max-le (omega (arith, b)) (refs_before a k qs (All-tail (StandsBefore a (suc k)) q qs h))

pub entries_before : (a : Arena) (k : ℕ) (es : Items) → All (StandsBefore a (suc k)) (parts_in (entry_slots export es)) → All (λ (e : Item). entry_rank e < suc k) es
entries_before a k [] h = All-nil (λ (e : Item). entry_rank e < suc k)
entries_before a k (e ∷ es) h =
    let b : entry_rank e ≤ k = refs_before a k (slot_refs (entity_slot e.1.ty)) (all_left (StandsBefore a (suc k)) (slot_refs (entity_slot e.1.ty)) (parts_in (entry_slots export es)) h) in
    All-cons (λ (e : Item). entry_rank e < suc k) e es (omega (arith, b)) (entries_before a k es (all_right (StandsBefore a (suc k)) (slot_refs (entity_slot e.1.ty)) (parts_in (entry_slots export es)) h))

-- ## What is read

pub read_stand : (a : Arena) (i : ComponentInstanceTypeId) (s : ComponentInstanceType) → slice_get a.nodes i.index ≡ Some (n.Instance s) → Unfolds a (p.Instance i) → All (EntryStands a) s.exports
read_stand a i s g u = entries_stand a (suc i.index) s.exports (subst (λ (ss : Slots). All (StandsBefore a (suc i.index)) (parts_in ss)) (ap slots_if g) u.before)

pub opened_is : (a : Arena) (i : ComponentInstanceTypeId) (s : ComponentInstanceType) (o : Opened) → slice_get a.nodes i.index ≡ Some (n.Instance s) → Unfolds a (p.Instance i) → Led (tree_at a (p.Instance i)) → IsDistinct same_resource s.defined_resources →
    o.owned ≡ explicit_paths s.defined_resources (entry_trees (trees a.nodes) s.exports) → o.exports ≡ s.exports → NamesDiffer s.exports → IsOpened a i o
opened_is a i s o g u l d w x apart =
    let ts : List Type_tree = trees a.nodes in
    let es : Entries = entry_trees ts s.exports in
    let slots : slots_if (slice_get a.nodes i.index) ≡ entry_slots export s.exports = ap slots_if g in
    let here : tree_at a (p.Instance i) ≡ instance_type (number i.index) (resource_names s.defined_resources) es =
    u.tree ∙ ap (λ (h : Head Name Name). node h (slot_parts ts (slots_if (slice_get a.nodes i.index)))) (head_in a.nodes i.index (n.Instance s) g) ∙
    ap (λ (ss : Slots). node (head_of i.index (n.Instance s)) (slot_parts ts ss)) slots ∙ ap (λ (ps : Parts Name Name). node (head_of i.index (n.Instance s)) ps) (parts_are ts s.exports) in
    let paths : All (HasPath es) (resource_names s.defined_resources) = subst (λ (xs : Entries). All (HasPath xs) (resource_names s.defined_resources)) (exports_read es) (subst Led here l) in
    let is : o.owned ≡ pathed es s.defined_resources = w ∙ all_found es s.defined_resources paths in
    let names : names_of_resources o.owned ≡ resource_names s.defined_resources = ap names_of_resources is ∙ names_pathed es s.defined_resources in
    let before : All (StandsBefore a (suc i.index)) (parts_in (entry_slots export s.exports)) = subst (λ (ss : Slots). All (StandsBefore a (suc i.index)) (parts_in ss)) slots u.before in
    record {
      tree = here ∙ (λ z. instance_type (number i.index) (sym names z) (entry_trees ts (sym x z)));
      stand = subst (λ (xs : Items). All (EntryStands a) xs) (sym x) (entries_stand a (suc i.index) s.exports before);
      apart = subst (λ (xs : Items). NamesDiffer xs) (sym x) apart;
      before = λ e c. All-contains (λ (e : Item). entry_rank e < suc i.index) s.exports e (entries_before a i.index s.exports before) (subst (λ (xs : Items). Contains xs e) x c);
      distinct = subst (λ (ks : List ResourceId). IsDistinct same_resource ks) (sym (ap (λ (xs : Paths). keys_of xs) is ∙ keys_pathed es s.defined_resources)) d;
      first = subst (λ (q : Items). All (λ (e : With_path). first_path (number e.0.index) (entry_trees ts q) ≡ Some e.1) o.owned) (sym x)
          (subst (λ (q : Paths). All (λ (e : With_path). first_path (number e.0.index) es ≡ Some e.1) q) (sym is) (first_found es s.defined_resources paths));
    }

length_empty : (rs : List ResourceId) → eqb (length rs) 0 ≡ is_empty (resource_names rs)
length_empty [] = refl
length_empty (r ∷ rs) = ne_eqb (length (r ∷ rs)) 0 (λ e. omega (arith, e))

pub closed_is : (a : Arena) (i : ComponentInstanceTypeId) (s : ComponentInstanceType) → tree_at a (p.Instance i) ≡ unfolded a i.index (n.Instance s) → eqb (length s.defined_resources) 0 ≡ owns_none (tree_at a (p.Instance i))
closed_is a i s e = length_empty s.defined_resources ∙ ap owns_none (sym e)

-- ## The new node

pub instance_pushed : (a b : Arena) (s : ComponentInstanceType) (es : Items) (i : ComponentInstanceTypeId) → b ≡ with_node a (n.Instance s) → suc i.index ≡ suc (length a.nodes) → Stands b (p.Instance i) → tree_at b (p.Instance i) ≡ tree_of (trees a.nodes) (n.Instance s) →
    s.defined_resources ≡ [] → s.exports ≡ es → InstancePushed a b es i
instance_pushed a b s es i e l st t rs xs = record {
  grown = subst (λ (c : Arena). Extends a c) (sym e) (extends_push a (n.Instance s));
  last = omega (arith, l);
  nodes = ap (λ (c : Arena). length c.nodes) e ∙ length-append a.nodes (n.Instance s ∷ []) ∙ omega arith;
  resources = ap (λ (c : Arena). c.resources) e;
  core = ap (λ (c : Arena). c.core) e;
  stands = st;
  tree = t ∙ ap (λ (k : ℕ). node (instance (number k) (resource_names s.defined_resources)) (slot_parts (trees a.nodes) (entry_slots export s.exports))) (length-trees a.nodes) ∙
      (λ z. node (instance (number (length a.nodes)) (resource_names (rs z))) (slot_parts (trees a.nodes) (entry_slots export (xs z)))) ∙ ap (λ (ps : Parts Name Name). node (instance (number (length a.nodes)) []) ps) (parts_are (trees a.nodes) es);
}
