-- What a map makes of nodes and of what no node is.
use Rattle.std.proofs.Common.{◌≡◌, ℕ, ◌<◌, List, [], ◌∷◌, ◌++◌, length, take, refl, sym, ◌∙◌, ap, subst, arith, Bool, true, false, not, ◌||◌, ◌&&◌, eqb, eq-eqb}
use Rattle.std.specs.Prelude.{Option, Some, None, option_map}
use Rattle.std.proofs.lemmas.List.{length-take-le}
use Rattle.std.proofs.lemmas.Option.{slice_get_within}
use Rattle.wcv_core.specs.Names.{Name, number, stamp}
use Rattle.wcv_core.specs.declared.core_types.EntityType.{EntityType}
use Rattle.wcv_core.specs.declared.primitive.PrimitiveValType.{PrimitiveValType}
use Rattle.wcv_types.proofs.Grown.{length-trees}
use Rattle.wcv_types.proofs.Unfolding.{tree_in-node}
use Rattle.wcv_types.specs.Arena.{Arena}
use Rattle.wcv_types.specs.Identity.{Identity, of_node, identity_at, same_known}
use Rattle.wcv_types.specs.Rebuild.{same_sort, refill, BecomesIn}
use Rattle.wcv_types.specs.Replacing.{Replacement, given_at, given_or, or_same, moved, moves, given_elsewhere, changed, changed_in, new_head, replaced, replaced_in}
use Rattle.wcv_types.specs.Standing.{Stands, identity_of}
use Rattle.wcv_types.specs.Tree.{Text, Head, nothing, primitive, resource, defined, func, instance, component, type_entity, core_module, core_instance, core_type, core_item, node, Parts, none, part, head}
use Rattle.wcv_types.specs.Unfold.{Type_tree, leaf, at, both, core, Slots, leaf_tree, reference, slot_parts, parts_in, core_import_slots, core_export_slots, module_slots, trees, tree_at}
use Rattle.wcv_types.specs.declared.arena.Node.TheVariants as n
use Rattle.wcv_types.specs.declared.ids.AliasableResourceId.{AliasableResourceId}
use Rattle.wcv_types.specs.declared.ids.ComponentCoreModuleTypeId.{ComponentCoreModuleTypeId}
use Rattle.wcv_types.specs.declared.ids.Part.{Part}
use Rattle.wcv_types.specs.declared.ids.Part.TheVariants as p
use Rattle.wcv_types.specs.declared.ids.ResourceId.{ResourceId}
use Rattle.wcv_remap.specs.Map.{same_part, is_type, or_else}
use Rattle.wcv_remap.specs.Remap.{Becomes, Each, any_other}
use Rattle.wcv_remap.proofs.Parts.{same_part-true}

-- ## Slots

leaf_changed : (m : Replacement) (o : Option PrimitiveValType) → changed m (leaf_tree o) ≡ false
leaf_changed m None = refl
leaf_changed m (Some q) = refl

module _ (m : Replacement) (a : Arena) where
  pub becomes_in : (qs tos : List Part) → Each (Becomes m a) qs tos → BecomesIn a m qs tos
  becomes_in [] [] e = tt
  becomes_in (q ∷ qs) (r ∷ rs) e = (e.0.tree, becomes_in qs rs e.1)
  becomes_in [] (r ∷ rs) e = absurd e
  becomes_in (q ∷ qs) [] e = absurd e

  or_two : (a b c : Bool) → ((a || (b || false)) || c) ≡ (a || (b || c))
  or_two true b c = refl
  or_two false true c = refl
  or_two false false c = refl

  -- some slot changes exactly where some part became another
  pub slots_changed : (ss : Slots) (qs : List Part) → Each (Becomes m a) (parts_in ss) qs → changed_in m (slot_parts (trees a.nodes) ss) ≡ any_other (parts_in ss) qs
  slots_changed [] [] e = refl
  slots_changed [] (q ∷ qs) e = absurd e
  slots_changed ((k, leaf o) ∷ ss) qs e = ap (λ (b : Bool). b || changed_in m (slot_parts (trees a.nodes) ss)) (leaf_changed m o) ∙ slots_changed ss qs e
  slots_changed ((k, core x) ∷ ss) qs e = slots_changed ss qs e
  slots_changed ((k, at r) ∷ ss) [] e = absurd e
  slots_changed ((k, at r) ∷ ss) (q ∷ qs) e =
      let x : changed m (tree_at a r) ≡ not (same_part r q) = e.0.another in
      let y : changed_in m (slot_parts (trees a.nodes) ss) ≡ any_other (parts_in ss) qs = slots_changed ss qs e.1 in
      λ j. x j || y j
  slots_changed ((k, both c r) ∷ ss) [] e = absurd e
  slots_changed ((k, both c r) ∷ ss) (d ∷ []) e = absurd e.1
  slots_changed ((k, both c r) ∷ ss) (d ∷ s ∷ qs) e =
      let x : changed m (tree_at a c) ≡ not (same_part c d) = e.0.another in
      let z : changed m (tree_at a r) ≡ not (same_part r s) = e.1.0.another in
      let y : changed_in m (slot_parts (trees a.nodes) ss) ≡ any_other (parts_in ss) qs = slots_changed ss qs e.1.1 in
      or_two (changed m (tree_at a c)) (changed m (tree_at a r)) (changed_in m (slot_parts (trees a.nodes) ss)) ∙ (λ j. x j || (z j || y j))

-- the list is the same where no part is another
pub none_other : (qs rs : List Part) → Each (λ q r. same_sort q r ≡ true) qs rs → any_other qs rs ≡ false → rs ≡ qs
none_other [] [] e h = refl
none_other [] (r ∷ rs) e h = absurd e
none_other (q ∷ qs) [] e h = absurd e
none_other (q ∷ qs) (r ∷ rs) e h =
    let x : q ≡ r = same_part-true q r (first (same_part q r) (any_other qs rs) h) in
    let y : rs ≡ qs = none_other qs rs e.1 (second (same_part q r) (any_other qs rs) h) in
    λ j. (sym x) j ∷ y j
  where
    first : (a b : Bool) → (not a || b) ≡ false → a ≡ true
    first a b h = grind arith

    second : (a b : Bool) → (not a || b) ≡ false → b ≡ false
    second a b h = grind arith

pub refill_same : (ss : Slots) → refill ss (parts_in ss) ≡ ss
refill_same [] = refl
refill_same ((k, leaf o) ∷ ss) = ap (λ (x : Slots). (k, leaf o) ∷ x) (refill_same ss)
refill_same ((k, core e) ∷ ss) = ap (λ (x : Slots). (k, core e) ∷ x) (refill_same ss)
refill_same ((k, at q) ∷ ss) = ap (λ (x : Slots). (k, at q) ∷ x) (refill_same ss)
refill_same ((k, both c r) ∷ ss) = ap (λ (x : Slots). (k, both c r) ∷ x) (refill_same ss)

-- ## Nodes

-- a node with an identity of its own
pub record NodeHead (m : Replacement) (i : Name) (h : Head Name Name) : Type 0 where
  pub stays : moves m h ≡ false
  pub new : new_head m false h ≡ h
  pub given : given_at m h ≡ m.nodes (of_node i)

node_head : (m : Replacement) (i : Name) (h : Head Name Name) → identity_at h ≡ Some (of_node i) → NodeHead m i h
node_head m i (defined j k) e = let f : j ≡ i = cc in record { stays = refl; new = refl; given = ap (λ (x : Name). m.nodes (of_node x)) f }
node_head m i (func j k) e = let f : j ≡ i = cc in record { stays = refl; new = refl; given = ap (λ (x : Name). m.nodes (of_node x)) f }
node_head m i (instance j k) e = let f : j ≡ i = cc in record { stays = refl; new = refl; given = ap (λ (x : Name). m.nodes (of_node x)) f }
node_head m i (component j k l) e = let f : j ≡ i = cc in record { stays = refl; new = refl; given = ap (λ (x : Name). m.nodes (of_node x)) f }
node_head m i (core_module j k) e = let f : j ≡ i = cc in record { stays = refl; new = refl; given = ap (λ (x : Name). m.nodes (of_node x)) f }
node_head m i (core_instance j k) e = let f : j ≡ i = cc in record { stays = refl; new = refl; given = ap (λ (x : Name). m.nodes (of_node x)) f }
node_head m i (resource r s) e = absurd (let f = e in cc)
node_head m i nothing e = absurd (let f = e in cc)
node_head m i (primitive q) e = absurd (let f = e in cc)
node_head m i type_entity e = absurd (let f = e in cc)
node_head m i (core_type k) e = absurd (let f = e in cc)
node_head m i (core_item x) e = absurd (let f = e in cc)

-- one that is not given changes where a part does
pub node_changed : (m : Replacement) (i : Name) (h : Head Name Name) (ps : Parts Name Name) → identity_at h ≡ Some (of_node i) → m.nodes (of_node i) ≡ None → changed m (node h ps) ≡ changed_in m ps
node_changed m i h ps e g =
    let w : NodeHead m i h = node_head m i h e in
    ap (λ (o : Option Type_tree). given_elsewhere o h (moves m h || changed_in m ps)) (w.given ∙ g) ∙ ap (λ (b : Bool). b || changed_in m ps) w.stays

-- and stays where none does
pub node_stays : (m : Replacement) (i : Name) (h : Head Name Name) (ps : Parts Name Name) → identity_at h ≡ Some (of_node i) → m.nodes (of_node i) ≡ None → changed_in m ps ≡ false → replaced_in m ps ≡ ps →
    replaced m (node h ps) ≡ node h ps
node_stays m i h ps e g c r =
    let w : NodeHead m i h = node_head m i h e in
    let b : (moves m h || changed_in m ps) ≡ false = ap (λ (b : Bool). b || changed_in m ps) w.stays ∙ c in
    ap (λ (o : Option Type_tree). given_or o (node (new_head m (moves m h || changed_in m ps) h) (replaced_in m ps))) (w.given ∙ g) ∙
    ap (λ (b : Bool). node (new_head m b h) (replaced_in m ps)) b ∙ ap (λ (x : Head Name Name). node x (replaced_in m ps)) w.new ∙ ap (λ (qs : Parts Name Name). node h qs) r

-- ## Core modules

abbrev pub IsCore : Slots → Type 0
IsCore [] = Unit {0}
IsCore ((k, core e) ∷ ss) = IsCore ss
IsCore ((k, leaf o) ∷ ss) = ⊥
IsCore ((k, at q) ∷ ss) = ⊥
IsCore ((k, both c r) ∷ ss) = ⊥

exports_core : (es : List (Text × EntityType)) → IsCore (core_export_slots es)
exports_core [] = tt
exports_core (e ∷ es) = exports_core es

module_core : (is : List ((Text × Text) × EntityType)) (es : List (Text × EntityType)) → IsCore (core_import_slots is ++ core_export_slots es)
module_core [] es = exports_core es
module_core (i ∷ is) es = module_core is es

core_replaced : (m : Replacement) (ts : List Type_tree) (ss : Slots) → IsCore ss → replaced_in m (slot_parts ts ss) ≡ slot_parts ts ss
core_replaced m ts [] h = refl
core_replaced m ts ((k, core e) ∷ ss) h = ap (λ (ps : Parts Name Name). part k (node (core_item e) none) ps) (core_replaced m ts ss h)
core_replaced m ts ((k, leaf o) ∷ ss) h = absurd h
core_replaced m ts ((k, at q) ∷ ss) h = absurd h
core_replaced m ts ((k, both c r) ∷ ss) h = absurd h

core_unchanged : (m : Replacement) (ts : List Type_tree) (ss : Slots) → IsCore ss → changed_in m (slot_parts ts ss) ≡ false
core_unchanged m ts [] h = refl
core_unchanged m ts ((k, core e) ∷ ss) h = core_unchanged m ts ss h
core_unchanged m ts ((k, leaf o) ∷ ss) h = absurd h
core_unchanged m ts ((k, at q) ∷ ss) h = absurd h
core_unchanged m ts ((k, both c r) ∷ ss) h = absurd h

-- the tree stays under the replacement
pub record Stays (m : Replacement) (t : Type_tree) : Type 0 where
  pub tree : t ≡ replaced m t
  pub unchanged : changed m t ≡ false

pub module_stays : (a : Arena) (m : Replacement) (i : ComponentCoreModuleTypeId) → Stands a (p.Module i) → m.nodes (of_node (number i.index)) ≡ None → Stays m (tree_at a (p.Module i))
module_stays a m i s g =
    let ts : List Type_tree = trees (take i.index a.nodes) in
    let w : i.index < length a.nodes = slice_get_within a.nodes i.index (n.Module s.0) s.1 in
    let l : length ts ≡ i.index = length-trees (take i.index a.nodes) ∙ length-take-le i.index a.nodes (omega (arith, w)) in
    let here : m.nodes (of_node (number (length ts))) ≡ None = ap (λ (k : ℕ). m.nodes (of_node (number k))) l ∙ g in
    let ss : Slots = module_slots s.0 in
    let h : Head Name Name = core_module (number (length ts)) s.0.info.size in
    let c : changed_in m (slot_parts ts ss) ≡ false = core_unchanged m ts ss (module_core s.0.imports s.0.exports) in
    let r : replaced_in m (slot_parts ts ss) ≡ slot_parts ts ss = core_replaced m ts ss (module_core s.0.imports s.0.exports) in
    subst (Stays m) (sym (tree_in-node a.nodes i.index (n.Module s.0) s.1)) (record {
      tree = sym (node_stays m (number (length ts)) h (slot_parts ts ss) refl here c r);
      unchanged = node_changed m (number (length ts)) h (slot_parts ts ss) refl here ∙ c;
    })

-- ## What the map says of it

pub same_identity-part : (q r : Part) → is_type q ≡ true → same_sort q r ≡ true → same_known (Some (identity_of q)) (Some (identity_of r)) ≡ same_part q r
same_identity-part (p.Resource q) (p.Resource r) t h = refl
same_identity-part (p.Defined i) (p.Defined j) t h = refl
same_identity-part (p.Func i) (p.Func j) t h = refl
same_identity-part (p.Instance i) (p.Instance j) t h = refl
same_identity-part (p.Component i) (p.Component j) t h = refl
same_identity-part (p.Module i) r t h = absurd (let e = t in cc)
same_identity-part (p.CoreInstance i) r t h = absurd (let e = t in cc)
same_identity-part (p.Core i) r t h = absurd (let e = t in cc)
same_identity-part _ _ t h = absurd (let e = h in cc)

pub given_becomes : (m : Replacement) (t u : Type_tree) (i : Identity) → identity_at (head t) ≡ Some i → m.nodes i ≡ Some u → (u ≡ replaced m t) × (changed m t ≡ not (same_known (Some i) (identity_at (head u))))
given_becomes m (node h ps) u i e g =
    let f : given_at m h ≡ Some u = ap (λ (o : Option Identity). given_if o) e ∙ g in (
      ap (λ (o : Option Type_tree). given_or o (node (new_head m (moves m h || changed_in m ps) h) (replaced_in m ps))) (sym f),
      ap (λ (o : Option Type_tree). given_elsewhere o h (moves m h || changed_in m ps)) f ∙ ap (λ (o : Option Identity). not (same_known o (identity_at (head u)))) e,
    )
  where
    given_if : Option Identity → Option Type_tree
    given_if o = elim o [ None ↦ None | Some i ↦ m.nodes i ]

-- a reference that no entry is of
abbrev pub reference_by : AliasableResourceId → Option ResourceId → AliasableResourceId
reference_by r o = record { resource = or_else o r.resource; stamp = r.stamp }

pub reference_becomes : (m : Replacement) (r : AliasableResourceId) (o : Option ResourceId) → m.nodes (identity_of (p.Resource r)) ≡ None → m.resources (number r.resource.index) ≡ option_map (λ (q : ResourceId). number q.index) o →
    (reference (reference_by r o) ≡ replaced m (reference r)) × (changed m (reference r) ≡ not (same_part (p.Resource r) (p.Resource (reference_by r o))))
reference_becomes m r o g e = (
  sym (ap (λ (x : Option Type_tree). given_or x (node (resource (or_same (number r.resource.index) (m.resources (number r.resource.index))) (stamp r.stamp)) none)) g ∙
      ap (λ (x : Option Name). node (resource (or_same (number r.resource.index) x) (stamp r.stamp)) none) e ∙ one o),
  ap (λ (x : Option Type_tree). given_elsewhere x (resource (number r.resource.index) (stamp r.stamp)) (moved (number r.resource.index) (m.resources (number r.resource.index)) || false)) g ∙
      ap (λ (x : Option Name). moved (number r.resource.index) x || false) e ∙ two o,
)
  where
    one : (o : Option ResourceId) → node (resource (or_same (number r.resource.index) (option_map (λ (q : ResourceId). number q.index) o)) (stamp r.stamp)) none ≡ reference (reference_by r o)
    one None = refl
    one (Some x) = refl

    or_false : (b c : Bool) → c ≡ true → (not b || false) ≡ not (b && c)
    or_false b c h = grind arith

    both_true : (b c : Bool) → b ≡ true → c ≡ true → false ≡ not (b && c)
    both_true b c h k = grind arith

    two : (o : Option ResourceId) → (moved (number r.resource.index) (option_map (λ (q : ResourceId). number q.index) o) || false) ≡ not (same_part (p.Resource r) (p.Resource (reference_by r o)))
    two None = both_true (eqb r.resource.index r.resource.index) (eqb r.stamp r.stamp) (eq-eqb r.resource.index r.resource.index refl) (eq-eqb r.stamp r.stamp refl)
    two (Some x) = or_false (eqb r.resource.index x.index) (eqb r.stamp r.stamp) (eq-eqb r.stamp r.stamp refl)
