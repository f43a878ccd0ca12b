-- A comparison goes into at most as many nodes of a type as its size says, beside the paths of own resources.
use Rattle.std.proofs.Common.{◌≡◌, ◌+◌, ◌≤◌, refl, arith}
use Rattle.wcv_core.specs.Names.{Name}
use Rattle.wcv_types.specs.Measure.{size, sizes}
use Rattle.wcv_types.specs.Tree.{Former, own_of, Head, nothing, primitive, resource, defined, func, instance, component, type_entity, core_module, core_instance, core_type, core_item, node, Parts, none, part, first_part, rest_parts}
use Rattle.wcv_types.specs.Unfold.{Type_tree}
use Rattle.wcv_matching.specs.Orderly.{EachNodeIn}
use Rattle.wcv_atoms.specs.Extent.{all_paths, extent, extents, paths_extent, EntitiesOfOneSize}

abbrev Alike : Head Name Name → Parts Name Name → Type 0
Alike h ps = h ≡ type_entity → size (first_part ps) ≡ size (first_part (rest_parts ps))

formed_within : (i : Name) (k : Former) (ps : Parts Name Name) → extents ps ≤ sizes ps + all_paths ps → extent (node (defined i k) ps) ≤ size (node (defined i k) ps) + paths_extent (node (defined i k) ps)
formed_within i own_of ps l = omega arith
formed_within i _ ps l = omega arith

mutual
  pub extent_within : (t : Type_tree) → EntitiesOfOneSize t → extent t ≤ size t + paths_extent t
  extent_within (node type_entity none) h = omega arith
  extent_within (node type_entity (part r t none)) h = omega arith
  extent_within (node type_entity (part r t (part q u ps))) h = let l = extent_within u h.1.1.0 in omega (arith, l, h.0 refl)
  extent_within (node (defined i k) ps) h = formed_within i k ps (extents_within ps h.1)
  extent_within (node nothing ps) h = omega arith
  extent_within (node (core_module i k) ps) h = omega arith
  extent_within (node (core_instance i k) ps) h = omega arith
  extent_within (node (component i ins outs) ps) h = let l = extents_within ps h.1 in omega (arith, l)
  extent_within (node (primitive q) ps) h = let l = extents_within ps h.1 in omega (arith, l)
  extent_within (node (resource r s) ps) h = let l = extents_within ps h.1 in omega (arith, l)
  extent_within (node (func i b) ps) h = let l = extents_within ps h.1 in omega (arith, l)
  extent_within (node (instance i rs) ps) h = let l = extents_within ps h.1 in omega (arith, l)
  extent_within (node (core_type i) ps) h = let l = extents_within ps h.1 in omega (arith, l)
  extent_within (node (core_item e) ps) h = let l = extents_within ps h.1 in omega (arith, l)

  extents_within : (ps : Parts Name Name) → EachNodeIn Alike ps → extents ps ≤ sizes ps + all_paths ps
  extents_within none h = omega arith
  extents_within (part r t ps) h =
      let l = extent_within t h.0 in
      let m = extents_within ps h.1 in
      omega (arith, l, m)
