-- The primitive that a defined type names.
use Rattle.std.proofs.Common.{◌≡◌, refl}
use Rattle.wcv_core.specs.Names.{Name}
use Rattle.wcv_types.specs.Tree.{defined, node, Parts}
use Rattle.wcv_types.specs.Unfold.{former_of}
use Rattle.wcv_types.specs.declared.shapes.ComponentDefinedType.{ComponentDefinedType}
use Rattle.wcv_types.specs.declared.shapes.ComponentDefinedType.TheVariants as d
use Rattle.wcv_lower.specs.Trees.{primitive_of}
use Rattle.wcv_decls.specs.Resolved.{shape_primitive}

pub primitive_shape : (s : ComponentDefinedType) (i : Name) (ps : Parts Name Name) → primitive_of (node (defined i (former_of s)) ps) ≡ shape_primitive s
primitive_shape (d.Primitive q) i ps = refl
primitive_shape x i ps = refl
