use Rattle.std.proofs.Common.{◌≡◌, ◌≤◌, suc, length, map}
use Rattle.std.specs.Vec.Iter.{into_iter_items, into_iter_len}
use Rattle.wcv_syntax.specs.View.{decls_of, type_view, component_decl_view, instance_decl_view}
use Rattle.wcv_lower.specs.Context.{declares_instance, declares_component}
use Rattle.wcv_decls.specs.Declaring.{DeclaresInstance}
use Rattle.wcv_decls.proofs.FormSizes.{type_size, decl_size, decls_size}
use Rattle.wcv_decls.proofs.ReadingOn.{SoFar}
use Rattle.wcv_decls.proofs.declared.+declared.Given as goal

abbrev pub decreases-declare_type : goal.decreases-declare_type
decreases-declare_type l = type_size (type_view l.ty)

abbrev pub decreases-declare_component_type : goal.decreases-declare_component_type
decreases-declare_component_type l = suc (suc (decls_size (decls_of (map component_decl_view l.decls.items))))

abbrev pub decreases-declare_instance_type : goal.decreases-declare_instance_type
decreases-declare_instance_type l = suc (suc (decls_size (decls_of (map instance_decl_view l.decls.items))))

abbrev pub decreases-read_component_decls : goal.decreases-read_component_decls
decreases-read_component_decls l = suc (decls_size (decls_of (map component_decl_view l.decls.items)))

abbrev pub decreases-read_instance_decls : goal.decreases-read_instance_decls
decreases-read_instance_decls l = suc (decls_size (decls_of (map instance_decl_view l.decls.items)))

abbrev pub decreases-read_component_decl : goal.decreases-read_component_decl
decreases-read_component_decl l = decl_size (component_decl_view l.decl)

abbrev pub decreases-read_instance_decl : goal.decreases-read_instance_decl
decreases-read_instance_decl l = decl_size (instance_decl_view l.decl)

abbrev pub invariant-read_component_decls-loop-decl : goal.invariant-read_component_decls-loop-decl
invariant-read_component_decls-loop-decl l = record {
  far : SoFar declares_component l.initial.types l.initial.components.items (decls_of (map component_decl_view l.fn.decls.items)) l.types l.components.items (length l.yielded) (decls_of (map component_decl_view (into_iter_items l.decl-iterator)));
  left : into_iter_len l.decl-iterator ≡ length (into_iter_items l.decl-iterator);
  small : decls_size (decls_of (map component_decl_view (into_iter_items l.decl-iterator))) ≤ decls_size (decls_of (map component_decl_view l.fn.decls.items));
}

abbrev pub invariant-read_instance_decls-loop-decl : goal.invariant-read_instance_decls-loop-decl
invariant-read_instance_decls-loop-decl l = record {
  far : SoFar declares_instance l.initial.types l.initial.components.items (decls_of (map instance_decl_view l.fn.decls.items)) l.types l.components.items (length l.yielded) (decls_of (map instance_decl_view (into_iter_items l.decl-iterator)));
  declares : DeclaresInstance l.types l.components.items;
  left : into_iter_len l.decl-iterator ≡ length (into_iter_items l.decl-iterator);
  small : decls_size (decls_of (map instance_decl_view (into_iter_items l.decl-iterator))) ≤ decls_size (decls_of (map instance_decl_view l.fn.decls.items));
}
