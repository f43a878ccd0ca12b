use Rattle.std.proofs.Common.{◌≡◌, ◌++◌, drop, map}
use Rattle.serde_json.specs.Data.{array}
use Rattle.wcv_syntax.specs.View.{decls_of, component_decl_view, instance_decl_view}
use Rattle.wcv_write.specs.Json.{tokens_of, tokens_of_items}
use Rattle.wcv_write.specs.Types.{decl_items}
use Rattle.wcv_write.proofs.types.+types.Given as goal

abbrev pub invariant-write_component_decls-loop-decl : goal.invariant-write_component_decls-loop-decl
invariant-write_component_decls-loop-decl l =
    l.out ++ tokens_of_items (decl_items (decls_of (map component_decl_view (drop l.decl-index l.decl-items)))) ≡ l.fn.out ++ tokens_of (array (decl_items (decls_of (map component_decl_view l.decl-items))))

abbrev pub invariant-write_instance_decls-loop-decl : goal.invariant-write_instance_decls-loop-decl
invariant-write_instance_decls-loop-decl l =
    l.out ++ tokens_of_items (decl_items (decls_of (map instance_decl_view (drop l.decl-index l.decl-items)))) ≡ l.fn.out ++ tokens_of (array (decl_items (decls_of (map instance_decl_view l.decl-items))))
