-- The views of items, under names that a function's tactics can take.
use Rattle.std.proofs.Common.{◌≡◌, ℕ, map, rules}
use Rattle.std.specs.declared.alloc.Global.{Global}
use Rattle.std.specs.Prelude.{Vec}
use Rattle.wcv_syntax.specs.declared.canonical.CanonicalFunction.{CanonicalFunction}
use Rattle.wcv_syntax.specs.declared.component_type.ComponentType.{ComponentType}
use Rattle.wcv_syntax.specs.declared.core_section.CoreType.{CoreType}
use Rattle.wcv_syntax.specs.declared.core_section.Instance.{Instance}
use Rattle.wcv_syntax.specs.declared.core_section.ModuleDecl.{ModuleDecl}
use Rattle.wcv_syntax.specs.declared.instance.ComponentAlias.{ComponentAlias}
use Rattle.wcv_syntax.specs.declared.instance.ComponentInstance.{ComponentInstance}
use Rattle.wcv_syntax.specs.declared.item.Item.{Item, roll-Item}
use Rattle.wcv_syntax.specs.declared.item.Section.{Section, the_lemmas}
use Rattle.wcv_syntax.specs.declared.item.Section.TheVariants as section
use Rattle.wcv_syntax.specs.declared.name.ComponentExport.{ComponentExport}
use Rattle.wcv_syntax.specs.declared.name.ComponentImport.{ComponentImport}
use Rattle.wcv_syntax.specs.Model.{core_module_item, core_instance_item, core_type_item, component_item, instance_item, alias_item, type_item, canon_item, start_item, import_item, export_item}
use Rattle.wcv_syntax.specs.View.{code_decl_view, core_instance_view, core_type_view, items_of, instance_view, type_view, canon_view, item_view, section_view}
use Rattle.wcv_syntax.proofs.Views.{section_view-Ty, section_view-Import, section_view-Export, item_view-made}

pub core_module_made : (ds : Vec ModuleDecl Global) → section_view (section.CoreModule ds) ≡ core_module_item (map code_decl_view ds.items)
core_module_made ds = search (rules, the_lemmas)

pub core_instance_made : (i : Instance) → section_view (section.CoreInstance i) ≡ core_instance_item (core_instance_view i)
core_instance_made i = search (rules, the_lemmas)

pub core_type_made : (t : CoreType) → section_view (section.CoreType t) ≡ core_type_item (core_type_view t)
core_type_made t = search (rules, the_lemmas)

pub component_made : (is : Vec Item Global) (end : ℕ) → section_view (section.Component is end) ≡ component_item (items_of (map item_view is.items)) end
component_made is end = search (rules, the_lemmas)

pub instance_made : (i : ComponentInstance) → section_view (section.Instance i) ≡ instance_item (instance_view i)
instance_made i = search (rules, the_lemmas)

pub alias_made : (a : ComponentAlias) → section_view (section.Alias a) ≡ alias_item a
alias_made a = search (rules, the_lemmas)

pub type_made : (t : ComponentType) → section_view (section.Ty t) ≡ type_item (type_view t)
type_made = section_view-Ty

pub canon_made : (f : CanonicalFunction) → section_view (section.Canon f) ≡ canon_item (canon_view f)
canon_made f = search (rules, the_lemmas)

pub start_made : (f : ℕ) (args : Vec ℕ Global) (results : ℕ) → section_view (section.Start f args results) ≡ start_item f args.items results
start_made f args results = search (rules, the_lemmas)

pub import_made : (i : ComponentImport) → section_view (section.Import i) ≡ import_item i
import_made = section_view-Import

pub export_made : (e : ComponentExport) → section_view (section.Export e) ≡ export_item e
export_made = section_view-Export

pub item_made : (offset : ℕ) (s : Section) → item_view (roll-Item (record { offset = offset; section = s })) ≡ record { offset = offset; form = section_view s }
item_made = item_view-made
