-- What items hold, by their forms.
use Rattle.std.proofs.Common.{◌≡◌, map, rules}
use Rattle.std.specs.Prelude.{Vec}
use Rattle.std.specs.declared.alloc.Global.{Global}
use Rattle.wcv_syntax.specs.declared.core_section.CoreType.{CoreType}
use Rattle.wcv_syntax.specs.declared.core_section.Instance.{Instance}
use Rattle.wcv_syntax.specs.declared.core_section.ModuleDecl.{ModuleDecl}
use Rattle.wcv_syntax.specs.declared.instance.ComponentInstance.{ComponentInstance}
use Rattle.wcv_syntax.specs.declared.item.Section.{the_lemmas}
use Rattle.wcv_syntax.specs.declared.item.Section.TheVariants as section
use Rattle.wcv_syntax.specs.Model.{core_type_item, core_module_item, core_instance_item, instance_item}
use Rattle.wcv_syntax.specs.View.{code_decl_view, core_type_view, core_instance_view, instance_view, section_view}

pub section_view-CoreType : (t : CoreType) → section_view (section.CoreType t) ≡ core_type_item (core_type_view t)
section_view-CoreType t = search (rules, the_lemmas)

pub section_view-CoreModule : (ds : Vec ModuleDecl Global) → section_view (section.CoreModule ds) ≡ core_module_item (map code_decl_view ds.items)
section_view-CoreModule ds = search (rules, the_lemmas)

pub section_view-CoreInstance : (i : Instance) → section_view (section.CoreInstance i) ≡ core_instance_item (core_instance_view i)
section_view-CoreInstance i = search (rules, the_lemmas)

pub section_view-Instance : (i : ComponentInstance) → section_view (section.Instance i) ≡ instance_item (instance_view i)
section_view-Instance i = search (rules, the_lemmas)
