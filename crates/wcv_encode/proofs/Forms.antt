-- The forms of items that are built from parts.
use Rattle.std.proofs.Common.{◌≡◌, ℕ, ◌+◌, ◌<◌, ◌≤◌, List, [], ◌∷◌, Some, None, length, get_or, drop, map, ap, sym, ◌∙◌, rules}
use Rattle.std.proofs.lemmas.List.{at_drop_more, at_drop_all}
use Rattle.std.specs.Prelude.{Vec}
use Rattle.std.specs.declared.alloc.Global.{Global}
use Rattle.wcv_syntax.specs.declared.canonical.CanonicalFunction.{CanonicalFunction}
use Rattle.wcv_syntax.specs.declared.component_type.ComponentType.{ComponentType}
use Rattle.wcv_syntax.specs.declared.core_section.CoreType.{CoreType}
use Rattle.wcv_syntax.specs.declared.core_section.Instance.{Instance}
use Rattle.wcv_syntax.specs.declared.core_section.ModuleDecl.{ModuleDecl}
use Rattle.wcv_syntax.specs.declared.instance.ComponentAlias.{ComponentAlias}
use Rattle.wcv_syntax.specs.declared.instance.ComponentInstance.{ComponentInstance}
use Rattle.wcv_syntax.specs.declared.item.Item.{Item, the_lemmas as item_lemmas}
use Rattle.wcv_syntax.specs.declared.item.Section.{the_lemmas}
use Rattle.wcv_syntax.specs.declared.item.Section.TheVariants as section
use Rattle.wcv_syntax.specs.declared.name.ComponentExport.{ComponentExport}
use Rattle.wcv_syntax.specs.declared.name.ComponentImport.{ComponentImport}
use Rattle.wcv_syntax.specs.Model.{core_type_item, core_module_item, core_instance_item, type_item, import_item, export_item, component_item, instance_item, alias_item, start_item, canon_item}
use Rattle.wcv_syntax.specs.View.{code_decl_view, core_type_view, core_instance_view, type_view, instance_view, canon_view, section_view, item_view, items_view}
use Rattle.wcv_encode.specs.Bytes.{◌⧺◌, byte, u32_bytes, vec, section as section_bytes}
use Rattle.wcv_encode.specs.Canons.{canon_bytes}
use Rattle.wcv_encode.specs.Entries.{core_instance_bytes, import_bytes, export_bytes, alias_bytes, instance_bytes}
use Rattle.wcv_encode.specs.Modules.{core_type_bytes, module_bytes}
use Rattle.wcv_encode.specs.Spelling.{component_header, form_id, one_of, contents, entry_bytes, items_bytes}
use Rattle.wcv_encode.specs.Types.{type_bytes}

pub view_core_module : (ds : Vec ModuleDecl Global) → section_view (section.CoreModule ds) ≡ core_module_item (map code_decl_view ds.items)
view_core_module ds = search (rules, the_lemmas)

pub view_core_instance : (i : Instance) → section_view (section.CoreInstance i) ≡ core_instance_item (core_instance_view i)
view_core_instance i = search (rules, the_lemmas)

pub view_core_type : (t : CoreType) → section_view (section.CoreType t) ≡ core_type_item (core_type_view t)
view_core_type t = search (rules, the_lemmas)

pub view_component : (is : Vec Item Global) (end : ℕ) → section_view (section.Component is end) ≡ component_item (items_view is.items) end
view_component is end = search (rules, the_lemmas)

pub view_instance : (i : ComponentInstance) → section_view (section.Instance i) ≡ instance_item (instance_view i)
view_instance i = search (rules, the_lemmas)

pub view_alias : (a : ComponentAlias) → section_view (section.Alias a) ≡ alias_item a
view_alias a = search (rules, the_lemmas)

pub view_type : (t : ComponentType) → section_view (section.Ty t) ≡ type_item (type_view t)
view_type t = search (rules, the_lemmas)

pub view_canon : (f : CanonicalFunction) → section_view (section.Canon f) ≡ canon_item (canon_view f)
view_canon f = search (rules, the_lemmas)

pub view_start : (f : ℕ) (args : Vec ℕ Global) (results : ℕ) → section_view (section.Start f args results) ≡ start_item f args.items results
view_start f args results = search (rules, the_lemmas)

pub view_import : (i : ComponentImport) → section_view (section.Import i) ≡ import_item i
view_import i = search (rules, the_lemmas)

pub view_export : (e : ComponentExport) → section_view (section.Export e) ≡ export_item e
view_export e = search (rules, the_lemmas)

-- ## Ids

pub id_core_module : (ds : Vec ModuleDecl Global) → form_id (section_view (section.CoreModule ds)) ≡ 1
id_core_module ds = ap form_id (view_core_module ds)

pub id_core_instance : (i : Instance) → form_id (section_view (section.CoreInstance i)) ≡ 2
id_core_instance i = ap form_id (view_core_instance i)

pub id_core_type : (t : CoreType) → form_id (section_view (section.CoreType t)) ≡ 3
id_core_type t = ap form_id (view_core_type t)

pub id_component : (is : Vec Item Global) (end : ℕ) → form_id (section_view (section.Component is end)) ≡ 4
id_component is end = ap form_id (view_component is end)

pub id_instance : (i : ComponentInstance) → form_id (section_view (section.Instance i)) ≡ 5
id_instance i = ap form_id (view_instance i)

pub id_alias : (a : ComponentAlias) → form_id (section_view (section.Alias a)) ≡ 6
id_alias a = ap form_id (view_alias a)

pub id_type : (t : ComponentType) → form_id (section_view (section.Ty t)) ≡ 7
id_type t = ap form_id (view_type t)

pub id_canon : (f : CanonicalFunction) → form_id (section_view (section.Canon f)) ≡ 8
id_canon f = ap form_id (view_canon f)

pub id_start : (f : ℕ) (args : Vec ℕ Global) (results : ℕ) → form_id (section_view (section.Start f args results)) ≡ 9
id_start f args results = ap form_id (view_start f args results)

pub id_import : (i : ComponentImport) → form_id (section_view (section.Import i)) ≡ 10
id_import i = ap form_id (view_import i)

pub id_export : (e : ComponentExport) → form_id (section_view (section.Export e)) ≡ 11
id_export e = ap form_id (view_export e)

pub ruleset form_ids = (id_core_module, id_core_instance, id_core_type, id_component, id_instance, id_alias, id_type, id_canon, id_start, id_import, id_export)

-- ## One of a list

pub one_core_instance : (i : Instance) → one_of (section_view (section.CoreInstance i)) ≡ core_instance_bytes (core_instance_view i)
unfolding one_of
one_core_instance i = ap one_of (view_core_instance i)

pub one_core_type : (t : CoreType) → one_of (section_view (section.CoreType t)) ≡ core_type_bytes (core_type_view t)
unfolding one_of
one_core_type t = ap one_of (view_core_type t)

pub one_instance : (i : ComponentInstance) → one_of (section_view (section.Instance i)) ≡ instance_bytes (instance_view i)
unfolding one_of
one_instance i = ap one_of (view_instance i)

pub one_alias : (a : ComponentAlias) → one_of (section_view (section.Alias a)) ≡ alias_bytes a
unfolding one_of
one_alias a = ap one_of (view_alias a)

pub one_type : (t : ComponentType) → one_of (section_view (section.Ty t)) ≡ type_bytes (type_view t)
unfolding one_of
one_type t = ap one_of (view_type t)

pub one_canon : (f : CanonicalFunction) → one_of (section_view (section.Canon f)) ≡ canon_bytes (canon_view f)
unfolding one_of
one_canon f = ap one_of (view_canon f)

pub one_import : (i : ComponentImport) → one_of (section_view (section.Import i)) ≡ import_bytes i
unfolding one_of
one_import i = ap one_of (view_import i)

pub one_export : (e : ComponentExport) → one_of (section_view (section.Export e)) ≡ export_bytes e
unfolding one_of
one_export e = ap one_of (view_export e)

pub none_core_module : (ds : Vec ModuleDecl Global) → one_of (section_view (section.CoreModule ds)) ≡ None
unfolding one_of
none_core_module ds = ap one_of (view_core_module ds)

pub none_component : (is : Vec Item Global) (end : ℕ) → one_of (section_view (section.Component is end)) ≡ None
unfolding one_of
none_component is end = ap one_of (view_component is end)

pub none_start : (f : ℕ) (args : Vec ℕ Global) (results : ℕ) → one_of (section_view (section.Start f args results)) ≡ None
unfolding one_of
none_start f args results = ap one_of (view_start f args results)

pub ruleset ones = (none_core_module, none_component, none_start, one_core_instance, one_core_type, one_instance, one_alias, one_type, one_canon, one_import, one_export)

-- ## Contents

pub contents_core_instance : (i : Instance) → contents (section_view (section.CoreInstance i)) ≡ byte 1 ⧺ one_of (section_view (section.CoreInstance i))
unfolding contents
contents_core_instance i = ap contents (view_core_instance i) ∙ ap (λ b. byte 1 ⧺ one_of b) (sym (view_core_instance i))

pub contents_core_type : (t : CoreType) → contents (section_view (section.CoreType t)) ≡ byte 1 ⧺ one_of (section_view (section.CoreType t))
unfolding contents
contents_core_type t = ap contents (view_core_type t) ∙ ap (λ b. byte 1 ⧺ one_of b) (sym (view_core_type t))

pub contents_instance : (i : ComponentInstance) → contents (section_view (section.Instance i)) ≡ byte 1 ⧺ one_of (section_view (section.Instance i))
unfolding contents
contents_instance i = ap contents (view_instance i) ∙ ap (λ b. byte 1 ⧺ one_of b) (sym (view_instance i))

pub contents_alias : (a : ComponentAlias) → contents (section_view (section.Alias a)) ≡ byte 1 ⧺ one_of (section_view (section.Alias a))
unfolding contents
contents_alias a = ap contents (view_alias a) ∙ ap (λ b. byte 1 ⧺ one_of b) (sym (view_alias a))

pub contents_type : (t : ComponentType) → contents (section_view (section.Ty t)) ≡ byte 1 ⧺ one_of (section_view (section.Ty t))
unfolding contents
contents_type t = ap contents (view_type t) ∙ ap (λ b. byte 1 ⧺ one_of b) (sym (view_type t))

pub contents_canon : (f : CanonicalFunction) → contents (section_view (section.Canon f)) ≡ byte 1 ⧺ one_of (section_view (section.Canon f))
unfolding contents
contents_canon f = ap contents (view_canon f) ∙ ap (λ b. byte 1 ⧺ one_of b) (sym (view_canon f))

pub contents_import : (i : ComponentImport) → contents (section_view (section.Import i)) ≡ byte 1 ⧺ one_of (section_view (section.Import i))
unfolding contents
contents_import i = ap contents (view_import i) ∙ ap (λ b. byte 1 ⧺ one_of b) (sym (view_import i))

pub contents_export : (e : ComponentExport) → contents (section_view (section.Export e)) ≡ byte 1 ⧺ one_of (section_view (section.Export e))
unfolding contents
contents_export e = ap contents (view_export e) ∙ ap (λ b. byte 1 ⧺ one_of b) (sym (view_export e))

pub contents_core_module : (ds : Vec ModuleDecl Global) → contents (section_view (section.CoreModule ds)) ≡ module_bytes (map code_decl_view ds.items)
unfolding contents
contents_core_module ds = ap contents (view_core_module ds)

pub contents_component : (is : Vec Item Global) (end : ℕ) → contents (section_view (section.Component is end)) ≡ component_header ⧺ items_bytes (items_view is.items)
unfolding contents
contents_component is end = ap contents (view_component is end)

pub contents_start : (f : ℕ) (args : Vec ℕ Global) (results : ℕ) → contents (section_view (section.Start f args results)) ≡ u32_bytes f ⧺ vec u32_bytes args.items ⧺ u32_bytes results
unfolding contents
contents_start f args results = ap contents (view_start f args results)

pub ruleset forms = (contents_core_module, contents_core_instance, contents_core_type, contents_component, contents_instance, contents_alias, contents_type, contents_canon, contents_start, contents_import, contents_export)

-- ## Items

item_form : (i : Item) → item_view i ≡ record { offset = i.offset; form = section_view i.section }
item_form i = search (rules, item_lemmas)

pub entry_of_item : (i : Item) → entry_bytes (item_view i) ≡ section_bytes (form_id (section_view i.section)) (contents (section_view i.section))
entry_of_item i = ap entry_bytes (item_form i)

pub items_drop : (is : List Item) (i : ℕ) (x : Item) → i < length is → x ≡ get_or is i x → items_bytes (items_view (drop i is)) ≡ entry_bytes (item_view x) ⧺ items_bytes (items_view (drop (i + 1) is))
unfolding items_bytes
items_drop is i x h e =
    at_drop_more (λ xs. items_bytes (items_view xs)) is i x h ∙ ap (λ y. items_bytes (items_view (y ∷ drop (i + 1) is))) (sym e)

pub items_end : (is : List Item) (i : ℕ) → length is ≤ i → items_bytes (items_view (drop i is)) ≡ Some []
unfolding items_bytes
items_end is i h = at_drop_all (λ xs. items_bytes (items_view xs)) is i h
