-- Sorts of items, and aliases.
use Rattle.std.specs.Prelude.{codes}
use Rattle.serde_json.specs.Data.{Data, string}
use Rattle.wcv_syntax.specs.Model.{Text}
use Rattle.wcv_syntax.specs.declared.core_section.ExternalKind.{ExternalKind}
use Rattle.wcv_syntax.specs.declared.core_section.ExternalKind.TheVariants as core_sort
use Rattle.wcv_syntax.specs.declared.instance.ComponentAlias.{ComponentAlias}
use Rattle.wcv_syntax.specs.declared.instance.ComponentAlias.TheVariants as alias
use Rattle.wcv_syntax.specs.declared.instance.ComponentExternalKind.{ComponentExternalKind}
use Rattle.wcv_syntax.specs.declared.instance.ComponentExternalKind.TheVariants as sort
use Rattle.wcv_syntax.specs.declared.instance.ComponentOuterAliasKind.{ComponentOuterAliasKind}
use Rattle.wcv_syntax.specs.declared.instance.ComponentOuterAliasKind.TheVariants as outer
use Rattle.wcv_write.specs.Indices.{Indexing}
use Rattle.wcv_write.specs.Json.{count, triple, under}
use Rattle.wcv_write.specs.declared.indices.Space.{Space}
use Rattle.wcv_write.specs.declared.indices.Space.TheVariants as space

-- ## Sorts

abbrev pub sort_name : ComponentExternalKind → Text
sort_name sort.Module = codes "module"
sort_name sort.Func = codes "func"
sort_name sort.Value = codes "value"
sort_name sort.Ty = codes "type"
sort_name sort.Instance = codes "instance"
sort_name sort.Component = codes "component"

-- where an item of the sort has its index
abbrev pub sort_space : ComponentExternalKind → Space
sort_space sort.Module = space.CoreModule
sort_space sort.Func = space.Func
sort_space sort.Value = space.Value
sort_space sort.Ty = space.Ty
sort_space sort.Instance = space.Instance
sort_space sort.Component = space.Component

abbrev pub core_sort_name : ExternalKind → Text
core_sort_name core_sort.Func = codes "func"
core_sort_name core_sort.Table = codes "table"
core_sort_name core_sort.Memory = codes "memory"
core_sort_name core_sort.Global = codes "global"
core_sort_name core_sort.Tag = codes "tag"

-- where a core item of the sort has its index
abbrev pub core_sort_space : ExternalKind → Space
core_sort_space core_sort.Func = space.CoreFunc
core_sort_space core_sort.Table = space.CoreTable
core_sort_space core_sort.Memory = space.CoreMemory
core_sort_space core_sort.Global = space.CoreGlobal
core_sort_space core_sort.Tag = space.CoreTag

-- what may be aliased from further out
abbrev pub outer_name : ComponentOuterAliasKind → Text
outer_name outer.CoreModule = codes "core-module"
outer_name outer.CoreType = codes "core-type"
outer_name outer.Ty = codes "type"
outer_name outer.Component = codes "component"

-- ## Aliases

-- {"export": [index, sort, name]}, {"core-export": [index, core sort, name]} or {"outer": [what it is, count, index]}, whose index counts further out and is always a number
unfoldable pub alias_data : Indexing → ComponentAlias → Data
alias_data ix (alias.InstanceExport kind k name) = under (codes "export") (triple (ix space.Instance k) (string (sort_name kind)) (string name))
alias_data ix (alias.CoreInstanceExport kind k name) = under (codes "core-export") (triple (ix space.CoreInstance k) (string (core_sort_name kind)) (string name))
alias_data ix (alias.Outer kind steps k) = under (codes "outer") (triple (string (outer_name kind)) (count steps) (count k))
