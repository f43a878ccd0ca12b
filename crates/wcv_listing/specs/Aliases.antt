-- Sorts of items, and aliases.
use Rattle.std.specs.Prelude.{ℕ, List, [], ◌∷◌, if◌then◌else◌, Option, None, option_and_then, codes}
use Rattle.serde_json.specs.Data.{Data}
use Rattle.serde_json.specs.Find.{as_array, as_str, get}
use Rattle.wcv_syntax.specs.declared.core_section.ExternalKind.{ExternalKind}
use Rattle.wcv_syntax.specs.declared.core_section.ExternalKind.TheVariants as core_sort
use Rattle.wcv_syntax.specs.declared.instance.ComponentAlias.{ComponentAlias}
use Rattle.wcv_syntax.specs.declared.instance.ComponentAlias.TheVariants as alias
use Rattle.wcv_syntax.specs.declared.instance.ComponentExternalKind.{ComponentExternalKind}
use Rattle.wcv_syntax.specs.declared.instance.ComponentExternalKind.TheVariants as sort
use Rattle.wcv_syntax.specs.declared.instance.ComponentOuterAliasKind.{ComponentOuterAliasKind}
use Rattle.wcv_syntax.specs.declared.instance.ComponentOuterAliasKind.TheVariants as outer
use Rattle.wcv_syntax.specs.Model.{Text}
use Rattle.wcv_listing.specs.Fields.{both, named, has_only, index, triple_of}

-- ## Sorts

-- the sorts by their names
abbrev pub sort_names : List (List ℕ × ComponentExternalKind)
sort_names =
    (codes "module", sort.Module)
    ∷ (codes "func", sort.Func)
    ∷ (codes "value", sort.Value)
    ∷ (codes "type", sort.Ty)
    ∷ (codes "instance", sort.Instance)
    ∷ (codes "component", sort.Component) ∷ []

abbrev pub sort_of : Data → Option ComponentExternalKind
sort_of d = option_and_then (named sort_names) (as_str d)

-- the core sorts by their names
abbrev pub core_sort_names : List (List ℕ × ExternalKind)
core_sort_names =
    (codes "func", core_sort.Func) ∷ (codes "table", core_sort.Table) ∷ (codes "memory", core_sort.Memory) ∷ (codes "global", core_sort.Global) ∷ (codes "tag", core_sort.Tag) ∷ []

abbrev pub core_sort_of : Data → Option ExternalKind
core_sort_of d = option_and_then (named core_sort_names) (as_str d)

-- what may be aliased from further out, by its name
abbrev pub outer_names : List (List ℕ × ComponentOuterAliasKind)
outer_names = (codes "core-module", outer.CoreModule) ∷ (codes "core-type", outer.CoreType) ∷ (codes "type", outer.Ty) ∷ (codes "component", outer.Component) ∷ []

abbrev pub outer_of : Data → Option ComponentOuterAliasKind
outer_of d = option_and_then (named outer_names) (as_str d)

-- ## Aliases

-- [index, sort, name]
abbrev pub export_alias_of : Data → Option ComponentAlias
export_alias_of d =
    option_and_then (λ t. both (λ (k : ℕ) (item : ComponentExternalKind × Text). alias.InstanceExport item.0 k item.1) (index t.0) (both (λ kind name. (kind, name)) (sort_of t.1.0) (as_str t.1.1)))
    (option_and_then triple_of (as_array d))

-- [index, core sort, name]
abbrev pub core_export_alias_of : Data → Option ComponentAlias
core_export_alias_of d =
    option_and_then (λ t. both (λ (k : ℕ) (item : ExternalKind × Text). alias.CoreInstanceExport item.0 k item.1) (index t.0) (both (λ kind name. (kind, name)) (core_sort_of t.1.0) (as_str t.1.1)))
    (option_and_then triple_of (as_array d))

-- [what it is, count, index]
abbrev pub outer_alias_of : Data → Option ComponentAlias
outer_alias_of d =
    option_and_then (λ t. both (λ (kind : ComponentOuterAliasKind) (at : ℕ × ℕ). alias.Outer kind at.0 at.1) (outer_of t.0) (both (λ count k. (count, k)) (index t.1.0) (index t.1.1)))
    (option_and_then triple_of (as_array d))

-- the body of `alias`: {"export": [index, sort, name]}, {"core-export": [index, core sort, name]} or {"outer": [what it is, count, index]}
abbrev pub alias_of : Data → Option ComponentAlias
alias_of d =
    if has_only (codes "export" ∷ []) d then option_and_then export_alias_of (get (codes "export") d)
    else if has_only (codes "core-export" ∷ []) d then option_and_then core_export_alias_of (get (codes "core-export") d)
    else if has_only (codes "outer" ∷ []) d then option_and_then outer_alias_of (get (codes "outer") d)
    else None
