-- What matching by one pass asks of trees, as items make them.
use Rattle.std.specs.Prelude.{◌≡◌, ℕ, suc, max, List, Contains}
use Rattle.wcv_core.specs.Names.{Name}
use Rattle.wcv_core.specs.declared.core_types.EntityType.{EntityType}
use Rattle.wcv_types.specs.ByName.{NamesDiffer}
use Rattle.wcv_types.specs.Led.{HeadLed}
use Rattle.wcv_types.specs.Tree.{Text, Head, type_entity, node, Parts, none, part, first_part, rest_parts, sort}
use Rattle.wcv_types.specs.Unfold.{Type_tree}
use Rattle.wcv_closed.specs.CoreModules.{Module_items}
use Rattle.wcv_matching.specs.Matching.{named_exports_in, named_imports_in}
use Rattle.wcv_matching.specs.ModuleItems.{core_imports_in, core_exports_in}

-- ## Each node

-- P holds at each node inside the tree
abbrev mutual
  pub EachNode : (Head Name Name → Parts Name Name → Type 0) → Type_tree → Type 0
  EachNode P (node h ps) = P h ps × EachNodeIn P ps

  pub EachNodeIn : (Head Name Name → Parts Name Name → Type 0) → Parts Name Name → Type 0
  EachNodeIn P none = Unit {0}
  EachNodeIn P (part r t ps) = EachNode P t × EachNodeIn P ps

-- inside the tree, both types of a type entity are of one sort
abbrev pub EntitiesAlike : Type_tree → Type 0
EntitiesAlike t = EachNode (λ h ps. h ≡ type_entity → sort (first_part ps) ≡ sort (first_part (rest_parts ps))) t

-- ## Names

-- no two imports, and no two exports among the parts have one name
abbrev pub AreNamedApart : Parts Name Name → Type 0
AreNamedApart ps = NamesDiffer (named_imports_in ps) × NamesDiffer (named_exports_in ps)

-- so it is at each node inside the tree
abbrev pub AllNamesDiffer : Type_tree → Type 0
AllNamesDiffer t = EachNode (λ h ps. AreNamedApart ps) t

-- ## Paths

-- at each node inside the tree the resources that it owns are led to
abbrev pub AllPathsLead : Type_tree → Type 0
AllPathsLead t = EachNode HeadLed t

-- names differ in each list, and what is owned is led to
abbrev pub Orderly : Type_tree → Type 0
Orderly t = AllNamesDiffer t × AllPathsLead t

abbrev pub EachOrderly : List (Text × Type_tree) → Type 0
EachOrderly es = (n : Text) (x : Type_tree) → Contains es (n, x) → Orderly x

-- ## Core modules

-- what a node with these parts imports and exports as a core module
abbrev pub items_in : Parts Name Name → Module_items EntityType
items_in ps = record { imports = core_imports_in ps; exports = core_exports_in ps }

-- P holds of what each node inside the tree imports and exports so
abbrev pub EachModule : (Module_items EntityType → Type 0) → Type_tree → Type 0
EachModule P t = EachNode (λ h ps. P (items_in ps)) t

-- ## Heights

abbrev mutual
  pub height : Type_tree → ℕ
  height (node h ps) = suc (heights ps)

  pub heights : Parts Name Name → ℕ
  heights none = 0
  heights (part r t ps) = max (height t) (heights ps)
