-- What the steps of items bring: one line for each family of forms.
use Rattle.std.proofs.Common.{zero, refl}
use Rattle.wcv_core.specs.Names.{Name, Place}
use Rattle.wcv_core.specs.declared.features.WasmFeatures.{WasmFeatures}
use Rattle.wcv_syntax.specs.Model.{Form, core_type_item, core_module_item, core_instance_item, type_item, import_item, export_item, component_item, instance_item, alias_item, start_item, canon_item}
use Rattle.wcv_types.specs.Tree.{Parts}
use Rattle.wcv_types.specs.Unfold.{Type_tree}
use Rattle.wcv_lower.specs.Growth.{step}
use Rattle.wcv_lower.specs.Names.{Names, Origin}
use Rattle.wcv_lower.specs.Owned.{AllEntries, Everywhere}
use Rattle.wcv_lower.specs.Trees.{Tree_stack, tree_maker}
use Rattle.wcv_lower.proofs.StartsBring.{starts_bring}
use Rattle.wcv_lower.proofs.Bringing.{OfAny, AllBring, types_bring, imports_bring, exports_bring, core_types_bring, core_modules_bring, core_instances_bring}
use Rattle.wcv_lower.proofs.BroughtByAliases.{aliases_bring}
use Rattle.wcv_lower.proofs.CanonsBring.{canons_bring}
use Rattle.wcv_lower.proofs.InstancesBring.{Keeps, instances_bring, keeps_by}
use Rattle.wcv_lower.proofs.Owning.{Inherited, KeptWhereGiven}

module _ {P : Type_tree → Type 0} {In : Parts Name Name → Type 0} (law : Inherited P In) (New : Name → Type 0) (names : Names) (p : Place) (fresh : (o : Origin) → New (names.resource o)) (s : Tree_stack) (all : Everywhere P s) where
  abbrev top : AllEntries P s.top
  top = all zero s.top refl

  -- what is kept of the exports of a component, where the item opens one
  abbrev pub ItemKeeps : Form → Type 0
  ItemKeeps (instance_item i) = Keeps law New names p fresh s top i
  ItemKeeps f = Unit {0}

  pub items_bring : (fs : WasmFeatures) (f : Form) → ItemKeeps f → OfAny (AllBring P New) (step fs (tree_maker names p) s f)
  items_bring fs (type_item t) keep = types_bring law New s.top top names p fresh t
  items_bring fs (import_item i) keep = imports_bring law New s.top top names p fresh i
  items_bring fs (export_item e) keep = exports_bring law New s.top top names p fresh e
  items_bring fs (core_type_item t) keep = core_types_bring law New fs names p fresh s top t
  items_bring fs (core_module_item ds) keep = core_modules_bring law New fs names p fresh s top ds
  items_bring fs (core_instance_item i) keep = core_instances_bring law New names p s top i
  items_bring fs (component_item is n) keep = tt
  items_bring fs (instance_item i) keep = instances_bring law New names p fresh s top i keep
  items_bring fs (alias_item a) keep = aliases_bring law New s all a
  items_bring fs (start_item f args n) keep = starts_bring law New s.top top f args
  items_bring fs (canon_item c) keep = canons_bring law New s top c

  kept_item : KeptWhereGiven P → (f : Form) → ItemKeeps f
  kept_item kept (instance_item i) = keeps_by law New names p fresh s top kept i
  kept_item kept f = tt

  -- where trees keep it in which nodes are given that have it
  pub items_bring_given : KeptWhereGiven P → (fs : WasmFeatures) (f : Form) → OfAny (AllBring P New) (step fs (tree_maker names p) s f)
  items_bring_given kept fs f = items_bring fs f (kept_item kept f)
