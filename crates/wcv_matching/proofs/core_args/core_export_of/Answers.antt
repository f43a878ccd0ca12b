use Rattle.std.proofs.Common.{◌≡◌, ◌∙◌, [], List, Option, ap, bytes_eq}
use Rattle.std.specs.Map.{lookup}
use Rattle.std.specs.Option.{option_map_or}
use Rattle.wcv_core.specs.CoreGroups.{total}
use Rattle.wcv_core.specs.CoreSizes.{IsEntityWithin}
use Rattle.wcv_core.specs.declared.core_types.EntityType.{EntityType}
use Rattle.wcv_types.specs.Exported.{kind_exports, core_exports_of, module_exports_at, listed_at}
use Rattle.wcv_types.specs.Standing.{StandsBefore}
use Rattle.wcv_types.specs.Tree.{Text}
use Rattle.wcv_types.specs.Unfold.{rank, tree_at}
use Rattle.wcv_types.specs.declared.arena.Node.{Node}
use Rattle.wcv_types.specs.declared.arena.Node.TheVariants as n
use Rattle.wcv_types.specs.declared.ids.Part.TheVariants as p
use Rattle.wcv_matching.proofs.Found.{found_within}
use Rattle.wcv_matching.proofs.ModuleTrees.{module_part, module_seen, exports_listed, exports_of_module, listed_all, module_exports_all}
use Rattle.wcv_matching.proofs.core_args.core_export_of.Goals as goal

pub get-requires-in-Instantiated : goal.get-requires-in-Instantiated
get-requires-in-Instantiated c = (module_part (StandsBefore c.args.types.now (rank (p.CoreInstance c.args.id))) c.get.result.now c.in-Instantiated.module c.in-Instantiated.is c.get.ensures.before).stands

pub module_export_of-requires : goal.module_export_of-requires
module_export_of-requires c = (module_part (StandsBefore c.args.types.now (rank (p.CoreInstance c.args.id))) c.get.result.now c.in-Instantiated.module c.in-Instantiated.is c.get.ensures.before).stands

pub returns-in-Exports-clause-export : goal.returns-in-Exports-clause-export
returns-in-Exports-clause-export c =
    let listed : listed_at c.args.types.now c.args.id ≡ c.in-Exports.field-0 = ap (λ (o : Option Node). option_map_or core_exports_of o []) c.get.ensures.found ∙ ap kind_exports c.in-Exports.is in
    c.listed_export_of.ensures ∙ ap (λ (es : List (Text × EntityType)). lookup (bytes_eq c.args.name.now) es)
    (listed ∙ exports_listed c.args.types.now (tree_at c.args.types.now (p.CoreInstance c.args.id)) c.get.result.now (p.CoreInstance c.args.id) c.in-Exports.field-0 c.get.ensures.unfolds c.in-Exports.is)

pub returns-in-Exports-clause-within : goal.returns-in-Exports-clause-within
returns-in-Exports-clause-within c =
    let listed : listed_at c.args.types.now c.args.id ≡ c.in-Exports.field-0 = ap (λ (o : Option Node). option_map_or core_exports_of o []) c.get.ensures.found ∙ ap kind_exports c.in-Exports.is in
    found_within (IsEntityWithin (total c.args.types.now.core)) c.args.name.now c.in-Exports.field-0 _ (c.listed_export_of.ensures ∙ ap (λ (es : List (Text × EntityType)). lookup (bytes_eq c.args.name.now) es) listed)
    (listed_all (IsEntityWithin (total c.args.types.now.core)) c.get.result.now c.in-Exports.field-0 c.in-Exports.is (c.modules_within.ensures c.args.id.index (n.CoreInstance c.get.result.now) c.get.ensures.found))

pub returns-in-Instantiated-clause-export : goal.returns-in-Instantiated-clause-export
returns-in-Instantiated-clause-export c =
    let q = p.Module c.in-Instantiated.module in
    let s = c.get-in-Instantiated.result.now in
    let found : module_exports_at c.args.types.now c.in-Instantiated.module ≡ s.exports = ap (λ (o : Option Node). option_map_or core_exports_of o []) c.get-in-Instantiated.ensures.found in
    c.module_export_of.ensures ∙ ap (λ (es : List (Text × EntityType)). lookup (bytes_eq c.args.name.now) es)
    (found ∙ exports_of_module c.args.types.now (tree_at c.args.types.now (p.CoreInstance c.args.id)) c.get.result.now (p.CoreInstance c.args.id) c.in-Instantiated.module s c.get.ensures.unfolds
    c.in-Instantiated.is (module_seen c.args.types.now (tree_at c.args.types.now q) s q c.get-in-Instantiated.ensures.unfolds))

pub returns-in-Instantiated-clause-within : goal.returns-in-Instantiated-clause-within
returns-in-Instantiated-clause-within c =
    let s = c.get-in-Instantiated.result.now in
    let found : module_exports_at c.args.types.now c.in-Instantiated.module ≡ s.exports = ap (λ (o : Option Node). option_map_or core_exports_of o []) c.get-in-Instantiated.ensures.found in
    found_within (IsEntityWithin (total c.args.types.now.core)) c.args.name.now s.exports _ (c.module_export_of.ensures ∙ ap (λ (es : List (Text × EntityType)). lookup (bytes_eq c.args.name.now) es) found)
    (module_exports_all (IsEntityWithin (total c.args.types.now.core)) s.imports s.exports
    (c.modules_within.ensures c.in-Instantiated.module.index (n.Module s) c.get-in-Instantiated.ensures.found))
