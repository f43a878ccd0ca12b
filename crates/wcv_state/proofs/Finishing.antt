-- What is finished is the type at the end of the state's context.
use Rattle.std.proofs.Common.{◌≡◌, suc, List, map, sym, ◌∙◌, ap, subst, cond, false, Some, None}
use Rattle.std.specs.Prelude.{ℕ, All}
use Rattle.std.specs.Option.{option_map}
use Rattle.wcv_core.specs.Names.{Name}
use Rattle.wcv_core.specs.Refusal.{error_kind}
use Rattle.wcv_core.specs.declared.error.Error.{Error}
use Rattle.wcv_types.specs.Arena.{Arena}
use Rattle.wcv_types.specs.ByName.{NamesDiffer}
use Rattle.wcv_types.specs.ComponentTrees.{resource_path, ResourceStands}
use Rattle.wcv_types.specs.Entities.{entry_trees, EntryStands}
use Rattle.wcv_types.specs.Measure.{sizes, depths}
use Rattle.wcv_types.specs.Tree.{component_type, Parts, none, entries, import, export}
use Rattle.wcv_types.specs.Unfold.{trees}
use Rattle.wcv_types.specs.declared.component_type.ComponentType.{ComponentType}
use Rattle.wcv_types.specs.declared.ids.ResourceId.{ResourceId}
use Rattle.wcv_types.specs.declared.info.TypeInfo.{TypeInfo}
use Rattle.wcv_lower.specs.Checks.{Checks, is_none}
use Rattle.wcv_lower.specs.Context.{importing, exporting}
use Rattle.wcv_lower.specs.Ending.{kept, component_of, end_checks}
use Rattle.wcv_lower.specs.Trees.{Entries, Tree_context, tree_reader, node_tree}
use Rattle.wcv_lower.proofs.Causes.{cause_left, cause_right}
use Rattle.wcv_spaces.specs.Contents.{Contents, Listed, context_of, defined_resource, LeadsToImport, side_parts, StateStands}
use Rattle.wcv_state.specs.Inside.{contents_of, AllNamesAgree}
use Rattle.wcv_state.specs.declared.state.ComponentState.TheInside.{Inside}
use Rattle.wcv_resources.specs.Ending.{import_checks, kept_checks, Ended, IsTypeOf}
use Rattle.wcv_spaces.specs.Promises.{MemoryOrCausedBy, Finished}
use Rattle.wcv_spaces.proofs.Calls.{caused_more}
use Rattle.wcv_resources.proofs.KeptPaths.{Defined, Kept, paths_lead}

module _ (a : Arena) (s : Contents) where
  abbrev c : Tree_context
  c = context_of a s

  abbrev side_trees : Listed → Entries
  side_trees es = entry_trees (trees a.nodes) es

  pub finish_is : (ty : ComponentType) (ps : Kept) → StateStands a s → NamesDiffer s.imports × NamesDiffer s.exports → Ended a s ps → IsTypeOf s ps ty → Finished a s ty
  finish_is ty ps h d e t =
      let all_kept : kept tree_reader (map defined_resource s.defined_resources) (side_trees s.exports) ≡ Some (map resource_path ty.defined_resources) = e.kept ∙ ap (λ (qs : Kept). Some (map resource_path qs)) (sym t.defined) in
      let parts : side_parts (trees a.nodes) s ≡ entries import (side_trees ty.imports) (entries export (side_trees ty.exports) none) =
      λ j. entries import (side_trees (sym t.imports j)) (entries export (side_trees (sym t.exports j)) none) in
      record {
        info = t.info;
        size = λ i. ap (λ (x : TypeInfo). x.size) t.info ∙ h.sized.size ∙ ap (λ (ps : Parts Name Name). suc (sizes ps)) parts;
        depth = λ i. ap (λ (x : TypeInfo). x.depth) t.info ∙ h.sized.depth ∙ ap (λ (ps : Parts Name Name). suc (depths ps)) parts;
        imports = t.imports;
        exports = t.exports;
        tree = λ i.
            (λ j. option_map (node_tree i) (cond (e.free j) None (option_map (component_of c) (all_kept j)))) ∙
            (λ j. Some (component_type i (map resource_path (sym t.imported j)) (map resource_path ty.defined_resources) (side_trees (sym t.imports j)) (side_trees (sym t.exports j))));
        free = (e.free, (ap is_none all_kept, tt));
        stands = record {
          imports = subst (All (EntryStands a)) (sym t.imports) (h.side importing);
          exports = subst (All (EntryStands a)) (sym t.exports) (h.side exporting);
          imported = subst (All (λ (p : ResourceId × List ℕ). ResourceStands a p.0)) (sym t.imported) h.imported;
          defined = subst (All (λ (p : ResourceId × List ℕ). ResourceStands a p.0)) (sym t.defined) e.stand;
        };
        lead = record {
          imported = subst (λ (es : Listed). All (LeadsToImport a es) ty.imported_resources) (sym t.imports) (subst (All (LeadsToImport a s.imports)) (sym t.imported) h.lead);
          defined = paths_lead (map defined_resource s.defined_resources) (side_trees ty.exports) ty.defined_resources
              (ap (λ (es : Listed). kept tree_reader (map defined_resource s.defined_resources) (side_trees es)) t.exports ∙ all_kept);
        };
        apart = (subst (λ (es : Listed). NamesDiffer es) (sym t.imports) d.0, subst (λ (es : Listed). NamesDiffer es) (sym t.exports) d.1);
      }

  -- ## Causes

  pub import_caused : {M : Type 0} (ds : Defined) (es : Listed) (offset : ℕ) (e : Error M) → ds ≡ s.defined_resources → es ≡ s.imports → MemoryOrCausedBy (import_checks ds (side_trees es)) offset e → MemoryOrCausedBy (end_checks (context_of a s)) offset e
  import_caused ds es offset e d i w =
      let cs : Checks = import_checks s.defined_resources (side_trees s.imports) in
      let ks : Checks = kept_checks s.defined_resources (side_trees s.exports) in
      let same : import_checks ds (side_trees es) ≡ cs = λ j. import_checks (d j) (side_trees (i j)) in
      caused_more cs (end_checks (context_of a s)) offset e (λ q. cause_left cs ks (error_kind e) q) (subst (λ (cs : Checks). MemoryOrCausedBy cs offset e) same w)

  pub export_caused : {M : Type 0} (ds : Defined) (es : Listed) (offset : ℕ) (e : Error M) → ds ≡ s.defined_resources → es ≡ s.exports → MemoryOrCausedBy (kept_checks ds (side_trees es)) offset e → MemoryOrCausedBy (end_checks (context_of a s)) offset e
  export_caused ds es offset e d i w =
      let cs : Checks = import_checks s.defined_resources (side_trees s.imports) in
      let ks : Checks = kept_checks s.defined_resources (side_trees s.exports) in
      let same : kept_checks ds (side_trees es) ≡ ks = λ j. kept_checks (d j) (side_trees (i j)) in
      caused_more ks (end_checks (context_of a s)) offset e (λ q. cause_right cs ks (error_kind e) q) (subst (λ (cs : Checks). MemoryOrCausedBy cs offset e) same w)

-- of a state that is not spent the names differ
pub names_apart : (i : Inside) (s : Contents) → contents_of i ≡ s → (i.spent ≡ false → AllNamesAgree i) → s.spent ≡ false → NamesDiffer s.imports × NamesDiffer s.exports
names_apart i s e agree live =
    let all : AllNamesAgree i = agree (ap (λ (x : Contents). x.spent) e ∙ live) in
    subst (λ (x : Contents). NamesDiffer x.imports × NamesDiffer x.exports) e (all.imports.apart, all.exports.apart)
