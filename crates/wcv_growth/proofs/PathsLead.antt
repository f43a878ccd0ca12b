-- In the type at an end each recorded path leads to its resource.
use Rattle.std.proofs.Common.{◌≡◌, ℕ, List, ◌++◌, Bool, true, false, cond, sym, ◌∙◌, ap, subst, append-nil, None, Some}
use Rattle.std.specs.Prelude.{All}
use Rattle.std.specs.Option.{option_map}
use Rattle.wcv_core.specs.Names.{Name}
use Rattle.wcv_core.specs.declared.features.WasmFeatures.{WasmFeatures}
use Rattle.wcv_syntax.specs.Model.{Items}
use Rattle.wcv_types.specs.Paths.{PathLeadsTo}
use Rattle.wcv_types.specs.Tree.{import, export, none, entries, exports_in, imports_in, component_type}
use Rattle.wcv_lower.specs.Context.{importing, exporting}
use Rattle.wcv_lower.specs.Ending.{any_free, kept, component_of, type_at_end}
use Rattle.wcv_lower.specs.Trees.{Type_tree, Entries, Tree_context, Tree_stack, tree_reader, node_tree}
use Rattle.wcv_growth.proofs.Closed.{all-exports, exports-behind}
use Rattle.wcv_growth.proofs.Ended.{imports-before, no-imports, root_behind}
use Rattle.wcv_growth.proofs.Growing.{Leads}
use Rattle.wcv_growth.proofs.Kept.{kept-leads}
use Rattle.wcv_growth.proofs.Known.{mapped-some}
use Rattle.wcv_growth.specs.Listed.{EachPathLeads}
use Rattle.wcv_growth.specs.Valid.{ValidTo}

abbrev AllLead : List (Name × List ℕ) → Entries → Type 0
AllLead ps es = All (λ (x : Name × List ℕ). PathLeadsTo x.1 x.0 es) ps

module _ (i : Name) (c : Tree_context) (leads : Leads c) where
  abbrev ins : Entries
  ins = c.side importing

  abbrev outs : Entries
  outs = c.side exporting

  kept-lead : (ks : List (Name × List ℕ)) → kept tree_reader c.defined outs ≡ Some ks → EachPathLeads (component_type i c.imported ks ins outs)
  kept-lead ks e =
      let in_imports : imports_in (entries import ins (entries export outs none)) ≡ ins = imports-before ins (entries export outs none) ∙ ap (λ (xs : Entries). ins ++ xs) (no-imports outs) ∙ append-nil ins in
      let in_exports : exports_in (entries import ins (entries export outs none)) ≡ outs = exports-behind ins (entries export outs none) ∙ all-exports outs in
      record { imported = subst (AllLead c.imported) (sym in_imports) leads; defined = subst (AllLead ks) (sym in_exports) (kept-leads outs c.defined ks e) }

  pub paths_lead : (t : Type_tree) → type_at_end (node_tree i) c ≡ Some t → EachPathLeads t
  paths_lead t e = go (any_free tree_reader c.defined ins) e
    where
      go : (b : Bool) → option_map (node_tree i) (cond b None (option_map (component_of c) (kept tree_reader c.defined outs))) ≡ Some t → EachPathLeads t
      go true w = cc
      go false w =
          let n = mapped-some (node_tree i) (option_map (component_of c) (kept tree_reader c.defined outs)) t w in
          let m = mapped-some (component_of c) (kept tree_reader c.defined outs) n.0 n.1 in
          subst EachPathLeads (ap (node_tree i) m.2 ∙ n.2) (kept-lead m.0 m.1)

-- so of a valid root
pub root_lead : (fs : WasmFeatures) (is : Items) (s : Tree_stack) (i : Name) (t : Type_tree) → ValidTo fs is s → type_at_end (node_tree i) s.top ≡ Some t → EachPathLeads t
root_lead fs is s i t v e = paths_lead i s.top (root_behind fs is s v.0).settles.leads t e
