-- The node of an instance type, made of what its state had at the end.
use Rattle.std.proofs.Common.{◌≡◌, ℕ, List, [], ◌∷◌, length, map, refl, sym, ◌∙◌, ap, subst, cond, Some, None, All, inl, inr}
use Rattle.std.specs.Prelude.{Option}
use Rattle.std.specs.Option.{option_map}
use Rattle.std.proofs.lemmas.List.Elements.{All-map, All-nil, All-cons, All-head, All-tail}
use Rattle.wcv_core.specs.Names.{Name, number}
use Rattle.wcv_core.specs.Refusal.{error_kind}
use Rattle.wcv_core.specs.declared.core_types.ValType.{ValType}
use Rattle.wcv_core.specs.declared.error.Error.{Error}
use Rattle.wcv_core.specs.declared.error.ErrorKind.TheVariants as kind
use Rattle.wcv_types.specs.Arena.{Arena}
use Rattle.wcv_types.specs.ComponentTrees.{resource_path, component_tree, ResourceStands}
use Rattle.wcv_types.specs.Entities.{entry_trees}
use Rattle.wcv_types.specs.Led.{HasPath}
use Rattle.wcv_types.specs.Sets.{resource_names}
use Rattle.wcv_types.specs.Standing.{GaveResource}
use Rattle.wcv_types.specs.Tree.{Text, component, instance, node, Parts, none, export, entries, firsts, exports_in}
use Rattle.wcv_types.specs.Unfold.{Type_tree, tree_of, trees, entry_slots, slot_parts}
use Rattle.wcv_types.specs.declared.arena.Node.TheVariants as n
use Rattle.wcv_types.specs.declared.component_type.ComponentType.{ComponentType}
use Rattle.wcv_types.specs.declared.ids.ResourceId.{ResourceId}
use Rattle.wcv_types.specs.declared.instance_type.ComponentInstanceType.{ComponentInstanceType}
use Rattle.wcv_types.specs.declared.item_map.ComponentItem.{ComponentItem}
use Rattle.wcv_types.proofs.EntryParts.{entry_parts, exports_in-exports}
use Rattle.wcv_types.proofs.Grown.{length-trees}
use Rattle.wcv_lower.specs.Context.{exporting}
use Rattle.wcv_lower.specs.Ending.{end_checks, component_of, component_made, instance_made}
use Rattle.wcv_lower.specs.Trees.{Entries, Tree_context, node_tree}
use Rattle.wcv_spaces.specs.Contents.{Contents, context_of}
use Rattle.wcv_spaces.specs.Promises.{Finished, MemoryOrCausedBy}
use Rattle.wcv_decls.specs.Declaring.{IsInstanceBody}
use Rattle.wcv_decls.proofs.InstanceEnds.{resources_kept, not_imported, no_end_cause}

-- the paths of the resources that a component defines
abbrev outs_of : Type_tree → List (Name × List ℕ)
outs_of (node (component i ins outs) ps) = outs
outs_of t = []

named_firsts : (rs : List (ResourceId × List ℕ)) → resource_names (firsts rs) ≡ firsts (map resource_path rs)
named_firsts [] = refl
named_firsts (r ∷ rs) = ap (λ (xs : List Name). number r.0.index ∷ xs) (named_firsts rs)

module _ (a : Arena) (s : Contents) (ty : ComponentType) (f : Finished a s ty) (body : IsInstanceBody (context_of a s)) where
  abbrev paths : List (Name × List ℕ)
  paths = (resources_kept (context_of a s) body).paths

  made : component_made (context_of a s) ≡ Some (component_of (context_of a s) paths)
  made = λ j. cond (not_imported (context_of a s) body j) None (option_map (component_of (context_of a s)) ((resources_kept (context_of a s) body).kept j))

  kept_same : map resource_path ty.defined_resources ≡ paths
  kept_same =
      let same : Some (node_tree (number 0) (component_of (context_of a s) paths)) ≡ Some (component_tree (trees a.nodes) (number 0) ty) = sym (ap (option_map (node_tree (number 0))) made) ∙ f.tree (number 0) in
      let trees_same : node_tree (number 0) (component_of (context_of a s) paths) ≡ component_tree (trees a.nodes) (number 0) ty = cc in
      sym (ap outs_of trees_same)

  pub names_same : resource_names (firsts ty.defined_resources) ≡ map (λ d. d.0) (context_of a s).defined
  names_same = named_firsts ty.defined_resources ∙ ap firsts kept_same ∙ (resources_kept (context_of a s) body).firsts

  exports_same : entry_trees (trees a.nodes) ty.exports ≡ (context_of a s).side exporting
  exports_same = ap (entry_trees (trees a.nodes)) f.exports

  -- each is led to
  pub owned_led : All (HasPath (entry_trees (trees a.nodes) ty.exports)) (resource_names (firsts ty.defined_resources))
  owned_led =
      subst (All (HasPath (entry_trees (trees a.nodes) ty.exports))) (sym names_same)
      (subst (λ (es : Entries). All (HasPath es) (map (λ d. d.0) (context_of a s).defined)) (sym exports_same)
      (All-map (HasPath ((context_of a s).side exporting)) (λ (d : Name × Option ValType). d.0) (context_of a s).defined body.led))

  pub instance_same : (x : ComponentInstanceType) → x.defined_resources ≡ firsts ty.defined_resources → x.exports ≡ ty.exports → tree_of (trees a.nodes) (n.Instance x) ≡ node_tree (number (length a.nodes)) (instance_made (context_of a s))
  instance_same x er ee =
      let l : length (trees a.nodes) ≡ length a.nodes = length-trees a.nodes in
      let own : resource_names x.defined_resources ≡ map (λ d. d.0) (context_of a s).defined = ap resource_names er ∙ names_same in
      let es : entry_trees (trees a.nodes) x.exports ≡ (context_of a s).side exporting = ap (entry_trees (trees a.nodes)) ee ∙ exports_same in
      ap (λ (ps : Parts Name Name). node (instance (number (length (trees a.nodes))) (resource_names x.defined_resources)) ps) (entry_parts (trees a.nodes) export x.exports) ∙
      λ j. node (instance (number (l j)) (own j)) (entries export (es j) none)

-- ## What the node is made of

pub given_names : (a : Arena) (rs : List (ResourceId × List ℕ)) → All (λ (p : ResourceId × List ℕ). ResourceStands a p.0) rs → All (GaveResource a) (resource_names (firsts rs))
given_names a [] h = All-nil (GaveResource a)
given_names a (r ∷ rs) h =
    All-cons (GaveResource a) (number r.0.index) (resource_names (firsts rs)) (All-head (λ (p : ResourceId × List ℕ). ResourceStands a p.0) r rs h) (given_names a rs (All-tail (λ (p : ResourceId × List ℕ). ResourceStands a p.0) r rs h))

pub instance_exports : (ts : List Type_tree) (es : List (Text × ComponentItem)) → exports_in (slot_parts ts (entry_slots export es)) ≡ entry_trees ts es
instance_exports ts es = ap (λ (ps : Parts Name Name). exports_in ps) (entry_parts ts export es) ∙ exports_in-exports (entry_trees ts es)

-- its end fails for want of memory alone
pub memory_alone : {M : Type 0} (c : Tree_context) (offset : ℕ) (e : Error M) → IsInstanceBody c → MemoryOrCausedBy (end_checks c) offset e → error_kind e ≡ kind.OutOfMemory
memory_alone c offset e body (inl m) = m
memory_alone c offset e body (inr t) = absurd (no_end_cause c body (error_kind e) t.0)
