-- What is made under renamed names is what was made, renamed.
use Rattle.std.proofs.Common.{◌≡◌, ℕ, suc, List, [], ◌∷◌, map, refl, sym, ◌∙◌, ap}
use Rattle.wcv_core.specs.Names.{Name, Place}
use Rattle.wcv_core.specs.declared.core_types.EntityType.{EntityType}
use Rattle.wcv_core.proofs.Places.{under-refl}
use Rattle.wcv_types.specs.Rename.{rename, rename_parts, rename_head, rename_paths}
use Rattle.wcv_types.specs.Replacing.{Replacement, replaced}
use Rattle.wcv_types.specs.Tree.{Text, Extern_name, Head, resource, defined, func, instance, component, core_module, core_instance, core_item, Role, here, import, export, core_import, core_export, node, Parts, none, part, type_of, resource_type, instance_type, exports, entries, core_imports, core_exports}
use Rattle.wcv_types.specs.Unfold.{Type_tree, capped}
use Rattle.wcv_types.proofs.Measure.{size-rename}
use Rattle.wcv_lower.specs.Instantiated.{opening, instantiated}
use Rattle.wcv_lower.specs.Mapped.{MakesSame, map_entries, map_named, map_parts, map_node}
use Rattle.wcv_lower.specs.Names.{Names, introduced, stamp_at, Under, AreRenamed}
use Rattle.wcv_lower.specs.NewTypes.{renewed_head, renewed}
use Rattle.wcv_lower.specs.Readers.{New_node, func_node, defined_node, module_node, core_instance_node, core_exports_node, instance_node, component_node}
use Rattle.wcv_lower.specs.Renamed.{Renaming, renaming}
use Rattle.wcv_lower.specs.Trees.{Entries, type_entry, tree_reader, tree_parts, node_tree, tree_maker}
use Rattle.wcv_lower.specs.Uses.{Uses}
use Rattle.wcv_lower.proofs.InstanceLaws.{instance_tree-renamed, instance_resources-renamed}
use Rattle.wcv_lower.proofs.OpeningRenamed.{opening-follows, made_resources-renamed}
use Rattle.wcv_lower.proofs.Renamed.{tree_exports-renamed}
use Rattle.wcv_lower.proofs.Replaced.{Follows, replaced-renamed}

module _ (w : Renaming) where
  abbrev f : Name → Name
  f = w.resources.to

  abbrev g : Name → Name
  g = w.identities.to

  abbrev to : Type_tree → Type_tree
  to t = rename f g t

  parts-made : (ps : List (Role × Type_tree)) → tree_parts (map_parts to ps) ≡ rename_parts f g (tree_parts ps)
  parts-made [] = refl
  parts-made (p ∷ ps) = ap (part p.0 (to p.1)) (parts-made ps)

  core_exports-renamed : (es : List (Text × EntityType)) (rest : Parts Name Name) → rename_parts f g (core_exports es rest) ≡ core_exports es (rename_parts f g rest)
  core_exports-renamed [] rest = refl
  core_exports-renamed (e ∷ es) rest = ap (λ (ps : Parts Name Name). part (core_export e.0) (node (core_item e.1) none) ps) (core_exports-renamed es rest)

  core_imports-renamed : (is : List ((Text × Text) × EntityType)) (rest : Parts Name Name) → rename_parts f g (core_imports is rest) ≡ core_imports is (rename_parts f g rest)
  core_imports-renamed [] rest = refl
  core_imports-renamed (i ∷ is) rest = ap (λ (ps : Parts Name Name). part (core_import i.0.0 i.0.1) (node (core_item i.1) none) ps) (core_imports-renamed is rest)

  entries-renamed : (role : Extern_name → Role) (es : Entries) (rest : Parts Name Name) → rename_parts f g (entries role es rest) ≡ entries role (map_entries to es) (rename_parts f g rest)
  entries-renamed role [] rest = refl
  entries-renamed role (x ∷ es) rest = ap (λ (ps : Parts Name Name). part (role x.0) (to x.1) ps) (entries-renamed role es rest)

  -- a node under the renamed identity
  pub node_tree-renamed : (i : Name) (n : New_node tree_reader) → node_tree (g i) (map_node (renaming w) n) ≡ to (node_tree i n)
  node_tree-renamed i (func_node b ps) = ap (node (func (g i) b)) (parts-made ps)
  node_tree-renamed i (defined_node k ps) = ap (node (defined (g i) k)) (parts-made ps)
  node_tree-renamed i (module_node t) =
      ap (node (core_module (g i) (capped t.size))) (sym (core_imports-renamed t.imports (core_exports t.exports none) ∙ ap (core_imports t.imports) (core_exports-renamed t.exports none)))
  node_tree-renamed i (core_instance_node n t) = refl
  node_tree-renamed i (core_exports_node n es) = ap (node (core_instance (g i) (capped n))) (sym (core_exports-renamed es none))
  node_tree-renamed i (instance_node own es) = ap (node (instance (g i) (map f own))) (sym (entries-renamed export es none))
  node_tree-renamed i (component_node ins outs es es') =
      ap (node (component (g i) (rename_paths f ins) (rename_paths f outs)))
      (sym (entries-renamed import es (entries export es' none) ∙ ap (entries import (map_entries to es)) (entries-renamed export es' none)))

  -- with renamed names the renamed entries are made
  module _ (n m : Names) (p : Place) (r : AreRenamed (Under p) w.resources.to w.identities.to n m) where
    head-made : (h : Head Name Name) → renewed_head m p (rename_head f g h) ≡ rename_head f g (renewed_head n p h)
    head-made (resource q s) = ap (resource (f q)) (r.identity (stamp_at p) (under-refl p))
    head-made (defined k x) = ap (λ (y : Name). defined y x) (r.identity (introduced p) (under-refl p))
    head-made (func k b) = ap (λ (y : Name). func y b) (r.identity (introduced p) (under-refl p))
    head-made (instance k own) = ap (λ (y : Name). instance y (map f own)) (r.identity (introduced p) (under-refl p))
    head-made (component k ins outs) = ap (λ (y : Name). component y (rename_paths f ins) (rename_paths f outs)) (r.identity (introduced p) (under-refl p))
    head-made (core_module k x) = ap (λ (y : Name). core_module y x) (r.identity (introduced p) (under-refl p))
    head-made (core_instance k x) = ap (λ (y : Name). core_instance y x) (r.identity (introduced p) (under-refl p))
    head-made _ = refl

    again-made : (t : Type_tree) → type_of (renewed m p (to t)) (to t) ≡ to (type_of (renewed n p t) t)
    again-made (node h ps) = ap (λ (k : Head Name Name). type_of (node k (rename_parts f g ps)) (node (rename_head f g h) (rename_parts f g ps))) (head-made h)

    built : (x : New_node tree_reader) → node_tree (m.identity (introduced p)) (map_node (renaming w) x) ≡ to (node_tree (n.identity (introduced p)) x)
    built x = ap (λ (i : Name). node_tree i (map_node (renaming w) x)) (r.identity (introduced p) (under-refl p)) ∙ node_tree-renamed (n.identity (introduced p)) x

    -- replaced entries
    entries-replaced : (k l : Replacement) → Follows w k l → (es : Entries) → map_entries (replaced l) (map_entries to es) ≡ map_entries to (map_entries (replaced k) es)
    entries-replaced k l e [] = refl
    entries-replaced k l e (x ∷ es) = λ j. (x.0, replaced-renamed w k l e x.1 j) ∷ entries-replaced k l e es j

    instantiated-renamed : (args : List (Text × Type_tree)) (c : Type_tree) → instantiated m p (map_named to args) (to c) ≡ to (instantiated n p args c)
    instantiated-renamed args c =
        let l : Replacement = opening m p (map_named to args) (to c) in
        let k : Replacement = opening n p args c in
        (λ j. instance_type (r.identity (introduced p) (under-refl p) j) [] (map_entries (replaced l) (tree_exports-renamed w c j))) ∙
        ap (instance_type (g (n.identity (introduced p))) []) (entries-replaced k l (opening-follows w n m p r args c) (exports c)) ∙
        node_tree-renamed (n.identity (introduced p)) (instance_node [] (map_entries (replaced k) (exports c)))

    pub makes_renamed : (u : Uses tree_reader) → MakesSame (renaming w) (λ t. Unit {0}) (tree_maker n p) (tree_maker m p) u
    makes_renamed u =
        let q : m.resource (introduced p) ≡ f (n.resource (introduced p)) = r.resource (introduced p) (under-refl p) in
        let s : m.identity (stamp_at p) ≡ g (n.identity (stamp_at p)) = r.identity (stamp_at p) (under-refl p) in
        record {
          again = λ t e. again-made t;
          again_known = λ t e. tt;
          resource = λ e. q;
          reference = λ e. (λ j. type_entry (resource_type (q j) (s j)));
          reference_known = λ e. tt;
          instance_of = λ t e. (λ j. record { entity = instance_tree-renamed w n m p r t j; resources = instance_resources-renamed w n m p r t j });
          instance_known = λ t e. tt;
          instantiate = λ args c e. (λ j. record { entity = instantiated-renamed args c j; resources = made_resources-renamed w n m p r args c j });
          build = λ x e. built x;
          build_type = λ x e. ap type_entry (built x);
        }
