-- What is made of renamed values under renamed names is what was made, renamed.
use Rattle.std.proofs.Common.{◌≡◌, ◌∙◌, ℕ, suc, List, [], ◌∷◌, map, Some, refl, ap}
use Rattle.std.specs.Option.{option_map}
use Rattle.wcv_core.specs.Names.{Name, Place, deeper}
use Rattle.wcv_core.specs.declared.features.WasmFeatures.{WasmFeatures}
use Rattle.wcv_core.proofs.Places.{under-refl}
use Rattle.wcv_syntax.specs.Model.{Form, Type_form, defined_type, func_type, component_type, instance_type, resource_type, Decl, core_type_decl, type_decl, alias_decl, export_decl, import_decl, Decls, no_decls, declare}
use Rattle.wcv_types.specs.Tree.{Role}
use Rattle.wcv_types.specs.Tree as tree
use Rattle.wcv_lower.specs.Context.{Kind, declares_instance, declares_component}
use Rattle.wcv_lower.specs.Declared.{inside, read_type}
use Rattle.wcv_lower.specs.DeclaredMaps.{Alike, TypeAlike, DeclAlike, DeclsAlike}
use Rattle.wcv_lower.specs.Ending.{declared_made}
use Rattle.wcv_lower.specs.Growth.{grow}
use Rattle.wcv_lower.specs.Mapped.{MakesSame, IsKnown, map_named, map_parts, map_paths, map_node, map_stack}
use Rattle.wcv_lower.specs.Names.{Names, introduced, stamp_at, Under, AreRenamed}
use Rattle.wcv_lower.specs.NewTypes.{type_entry}
use Rattle.wcv_lower.specs.Readers.{New_node, func_node, defined_node, module_node, core_instance_node, core_exports_node, instance_node, component_node}
use Rattle.wcv_lower.specs.Renamed.{Renaming, renaming}
use Rattle.wcv_lower.specs.Trees.{tree_reader, tree_maker, node_tree}
use Rattle.wcv_lower.specs.Uses.{Uses, uses, uses_again, uses_new, uses_instance, uses_component, uses_node, ref_uses, type_uses, core_type_uses}
use Rattle.wcv_lower.proofs.DeclaredLaws.{read_type-mapped}
use Rattle.wcv_lower.proofs.GrowthLaws.{grow-mapped}
use Rattle.wcv_lower.proofs.MadeRenamed.{makes_renamed}
use Rattle.wcv_world.specs.Reading.{Value_context, Value_stack, value_reader, to_types, built, over_types, value_maker, token_maker}
use Rattle.wcv_world.specs.Renamed.{rename_type, rename_value, value_renaming}
use Rattle.wcv_world.specs.Values.{Value, typed, an_instance, type_over}
use Rattle.wcv_world.proofs.RenamedValues.{Anything, over, entries_over, named_over, values-renamed, values-follow}

module _ (w : Renaming) where
  -- all is known
  pub anything : (c : Value_context) → IsKnown Anything c
  anything c = record { space = λ k i v e. tt; core = λ k i v e. tt }

  parts_over : (ps : List (Role × Value)) → map_parts type_over (map_parts (rename_value w) ps) ≡ map_parts (rename_type w) (map_parts type_over ps)
  parts_over [] = refl
  parts_over (p ∷ ps) = λ j. (p.0, over w p.1 j) ∷ parts_over ps j

  node_over : (x : New_node value_reader) → map_node to_types (map_node (value_renaming w) x) ≡ map_node (renaming w) (map_node to_types x)
  node_over (func_node b ps) = ap (func_node b) (parts_over ps)
  node_over (defined_node k ps) = ap (defined_node k) (parts_over ps)
  node_over (module_node m) = refl
  node_over (core_instance_node k v) = ap (core_instance_node k) (over w v)
  node_over (core_exports_node k es) = refl
  node_over (instance_node own es) = λ j. instance_node (same own j) (entries_over w es j)
    where
      same : (own : List Name) → map (λ (r : Name). r) (map w.resources.to own) ≡ map w.resources.to (map (λ (r : Name). r) own)
      same [] = refl
      same (r ∷ own) = ap (λ xs. w.resources.to r ∷ xs) (same own)
  node_over (component_node ins outs es es') = λ j. component_node (same ins j) (same outs j) (entries_over w es j) (entries_over w es' j)
    where
      same : (rs : List (Name × List ℕ)) → map_paths (λ (r : Name). r) (map_paths w.resources.to rs) ≡ map_paths w.resources.to (map_paths (λ (r : Name). r) rs)
      same [] = refl
      same (r ∷ rs) = ap (λ xs. (w.resources.to r.0, r.1) ∷ xs) (same rs)

  module _ (n m : Names) (p : Place) (r : AreRenamed (Under p) w.resources.to w.identities.to n m) where
    identity : m.identity (introduced p) ≡ w.identities.to (n.identity (introduced p))
    identity = r.identity (introduced p) (under-refl p)

    tree_built : (x : New_node value_reader) → node_tree (m.identity (introduced p)) (map_node to_types (map_node (value_renaming w) x)) ≡ rename_type w (node_tree (n.identity (introduced p)) (map_node to_types x))
    tree_built x = ap (node_tree (m.identity (introduced p))) (node_over x) ∙ (makes_renamed w n m p r (uses_node (Some (map_node to_types x)))).build (map_node to_types x) refl

    built-renamed : (x : New_node value_reader) → built m p (map_node (value_renaming w) x) ≡ rename_value w (built n p x)
    built-renamed (instance_node [] es) = λ j. an_instance (identity j) (values-renamed w es j)
    built-renamed (instance_node (o ∷ own) es) = ap typed (tree_built (instance_node (o ∷ own) es))
    built-renamed (func_node b ps) = ap typed (tree_built (func_node b ps))
    built-renamed (defined_node k ps) = ap typed (tree_built (defined_node k ps))
    built-renamed (module_node t) = ap typed (tree_built (module_node t))
    built-renamed (core_instance_node k v) = ap typed (tree_built (core_instance_node k v))
    built-renamed (core_exports_node k es) = ap typed (tree_built (core_exports_node k es))
    built-renamed (component_node ins outs es es') = ap typed (tree_built (component_node ins outs es es'))

    pub values_made : (u : Uses value_reader) → MakesSame (value_renaming w) Anything (value_maker n p) (value_maker m p) u
    values_made u = record {
      again = λ v e. ap typed (ap (tree_maker m p).again (over w v) ∙ (makes_renamed w n m p r (uses_again tree_reader (type_over v))).again (type_over v) refl);
      again_known = λ v e. tt;
      resource = λ e. (makes_renamed w n m p r (uses_new tree_reader)).resource refl;
      reference = λ e. ap typed ((makes_renamed w n m p r (uses_new tree_reader)).reference refl);
      reference_known = λ e. tt;
      instance_of = λ v e. ap (λ t. over_types ((tree_maker m p).instance_of t)) (over w v) ∙ ap over_types ((makes_renamed w n m p r (uses_instance tree_reader (type_over v))).instance_of (type_over v) refl);
      instance_known = λ v e. tt;
      instantiate = λ args v e. (λ j. over_types ((tree_maker m p).instantiate (named_over w args j) (over w v j))) ∙
          ap over_types ((makes_renamed w n m p r (uses_component (Some (map_named type_over args, type_over v)))).instantiate (map_named type_over args) (type_over v) refl);
      build = λ x e. built-renamed x;
      build_type = λ x e. ap (λ t. typed (type_entry t)) (tree_built x);
    }

    -- with a token
    pub tokens_made : (a b : Name) → b ≡ w.resources.to a → (u : Uses value_reader) → MakesSame (value_renaming w) Anything (token_maker n a p) (token_maker m b p) u
    tokens_made a b e u =
        let made : MakesSame (value_renaming w) Anything (value_maker n p) (value_maker m p) u = values_made u in
        record {
          again = made.again;
          again_known = made.again_known;
          resource = λ x. e;
          reference = λ x. (λ j. typed (type_entry (tree.resource_type (e j) (r.identity (stamp_at p) (under-refl p) j))));
          reference_known = made.reference_known;
          instance_of = made.instance_of;
          instance_known = made.instance_known;
          instantiate = made.instantiate;
          build = made.build;
          build_type = made.build_type;
        }

  -- ## So they grow

  module _ (fs : WasmFeatures) (n m : Names) (r : (p : Place) → AreRenamed (Under p) w.resources.to w.identities.to n m) where
    pub values-grow : (p : Place) (s : Value_stack) (f : Form) → grow fs (value_maker m p) (map_stack (value_renaming w) s) f ≡ option_map (map_stack (value_renaming w)) (grow fs (value_maker n p) s f)
    values-grow p s f = grow-mapped (value_renaming w) (values-follow w) fs (value_maker n p) (value_maker m p) s f (anything s.top) (values_made n m p (r p) (uses fs s f))

    pub token-grows : (a b : Name) → b ≡ w.resources.to a → (p : Place) (s : Value_stack) (f : Form) →
        grow fs (token_maker m b p) (map_stack (value_renaming w) s) f ≡ option_map (map_stack (value_renaming w)) (grow fs (token_maker n a p) s f)
    token-grows a b e p s f = grow-mapped (value_renaming w) (values-follow w) fs (token_maker n a p) (token_maker m b p) s f (anything s.top) (tokens_made n m p (r p) a b e (uses fs s f))

    alike : (p : Place) (s : Value_stack) (u : Uses value_reader) → Alike (value_renaming w) Anything fs (value_maker n) (value_maker m) p s u
    alike p s u = record { known = anything s.top; same = values_made n m p (r p) u }

    mutual
      type_alike : (p : Place) (s : Value_stack) (t : Type_form) → TypeAlike (value_renaming w) Anything fs (value_maker n) (value_maker m) p s t
      type_alike p s (component_type ds) = decls_alike p 0 declares_component (inside declares_component s) ds
      type_alike p s (instance_type ds) = decls_alike p 0 declares_instance (inside declares_instance s) ds
      type_alike p s (defined_type d) = alike p s (type_uses s.top (defined_type d))
      type_alike p s (func_type f) = alike p s (type_uses s.top (func_type f))
      type_alike p s (resource_type rep dtor) = alike p s (type_uses s.top (resource_type rep dtor))

      decl_alike : (p : Place) (s : Value_stack) (d : Decl) → DeclAlike (value_renaming w) Anything fs (value_maker n) (value_maker m) p s d
      decl_alike p s (core_type_decl t) = alike p s (core_type_uses fs s t)
      decl_alike p s (type_decl t) = type_alike p s t
      decl_alike p s (alias_decl a) = anything s.top
      decl_alike p s (export_decl x t) = alike p s (ref_uses s.top t)
      decl_alike p s (import_decl i) = alike p s (ref_uses s.top i.ty)

      decls_alike : (p : Place) (i : ℕ) (c : Kind) (s : Value_stack) (ds : Decls) → DeclsAlike (value_renaming w) Anything fs (value_maker n) (value_maker m) p i c s ds
      decls_alike p i c s no_decls = values_made n m p (r p) (uses_node (declared_made c s.top))
      decls_alike p i c s (declare d ds) = (decl_alike (deeper p i) s d, λ t e. decls_alike p (suc i) c t ds)

    pub types-grow : (p : Place) (s : Value_stack) (t : Type_form) → read_type fs (value_maker m) p (map_stack (value_renaming w) s) t ≡ option_map (map_stack (value_renaming w)) (read_type fs (value_maker n) p s t)
    types-grow p s t = read_type-mapped (value_renaming w) (values-follow w) fs (value_maker n) (value_maker m) p s t (type_alike p s t)
