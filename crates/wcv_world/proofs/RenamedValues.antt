-- Renaming values commutes with all that is read of them.
use Rattle.std.proofs.Common.{◌≡◌, ◌∙◌, List, [], ◌∷◌, map, Option, Some, None, refl, ap}
use Rattle.std.specs.Option.{option_map}
use Rattle.wcv_types.specs.Tree.{Text, Extern_name, exports, instance_type}
use Rattle.wcv_types.specs.Unfold.{Type_tree}
use Rattle.wcv_lower.specs.Mapped.{Commutes, map_entries, map_named}
use Rattle.wcv_lower.specs.Readers.{instance_node}
use Rattle.wcv_lower.specs.Renamed.{Renaming, renaming}
use Rattle.wcv_lower.specs.Trees.{tree_reader}
use Rattle.wcv_lower.proofs.MadeRenamed.{node_tree-renamed}
use Rattle.wcv_lower.proofs.Renamed.{renaming_commutes}
use Rattle.wcv_world.specs.Reading.{typed_by, exports_of}
use Rattle.wcv_world.specs.Renamed.{rename_type, rename_run, rename_value, rename_values, rename_levels, value_renaming}
use Rattle.wcv_world.specs.Values.{Value, typed, an_instance, closure, Values, no_values, value, type_over, types_over, entries, values, typed_entries}

abbrev pub Anything : Value → Type 0
Anything v = Unit {0}

module _ (w : Renaming) where
  -- what is known of trees
  trees : Commutes (renaming w) (λ t. Unit {0})
  trees = renaming_commutes w

  -- ## The types of renamed values are the renamed types

  mutual
    pub over : (v : Value) → type_over (rename_value w v) ≡ rename_type w (type_over v)
    over (typed t) = refl
    over (an_instance i vs) = ap (instance_type (w.identities.to i) []) (each_over vs) ∙ node_tree-renamed w i (instance_node [] (types_over vs))
    over (closure r p is ls t) = refl

    each_over : (vs : Values) → types_over (rename_values w vs) ≡ map_entries (rename_type w) (types_over vs)
    each_over no_values = refl
    each_over (value n v vs) = λ j. (n, over v j) ∷ each_over vs j

  pub entries_over : (es : List (Extern_name × Value)) → map_entries type_over (map_entries (rename_value w) es) ≡ map_entries (rename_type w) (map_entries type_over es)
  entries_over [] = refl
  entries_over (e ∷ es) = λ j. (e.0, over e.1 j) ∷ entries_over es j

  pub named_over : (es : List (Text × Value)) → map_named type_over (map_named (rename_value w) es) ≡ map_named (rename_type w) (map_named type_over es)
  named_over [] = refl
  named_over (e ∷ es) = λ j. (e.0, over e.1 j) ∷ named_over es j

  -- ## What is read

  typed_entries-renamed : (es : List (Extern_name × Type_tree)) → typed_entries (map_entries (rename_type w) es) ≡ map_entries (rename_value w) (typed_entries es)
  typed_entries-renamed [] = refl
  typed_entries-renamed (e ∷ es) = ap (λ xs. (e.0, typed (rename_type w e.1)) ∷ xs) (typed_entries-renamed es)

  pub entries-renamed : (vs : Values) → entries (rename_values w vs) ≡ map_entries (rename_value w) (entries vs)
  entries-renamed no_values = refl
  entries-renamed (value n v vs) = ap (λ xs. (n, rename_value w v) ∷ xs) (entries-renamed vs)

  pub values-renamed : (es : List (Extern_name × Value)) → values (map_entries (rename_value w) es) ≡ rename_values w (values es)
  values-renamed [] = refl
  values-renamed (e ∷ es) = ap (value e.0 (rename_value w e.1)) (values-renamed es)

  created-renamed : (v : Value) → typed_by tree_reader.created (rename_value w v) ≡ rename_value w (typed_by tree_reader.created v)
  created-renamed (typed t) = ap typed (trees.created t)
  created-renamed (an_instance i vs) = refl
  created-renamed (closure r p is ls t) = ap (closure (rename_run w r) p is (rename_levels w ls)) (trees.created t)

  referenced-renamed : (v : Value) → typed_by tree_reader.referenced (rename_value w v) ≡ rename_value w (typed_by tree_reader.referenced v)
  referenced-renamed (typed t) = ap typed (trees.referenced t)
  referenced-renamed (an_instance i vs) = refl
  referenced-renamed (closure r p is ls t) = ap (closure (rename_run w r) p is (rename_levels w ls)) (trees.referenced t)

  exports-renamed : (v : Value) → exports_of (rename_value w v) ≡ map_entries (rename_value w) (exports_of v)
  exports-renamed (typed t) = ap typed_entries (trees.exports t tt) ∙ typed_entries-renamed (exports t)
  exports-renamed (an_instance i vs) = entries-renamed vs
  exports-renamed (closure r p is ls t) = ap typed_entries (trees.exports t tt) ∙ typed_entries-renamed (exports t)

  each_typed : (ts : List Type_tree) → map typed (map (rename_type w) ts) ≡ map (rename_value w) (map typed ts)
  each_typed [] = refl
  each_typed (t ∷ ts) = ap (λ xs. typed (rename_type w t) ∷ xs) (each_typed ts)

  some_typed : (o : Option Type_tree) → option_map typed (option_map (rename_type w) o) ≡ option_map (rename_value w) (option_map typed o)
  some_typed None = refl
  some_typed (Some t) = refl

  pub values-follow : Commutes (value_renaming w) Anything
  values-follow = record {
    sort = λ v k. ap tree_reader.sort (over v) ∙ trees.sort (type_over v) tt;
    size = λ v. ap tree_reader.size (over v) ∙ trees.size (type_over v);
    depth = λ v. ap tree_reader.depth (over v) ∙ trees.depth (type_over v);
    created = created-renamed;
    referenced = referenced-renamed;
    exports = λ v k. exports-renamed v;
    params = λ v k. ap (λ t. map typed (tree_reader.params t)) (over v) ∙ ap (map typed) (trees.params (type_over v) tt) ∙ each_typed (tree_reader.params (type_over v));
    result = λ v k. ap (λ t. option_map typed (tree_reader.result t)) (over v) ∙ ap (option_map typed) (trees.result (type_over v) tt) ∙ some_typed (tree_reader.result (type_over v));
    referenced_known = λ v k. tt;
    export_known = λ v k n y e. tt;
    introduced = λ v. ap tree_reader.introduced (over v) ∙ trees.introduced (type_over v);
    creates = λ v. ap tree_reader.creates (over v) ∙ trees.creates (type_over v);
    same = trees.same;
    is_named = λ named s v. ap (tree_reader.is_named (λ d. map (value_renaming w).identity (named d)) s) (over v) ∙ trees.is_named named s (type_over v);
    name_checks = λ fs es n v. (λ j. tree_reader.name_checks fs (entries_over es j) n (over v j)) ∙ trees.name_checks fs (map_entries type_over es) n (type_over v);
    bare_name_checks = λ fs es n v. (λ j. tree_reader.bare_name_checks fs (entries_over es j) n (over v j)) ∙ trees.bare_name_checks fs (map_entries type_over es) n (type_over v);
    matches = λ gs v u. (λ j. tree_reader.matches gs (over v j) (over u j)) ∙ trees.matches gs (type_over v) (type_over u);
    opens = λ gs args v. (λ j. tree_reader.opens gs (named_over args j) (over v j)) ∙ trees.opens gs (map_named type_over args) (type_over v);
    has_free = λ v. ap tree_reader.has_free (over v) ∙ trees.has_free (type_over v);
    is_free = λ r v. ap (tree_reader.is_free (w.resources.to r)) (over v) ∙ trees.is_free r (type_over v);
    first_path = λ r es. ap (tree_reader.first_path (w.resources.to r)) (entries_over es) ∙ trees.first_path r (map_entries type_over es);
    core_entry = λ v. ap tree_reader.core_entry (over v) ∙ trees.core_entry (type_over v);
    core_type = λ i. ap typed (trees.core_type i);
    core_imports = λ v. ap tree_reader.core_imports (over v) ∙ trees.core_imports (type_over v);
    core_exports = λ v. ap tree_reader.core_exports (over v) ∙ trees.core_exports (type_over v);
    item = λ v. ap tree_reader.item (over v) ∙ trees.item (type_over v);
    core_item = λ e. ap typed (trees.core_item e);
    primitive_known = λ q. tt;
    primitive = λ q. ap typed (trees.primitive q);
    left_out = ap typed trees.left_out;
    primitive_of = λ v. ap tree_reader.primitive_of (over v) ∙ trees.primitive_of (type_over v);
    contains = λ k v. ap (tree_reader.contains k) (over v) ∙ trees.contains k (type_over v);
    abi_size = λ k v. ap (tree_reader.abi_size k) (over v) ∙ trees.abi_size k (type_over v);
    outline = λ v. ap tree_reader.outline (over v) ∙ trees.outline (type_over v);
  }
