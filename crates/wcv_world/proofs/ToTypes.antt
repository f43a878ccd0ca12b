-- Values read as their types: what is read of a value is read of its type, and what is made of values has the type that is made of types.
use Rattle.std.proofs.Common.{◌≡◌, ◌∙◌, ℕ, suc, List, [], ◌∷◌, map, Option, Some, None, refl, sym, ap}
use Rattle.std.specs.Option.{option_map}
use Rattle.wcv_core.specs.Names.{Name, Place, deeper}
use Rattle.wcv_core.specs.declared.core_types.ValType.{ValType}
use Rattle.wcv_core.specs.declared.features.WasmFeatures.{WasmFeatures}
use Rattle.wcv_syntax.specs.Model.{Form, type_item, Type_form, defined_type, func_type, component_type, instance_type, resource_type, Decl, core_type_decl, type_decl, alias_decl, export_decl, import_decl, Decls, no_decls, declare}
use Rattle.wcv_types.specs.Tree.{Extern_name, exports, exports_in, export, none}
use Rattle.wcv_types.specs.Tree as tree
use Rattle.wcv_types.specs.Unfold.{Type_tree}
use Rattle.wcv_types.proofs.Lists.{map-id}
use Rattle.wcv_lower.specs.Context.{Kind, declares_instance, declares_component, Stack}
use Rattle.wcv_lower.specs.Declared.{inside, read_type}
use Rattle.wcv_lower.specs.DeclaredMaps.{Alike, TypeAlike, DeclAlike, DeclsAlike}
use Rattle.wcv_lower.specs.Ending.{declared_made}
use Rattle.wcv_lower.specs.Growth.{grow}
use Rattle.wcv_lower.specs.Mapped.{Commutes, MakesSame, map_entries, map_named, map_stack, map_node}
use Rattle.wcv_lower.specs.Names.{Names, introduced}
use Rattle.wcv_lower.specs.Readers.{New_node, func_node, defined_node, module_node, core_instance_node, core_exports_node, instance_node, component_node}
use Rattle.wcv_lower.specs.Trees.{tree_reader, tree_maker, node_tree}
use Rattle.wcv_lower.specs.Uses.{Uses, uses, uses_node, ref_uses, type_uses, core_type_uses}
use Rattle.wcv_lower.proofs.DeclaredLaws.{read_type-mapped}
use Rattle.wcv_lower.proofs.GrowthLaws.{grow-mapped}
use Rattle.wcv_world.specs.Reading.{value_reader, to_types, exports_of, built, value_maker, token_maker, typed_by}
use Rattle.wcv_world.specs.Values.{Value, typed, an_instance, closure, Values, no_values, value, type_over, types_over, entries, values, typed_entries}

-- any value
abbrev pub Any : Value → Type 0
Any v = Unit {0}

same_types : (es : List (Extern_name × Type_tree)) → es ≡ map_entries type_over (typed_entries es)
same_types [] = refl
same_types (e ∷ es) = ap (λ xs. e ∷ xs) (same_types es)

each_typed : (ts : List Type_tree) → ts ≡ map type_over (map typed ts)
each_typed [] = refl
each_typed (t ∷ ts) = ap (λ xs. t ∷ xs) (each_typed ts)

some_typed : (o : Option Type_tree) → o ≡ option_map type_over (option_map typed o)
some_typed None = refl
some_typed (Some t) = refl

types_of_entries : (vs : Values) → types_over vs ≡ map_entries type_over (entries vs)
types_of_entries no_values = refl
types_of_entries (value n v vs) = ap (λ xs. (n, type_over v) ∷ xs) (types_of_entries vs)

types_of_values : (es : List (Extern_name × Value)) → types_over (values es) ≡ map_entries type_over es
types_of_values [] = refl
types_of_values (e ∷ es) = ap (λ xs. (e.0, type_over e.1) ∷ xs) (types_of_values es)

exports_listed : (es : List (Extern_name × Type_tree)) → exports_in (tree.entries export es none) ≡ es
exports_listed [] = refl
exports_listed (e ∷ es) = ap (λ xs. e ∷ xs) (exports_listed es)

created_over : (v : Value) → tree_reader.created (type_over v) ≡ type_over (typed_by tree_reader.created v)
created_over (typed t) = refl
created_over (an_instance i vs) = refl
created_over (closure r p is ls t) = refl

referenced_over : (v : Value) → tree_reader.referenced (type_over v) ≡ type_over (typed_by tree_reader.referenced v)
referenced_over (typed t) = refl
referenced_over (an_instance i vs) = refl
referenced_over (closure r p is ls t) = refl

exports_over : (v : Value) → exports (type_over v) ≡ map_entries type_over (exports_of v)
exports_over (typed t) = same_types (exports t)
exports_over (an_instance i vs) = exports_listed (types_over vs) ∙ types_of_entries vs
exports_over (closure r p is ls t) = same_types (exports t)

pub values-commute : Commutes to_types Any
values-commute = record {
  sort = λ v k. refl;
  size = λ v. refl;
  depth = λ v. refl;
  created = created_over;
  referenced = referenced_over;
  exports = λ v k. exports_over v;
  params = λ v k. each_typed (tree_reader.params (type_over v));
  result = λ v k. some_typed (tree_reader.result (type_over v));
  referenced_known = λ v k. tt;
  export_known = λ v k n w e. tt;
  introduced = λ v. sym (map-id (tree_reader.introduced (type_over v)));
  creates = λ v. sym (map-id (tree_reader.creates (type_over v)));
  same = λ i j. refl;
  is_named = λ named s v. (λ j. tree_reader.is_named (λ d. map-id (named d) j) s (type_over v));
  name_checks = λ fs es n v. refl;
  bare_name_checks = λ fs es n v. refl;
  matches = λ gs v w. refl;
  opens = λ gs args v. refl;
  has_free = λ v. refl;
  is_free = λ r v. refl;
  first_path = λ r es. refl;
  core_entry = λ v. refl;
  core_type = λ i. refl;
  core_imports = λ v. refl;
  core_exports = λ v. refl;
  item = λ v. refl;
  core_item = λ e. refl;
  primitive_known = λ q. tt;
  primitive = λ q. refl;
  left_out = refl;
  primitive_of = λ v. refl;
  contains = λ k v. refl;
  abi_size = λ k v. refl;
  outline = λ v. refl;
}

module _ (names : Names) (p : Place) where
  built_over : (n : New_node value_reader) → node_tree (names.identity (introduced p)) (map_node to_types n) ≡ type_over (built names p n)
  built_over (func_node b ps) = refl
  built_over (defined_node k ps) = refl
  built_over (module_node m) = refl
  built_over (core_instance_node k v) = refl
  built_over (core_exports_node n es) = refl
  built_over (instance_node [] es) = ap (tree.instance_type (names.identity (introduced p)) []) (sym (types_of_values es))
  built_over (instance_node (r ∷ own) es) = refl
  built_over (component_node ins outs es es') = refl

  -- what is made of values has the type that is made of their types
  pub values-made : (u : Uses value_reader) → MakesSame to_types Any (value_maker names p) (tree_maker names p) u
  values-made u = record {
    again = λ v e. refl;
    again_known = λ v e. tt;
    resource = λ e. refl;
    reference = λ e. refl;
    reference_known = λ e. tt;
    instance_of = λ v e. ap (λ rs. record { entity = ((tree_maker names p).instance_of (type_over v)).entity; resources = rs }) (sym (map-id _));
    instance_known = λ v e. tt;
    instantiate = λ args v e. ap (λ rs. record { entity = ((tree_maker names p).instantiate (map_named type_over args) (type_over v)).entity; resources = rs }) (sym (map-id _));
    build = λ n e. built_over n;
    build_type = λ n e. refl;
  }

  -- what an item appends to lists of values is, over their types, what it appends to the lists of these
  pub growth-over : (fs : WasmFeatures) (s : Stack value_reader) (f : Form) → grow fs (tree_maker names p) (map_stack to_types s) f ≡ option_map (map_stack to_types) (grow fs (value_maker names p) s f)
  growth-over fs s f = grow-mapped to_types values-commute fs (value_maker names p) (tree_maker names p) s f (record { space = λ k i v e. tt; core = λ k i v e. tt }) (values-made (uses fs s f))

  -- where a resource is defined, that is the one with the name of a token
  tokens-made : (r : Name) (rep : ValType) (dtor : Option ℕ) (s : Stack value_reader) → MakesSame to_types Any (token_maker names r p) (tree_maker (record names { resource = λ o. r }) p) (type_uses s.top (resource_type rep dtor))
  tokens-made r rep dtor s = record {
    again = λ v e. cc;
    again_known = λ v e. tt;
    resource = λ e. refl;
    reference = λ e. refl;
    reference_known = λ e. tt;
    instance_of = λ v e. cc;
    instance_known = λ v e. tt;
    instantiate = λ args v e. cc;
    build = λ n e. cc;
    build_type = λ n e. cc;
  }

  pub token-over : (r : Name) (fs : WasmFeatures) (s : Stack value_reader) (rep : ValType) (dtor : Option ℕ) →
      grow fs (tree_maker (record names { resource = λ o. r }) p) (map_stack to_types s) (type_item (resource_type rep dtor)) ≡ option_map (map_stack to_types) (grow fs (token_maker names r p) s (type_item (resource_type rep dtor)))
  token-over r fs s rep dtor =
      grow-mapped to_types values-commute fs (token_maker names r p) (tree_maker (record names { resource = λ o. r }) p) s (type_item (resource_type rep dtor)) (record { space = λ k i v e. tt; core = λ k i v e. tt }) (tokens-made r rep dtor s)

-- so a type, also a declared one
module _ (names : Names) (fs : WasmFeatures) where
  here : (p : Place) (s : Stack value_reader) (u : Uses value_reader) → Alike to_types Any fs (value_maker names) (tree_maker names) p s u
  here p s u = record { known = record { space = λ k i v e. tt; core = λ k i v e. tt }; same = values-made names p u }

  mutual
    type-alike : (p : Place) (s : Stack value_reader) (t : Type_form) → TypeAlike to_types Any fs (value_maker names) (tree_maker names) p s t
    type-alike p s (component_type ds) = decls-alike p 0 declares_component (inside declares_component s) ds
    type-alike p s (instance_type ds) = decls-alike p 0 declares_instance (inside declares_instance s) ds
    type-alike p s (defined_type d) = here p s (type_uses s.top (defined_type d))
    type-alike p s (func_type f) = here p s (type_uses s.top (func_type f))
    type-alike p s (resource_type rep dtor) = here p s (type_uses s.top (resource_type rep dtor))

    decl-alike : (p : Place) (s : Stack value_reader) (d : Decl) → DeclAlike to_types Any fs (value_maker names) (tree_maker names) p s d
    decl-alike p s (core_type_decl t) = here p s (core_type_uses fs s t)
    decl-alike p s (type_decl t) = type-alike p s t
    decl-alike p s (alias_decl a) = (record { space = λ k i v e. tt; core = λ k i v e. tt })
    decl-alike p s (export_decl n r) = here p s (ref_uses s.top r)
    decl-alike p s (import_decl i) = here p s (ref_uses s.top i.ty)

    decls-alike : (p : Place) (n : ℕ) (c : Kind) (s : Stack value_reader) (ds : Decls) → DeclsAlike to_types Any fs (value_maker names) (tree_maker names) p n c s ds
    decls-alike p n c s no_decls = values-made names p (uses_node (declared_made c s.top))
    decls-alike p n c s (declare d ds) = (decl-alike (deeper p n) s d, λ t e. decls-alike p (suc n) c t ds)

  pub type-over : (p : Place) (s : Stack value_reader) (t : Type_form) → read_type fs (tree_maker names) p (map_stack to_types s) t ≡ option_map (map_stack to_types) (read_type fs (value_maker names) p s t)
  type-over p s t = read_type-mapped to_types values-commute fs (value_maker names) (tree_maker names) p s t (type-alike p s t)
