-- Entries that are values: those of the linking machine. What is read of one is read off its type, but for its exports.
use Rattle.std.specs.Prelude.{List, [], map}
use Rattle.std.specs.Option.{option_map}
use Rattle.wcv_core.specs.Names.{Name, Place}
use Rattle.wcv_types.specs.Identity.{Identity}
use Rattle.wcv_types.specs.Tree.{Extern_name, exports, resource_type}
use Rattle.wcv_types.specs.Unfold.{Type_tree}
use Rattle.wcv_lower.specs.Mapped.{Map, map_entries, map_named, map_node}
use Rattle.wcv_lower.specs.Names.{introduced, stamp_at, Names}
use Rattle.wcv_lower.specs.NewTypes.{type_entry}
use Rattle.wcv_lower.specs.Readers.{Reader, Maker, Brought, New_node, instance_node}
use Rattle.wcv_lower.specs.Trees.{tree_reader, tree_maker, node_tree}
use Rattle.wcv_lower.specs.Context.{Context, Stack}
use Rattle.wcv_world.specs.Values.{Value, typed, an_instance, closure, type_over, entries, values, typed_entries}

-- of a type entity one of its types; all else is what it is
abbrev pub typed_by : (Type_tree → Type_tree) → Value → Value
typed_by f (typed t) = typed (f t)
typed_by f (an_instance i vs) = an_instance i vs
typed_by f (closure r p is ls t) = closure r p is ls (f t)

abbrev pub exports_of : Value → List (Extern_name × Value)
exports_of (typed t) = typed_entries (exports t)
exports_of (an_instance i vs) = entries vs
exports_of (closure r p is ls t) = typed_entries (exports t)

abbrev pub value_reader : Reader
value_reader = record {
  Entry = Value;
  Resource = Name;
  Identity = Identity;
  sort = λ v. tree_reader.sort (type_over v);
  size = λ v. tree_reader.size (type_over v);
  depth = λ v. tree_reader.depth (type_over v);
  created = typed_by tree_reader.created;
  referenced = typed_by tree_reader.referenced;
  exports = exports_of;
  params = λ v. map typed (tree_reader.params (type_over v));
  result = λ v. option_map typed (tree_reader.result (type_over v));
  introduced = λ v. tree_reader.introduced (type_over v);
  creates = λ v. tree_reader.creates (type_over v);
  same = tree_reader.same;
  is_named = λ named s v. tree_reader.is_named named s (type_over v);
  name_checks = λ fs es n v. tree_reader.name_checks fs (map_entries type_over es) n (type_over v);
  bare_name_checks = λ fs es n v. tree_reader.bare_name_checks fs (map_entries type_over es) n (type_over v);
  matches = λ gs v w. tree_reader.matches gs (type_over v) (type_over w);
  opens = λ gs args v. tree_reader.opens gs (map_named type_over args) (type_over v);
  has_free = λ v. tree_reader.has_free (type_over v);
  is_free = λ r v. tree_reader.is_free r (type_over v);
  first_path = λ r es. tree_reader.first_path r (map_entries type_over es);
  core_entry = λ v. tree_reader.core_entry (type_over v);
  core_type = λ i. typed (tree_reader.core_type i);
  core_imports = λ v. tree_reader.core_imports (type_over v);
  core_exports = λ v. tree_reader.core_exports (type_over v);
  item = λ v. tree_reader.item (type_over v);
  core_item = λ e. typed (tree_reader.core_item e);
  primitive = λ q. typed (tree_reader.primitive q);
  left_out = typed tree_reader.left_out;
  primitive_of = λ v. tree_reader.primitive_of (type_over v);
  contains = λ k v. tree_reader.contains k (type_over v);
  abi_size = λ k v. tree_reader.abi_size k (type_over v);
  outline = λ v. tree_reader.outline (type_over v);
}

abbrev pub Value_context : Type 0
Value_context = Context value_reader

abbrev pub Value_stack : Type 0
Value_stack = Stack value_reader

-- values as their types
abbrev pub to_types : Map value_reader tree_reader
to_types = record { entry = type_over; resource = λ r. r; identity = λ i. i }

-- ## What is made

-- a node: an instance that lists values has these values
abbrev pub built : Names → Place → New_node value_reader → Value
built names p (instance_node [] es) = an_instance (names.identity (introduced p)) (values es)
built names p n = typed (node_tree (names.identity (introduced p)) (map_node to_types n))

abbrev pub over_types : Brought tree_reader → Brought value_reader
over_types b = record { entity = typed b.entity; resources = b.resources }

abbrev pub value_maker : Names → Place → Maker value_reader
value_maker names p =
    let mk : Maker tree_reader = tree_maker names p in
    record {
      again = λ v. typed (mk.again (type_over v));
      resource = mk.resource;
      reference = typed mk.reference;
      instance_of = λ v. over_types (mk.instance_of (type_over v));
      instantiate = λ args v. over_types (mk.instantiate (map_named type_over args) (type_over v));
      build = built names p;
      build_type = λ n. typed (mk.build_type (map_node to_types n));
    }

-- where an item defines a resource: that is the token of this name
abbrev pub token_maker : Names → Name → Place → Maker value_reader
token_maker names r p = record (value_maker names p) {
  resource = r;
  reference = typed (type_entry (resource_type r (names.identity (stamp_at p))));
}
