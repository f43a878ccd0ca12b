-- Entries that are trees over names: those of the statements.
use Rattle.std.specs.Prelude.{ℕ, suc, List, [], ◌∷◌, ◌++◌, Bool, true, false, not, ◌&&◌, ◌||◌, cond, Option, Some, None, option_to_list}
use Rattle.wcv_core.specs.CoreWritten.{Core_entry, sub_entry, module_entry}
use Rattle.wcv_core.specs.Names.{Name, Place, member}
use Rattle.wcv_core.specs.declared.primitive.PrimitiveValType.{PrimitiveValType}
use Rattle.wcv_syntax.specs.ModuleTypes.{Module_type, Core_export}
-- imports or exports, by their whole names
pub use Rattle.wcv_names.specs.Rules.{Entries}
use Rattle.wcv_types.specs.Abi.{abi_size, contains}
use Rattle.wcv_types.specs.FirstPath.{first_path}
use Rattle.wcv_types.specs.Identity.{Identity, of_reference, identity_at, same_identity, same_known}
use Rattle.wcv_types.specs.Measure.{size, depth}
use Rattle.wcv_types.specs.Named.{is_in, is_named, passes}
use Rattle.wcv_types.specs.Resources.{owned_by, is_free}
use Rattle.wcv_types.specs.Tree as tree
use Rattle.wcv_types.specs.Tree.{Role, label, Head, nothing, primitive, resource, defined, func, instance, core_type, core_item, type_entity, here, node, Parts, none, part, Sort, is_nothing, is_type, sort, head, parts, exports, type_of, instance_type, component_type, module_type, core_exports, sub_type, primitive_type}
pub use Rattle.wcv_types.specs.Unfold.{Type_tree}
use Rattle.wcv_types.specs.Unfold.{capped}
use Rattle.wcv_matching.specs.AtomTests.{id_tests}
use Rattle.wcv_matching.specs.ModuleItems.{item_at, core_imports_in, instance_exports}
use Rattle.wcv_matching.specs.OnePass.{opens_pass, passes_match}
use Rattle.wcv_lower.specs.Checks.{same_sort}
use Rattle.wcv_lower.specs.Context.{Context, Stack, Side, importing, exporting, names_for, with_named}
use Rattle.wcv_lower.specs.EntryNames.{name_checks, bare_name_checks}
use Rattle.wcv_lower.specs.Instantiated.{instantiated, instantiated_resources}
use Rattle.wcv_lower.specs.Names.{Names, introduced}
pub use Rattle.wcv_lower.specs.NewTypes.{type_entry}
use Rattle.wcv_lower.specs.NewTypes.{renewed, new_reference, instance_tree, instance_resources}
use Rattle.wcv_lower.specs.Outlines.{outline}
use Rattle.wcv_lower.specs.Readers.{Reader, New_node, func_node, defined_node, module_node, core_instance_node, core_exports_node, instance_node, component_node, Maker}

-- ## Of a type entity

-- the type that it creates, as an entry of types
abbrev pub created : Type_tree → Type_tree
created (node type_entity ps) = type_entry (tree.created (node type_entity ps))
created t = t

abbrev pub referenced : Type_tree → Type_tree
referenced (node type_entity ps) = tree.referenced (node type_entity ps)
referenced t = t

-- a reference that a type both creates and refers to introduces its resource
abbrev pub introduced_by : Option Identity → Option Identity → List (Name × List ℕ)
introduced_by (Some (of_reference r s)) o = cond (same_known (Some (of_reference r s)) o) ((r, []) ∷ []) []
introduced_by _ o = []

abbrev pub own_resources : Sort → Type_tree → List (Name × List ℕ)
own_resources is_type t = introduced_by (identity_at (head (tree.created t))) (identity_at (head (tree.referenced t)))
own_resources _ t = []

-- ## What is named

-- the types that an entity creates: of an instance those of its exports, in order
abbrev mutual
  pub creates : Type_tree → List Identity
  creates (node type_entity ps) = option_to_list (identity_at (head (tree.created (node type_entity ps))))
  creates (node (instance i own) ps) = all_created ps
  creates t = []

  pub all_created : Parts Name Name → List Identity
  all_created none = []
  all_created (part k t ps) = creates t ++ all_created ps

-- the sets once an entry of the side stands in them
abbrev pub named_after : (Side → List Identity) → Side → Type_tree → Side → List Identity
named_after named s t = λ d. with_named same_identity (names_for s d) (named d) (creates t)

abbrev pub is_known : List Identity → Option Identity → Bool
is_known ids None = false
is_known ids (Some i) = is_in ids i

-- what an import refers to, if it is a type, is named for exports and not for imports
abbrev pub is_export_alone : (Side → List Identity) → Side → Type_tree → Bool
is_export_alone named importing (node type_entity ps) =
    let i : Option Identity = identity_at (head (tree.referenced (node type_entity ps))) in
    is_known (named exporting) i && not (is_known (named importing) i)
is_export_alone named s t = false

-- an entry is named: of a value its type, of a type what it refers to, of an instance each export, in order, of others what they
-- are made of
abbrev mutual
  pub entry_passes : (Side → List Identity) → Side → Type_tree → Bool
  entry_passes named s (node type_entity ps) = passes (named s) (tree.referenced (node type_entity ps)) && not (is_export_alone named s (node type_entity ps))
  entry_passes named s (node (instance i own) ps) = exports_pass named s ps
  entry_passes named s (node (defined i k) ps) = is_named (named s) (node (defined i k) ps)
  entry_passes named s t = passes (named s) t

  pub exports_pass : (Side → List Identity) → Side → Parts Name Name → Bool
  exports_pass named s none = true
  exports_pass named s (part k t ps) = entry_passes named s t && exports_pass (named_after named s t) s ps

-- ## Functions

-- what stands under labels
abbrev pub labelled : Parts Name Name → List Type_tree
labelled none = []
labelled (part (label n) t ps) = t ∷ labelled ps
labelled (part k t ps) = labelled ps

abbrev pub params : Type_tree → List Type_tree
params (node (func i async) ps) = labelled ps
params t = []

-- it is not left out
abbrev pub if_given : Type_tree → Option Type_tree
if_given t = cond (same_sort is_nothing (sort t)) None (Some t)

-- what stands without a label
abbrev pub unlabelled : Parts Name Name → Option Type_tree
unlabelled none = None
unlabelled (part here t ps) = if_given t
unlabelled (part k t ps) = unlabelled ps

abbrev pub result : Type_tree → Option Type_tree
result (node (func i async) ps) = unlabelled ps
result t = None

-- ## Free resources

abbrev pub refers_outside : List Name → Head Name Name → Bool
refers_outside own (resource r s) = not (member r own)
refers_outside own h = false

-- a resource is mentioned that is owned neither there nor in this list
abbrev mutual
  pub has_free : List Name → Type_tree → Bool
  has_free own (node h ps) = refers_outside own h || any_free (owned_by h ++ own) ps

  pub any_free : List Name → Parts Name Name → Bool
  any_free own none = false
  any_free own (part k t ps) = has_free own t || any_free own ps

-- ## Core types and value types

-- a core type with its id, or a module type
abbrev pub head_entry : Head Name Name → Core_entry
head_entry (core_type i) = sub_entry i
head_entry _ = module_entry

abbrev pub core_entry : Type_tree → Core_entry
core_entry t = head_entry (head t)

-- the primitive that a type is, under a name or not
abbrev pub primitive_of : Type_tree → Option PrimitiveValType
primitive_of (node (primitive p) ps) = Some p
primitive_of (node (defined i (tree.named p)) ps) = Some p
primitive_of t = None

-- ## The reader

abbrev pub tree_reader : Reader
tree_reader = record {
  Entry = Type_tree;
  Resource = Name;
  Identity = Identity;
  sort = sort;
  size = size;
  depth = depth;
  created = created;
  referenced = referenced;
  exports = exports;
  params = params;
  result = result;
  introduced = λ t. own_resources (sort t) t;
  creates = creates;
  same = same_identity;
  is_named = entry_passes;
  name_checks = name_checks;
  bare_name_checks = bare_name_checks;
  matches = λ gs a b. passes_match (id_tests gs) a b;
  opens = λ gs args c. opens_pass (id_tests gs) args c;
  has_free = has_free [];
  is_free = is_free;
  first_path = first_path;
  core_entry = core_entry;
  core_type = λ i. sub_type i;
  core_imports = λ t. core_imports_in (parts t);
  core_exports = instance_exports;
  item = λ t. item_at (head t);
  core_item = λ e. node (core_item e) none;
  primitive = λ p. primitive_type p;
  left_out = node nothing none;
  primitive_of = primitive_of;
  contains = contains;
  abi_size = abi_size;
  outline = λ t. outline t;
}

abbrev pub Tree_context : Type 0
Tree_context = Context tree_reader

abbrev pub Tree_stack : Type 0
Tree_stack = Stack tree_reader

-- ## What is made

abbrev pub tree_parts : List (Role × Type_tree) → Parts Name Name
tree_parts [] = none
tree_parts (p ∷ ps) = part p.0 p.1 (tree_parts ps)

-- the type of a module, under an identity, with the size that a node keeps
abbrev pub module_tree : Name → Module_type → Type_tree
module_tree i m = module_type i (capped m.size) m.imports m.exports

-- the type of a core instance, under an identity, with what it counts
abbrev pub of_module : Name → ℕ → Type_tree → Type_tree
of_module i n t = node (tree.core_instance i (capped n)) (part here t none)

abbrev pub of_items : Name → ℕ → List Core_export → Type_tree
of_items i n es = node (tree.core_instance i (capped n)) (core_exports es none)

-- a node under an identity
abbrev pub node_tree : Name → New_node tree_reader → Type_tree
node_tree i (func_node b ps) = node (func i b) (tree_parts ps)
node_tree i (defined_node k ps) = node (defined i k) (tree_parts ps)
node_tree i (module_node m) = module_tree i m
node_tree i (core_instance_node n t) = of_module i n t
node_tree i (core_exports_node n es) = of_items i n es
node_tree i (instance_node own es) = instance_type i own es
node_tree i (component_node ins outs es es') = component_type i ins outs es es'

-- under names that are given at a place
abbrev pub tree_maker : Names → Place → Maker tree_reader
tree_maker names p = record {
  again = λ t. type_of (renewed names p t) t;
  resource = names.resource (introduced p);
  reference = type_entry (new_reference names p);
  instance_of = λ t. record { entity = instance_tree names p t; resources = instance_resources names p t };
  instantiate = λ args c. record { entity = instantiated names p args c; resources = instantiated_resources names p c };
  build = node_tree (names.identity (introduced p));
  build_type = λ n. type_entry (node_tree (names.identity (introduced p)) n);
}
