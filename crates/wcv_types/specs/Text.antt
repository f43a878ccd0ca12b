-- The text of a component type, which numbers nodes and resources by first appearance.
use Rattle.std.specs.Prelude.{ℕ, zero, suc, eqb, List, [], ◌∷◌, ◌++◌, length, Bool, false, cond, codes, Option, Some, None}
use Rattle.std.specs.Fmt.{decimal}
use Rattle.std.specs.List.{fold}
use Rattle.wcv_core.specs.CoreForm.{Group}
use Rattle.wcv_core.specs.Names.{Name, same}
use Rattle.wcv_core.specs.declared.primitive.PrimitiveValType.{PrimitiveValType}
use Rattle.wcv_core.specs.declared.primitive.PrimitiveValType.TheVariants as prim
use Rattle.wcv_types.specs.Tree.{Text, Extern_name, Former, named, record_of, variant_of, list_of, map_of, tuple_of, option_of, result_of, own_of, borrow_of, future_of, stream_of, fixed_list_of, flags_of, enum_of, Head, nothing, primitive, resource, defined, func, instance, component, type_entity, here, label, import, export, core_module, core_instance, core_type, core_item, core_import, core_export, Tree, node, Parts, none, part, head, rest_parts, created, referenced}
use Rattle.wcv_types.specs.Identity.{Identity, of_node, of_reference, identity_at, same_identity}
use Rattle.wcv_types.specs.Positions.{position_of, is_there}
use Rattle.wcv_types.specs.CoreText.{core_type_text, group_text, item_text, item_ids, group_first, group_at, older_ids}
pub use Rattle.wcv_types.specs.Quoting.{listed}
use Rattle.wcv_types.specs.Quoting.{quoted}

-- the table of core types, which core groups and which nodes have a line and which resources have a number, in order, and the text so far
pub record Written : Type 0 where
  pub core : List Group
  -- by their first ids
  pub groups : List ℕ
  pub nodes : List Identity
  pub resources : List Name
  pub text : Text

-- the beginning
abbrev pub nothing_written : List Group → Written
nothing_written gs = record { core = gs; groups = []; nodes = []; resources = []; text = [] }

-- the name of a primitive type
abbrev pub primitive_name : PrimitiveValType → Text
primitive_name prim.Bool = codes "bool"
primitive_name prim.S8 = codes "s8"
primitive_name prim.U8 = codes "u8"
primitive_name prim.S16 = codes "s16"
primitive_name prim.U16 = codes "u16"
primitive_name prim.S32 = codes "s32"
primitive_name prim.U32 = codes "u32"
primitive_name prim.S64 = codes "s64"
primitive_name prim.U64 = codes "u64"
primitive_name prim.F32 = codes "f32"
primitive_name prim.F64 = codes "f64"
primitive_name prim.Char = codes "char"
primitive_name prim.String = codes "string"
primitive_name prim.ErrorContext = codes "error-context"

-- the number of a line
abbrev pub node_number : Written → Identity → Text
node_number w i = decimal (position_of same_identity i w.nodes)

-- the number of a resource
abbrev pub resource_number : Written → Name → Text
resource_number w r = codes "r" ++ decimal (position_of same r w.resources)

-- ## Mentions and entities

-- a node as a line mentions it
abbrev pub mention_head : Written → Head Name Name → Text
mention_head w nothing = codes "-"
mention_head w (primitive p) = primitive_name p
mention_head w (resource r s) = node_number w (of_reference r s)
mention_head w (defined i k) = node_number w (of_node i)
mention_head w (func i b) = node_number w (of_node i)
mention_head w (instance i own) = node_number w (of_node i)
mention_head w (component i ins outs) = node_number w (of_node i)
mention_head w type_entity = []
mention_head w (core_module i n) = node_number w (of_node i)
mention_head w (core_instance i n) = node_number w (of_node i)
mention_head w (core_type i) = core_type_text w.core w.groups i
mention_head w (core_item e) = item_text w.core w.groups e

-- a tree as a line mentions it
abbrev pub mention : Written → Tree Name Name → Text
mention w t = mention_head w (head t)

-- what an entry is
abbrev pub entity_text : Written → Head Name Name → Tree Name Name → Text
entity_text w (func i b) t = codes "func " ++ mention w t
entity_text w type_entity t = codes "type " ++ mention w (created t) ++ codes " of " ++ mention w (referenced t)
entity_text w (instance i own) t = codes "instance " ++ mention w t
entity_text w (component i ins outs) t = codes "component " ++ mention w t
entity_text w (core_module i n) t = codes "module " ++ mention w t
entity_text w h t = codes "value " ++ mention w t

-- a text that a name says beside it, behind a word, where it is there
abbrev pub beside_text : Text → Option Text → Text
beside_text word None = []
beside_text word (Some t) = word ++ quoted t

-- what a name says beside it
abbrev pub name_text : Extern_name → Text
name_text n = beside_text (codes " implements ") n.implements ++ beside_text (codes " suffix ") n.version_suffix ++ beside_text (codes " id ") n.external_id

-- an entry, behind a word that says whether it is an import
abbrev pub entry_text : Written → Text → Extern_name → Tree Name Name → Text
entry_text w word n t = word ++ quoted n.name ++ codes " " ++ entity_text w (head t) t ++ name_text n

-- the positions of a path, joined by commas
abbrev pub positions_text : Text → List ℕ → Text
positions_text before [] = []
positions_text before (k ∷ ks) = before ++ decimal k ++ positions_text (codes ",") ks

-- a resource and its path, behind a word that says whether it is imported
abbrev pub path_text : Written → Text → Name → List ℕ → Text
path_text w word r path = word ++ resource_number w r ++ codes " [" ++ positions_text [] path ++ codes "]"

-- ## Lists in braces

-- a parameter or a field, behind what separates it
abbrev pub param_text : Text → Text → Text → Text
param_text before n v = before ++ quoted n ++ codes " " ++ v

-- fields or parameters, and a result behind the closing brace and an arrow
abbrev pub params_text : Written → Text → Parts Name Name → Text
params_text w before none = []
params_text w before (part (label n) t ps) = param_text before n (mention w t) ++ params_text w (codes ", ") ps
params_text w before (part here t ps) = codes "} -> " ++ mention w t
params_text w before (part (import n) t ps) = []
params_text w before (part (export n) t ps) = []
params_text w before (part (core_import m n) t ps) = []
params_text w before (part (core_export n) t ps) = []

-- the type of a case, behind a space, where it has one
abbrev pub payload_text : Written → Head Name Name → Text
payload_text w nothing = []
payload_text w h = codes " " ++ mention_head w h

-- the cases of a variant
abbrev pub case_texts : Written → Parts Name Name → List Text
case_texts w none = []
case_texts w (part (label n) t ps) = (quoted n ++ payload_text w (head t)) ∷ case_texts w ps
case_texts w (part _ t ps) = case_texts w ps

-- each part as a line mentions it
abbrev pub mentions : Written → Parts Name Name → List Text
mentions w none = []
mentions w (part r t ps) = mention w t ∷ mentions w ps

-- names between quotes
abbrev pub all_quoted : List Text → List Text
all_quoted [] = []
all_quoted (n ∷ ns) = quoted n ∷ all_quoted ns

-- own resources
abbrev pub own_texts : Written → List Name → List Text
own_texts w [] = []
own_texts w (r ∷ rs) = (codes "own " ++ resource_number w r) ∷ own_texts w rs

-- imports and exports, in order
abbrev pub entry_texts : Written → Parts Name Name → List Text
entry_texts w none = []
entry_texts w (part (import n) t ps) = entry_text w (codes "import ") n t ∷ entry_texts w ps
entry_texts w (part (export n) t ps) = entry_text w (codes "export ") n t ∷ entry_texts w ps
entry_texts w (part (label n) t ps) = entry_texts w ps
entry_texts w (part here t ps) = entry_texts w ps
entry_texts w (part (core_import m n) t ps) = (codes "import " ++ quoted m ++ codes " " ++ quoted n ++ codes " " ++ mention w t) ∷ entry_texts w ps
entry_texts w (part (core_export n) t ps) = (codes "export " ++ quoted n ++ codes " " ++ mention w t) ∷ entry_texts w ps

-- resources and their paths
abbrev pub path_texts : Written → Text → List (Name × List ℕ) → List Text
path_texts w word [] = []
path_texts w word (p ∷ ps) = path_text w word p.0 p.1 ∷ path_texts w word ps

-- ## Forms of nodes

-- the first part, as a line mentions it
abbrev pub first_text : Written → Parts Name Name → Text
first_text w none = []
first_text w (part r t ps) = mention w t

-- the second part, as a line mentions it
abbrev pub second_text : Written → Parts Name Name → Text
second_text w ps = first_text w (rest_parts ps)

-- a function, from its parameters and its result
abbrev pub func_text : Written → Bool → Parts Name Name → Text
func_text w async ps = cond async (codes "async ") [] ++ codes "func {" ++ params_text w [] ps

-- a defined value type
abbrev pub defined_text : Written → Former → Parts Name Name → Text
defined_text w (named p) ps = codes "prim " ++ primitive_name p
defined_text w record_of ps = codes "record {" ++ params_text w [] ps ++ codes "}"
defined_text w variant_of ps = codes "variant {" ++ listed [] (case_texts w ps) ++ codes "}"
defined_text w tuple_of ps = codes "tuple {" ++ listed [] (mentions w ps) ++ codes "}"
defined_text w (flags_of ns) ps = codes "flags {" ++ listed [] (all_quoted ns) ++ codes "}"
defined_text w (enum_of ns) ps = codes "enum {" ++ listed [] (all_quoted ns) ++ codes "}"
defined_text w list_of ps = codes "list " ++ first_text w ps
defined_text w (fixed_list_of n) ps = codes "fixed-list " ++ first_text w ps ++ codes " " ++ decimal n
defined_text w option_of ps = codes "option " ++ first_text w ps
defined_text w map_of ps = codes "map " ++ first_text w ps ++ codes " " ++ second_text w ps
defined_text w result_of ps = codes "result " ++ first_text w ps ++ codes " " ++ second_text w ps
defined_text w future_of ps = codes "future " ++ first_text w ps
defined_text w stream_of ps = codes "stream " ++ first_text w ps
defined_text w own_of ps = codes "own " ++ first_text w ps
defined_text w borrow_of ps = codes "borrow " ++ first_text w ps

-- an instance type, from its own resources and its exports
abbrev pub instance_text : Written → List Name → Parts Name Name → Text
instance_text w own ps = codes "instance {" ++ listed [] (own_texts w own ++ entry_texts w ps) ++ codes "}"

-- a component type, from its imported and its defined resources and its entries
abbrev pub component_text : Written → List (Name × List ℕ) → List (Name × List ℕ) → Parts Name Name → Text
component_text w ins outs ps =
    codes "component {" ++ listed [] (entry_texts w ps ++ path_texts w (codes "imported ") ins ++ path_texts w (codes "defined ") outs) ++ codes "}"

-- a core module, from what it imports and exports
abbrev pub core_module_text : Written → Parts Name Name → Text
core_module_text w ps = codes "module {" ++ listed [] (entry_texts w ps) ++ codes "}"

-- the form of a node
abbrev pub form_text : Written → Head Name Name → Parts Name Name → Text
form_text w (resource r s) ps = codes "resource " ++ resource_number w r
form_text w (defined i k) ps = defined_text w k ps
form_text w (func i b) ps = func_text w b ps
form_text w (instance i own) ps = instance_text w own ps
form_text w (component i ins outs) ps = component_text w ins outs ps
form_text w (core_module i n) ps = core_module_text w ps
form_text w h ps = []

-- ## Lines

-- a resource that a line mentions first gets the next number
abbrev pub with_resource : Written → Name → Written
with_resource w r = cond (is_there same r w.resources) w (record w { resources = w.resources ++ r ∷ [] })

-- so for each of the list
abbrev pub with_each : Written → List Name → Written
with_each w [] = w
with_each w (r ∷ rs) = with_each (with_resource w r) rs

-- so for each that has a path
abbrev pub with_paths : Written → List (Name × List ℕ) → Written
with_paths w [] = w
with_paths w (p ∷ ps) = with_paths (with_resource w p.0) ps

-- those that the node's own line mentions
abbrev pub with_resources : Written → Head Name Name → Written
with_resources w (resource r s) = with_resource w r
with_resources w (instance i own) = with_each w own
with_resources w (component i ins outs) = with_paths (with_paths w ins) outs
with_resources w h = w

-- a line with its number
abbrev pub line_text : ℕ → Text → Text
line_text number form = decimal number ++ codes ": " ++ form ++ codes "\n"

-- the line of a function
abbrev pub func_line : Written → Bool → Parts Name Name → Text
func_line w async ps = line_text (length w.nodes) (func_text w async ps)

-- the node's own line
abbrev pub with_line : Written → Identity → Head Name Name → Parts Name Name → Written
with_line w i h ps = record w { nodes = w.nodes ++ i ∷ []; text = w.text ++ line_text (length w.nodes) (form_text w h ps) }

-- the core group that the type stands in has a line
abbrev pub has_group : Written → ℕ → Bool
has_group w i = is_there eqb (group_first w.core i) w.groups

-- its line
abbrev pub with_group : Written → ℕ → Written
with_group w i = record w { groups = w.groups ++ group_first w.core i ∷ []; text = w.text ++ codes "g" ++ line_text (length w.groups) (group_text w.core w.groups (group_at w.core i)) }

-- its line, where it has none
abbrev pub with_new_group : Written → ℕ → Written
with_new_group w i = cond (has_group w i) w (with_group w i)

-- Lines for the core group that the type stands in and, before it, for the older ones that it names, where they have none yet. The types of older groups have smaller ids; k is more than i.
abbrev pub write_group : ℕ → Written → ℕ → Written
write_group zero w i = w
write_group (suc k) w i = cond (has_group w i) w (with_new_group (fold (write_group k) w (older_ids w.core i)) i)

-- so for each of these types
abbrev pub write_groups : Written → List ℕ → Written
write_groups w is = fold (λ v i. write_group (suc i) v i) w is

-- those that a core item names
abbrev pub write_core : Written → Head Name Name → Written
write_core w (core_item e) = write_groups w (item_ids e)
write_core w (core_type i) = write_groups w (i ∷ [])
write_core w h = w

-- a line where there is an identity, and those of core groups where a core item stands
abbrev pub line_if : Written → Option Identity → Head Name Name → Parts Name Name → Written
line_if w None h ps = write_core w h
line_if w (Some i) h ps = with_line (with_resources w h) i h ps

-- the identity has a line
abbrev pub has_line : Written → Option Identity → Bool
has_line w None = false
has_line w (Some i) = is_there same_identity i w.nodes

-- lines for the node and what it is made of, where there are none yet, parts before the whole
abbrev mutual
  pub write : Written → Tree Name Name → Written
  write w (node h ps) = cond (has_line w (identity_at h)) w (line_if (write_parts w ps) (identity_at h) h ps)

  pub write_parts : Written → Parts Name Name → Written
  write_parts w none = w
  write_parts w (part r t ps) = write_parts (write w t) ps

-- ## The whole text

-- a line of the whole text for an entry
abbrev pub entry_line : Written → Text → Extern_name → Tree Name Name → Written
entry_line w word n t = record w { text = w.text ++ entry_text w word n t ++ codes "\n" }

-- each entry in order, behind the lines of the nodes that it mentions
abbrev pub write_entries : Written → Parts Name Name → Written
write_entries w none = w
write_entries w (part (import n) t ps) = write_entries (entry_line (write w t) (codes "import ") n t) ps
write_entries w (part (export n) t ps) = write_entries (entry_line (write w t) (codes "export ") n t) ps
write_entries w (part (label n) t ps) = write_entries w ps
write_entries w (part here t ps) = write_entries w ps
write_entries w (part (core_import m n) t ps) = write_entries w ps
write_entries w (part (core_export n) t ps) = write_entries w ps

-- a line of the whole text for a resource and its path
abbrev pub path_line : Written → Text → Name → List ℕ → Written
path_line w word r path = record w { text = w.text ++ path_text w word r path ++ codes "\n" }

-- such lines in order
abbrev pub write_paths : Text → Written → List (Name × List ℕ) → Written
write_paths word w [] = w
write_paths word w (p ∷ ps) = write_paths word (path_line (with_resource w p.0) word p.0 p.1) ps

-- entries, then imported resources, then defined ones
abbrev pub write_component : List Group → Head Name Name → Parts Name Name → Written
write_component gs (component i ins outs) ps = write_paths (codes "defined ") (write_paths (codes "imported ") (write_entries (nothing_written gs) ps) ins) outs
write_component gs h ps = nothing_written gs

-- the text of a component type, over a table of core types
abbrev pub type_text : List Group → Tree Name Name → Text
type_text gs (node h ps) = (write_component gs h ps).text
