-- Worked canonical functions: the contexts in which they are read, and what is said of them.
use Rattle.std.specs.Prelude.{ℕ, zero, suc, List, [], ◌∷◌, Bool, true, false, cond, Option, Some, None}
use Rattle.wcv_core.specs.CoreForm.{func_form, Group}
use Rattle.wcv_core.specs.Names.{Name, base, stamped}
use Rattle.wcv_core.specs.declared.core_types.AbstractHeap.TheVariants as heap_name
use Rattle.wcv_core.specs.declared.core_types.EntityType.TheVariants as entity
use Rattle.wcv_core.specs.declared.core_types.HeapType.TheVariants as heap
use Rattle.wcv_core.specs.declared.core_types.TableType.{TableType}
use Rattle.wcv_core.specs.declared.core_types.ValType.{ValType}
use Rattle.wcv_core.specs.declared.core_types.ValType.TheVariants as val
use Rattle.wcv_core.specs.declared.error.ErrorKind.{ErrorKind}
use Rattle.wcv_core.specs.declared.features.WasmFeatures.{WasmFeatures}
use Rattle.wcv_core.specs.declared.primitive.PrimitiveValType.TheVariants as prim
use Rattle.wcv_syntax.specs.Model.{Canon_form}
use Rattle.wcv_syntax.specs.Model as form
use Rattle.wcv_syntax.specs.declared.canonical.CanonicalOption.{CanonicalOption}
use Rattle.wcv_types.specs.Tree as tree
use Rattle.wcv_types.specs.Tree.{Text}
use Rattle.wcv_types.specs.Unfold.{Type_tree, left_out}
use Rattle.wcv_lower.specs.Canons.{alone, func_joins}
use Rattle.wcv_lower.specs.Checks.{Checks}
use Rattle.wcv_lower.specs.Context.{empty, concrete, Space, in_types, in_funcs, Core_space, core_types, core_funcs, core_memories, core_tables, same_core_space, push_core}
use Rattle.wcv_lower.specs.Step.{Step}
use Rattle.wcv_lower.specs.Trees.{tree_reader, Tree_stack, type_entry}

-- ## What is said

-- the kinds of the causes, in order
abbrev pub kinds : Checks → List ErrorKind
kinds [] = []
kinds (c ∷ cs) = cond c.1 (c.0 ∷ kinds cs) (kinds cs)

-- a core function of that type is appended, and the type alone in a group
abbrev pub appends_type : Tree_stack → List ValType → List ValType → Option (Step tree_reader)
appends_type s ps rs = Some (func_joins tree_reader s.groups (alone false (func_form ps rs)))

-- the default features with some more
abbrev pub default_with : ℕ → WasmFeatures
default_with bits = record { 0 = bits }

-- ## Functions

-- the same function with these options, where it has any
abbrev pub with_options : List CanonicalOption → Canon_form → Canon_form
with_options os (form.lift f t ps) = form.lift f t os
with_options os (form.lower f ps) = form.lower f os
with_options os (form.task_return r ps) = form.task_return r os
with_options os (form.stream_read t ps) = form.stream_read t os
with_options os (form.stream_write t ps) = form.stream_write t os
with_options os (form.future_read t ps) = form.future_read t os
with_options os (form.future_write t ps) = form.future_write t os
with_options os (form.error_context_new ps) = form.error_context_new os
with_options os (form.error_context_message ps) = form.error_context_message os
with_options os (form.builtin f) = form.builtin f

-- ## Contexts

abbrev pub spaces : List Type_tree → List Type_tree → Space → List Type_tree
spaces types funcs in_types = types
spaces types funcs in_funcs = funcs
spaces types funcs _ = []

-- with these core items of one space
abbrev pub alone_in : Core_space → List Type_tree → Core_space → List Type_tree
alone_in k items = λ j. cond (same_core_space j k) items []

-- a root with these types and functions, and these core items of one space, whose types stand in these groups
abbrev pub root_of : List Type_tree → List Type_tree → List Group → Core_space → List Type_tree → Tree_stack
root_of types funcs groups k items = record { top = record (empty tree_reader concrete) { space = spaces types funcs; core = alone_in k items }; outer = []; groups = groups }

abbrev pub resource : Name
resource = base (0 ∷ [])

-- with a type that refers to a resource
abbrev pub with_resource : Tree_stack
with_resource = root_of (type_entry (tree.resource_type resource (stamped (0 ∷ []))) ∷ []) [] [] core_types []

-- which the root defines, with that representation
abbrev pub with_local_resource : ValType → Tree_stack
with_local_resource rep = record with_resource { top = record with_resource.top { defined = (resource, Some rep) ∷ [] } }

-- a list of one thing, that many times
abbrev pub times : {A : Type 0} → ℕ → A → List A
times zero x = []
times (suc n) x = x ∷ times n x

abbrev param : Text × Type_tree
param = ([], tree.primitive_type prim.U32)

-- a function of so many numbers
abbrev pub takes_numbers : ℕ → Type_tree
takes_numbers n = tree.func_type (base (1 ∷ [])) false (times n param) left_out

abbrev pub with_func : ℕ → Tree_stack
with_func n = root_of [] (takes_numbers n ∷ []) [] core_types []

-- with a memory, which may be of 64 bits
abbrev pub with_memory : Bool → ℕ → Tree_stack
with_memory wide n = root_of [] (takes_numbers n ∷ []) [] core_memories (tree_reader.core_item (entity.Memory (record { initial = 1; maximum = None; memory64 = wide; shared = false; page_size_log2 = 16 })) ∷ [])

-- with the type of a function of one number, and a core function that takes this and gives nothing
abbrev pub with_code : ValType → Tree_stack
with_code v = root_of (type_entry (takes_numbers 1) ∷ []) [] (alone false (func_form (v ∷ []) []) ∷ []) core_funcs (tree_reader.core_item (entity.Func (record { index = 0 })) ∷ [])

-- with a core type that takes a number and gives nothing, shared or not
abbrev pub with_core_type : Bool → Tree_stack
with_core_type shared = root_of [] [] (alone shared (func_form (val.I32 ∷ []) []) ∷ []) core_types (tree_reader.core_type 0 ∷ [])

-- with a core type that takes this and gives nothing, and a table of functions
abbrev pub with_start : ValType → Tree_stack
with_start v =
    let s : Tree_stack = root_of [] [] (alone false (func_form (v ∷ []) []) ∷ []) core_types (tree_reader.core_type 0 ∷ []) in
    let funcs : TableType = record { element_type = record { nullable = true; shared = false; heap = heap.Abstract heap_name.Func }; table64 = false; initial = 1; maximum = None; shared = false } in
    record s { top = push_core core_tables (tree_reader.core_item (entity.Table funcs)) s.top }

-- with a type that carries bytes
abbrev carries : tree.Former → Tree_stack
carries k = root_of (type_entry (tree.node (tree.defined (base (2 ∷ [])) k) (tree.part tree.here (tree.primitive_type prim.U8) tree.none)) ∷ []) [] [] core_types []

abbrev pub with_stream : Tree_stack
with_stream = carries tree.stream_of

abbrev pub with_future : Tree_stack
with_future = carries tree.future_of

abbrev pub bare_root : Tree_stack
bare_root = root_of [] [] [] core_types []

-- in which the slots have a type
abbrev pub with_slots : ValType → Tree_stack
with_slots v = record bare_root { top = record bare_root.top { context_type = Some v } }
