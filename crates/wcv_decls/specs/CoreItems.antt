-- What core types and core modules do to a state.
use Rattle.std.specs.Prelude.{ℕ, suc, List, [], ◌∷◌, ◌++◌, length, Option, Some, false, ◌≡◌}
use Rattle.wcv_core.specs.Names.{Place, number}
use Rattle.wcv_core.specs.declared.core_types.CoreTypeId.{CoreTypeId}
use Rattle.wcv_core.specs.declared.error.Error.{Error}
use Rattle.wcv_syntax.specs.Model.{Module_decl, Core_type_form, Form}
use Rattle.wcv_syntax.specs.ModuleTypes.{Module_type, Made, empty_module, all_declared}
use Rattle.wcv_types.specs.Arena.{Arena}
use Rattle.wcv_types.specs.Rebuild.{given_types}
use Rattle.wcv_types.specs.Standing.{Stands, Extends}
use Rattle.wcv_types.specs.Unfold.{Type_tree, Slot, at, tree_at}
use Rattle.wcv_types.specs.declared.ids.ComponentCoreModuleTypeId.{ComponentCoreModuleTypeId}
use Rattle.wcv_types.specs.declared.ids.ComponentCoreTypeId.TheVariants as core_type
use Rattle.wcv_types.specs.declared.ids.Part.TheVariants as part
use Rattle.wcv_lower.specs.Checks.{IsFree}
use Rattle.wcv_lower.specs.Context.{Core_space, core_types, core_modules, push_core}
use Rattle.wcv_lower.specs.CoreItems.{outer_entries, core_type_made}
use Rattle.wcv_lower.specs.Growth.{call_checks}
use Rattle.wcv_lower.specs.Names.{Names}
use Rattle.wcv_lower.specs.Trees.{tree_maker, module_tree}
use Rattle.wcv_spaces.specs.Contents.{Contents, Core_id, core_ids, core_slot, with_core, context_of}
use Rattle.wcv_spaces.specs.Promises.{MemoryOrCausedBy, Keeps}
use Rattle.wcv_state.specs.Stack.{innermost, around}
use Rattle.wcv_decls.specs.Stack.{stack_on}
use Rattle.wcv_decls.specs.declared.core_module.ModuleSpace.{ModuleSpace}
use Rattle.wcv_decls.specs.declared.core_module.ModuleSpace.TheVariants as space

-- the type of a module is the arena's next node
pub record StoredModule (a b : Arena) (m : Module_type) (i : ComponentCoreModuleTypeId) : Type 0 where
  pub stands : Stands b (part.Module i)
  pub tree : tree_at b (part.Module i) ≡ module_tree (number (length a.nodes)) m
  pub types : given_types b (part.Module i) ≡ m.types
  pub nodes : length b.nodes ≡ suc (length a.nodes)
  pub core : b.core ≡ a.core
  pub arena : Extends a b

-- the space that it joins, and what the state becomes
abbrev pub core_space : ModuleSpace → Core_space
core_space space.CoreTypes = core_types
core_space space.CoreModules = core_modules

abbrev pub with_module : ModuleSpace → ComponentCoreModuleTypeId → Contents → Contents
with_module space.CoreTypes i s = with_core core_types (core_type.Module i) s
with_module space.CoreModules i s = with_core core_modules i s

-- a core item of that tree joined a space, with one node of the arena
pub record JoinedCore (k : Core_space) (a b : Arena) (s s' : Contents) (t : Type_tree) : Type 0 where
  pub grown : context_of b s' ≡ push_core k t (context_of a s)
  pub nodes : length b.nodes ≡ suc (length a.nodes)
  pub core : b.core ≡ a.core
  pub live : s'.spent ≡ false
  pub keeps : Keeps a b s s'

-- the type of a module did
abbrev pub JoinedModule : Core_space → Arena → Arena → Contents → Contents → Module_type → Type 0
JoinedModule k a b s s' m = JoinedCore k a b s s' (module_tree (number (length a.nodes)) m)

-- the core types that are kept where the type of a module stands: those that its declarations gave, which are no part of its tree
abbrev pub kept_types : Arena → Slot → List CoreTypeId
kept_types a (at q) = given_types a q
kept_types a l = []

-- one entry joined a space, and these core types are kept where it stands
pub record JoinsWith (k : Core_space) (b : Arena) (s s' : Contents) (ts : List CoreTypeId) : Type 0 where
  pub id : Core_id k
  pub joined : core_ids k s'.spaces ≡ core_ids k s.spaces ++ id ∷ []
  pub types : kept_types b (core_slot k id) ≡ ts

-- so with the types of a module, if it is one that is made
abbrev pub JoinsMade : Core_space → Arena → Contents → Contents → Option Made → Type 0
JoinsMade k b s s' o = (m : Made) → o ≡ Some m → JoinsWith k b s s' m.1.types

-- so in the innermost of the states, if a core type item is a module type
abbrev pub JoinsCoreType : Arena → Arena → List Contents → List Contents → Core_type_form → Type 0
JoinsCoreType a b ss ss' t = JoinsMade core_types b (innermost ss) (innermost ss') (core_type_made (innermost ss).features (stack_on a (around ss) (innermost ss)) t)

-- the module that declarations make, where the innermost of the states stands
abbrev pub MadeIn : Arena → Arena → List Contents → List Module_decl → Module_type → Type 0
MadeIn a b ss ds m =
    (outer : List Contents) (s : Contents) → ss ≡ outer ++ s ∷ [] →
    all_declared (outer_entries (stack_on a outer s)) a.core (empty_module s.features) ds ≡ Some (b.core, m)

-- the item has no cause there, and such a cause, by any names
abbrev pub FreeIn : Arena → List Contents → Form → Type 0
FreeIn a ss f = (outer : List Contents) (s : Contents) → ss ≡ outer ++ s ∷ [] → (n : Names) (p : Place) → IsFree (call_checks s.features (tree_maker n p) (stack_on a outer s) f)

abbrev pub CausedIn : {M : Type 0} → Arena → List Contents → Form → ℕ → Error M → Type 0
CausedIn a ss f offset e = (outer : List Contents) (s : Contents) → ss ≡ outer ++ s ∷ [] → (n : Names) (p : Place) → MemoryOrCausedBy (call_checks s.features (tree_maker n p) (stack_on a outer s) f) offset e
