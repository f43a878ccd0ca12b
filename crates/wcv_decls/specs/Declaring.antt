-- Types that are read over the states that are open, declaration by declaration, and how a component comes and leaves.
use Rattle.std.specs.Prelude.{ℕ, List, [], ◌++◌, Bool, All, length, ◌≡◌, ◌<◌, ◌⊎◌, Some}
use Rattle.wcv_core.specs.Limits.{max_list}
use Rattle.wcv_core.specs.Names.{Place, number}
use Rattle.wcv_core.specs.Refusal.{error_kind, error_offset}
use Rattle.wcv_core.specs.declared.error.Error.{Error}
use Rattle.wcv_core.specs.declared.error.ErrorKind.{ErrorKind}
use Rattle.wcv_core.specs.declared.error.ErrorKind.TheVariants as kind
use Rattle.wcv_core.specs.declared.features.WasmFeatures.{WasmFeatures}
use Rattle.wcv_syntax.specs.Model.{Type_form, Decl, Decls}
use Rattle.wcv_types.specs.Arena.{Arena}
use Rattle.wcv_types.specs.Tree.{is_component}
use Rattle.wcv_types.specs.declared.component_type.ComponentType.{ComponentType}
use Rattle.wcv_types.specs.declared.ids.ComponentTypeId.{ComponentTypeId}
use Rattle.wcv_lower.specs.Checks.{Checks, Cause, IsFree, no_room, too_many}
use Rattle.wcv_lower.specs.Context.{Kind, declares_instance, importing, Stack, empty, counts}
use Rattle.wcv_lower.specs.Declared.{full_stack, ended, decl_checks}
use Rattle.wcv_lower.specs.DeclaredCalls.{TypeRead, TypeRefused, DeclRead, DeclsRead, DeclsRefused}
use Rattle.wcv_lower.specs.Ending.{declared_end_checks}
use Rattle.wcv_lower.specs.Given.{GivenNames, names_of, GivesAt}
use Rattle.wcv_lower.specs.Names.{Under, introduced}
use Rattle.wcv_lower.specs.Owned.{IsCalm, IsLed}
use Rattle.wcv_lower.specs.Readers.{Reader}
use Rattle.wcv_lower.specs.Trees.{Tree_context, Tree_stack, tree_reader, tree_maker}
use Rattle.wcv_spaces.specs.Contents.{Contents}
use Rattle.wcv_spaces.specs.Promises.{numbers_of, AddsComponent, Finished}
pub use Rattle.wcv_state.specs.Stack.{innermost, around}
use Rattle.wcv_decls.specs.Stack.{IsOpen, stack_on, all_spent, all_uncharged}

-- ## The states

abbrev pub features_in : List Contents → WasmFeatures
features_in ss = (innermost ss).features

-- the stack that they stand for, and its top
abbrev pub stack_in : Arena → List Contents → Tree_stack
stack_in a ss = stack_on a (around ss) (innermost ss)

abbrev pub top_in : Arena → List Contents → Tree_context
top_in a ss = (stack_in a ss).top

-- items may be read over them
pub record AreReady (a : Arena) (ss : List Contents) : Type 0 where
  pub some : 0 < length ss
  pub each : All (IsOpen a) ss
  pub calm : IsCalm (numbers_of a) (stack_in a ss)

-- so again, with the same states around, but for the sizes of what was aliased into them
pub record StayReady (a : Arena) (ss ss' : List Contents) : Type 0 where
  pub ready : AreReady a ss'
  pub around : all_uncharged (around ss') ≡ all_uncharged (around ss)

-- but for marks and these sizes, those around the innermost stay
abbrev pub SameAround : List Contents → List Contents → Type 0
SameAround ss ss' = all_spent (all_uncharged (around ss')) ≡ all_spent (all_uncharged (around ss))

-- the context of an instance type that is read: it has no imports, and a path leads to each defined resource in its exports
pub record IsInstanceBody (c : Tree_context) : Type 0 where
  pub kind : c.kind ≡ declares_instance
  pub imports : c.side importing ≡ []
  pub led : IsLed c

abbrev pub DeclaresInstance : Arena → List Contents → Type 0
DeclaresInstance a ss = IsInstanceBody (top_in a ss)

-- a state that is new stands on top
pub record Opened (k : Kind) (a : Arena) (ss ss' : List Contents) : Type 0 where
  pub around : around ss' ≡ ss
  pub empty : top_in a ss' ≡ empty tree_reader k
  pub features : features_in ss' ≡ features_in ss

-- a component of n items may not be opened: no room for one more context on the stack or for one more component, or too many items
abbrev pub component_room : {X : Reader} → Stack X → ℕ → Checks
component_room s n = full_stack s ++ (no_room (counts s.top) is_component ++ too_many max_list n)

-- ## What is read

-- the type item was read at any place
abbrev pub ReadsType : Bool → Arena → Arena → List Contents → List Contents → Type_form → Type 0
ReadsType limited a b ss ss' t = (p : Place) → TypeRead limited (features_in ss) p (stack_in a ss) t (stack_in b ss') (numbers_of a) (numbers_of b)

-- so a declaration
abbrev pub ReadsDecl : Arena → Arena → List Contents → List Contents → Decl → Type 0
ReadsDecl a b ss ss' d = (p : Place) → DeclRead (features_in ss) p (stack_in a ss) d (stack_in b ss') (numbers_of a) (numbers_of b)

-- and declarations, from the first on
abbrev pub ReadsDecls : Arena → Arena → List Contents → List Contents → Decls → Type 0
ReadsDecls a b ss ss' ds = (p : Place) → DeclsRead (features_in ss) p 0 (stack_in a ss) ds (stack_in b ss') (numbers_of a) (numbers_of b)

-- ## What is refused

-- at each place the error is out of memory, or its kind is one that is refused there, at that offset
abbrev pub MemoryOr : {M : Type 0} → (Place → ErrorKind → Type 0) → ℕ → Error M → Type 0
MemoryOr P offset e = (p : Place) → (error_kind e ≡ kind.OutOfMemory) ⊎ (P p (error_kind e) × (error_offset e ≡ offset))

-- a type item
abbrev pub RefusesType : Bool → Arena → Arena → List Contents → Type_form → Place → ErrorKind → Type 0
RefusesType limited a b ss t p e = TypeRefused limited (features_in ss) p (stack_in a ss) t e (numbers_of a) (numbers_of b)

-- a declaration
abbrev pub RefusesDecl : Arena → Arena → List Contents → Decl → Place → ErrorKind → Type 0
RefusesDecl a b ss d p e = (n : GivenNames) × GivesAt (Under p) (numbers_of a) (numbers_of b) n × Cause (decl_checks (features_in ss) (tree_maker (names_of n)) p (stack_in a ss) d) e

-- one of these declarations, or their end
abbrev pub RefusesDecls : Kind → Arena → Arena → List Contents → Decls → Place → ErrorKind → Type 0
RefusesDecls k a b ss ds p e = DeclsRefused (features_in ss) p 0 k (stack_in a ss) ds e (numbers_of a) (numbers_of b)

-- ## The end

-- the innermost left, and its type joined the types of the state around it, under a name that the arena gave
pub record Ends (k : Kind) (a b : Arena) (ss ss' : List Contents) : Type 0 where
  pub names : Place → GivenNames
  pub given : (p : Place) → GivesAt (λ q. q ≡ p) (numbers_of a) (numbers_of b) (names p)
  -- which is that of the arena's next node
  pub named : (p : Place) → (names_of (names p)).identity (introduced p) ≡ number (length a.nodes)
  pub ended : (p : Place) → ended k (tree_maker (names_of (names p)) p) (stack_in a ss) ≡ Some (stack_in b ss')
  pub free : IsFree (declared_end_checks k (top_in a ss))
  -- those around that stay
  pub ready : StayReady b (around ss) ss'
  pub declares : DeclaresInstance a (around ss) → DeclaresInstance b ss'

-- the type of what the state read is the arena's next node, of that id
pub record TypeKept (a b : Arena) (s : Contents) (id : ComponentTypeId) : Type 0 where
  pub ty : ComponentType
  pub finished : Finished a s ty
  pub added : AddsComponent a b ty id
