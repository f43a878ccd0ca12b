-- Lists of values agree with contexts.
use Rattle.std.specs.Prelude.{List, ◌∷◌, Some, Option, bytes_eq, Contains, ◌≡◌}
use Rattle.std.specs.List.{AllZip}
use Rattle.std.specs.Map.{lookup}
use Rattle.wcv_core.specs.CoreForm.{Group}
use Rattle.wcv_core.specs.Names.{Name}
use Rattle.wcv_core.specs.declared.core_types.EntityType.{EntityType}
use Rattle.wcv_core.specs.declared.core_types.ValType.{ValType}
use Rattle.wcv_types.specs.Tree.{Text, Extern_name, Sort, is_core_instance, is_core_item, sort}
use Rattle.wcv_types.specs.Unfold.{Type_tree}
use Rattle.wcv_matching.specs.ModuleItems.{ItemsMatch}
use Rattle.wcv_lower.specs.Context.{Space, Core_space, core_types, Side}
use Rattle.wcv_lower.specs.NewTypes.{type_entry}
use Rattle.wcv_lower.specs.Owned.{IsOwn}
use Rattle.wcv_lower.specs.Trees.{Tree_context, Tree_stack, tree_reader}
use Rattle.wcv_growth.specs.Kept.{IsPrefix}
use Rattle.wcv_world.specs.Growth.{Tokens}
use Rattle.wcv_world.specs.Reading.{Value_context, Value_stack}
use Rattle.wcv_world.specs.Values.{Value, type_over}
use Rattle.wcv_safety.specs.Fitting.{Fits}

-- ## Tokens

-- one of these tokens
abbrev pub IsToken : Tokens → Name → Type 0
IsToken ts r = (o : Option ValType) × Contains ts (r, o)

-- ## Entries

-- under each name that the second core instance exports, the first exports an item that matches. Of a name that stands twice the first counts
abbrev pub Serves : List Group → Type_tree → Type_tree → Type 0
Serves gs a b =
    (n : Text) (e : EntityType) → lookup (bytes_eq n) (tree_reader.core_exports b) ≡ Some e → (x : EntityType) × (lookup (bytes_eq n) (tree_reader.core_exports a) ≡ Some x) × ItemsMatch gs x e

-- both are core items, and the first matches the second. As types they would have to be equal
abbrev pub ItemFits : List Group → Type_tree → Type_tree → Type 0
ItemFits gs a b = (x : EntityType) × (y : EntityType) × (tree_reader.item a ≡ Some x) × (tree_reader.item b ≡ Some y) × ItemsMatch gs x y

-- by the sort of the second. As types, core instances would have to be alike
abbrev pub AgreesAs : Sort → List Group → (Name → Name) → Type_tree → Type_tree → Type 0
AgreesAs is_core_instance gs g a b = (sort a ≡ is_core_instance) × Serves gs a b
AgreesAs is_core_item gs g a b = ItemFits gs a b
AgreesAs k gs g a b = Fits gs g a b

-- a value agrees with the type in its place, whose free resources are read by g. A type stands as a type entity, so each of both matches
-- the other, and both own the same
abbrev pub Agrees : List Group → (Name → Name) → Value → Type_tree → Type 0
Agrees gs g v t = AgreesAs (sort t) gs g (type_over v) t

-- as two types, where each stands itself: each matches the other, and both own the same
abbrev pub AgreesAsType : List Group → (Name → Name) → Value → Type_tree → Type 0
AgreesAsType gs g v t = Fits gs g (type_entry (type_over v)) (type_entry t)

-- ## Contexts

-- the lists of a reading, or those around a component, agree with a context: one by one in each space. The resources that the context
-- imports or defines go to tokens, and one with a representation to a token with that
pub record AgreeContexts (gs : List Group) (ts : Tokens) (g : Name → Name) (v : Value_context) (c : Tree_context) : Type 0 where
  pub space : (k : Space) → AllZip (Agrees gs g) (v.space k) (c.space k)
  pub core : (k : Core_space) → AllZip (Agrees gs g) (v.core k) (c.core k)
  -- core types, and the types of core modules that stand among them
  pub types : AllZip (AgreesAsType gs g) (v.core core_types) (c.core core_types)
  pub tokens : (r : Name) → IsOwn c r → IsToken ts (g r)
  pub defined : (r : Name) (x : ValType) → Contains c.defined (r, Some x) → Contains ts (g r, Some x)

-- so the lists of a stack, the nearest first
abbrev pub AgreeAll : List Group → Tokens → (Name → Name) → List Value_context → List Tree_context → Type 0
AgreeAll gs ts g vs cs = AllZip (AgreeContexts gs ts g) vs cs

-- the core types that were read by then stand in the table of the values too, which may have more
pub record AgreeStacks (ts : Tokens) (g : Name → Name) (v : Value_stack) (s : Tree_stack) : Type 0 where
  pub groups : IsPrefix s.groups v.groups
  pub all : AgreeAll v.groups ts g (v.top ∷ v.outer) (s.top ∷ s.outer)

-- ## Within a reading

-- an import or an export: under the same name something that agrees
abbrev pub AgreesNamed : List Group → (Name → Name) → Extern_name × Value → Extern_name × Type_tree → Type 0
AgreesNamed gs g x e = (x.0.name ≡ e.0.name) × Agrees gs g x.1 e.1

-- the context on top is that of a reading: it has the tokens, and its imports and exports agree too
pub record AgreeReadings (g : Name → Name) (v : Value_stack) (s : Tree_stack) : Type 0 where
  pub stacks : AgreeStacks v.top.defined g v s
  pub sides : (d : Side) → AllZip (AgreesNamed v.groups g) (v.top.side d) (s.top.side d)

-- the machine is not stuck at what the static reading does, and its lists agree with what that leads to
abbrev pub Follows : (Name → Name) → Option Value_stack → Tree_stack → Type 0
Follows g o u = (w : Value_stack) × (o ≡ Some w) × AgreeReadings g w u
