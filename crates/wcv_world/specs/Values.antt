-- Values of the linking machine, and the lists that a component keeps of where it stood.
use Rattle.std.specs.Prelude.{ℕ, List, [], ◌∷◌, map, Option}
use Rattle.wcv_core.specs.Names.{Name, Place}
use Rattle.wcv_syntax.specs.Model.{Items}
use Rattle.wcv_types.specs.Tree.{Extern_name, plain_name, instance_type}
use Rattle.wcv_types.specs.Unfold.{Type_tree}
use Rattle.wcv_lower.specs.Spaces.{Space, Core_space}

-- a reading of one root as a whole: its number among all runs of its world, and the type that is recorded of the component at a place of
-- the root, if that has one
pub record Run : Type 0 where
  pub number : ℕ
  pub recorded : Place → Option Type_tree

mutual
  pub data Value : Type 0 where
    -- what is known by its type alone: a function, a value, a type, a core module, a core item, a core instance, and all that stands in a
    -- declared type
    typed : Type_tree → Value
    -- an instance: its identity, and what it exports, in order
    an_instance : Name → Values → Value
    -- a component: the run of its root, its place there, its items, the lists where it stood, its recorded type
    closure : Run → Place → Items → Levels → Type_tree → Value

  pub data Values : Type 0 where
    no_values : Values
    value : Extern_name → Value → Values → Values

  -- the lists of a component and of those around it, the nearest first; what stands in them has empty names
  pub data Levels : Type 0 where
    no_levels : Levels
    level : (Space → Values) → (Core_space → Values) → Levels → Levels

-- the type of a value, as an entity; an instance owns no resource
abbrev mutual
  pub type_over : Value → Type_tree
  type_over (typed t) = t
  type_over (an_instance i vs) = instance_type i [] (types_over vs)
  type_over (closure r p is ls t) = t

  pub types_over : Values → List (Extern_name × Type_tree)
  types_over no_values = []
  types_over (value n v vs) = (n, type_over v) ∷ types_over vs

abbrev pub entries : Values → List (Extern_name × Value)
entries no_values = []
entries (value n v vs) = (n, v) ∷ entries vs

abbrev pub values : List (Extern_name × Value) → Values
values [] = no_values
values (e ∷ es) = value e.0 e.1 (values es)

-- of what is known by its type
abbrev pub typed_entries : List (Extern_name × Type_tree) → List (Extern_name × Value)
typed_entries es = map (λ e. (e.0, typed e.1)) es

-- ## Lists

abbrev pub listed_values : Values → List Value
listed_values no_values = []
listed_values (value n v vs) = v ∷ listed_values vs

abbrev pub unnamed : List Value → Values
unnamed [] = no_values
unnamed (v ∷ vs) = value (plain_name []) v (unnamed vs)
