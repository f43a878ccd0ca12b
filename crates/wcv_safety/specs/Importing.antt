-- What is asked of an import: its argument opens it.
use Rattle.std.specs.Prelude.{ℕ, List, [], ◌∷◌, All, Some, ◌≡◌}
use Rattle.wcv_core.specs.CoreForm.{Group}
use Rattle.wcv_core.specs.Names.{Name}
use Rattle.wcv_syntax.specs.declared.component_type.ComponentTypeRef.{ComponentTypeRef}
use Rattle.wcv_syntax.specs.declared.component_type.ComponentTypeRef.TheVariants as ref
use Rattle.wcv_types.specs.Unfold.{Type_tree}
use Rattle.wcv_matching.specs.Orderly.{Orderly}
use Rattle.wcv_matching.specs.TableMatching.{CoreWithin}
use Rattle.wcv_lower.specs.Entries.{written}
use Rattle.wcv_lower.specs.Readers.{Maker, Brought}
use Rattle.wcv_lower.specs.Trees.{tree_reader}
use Rattle.wcv_world.specs.Growth.{importing_alone}
use Rattle.wcv_world.specs.Reading.{Value_stack, value_reader}
use Rattle.wcv_world.specs.Values.{Value, type_over}
use Rattle.wcv_safety.specs.Agreeing.{IsToken}
use Rattle.wcv_safety.specs.Clean.{AllAlike}
use Rattle.wcv_safety.specs.Fitting.{Fits}
use Rattle.wcv_safety.specs.Standing.{with_token}

-- the substitution, with the resources that an import introduces read by o
abbrev pub with_opened : List (Name × List ℕ) → (Name → Name) → (Name → Name) → Name → Name
with_opened [] o g = g
with_opened (r ∷ rs) o g = with_token (with_opened rs o g) r.0 (o r.0)

-- names differ in each list, and its core types are of the table: so it can be told whether something matches it
abbrev pub IsTold : List Group → Type_tree → Type 0
IsTold gs t = Orderly t × CoreWithin gs t

-- so it is with what the lists of the machine give for a written type
abbrev pub WrittenIsTold : Maker value_reader → Value_stack → ComponentTypeRef → Type 0
WrittenIsTold mk v r = (b : Brought value_reader) → written mk v.top r ≡ Some b → IsTold v.groups (importing_alone b)

-- an argument opens what is imported: it fits that where o reads the resources that are introduced, which are tokens
pub record OpensOne (g o : Name → Name) (v : Value_stack) (x : Value) (b : Brought tree_reader) : Type 0 where
  pub fits : Fits v.groups (with_opened b.resources o g) (type_over x) b.entity
  pub tokens : All (λ r. IsToken v.top.defined (o r.0)) b.resources
  pub alike : AllAlike v.groups (type_over x)
  pub told : IsTold v.groups (type_over x)

-- no instance type that owns resources is written
abbrev pub OwnsNoneThere : ComponentTypeRef → Brought tree_reader → Type 0
OwnsNoneThere r b = (k : ℕ) → r ≡ ref.Instance k → b.resources ≡ []
