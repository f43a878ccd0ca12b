-- Types over tokens that are as items make them. That what is free in a type is a token is not enough: a type that owns, inside, a name that
-- later items of a closure introduce would capture what these replace.
use Rattle.std.specs.Prelude.{List, [], ◌∷◌, false, true, ◌<◌, Option, Some, None, ◌≡◌, ◌⊎◌}
use Rattle.wcv_core.specs.CoreForm.{Group}
use Rattle.wcv_core.specs.Names.{Name, Place, number, stamp, base, at, stamped, aside}
use Rattle.wcv_types.specs.Resources.{FreeIn, Free, owns}
use Rattle.wcv_types.specs.Tree.{Head, import, export, type_entity, Parts, none, part, first_part, rest_parts, owned}
use Rattle.wcv_types.specs.Unfold.{Type_tree}
use Rattle.wcv_matching.specs.Formed.{Formed}
use Rattle.wcv_matching.specs.Orderly.{EachNode, Orderly}
use Rattle.wcv_matching.specs.TableMatching.{CoreWithin, TypeMatches}
use Rattle.wcv_lower.specs.NewTypes.{type_entry}
use Rattle.wcv_world.specs.Growth.{Tokens}
use Rattle.wcv_safety.specs.Agreeing.{IsToken}

-- ## Names by place

-- where a name was introduced, or made again; a token has no place
abbrev pub place_of_name : Name → Option Place
place_of_name (base p) = Some p
place_of_name (at p x) = Some p
place_of_name (stamped p) = Some p
place_of_name (number n) = None
place_of_name (stamp n) = None
place_of_name (aside x) = None

-- the place around
abbrev pub around : Place → Place
around [] = []
around (k ∷ []) = []
around (k ∷ j ∷ p) = k ∷ around (j ∷ p)

-- all that stands at p or inside it is read before q
abbrev pub IsBefore : Place → Place → Type 0
IsBefore [] q = ⊥
IsBefore (i ∷ p) [] = ⊥
IsBefore (i ∷ p) (j ∷ q) = (i < j) ⊎ ((i ≡ j) × IsBefore p q)

-- the list in which the name was introduced has ended before p
abbrev pub HasEndedBefore : Name → Place → Type 0
HasEndedBefore x p = (q : Place) × (place_of_name x ≡ Some q) × IsBefore (around q) p

-- ## Nodes

-- where a node mentions a resource of outside, the list of that had not ended when what the node owns was introduced: so no later item
-- replaces what is free inside by what the node owns
abbrev pub IsCalmAt : Head Name Name → Parts Name Name → Type 0
IsCalmAt h ps = (x y : Name) (q : Place) → FreeIn x ps → owns h x ≡ false → owns h y ≡ true → place_of_name y ≡ Some q → HasEndedBefore x q → ⊥

-- both types of a type entity match each other, as types
abbrev pub IsAlikeAt : List Group → Head Name Name → Parts Name Name → Type 0
IsAlikeAt gs type_entity ps = TypeMatches gs (type_entry (first_part ps)) (type_entry (first_part (rest_parts ps)))
IsAlikeAt gs h ps = Unit {0}

-- instances that are imports or exports own nothing
abbrev pub EntriesOwnNothing : Parts Name Name → Type 0
EntriesOwnNothing none = Unit {0}
EntriesOwnNothing (part (import n) t ps) = (owned t ≡ []) × EntriesOwnNothing ps
EntriesOwnNothing (part (export n) t ps) = (owned t ≡ []) × EntriesOwnNothing ps
EntriesOwnNothing (part k t ps) = EntriesOwnNothing ps

-- ## Types

abbrev pub AllAlike : List Group → Type_tree → Type 0
AllAlike gs t = EachNode (IsAlikeAt gs) t

-- what is free in the type is a token, its core types are of the table, and it is as items make it
pub record IsClean (gs : List Group) (ts : Tokens) (t : Type_tree) : Type 0 where
  pub tokens : (r : Name) → Free r t → IsToken ts r
  pub within : CoreWithin gs t
  -- names differ in each list, and what is owned is led to
  pub orderly : Orderly t
  pub formed : Formed t
  pub alike : AllAlike gs t
  pub bare : EachNode (λ h ps. EntriesOwnNothing ps) t
  pub calm : EachNode IsCalmAt t
