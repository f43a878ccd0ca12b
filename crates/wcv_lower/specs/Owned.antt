-- Which resources types own, inside and out: what a type owns, no type inside it owns, and none that stands elsewhere.
use Rattle.std.specs.Prelude.{ℕ, List, [], ◌∷◌, ◌++◌, map, All, true, false, ◌≡◌, ◌≤◌, ◌<◌, Some}
use Rattle.wcv_core.specs.Names.{Name, Place, number, base, at, member}
use Rattle.wcv_syntax.specs.Model.{Form, instance_item, Instance_form, instantiate, bag}
use Rattle.wcv_types.specs.Identity.{Identity}
use Rattle.wcv_types.specs.Led.{HasPath}
use Rattle.wcv_types.specs.Replacing.{Replacement, given_at}
use Rattle.wcv_types.specs.Resources.{owns}
use Rattle.wcv_types.specs.Tree.{exports, node, Parts, none, part, owned_at}
use Rattle.wcv_types.specs.Unfold.{Type_tree}
use Rattle.wcv_lower.specs.Context.{Space, Core_space, Side, exporting, at_distance}
use Rattle.wcv_lower.specs.Even.{IsBalanced, IsRegular}
use Rattle.wcv_lower.specs.Given.{Numbers}
use Rattle.wcv_lower.specs.Instances.{component_at, arguments}
use Rattle.wcv_lower.specs.Instantiated.{opening}
use Rattle.wcv_lower.specs.Names.{Names}
use Rattle.wcv_lower.specs.Trees.{Tree_context, Tree_stack}

-- ## Types

-- no node of the tree owns the resource
abbrev mutual
  pub OwnsNot : Name → Type_tree → Type 0
  OwnsNot r (node h ps) = (owns h r ≡ false) × OwnsNotIn r ps

  pub OwnsNotIn : Name → Parts Name Name → Type 0
  OwnsNotIn r none = Unit {0}
  OwnsNotIn r (part k t ps) = OwnsNot r t × OwnsNotIn r ps

-- what the type owns, no type inside it owns
abbrev pub OwnsApart : Type_tree → Type 0
OwnsApart (node h ps) = (r : Name) → owns h r ≡ true → OwnsNotIn r ps

-- each type in it owns apart
abbrev mutual
  pub OwnApart : Type_tree → Type 0
  OwnApart (node h ps) = OwnsApart (node h ps) × OwnApartIn ps

  pub OwnApartIn : Parts Name Name → Type 0
  OwnApartIn none = Unit {0}
  OwnApartIn (part k t ps) = OwnApart t × OwnApartIn ps

-- ## Where nodes are given in place of others

-- each node that is given in place of one in the tree has it
abbrev mutual
  pub EachGiven : Replacement → (Type_tree → Type 0) → Type_tree → Type 0
  EachGiven m P (node h ps) = ((u : Type_tree) → given_at m h ≡ Some u → P u) × EachGivenIn m P ps

  pub EachGivenIn : Replacement → (Type_tree → Type 0) → Parts Name Name → Type 0
  EachGivenIn m P none = Unit {0}
  EachGivenIn m P (part k t ps) = EachGiven m P t × EachGivenIn m P ps

-- what a type in the tree owns, no node owns that is given inside it
abbrev mutual
  pub GivesApart : Replacement → Type_tree → Type 0
  GivesApart m (node h ps) = ((r : Name) → owns h r ≡ true → EachGivenIn m (OwnsNot r) ps) × GivesApartIn m ps

  pub GivesApartIn : Replacement → Parts Name Name → Type 0
  GivesApartIn m none = Unit {0}
  GivesApartIn m (part k t ps) = GivesApart m t × GivesApartIn m ps

-- ## Contexts

-- each entry of a context, in its spaces and on both sides
pub record AllEntries (P : Type_tree → Type 0) (c : Tree_context) : Type 0 where
  pub core : (k : Core_space) → All P (c.core k)
  pub space : (k : Space) → All P (c.space k)
  pub side : (d : Side) → All (λ e. P e.1) (c.side d)

-- each entry of each open context has the property, the top first
abbrev pub Everywhere : (Type_tree → Type 0) → Tree_stack → Type 0
Everywhere P s = (j : ℕ) (c : Tree_context) → at_distance j s ≡ Some c → AllEntries P c

-- the resources that a context imports and defines
abbrev pub own_resources : Tree_context → List Name
own_resources c = map (λ r. r.0) c.imported ++ map (λ r. r.0) c.defined

abbrev pub IsOwn : Tree_context → Name → Type 0
IsOwn c r = member r (own_resources c) ≡ true

-- the arena gave that resource by then
abbrev pub IsGiven : Numbers → Name → Type 0
IsGiven a (number k) = k < a.resources
IsGiven a _ = ⊥

-- and those of a context
abbrev pub AllOwn : Numbers → Tree_context → Type 0
AllOwn a c = All (IsGiven a) (own_resources c)

-- the types in them are balanced, by one choice of heights
abbrev pub AreBalanced : Tree_stack → Type 0
AreBalanced s = (v : Name → ℕ) × Everywhere (IsBalanced v) s

-- The resources of the open contexts are given by then, and no two of these have one. The types that stand in them own apart, and own no
-- resource of an open context, and none that is given later. Owners of one resource are of one height, and so are both types of an entity.
pub record IsCalm (a : Numbers) (s : Tree_stack) : Type 0 where
  pub given : (j : ℕ) (c : Tree_context) → at_distance j s ≡ Some c → AllOwn a c
  pub differ : (j k : ℕ) (c d : Tree_context) (r : Name) → at_distance j s ≡ Some c → at_distance k s ≡ Some d → IsOwn c r → IsOwn d r → j ≡ k
  pub apart : Everywhere OwnApart s
  pub spared : (j : ℕ) (c : Tree_context) (r : Name) → at_distance j s ≡ Some c → IsOwn c r → Everywhere (OwnsNot r) s
  pub late : (k : ℕ) → a.resources ≤ k → Everywhere (OwnsNot (number k)) s
  pub balanced : AreBalanced s

-- each entry of the context is regular, as it is where an arena holds it
abbrev pub AreRegular : Tree_context → Type 0
AreRegular c = (n : Identity → ℕ) × AllEntries (IsRegular n) c

-- what an item asks of the context on top, if it makes an instance
abbrev pub ItemRegular : Tree_context → Form → Type 0
ItemRegular c (instance_item i) = AreRegular c
ItemRegular c f = Unit {0}

-- where an instantiation opens a component: what a type in its exports owns, no node owns that is given inside it
abbrev pub InstanceApart : Names → Place → Tree_stack → Instance_form → Type 0
InstanceApart names p s (instantiate i args) = (c : Type_tree) → component_at s.top i ≡ Some c → All (λ e. GivesApart (opening names p (arguments s.top args) c) e.1) (exports c)
InstanceApart names p s (bag es) = Unit {0}

-- a path leads to each defined resource in the exports
abbrev pub IsLed : Tree_context → Type 0
IsLed c = All (λ d. HasPath (c.side exporting) d.0) c.defined

-- ## Once

-- no name stands twice in the list
abbrev pub IsOnce : List Name → Type 0
IsOnce [] = Unit {0}
IsOnce (x ∷ xs) = (member x xs ≡ false) × IsOnce xs

-- no instance type in the tree owns a resource twice
abbrev mutual
  pub OwnsOnce : Type_tree → Type 0
  OwnsOnce (node h ps) = IsOnce (owned_at h) × OwnsOnceIn ps

  pub OwnsOnceIn : Parts Name Name → Type 0
  OwnsOnceIn none = Unit {0}
  OwnsOnceIn (part k t ps) = OwnsOnce t × OwnsOnceIn ps

-- a resource that was introduced at that place, or made again there
abbrev pub IsMadeAt : Place → Name → Type 0
IsMadeAt p (base q) = q ≡ p
IsMadeAt p (at q x) = q ≡ p
IsMadeAt p _ = ⊥
