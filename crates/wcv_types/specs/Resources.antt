-- The free resources of a tree, and replacing them.
use Rattle.std.specs.Prelude.{List, [], ◌++◌, Bool, true, false, not, ◌&&◌, ◌||◌, cond, ◌≡◌, ◌⊎◌}
use Rattle.wcv_core.specs.Names.{Name, same, member}
use Rattle.wcv_types.specs.Tree.{Head, resource, instance, component, Tree, node, Parts, none, part, firsts}

-- whether a node owns the resource
abbrev pub owns : {I : Type 0} → Head Name I → Name → Bool
owns (instance i own) r = member r own
owns (component i ins outs) r = member r (firsts ins) || member r (firsts outs)
owns _ r = false

-- the resources that a node owns
abbrev pub owned_by : {R I : Type 0} → Head R I → List R
owned_by (instance i own) = own
owned_by (component i ins outs) = firsts ins ++ firsts outs
owned_by h = []

-- the node itself is a reference to the resource
abbrev pub RefersTo : {I : Type 0} → Name → Head Name I → Type 0
RefersTo r (resource q s) = r ≡ q
RefersTo r _ = ⊥

-- the tree mentions the resource, and no node around that mention owns it
abbrev mutual
  pub Free : {I : Type 0} → Name → Tree Name I → Type 0
  Free r (node h ps) = RefersTo r h ⊎ ((owns h r ≡ false) × FreeIn r ps)

  pub FreeIn : {I : Type 0} → Name → Parts Name I → Type 0
  FreeIn r none = ⊥
  FreeIn r (part k t ps) = Free r t ⊎ FreeIn r ps

-- ## Whether it is free

-- the node itself is a reference to the resource
abbrev pub refers : {I : Type 0} → Name → Head Name I → Bool
refers r (resource q s) = same r q
refers r _ = false

abbrev mutual
  pub is_free : {I : Type 0} → Name → Tree Name I → Bool
  is_free r (node h ps) = refers r h || (not (owns h r) && is_free_in r ps)

  pub is_free_in : {I : Type 0} → Name → Parts Name I → Bool
  is_free_in r none = false
  is_free_in r (part k t ps) = is_free r t || is_free_in r ps

-- a reference to a resource stands in the tree
abbrev mutual
  pub mentions : {R I : Type 0} → Tree R I → Bool
  mentions (node (resource q s) ps) = true
  mentions (node h ps) = mentions_in ps

  pub mentions_in : {R I : Type 0} → Parts R I → Bool
  mentions_in none = false
  mentions_in (part k t ps) = mentions t || mentions_in ps

-- ## Replacing

-- u, but for the resources that the node owns
abbrev pub spare : {I : Type 0} → Head Name I → (Name → Name) → Name → Name
spare h u r = cond (owns h r) r (u r)

-- the resource of a reference replaced
abbrev pub substitute_head : {I : Type 0} → (Name → Name) → Head Name I → Head Name I
substitute_head u (resource r s) = resource (u r) s
substitute_head u h = h

-- each free resource r becomes u r; identities and stamps stay
abbrev mutual
  pub substitute : {I : Type 0} → (Name → Name) → Tree Name I → Tree Name I
  substitute u (node h ps) = node (substitute_head u h) (substitute_parts (spare h u) ps)

  pub substitute_parts : {I : Type 0} → (Name → Name) → Parts Name I → Parts Name I
  substitute_parts u none = none
  substitute_parts u (part k t ps) = part k (substitute u t) (substitute_parts u ps)

-- no resource that comes in is owned inside the tree where it is put
abbrev mutual
  pub Admits : {I : Type 0} → (Name → Name) → Tree Name I → Type 0
  Admits u (node h ps) = ((r : Name) → FreeIn r ps → owns h r ≡ false → owns h (u r) ≡ false) × AdmitsIn (spare h u) ps

  pub AdmitsIn : {I : Type 0} → (Name → Name) → Parts Name I → Type 0
  AdmitsIn u none = Unit {0}
  AdmitsIn u (part k t ps) = Admits u t × AdmitsIn u ps
