-- Renaming of resources and of identities, everywhere in a tree.
use Rattle.std.specs.Prelude.{ℕ, List, map, All, ◌≡◌}
use Rattle.wcv_types.specs.Tree.{Head, nothing, primitive, resource, defined, func, instance, component, type_entity, core_module, core_instance, core_type, core_item, Tree, node, Parts, none, part}

-- the resources of a list renamed, their paths kept
abbrev pub rename_paths : {R S : Type 0} → (R → S) → List (R × List ℕ) → List (S × List ℕ)
rename_paths f = map (λ p. (f p.0, p.1))

-- the names of one node renamed
abbrev pub rename_head : {R S I J : Type 0} → (R → S) → (I → J) → Head R I → Head S J
rename_head f g nothing = nothing
rename_head f g (primitive p) = primitive p
rename_head f g (resource r s) = resource (f r) (g s)
rename_head f g (defined i k) = defined (g i) k
rename_head f g (func i b) = func (g i) b
rename_head f g (instance i owned) = instance (g i) (map f owned)
rename_head f g (component i ins outs) = component (g i) (rename_paths f ins) (rename_paths f outs)
rename_head f g type_entity = type_entity
rename_head f g (core_module i n) = core_module (g i) n
rename_head f g (core_instance i n) = core_instance (g i) n
rename_head f g (core_type i) = core_type i
rename_head f g (core_item e) = core_item e

-- f renames resources, g identities and stamps
abbrev mutual
  pub rename : {R S I J : Type 0} → (R → S) → (I → J) → Tree R I → Tree S J
  rename f g (node h ps) = node (rename_head f g h) (rename_parts f g ps)

  pub rename_parts : {R S I J : Type 0} → (R → S) → (I → J) → Parts R I → Parts S J
  rename_parts f g none = none
  rename_parts f g (part r t ps) = part r (rename f g t) (rename_parts f g ps)

-- one identity for all
abbrev pub no_identity : {I : Type 0} → I → Unit {0}
no_identity i = tt

-- identities and stamps put aside
abbrev pub without_identities : {R I : Type 0} → Tree R I → Tree R (Unit {0})
without_identities t = rename (λ r. r) no_identity t

-- P holds of each resource that the node names, and Q of its identity or stamp
abbrev pub HeadNames : {R I : Type 0} → (R → Type 0) → (I → Type 0) → Head R I → Type 0
HeadNames P Q (resource r s) = P r × Q s
HeadNames P Q (defined i k) = Q i
HeadNames P Q (func i b) = Q i
HeadNames P Q (instance i owned) = Q i × All P owned
HeadNames P Q (component i ins outs) = Q i × All (λ p. P p.0) ins × All (λ p. P p.0) outs
HeadNames P Q (core_module i n) = Q i
HeadNames P Q (core_instance i n) = Q i
HeadNames P Q h = Unit {0}

-- so at each node of the tree
abbrev mutual
  pub EachName : {R I : Type 0} → (R → Type 0) → (I → Type 0) → Tree R I → Type 0
  EachName P Q (node h ps) = HeadNames P Q h × EachNameIn P Q ps

  pub EachNameIn : {R I : Type 0} → (R → Type 0) → (I → Type 0) → Parts R I → Type 0
  EachNameIn P Q none = Unit {0}
  EachNameIn P Q (part r t ps) = EachName P Q t × EachNameIn P Q ps

-- f has a way back on the resources that occur
abbrev pub HasWayBack : {R S I : Type 0} → (R → S) → (S → R) → Tree R I → Type 0
HasWayBack f back t = EachName (λ r. back (f r) ≡ r) (λ i. Unit {0}) t

-- s and t are equal up to renaming
pub record UpToRenaming {R S I J : Type 0} (s : Tree R I) (t : Tree S J) : Type 0 where
  pub resource_to : R → S
  pub resource_back : S → R
  pub identity_to : I → J
  pub identity_back : J → I
  pub renamed : rename resource_to identity_to s ≡ t
  -- both are one to one on the names that occur
  pub one_to_one : EachName (λ r. resource_back (resource_to r) ≡ r) (λ i. identity_back (identity_to i) ≡ i) s
