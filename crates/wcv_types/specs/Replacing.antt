-- Replacing of resources and of nodes, as a rebuilding makes it. It acts on all mentions: it is spoken of where no resource that is replaced is owned inside the tree.
use Rattle.std.specs.Prelude.{Bool, true, false, not, ◌||◌, cond, Option, Some, None, ◌≡◌}
use Rattle.wcv_core.specs.Names.{Name, same}
use Rattle.wcv_types.specs.Tree.{Head, nothing, primitive, resource, defined, func, instance, component, type_entity, core_module, core_instance, Tree, node, Parts, none, part, head}
use Rattle.wcv_types.specs.Identity.{Identity, identity_at, same_known}
use Rattle.wcv_types.specs.Resources.{owns}

-- what is replaced, and by what
pub record Replacement : Type 0 where
  -- the resources that are replaced, and by what
  pub resources : Name → Option Name
  -- the nodes that are replaced, and by what
  pub nodes : Identity → Option (Tree Name Name)
  -- the identity of a node that is made again in the place of an older one
  pub again : Name → Name

-- what stands in the place of the node
abbrev pub given_at : Replacement → Head Name Name → Option (Tree Name Name)
given_at m h = elim (identity_at h) [ None ↦ None | Some i ↦ m.nodes i ]

-- the given tree, where there is one
abbrev pub given_or : Option (Tree Name Name) → Tree Name Name → Tree Name Name
given_or None t = t
given_or (Some u) t = u

-- the new name, where there is one
abbrev pub or_same : Name → Option Name → Name
or_same r None = r
or_same r (Some q) = q

-- what becomes of a resource
abbrev pub new_resource : Replacement → Name → Name
new_resource m r = or_same r (m.resources r)

-- ## What changes

-- the new name is another
abbrev pub moved : Name → Option Name → Bool
moved r None = false
moved r (Some q) = not (same r q)

-- a reference whose resource is replaced by another
abbrev pub moves : Replacement → Head Name Name → Bool
moves m (resource r s) = moved r (m.resources r)
moves m h = false

-- for a node that is replaced: whether it is by another
abbrev pub given_elsewhere : Option (Tree Name Name) → Head Name Name → Bool → Bool
given_elsewhere None h b = b
given_elsewhere (Some t) h b = not (same_known (identity_at h) (identity_at (head t)))

-- whether the tree becomes another: what goes to itself is not replaced
abbrev mutual
  pub changed : Replacement → Tree Name Name → Bool
  changed m (node h ps) = given_elsewhere (given_at m h) h (moves m h || changed_in m ps)

  pub changed_in : Replacement → Parts Name Name → Bool
  changed_in m none = false
  changed_in m (part k t ps) = changed m t || changed_in m ps

-- ## What it becomes

-- the node made again
abbrev pub again_head : Replacement → Head Name Name → Head Name Name
again_head m (defined i k) = defined (m.again i) k
again_head m (func i b) = func (m.again i) b
again_head m (instance i own) = instance (m.again i) own
again_head m (component i ins outs) = component (m.again i) ins outs
again_head m (core_module i n) = core_module (m.again i) n
again_head m (core_instance i n) = core_instance (m.again i) n
again_head m h = h

-- a reference keeps its stamp, another node is made again where it changes
abbrev pub new_head : Replacement → Bool → Head Name Name → Head Name Name
new_head m b (resource r s) = resource (new_resource m r) s
new_head m b nothing = nothing
new_head m b (primitive p) = primitive p
new_head m b type_entity = type_entity
new_head m b h = cond b (again_head m h) h

-- a given node stands as it is; any other is made of its replaced parts
abbrev mutual
  pub replaced : Replacement → Tree Name Name → Tree Name Name
  replaced m (node h ps) = given_or (given_at m h) (node (new_head m (moves m h || changed_in m ps) h) (replaced_in m ps))

  pub replaced_in : Replacement → Parts Name Name → Parts Name Name
  replaced_in m none = none
  replaced_in m (part k t ps) = part k (replaced m t) (replaced_in m ps)

-- no node inside the tree owns a resource that is replaced
abbrev mutual
  pub SparesOwn : Replacement → Tree Name Name → Type 0
  SparesOwn m (node h ps) = ((r : Name) → owns h r ≡ true → m.resources r ≡ None) × SparesOwnIn m ps

  pub SparesOwnIn : Replacement → Parts Name Name → Type 0
  SparesOwnIn m none = Unit {0}
  SparesOwnIn m (part k t ps) = SparesOwn m t × SparesOwnIn m ps

-- a given node of the same identity as the node in whose place it stands is that node
abbrev mutual
  pub GivesSame : Replacement → Tree Name Name → Type 0
  GivesSame m (node h ps) = ((u : Tree Name Name) → given_at m h ≡ Some u → same_known (identity_at h) (identity_at (head u)) ≡ true → u ≡ node h ps) × GivesSameIn m ps

  pub GivesSameIn : Replacement → Parts Name Name → Type 0
  GivesSameIn m none = Unit {0}
  GivesSameIn m (part k t ps) = GivesSame m t × GivesSameIn m ps
