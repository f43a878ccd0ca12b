-- A tree with identities aside, and with its free resources read by a function.
use Rattle.std.specs.Prelude.{cond, map}
use Rattle.wcv_core.specs.Names.{Name}
use Rattle.wcv_types.specs.Tree.{Head, nothing, primitive, resource, defined, func, instance, component, type_entity, core_module, core_instance, core_type, core_item, Former, named, Tree, node, Parts, none, part}
use Rattle.wcv_types.specs.Rename.{rename_paths}
use Rattle.wcv_types.specs.Resources.{owns}

-- resources as they are seen within an owner: those of outside, and its own
pub data Within (A : Type 0) : Type 0 where
  outer : A → Within A
  inner : Name → Within A

-- under a node its own resources are seen by their names
abbrev pub under : {I A : Type 0} → Head Name I → (Name → Within A) → Name → Within A
under h f r = cond (owns h r) (inner r) (f r)

-- a named primitive is seen as the primitive
abbrev pub seen_defined : {A : Type 0} → Former → Head A (Unit {0})
seen_defined (named p) = primitive p
seen_defined k = defined tt k

-- one node as it is seen
abbrev pub seen_head : {I A : Type 0} → (Name → Within A) → Head Name I → Head (Within A) (Unit {0})
seen_head f nothing = nothing
seen_head f (primitive p) = primitive p
seen_head f (resource r s) = resource (f r) tt
seen_head f (defined i k) = seen_defined k
seen_head f (func i b) = func tt b
seen_head f (instance i own) = instance tt (map inner own)
seen_head f (component i ins outs) = component tt (rename_paths inner ins) (rename_paths inner outs)
seen_head f type_entity = type_entity
seen_head f (core_module i n) = core_module tt n
seen_head f (core_instance i n) = core_instance tt n
seen_head f (core_type i) = core_type i
seen_head f (core_item e) = core_item e

-- f reads the free resources
abbrev mutual
  pub seen : {I A : Type 0} → (Name → Within A) → Tree Name I → Tree (Within A) (Unit {0})
  seen f (node h ps) = node (seen_head f h) (seen_parts (under h f) ps)

  pub seen_parts : {I A : Type 0} → (Name → Within A) → Parts Name I → Parts (Within A) (Unit {0})
  seen_parts f none = none
  seen_parts f (part r t ps) = part r (seen f t) (seen_parts f ps)
