-- Which types are named by a list of identities.
use Rattle.std.specs.Prelude.{List, ◌∷◌, Bool, true, ◌&&◌, Option, Some, None}
use Rattle.wcv_core.specs.Names.{Name}
use Rattle.wcv_types.specs.Tree.{resource, defined, func, instance, type_entity, Former, named, record_of, variant_of, flags_of, enum_of, Tree, node, Parts, none, part, head, created}
use Rattle.wcv_types.specs.Identity.{Identity, of_node, of_reference, identity_at, same_identity}
use Rattle.wcv_types.specs.Positions.{is_there}

-- the identity stands in the list
abbrev pub is_in : List Identity → Identity → Bool
is_in ids i = is_there same_identity i ids

-- records, variants, flags and enums are named by their own identity, the other defined types by their parts
abbrev pub named_by_itself : Former → Bool → Bool → Bool
named_by_itself (named p) itself its_parts = true
named_by_itself record_of itself its_parts = itself
named_by_itself variant_of itself its_parts = itself
named_by_itself (flags_of ls) itself its_parts = itself
named_by_itself (enum_of ls) itself its_parts = itself
named_by_itself k itself its_parts = its_parts

-- a value type, or a resource reference in one, is named
abbrev mutual
  pub is_named : List Identity → Tree Name Name → Bool
  is_named ids (node (resource r s) ps) = is_in ids (of_reference r s)
  is_named ids (node (defined i k) ps) = named_by_itself k (is_in ids (of_node i)) (are_named ids ps)
  is_named ids (node h ps) = true

  pub are_named : List Identity → Parts Name Name → Bool
  are_named ids none = true
  are_named ids (part k t ps) = is_named ids t && are_named ids ps

-- the list with that identity, where there is one
abbrev pub with_identity : Option Identity → List Identity → List Identity
with_identity None ids = ids
with_identity (Some i) ids = i ∷ ids

-- what a type entity creates counts as named from then on
abbrev pub with_created : List Identity → Tree Name Name → List Identity
with_created ids (node type_entity ps) = with_identity (identity_at (head (created (node type_entity ps)))) ids
with_created ids t = ids

-- an export of an instance type passes; of a type, its contents are named
abbrev mutual
  pub passes : List Identity → Tree Name Name → Bool
  passes ids (node type_entity ps) = created_passes ids ps
  passes ids (node (func i b) ps) = are_named ids ps
  passes ids (node (defined i k) ps) = are_named ids ps
  passes ids (node (instance i own) ps) = all_pass ids ps
  passes ids (node h ps) = true

  -- the exports pass in order
  pub all_pass : List Identity → Parts Name Name → Bool
  all_pass ids none = true
  all_pass ids (part k t ps) = passes ids t && all_pass (with_created ids t) ps

  pub created_passes : List Identity → Parts Name Name → Bool
  created_passes ids none = true
  created_passes ids (part k t ps) = passes ids t
