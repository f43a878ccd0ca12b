-- The names of resources in a list of imports or of exports.
use Rattle.std.specs.Prelude.{ℕ, List, [], map, Bool, false, ◌&&◌, Option, slice_get, All, IsSome}
use Rattle.std.specs.Map.{lookup}
use Rattle.std.specs.Option.{unwrap_or}
use Rattle.wcv_core.specs.Names.{Name, same, number, stamp}
use Rattle.wcv_types.specs.Tree.{Text, resource, node}
use Rattle.wcv_types.specs.Unfold.{Type_tree}
use Rattle.wcv_types.specs.declared.ids.AliasableResourceId.{AliasableResourceId}
use Rattle.wcv_core.specs.TextSet.{is_text}

-- a resource and a stamp
abbrev pub Reference : Type 0
Reference = Name × Name

pub record Resource_names : Type 0 where
  -- each reference with its name
  pub references : List (Reference × Text)
  -- the names
  pub names : List Text

abbrev pub same_reference : Reference → Reference → Bool
same_reference q r = same q.0 r.0 && same q.1 r.1

-- the name of the reference, where it has one
abbrev pub name_of : Resource_names → Reference → Option Text
name_of ns q = lookup (same_reference q) ns.references

-- a reference to a resource of that name
abbrev pub is_named_so : Resource_names → Text → Type_tree → Bool
is_named_so ns r (node (resource q s) ps) = is_text r (name_of ns (q, s))
is_named_so ns r t = false

-- references by ids
abbrev pub reference_of : AliasableResourceId → Reference
reference_of id = (number id.resource.index, stamp id.stamp)

abbrev pub references_of : List (AliasableResourceId × Text) → List (Reference × Text)
references_of ps = map (λ p. (reference_of p.0, p.1)) ps

-- ## By ids

pub record Named_ids : Type 0 where
  -- each reference with its name
  pub references : List (AliasableResourceId × List ℕ)
  -- the names
  pub names : List (List ℕ)

abbrev pub names_of : Named_ids → Resource_names
names_of c = record { references = references_of c.references; names = c.names }

-- ## Names by positions

-- the name at a position
abbrev pub name_at : List Text → ℕ → Text
name_at ns k = unwrap_or (slice_get ns k) []

-- of each reference the name in place of its position
abbrev pub named_by : List Text → List (AliasableResourceId × ℕ) → List (AliasableResourceId × Text)
named_by ns ps = map (λ p. (p.0, name_at ns p.1)) ps

-- a name stands at each position
abbrev pub AllNamed : List Text → List (AliasableResourceId × ℕ) → Type 0
AllNamed ns ps = All (λ p. IsSome (slice_get ns p.1)) ps
