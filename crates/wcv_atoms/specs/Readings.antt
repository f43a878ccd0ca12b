-- How a comparison reads the resources of one side, by their ids.
use Rattle.std.specs.Prelude.{ℕ, List, map, Option, None, Some}
use Rattle.std.specs.BTreeMap.{BTreeMap, get_by}
use Rattle.std.specs.Map.{lookup}
use Rattle.std.specs.Ordering.{nat_cmp}
use Rattle.wcv_core.specs.Names.{Name, number, same}
use Rattle.wcv_types.specs.declared.ids.ResourceId.{ResourceId}
use Rattle.wcv_matching.specs.Matching.{Reading}
use Rattle.wcv_matching.specs.OnePass.{Atom, given, owned_in, made_in}
use Rattle.wcv_atoms.specs.declared.readings.Readings.{Readings}
use Rattle.wcv_atoms.specs.declared.readings.ResourceAtom.{ResourceAtom}
use Rattle.wcv_atoms.specs.declared.readings.ResourceAtom.TheVariants as atom

abbrev pub resource_name : ResourceId → Name
resource_name r = number r.index

-- ## Atoms

abbrev pub atom_of : ResourceAtom → Atom
atom_of (atom.Given r) = given (resource_name r)
atom_of (atom.Owned k r) = owned_in k (resource_name r)
atom_of (atom.Made k r) = made_in k (resource_name r)

-- what stands in the map, or else the resource as it is given
abbrev pub read_or_given : Name → Option ResourceAtom → Atom
read_or_given r None = given r
read_or_given r (Some w) = atom_of w

abbrev pub reading_of : BTreeMap ℕ ResourceAtom → Reading Atom
reading_of m (number i) = read_or_given (number i) (get_by (λ k. nat_cmp i k) m)
reading_of m r = given r

abbrev pub reads : Readings → Reading Atom
reads m = reading_of m.atoms

-- ## Entries of a reading

-- the reading where a resource in the list is read as the list says first
abbrev pub over : List (Name × Atom) → Reading Atom → Reading Atom
over es f r = elim (lookup (same r) es) [ None ↦ f r | Some w ↦ w ]

abbrev pub atoms_of : List (ResourceId × ResourceAtom) → List (Name × Atom)
atoms_of es = map (λ e. (resource_name e.0, atom_of e.1)) es

-- each resource of the list read as the other, which is given, and any other as it is given
abbrev pub given_as : List (ResourceId × ResourceId) → Reading Atom
given_as fs = over (map (λ e. (resource_name e.0, given (resource_name e.1))) fs) given

-- each resource of the list, read by f
abbrev pub read_by : Reading Atom → List Name → List (Name × Atom)
read_by f rs = map (λ r. (r, f r)) rs
