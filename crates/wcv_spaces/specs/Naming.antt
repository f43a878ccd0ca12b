-- Types that imports and exports have to name, over the sets of ids.
use Rattle.std.specs.Prelude.{List, All, Bool, true, false, not, ◌&&◌, ◌≡◌}
use Rattle.wcv_core.specs.declared.extern_kind.ExternKind.{ExternKind}
use Rattle.wcv_core.specs.declared.extern_kind.ExternKind.TheVariants as kind
use Rattle.wcv_types.specs.Arena.{Arena}
use Rattle.wcv_types.specs.Identity.{Identity, same_identity}
use Rattle.wcv_types.specs.Named.{is_in}
use Rattle.wcv_types.specs.Sets.{AllStand, has_type, identities}
use Rattle.wcv_types.specs.Unfold.{Type_tree, tree_at}
use Rattle.wcv_types.specs.declared.ids.ComponentAnyTypeId.{ComponentAnyTypeId}
use Rattle.wcv_types.specs.declared.ids.ComponentAnyTypeId.TheVariants as any
use Rattle.wcv_types.specs.declared.ids.ComponentInstanceTypeId.{ComponentInstanceTypeId}
use Rattle.wcv_types.specs.declared.ids.Part.TheVariants as part
use Rattle.wcv_lower.specs.Context.{Side, importing, exporting, names_for, with_named}
use Rattle.wcv_lower.specs.Trees.{creates, entry_passes}
use Rattle.wcv_spaces.specs.Parts.{set_of}
use Rattle.wcv_spaces.specs.Promises.{IsPrefix}
use Rattle.wcv_spaces.specs.declared.naming.NamedTypes.{NamedTypes}

abbrev pub side_of : ExternKind → Side
side_of kind.Import = importing
side_of kind.Export = exporting

-- what is named for each side
abbrev pub known : NamedTypes → Side → List Identity
known n = λ d. identities (set_of n d)

-- a type that an import refers to is named for exports and not for imports
abbrev pub alone_ids : NamedTypes → Side → ComponentAnyTypeId → Bool
alone_ids n importing r = has_type n.exports r && not (has_type n.imports r)
alone_ids n exporting r = false

-- the sets only grew, and their types are of the arena
pub record SetsGrew (a : Arena) (n n' : NamedTypes) : Type 0 where
  pub more : (d : Side) → IsPrefix (set_of n d) (set_of n' d)
  pub stand : (d : Side) → AllStand a (set_of n' d)

-- those types are named from there on, for the sides that an entry of that one names types for
abbrev pub Names : Side → NamedTypes → NamedTypes → List Identity → Type 0
Names s n n' is = (d : Side) → known n' d ≡ with_named same_identity (names_for s d) (known n d) is

-- the entry passes as an entry of the side, and all that it creates is named
pub record IsSettled (n : Side → List Identity) (s : Side) (t : Type_tree) : Type 0 where
  pub passes : entry_passes n s t ≡ true
  pub named : (d : Side) → names_for s d ≡ true → All (λ i. is_in (n d) i ≡ true) (creates t)

-- so each of those instance types
abbrev pub AllSettled : Arena → Side → NamedTypes → List ComponentAnyTypeId → Type 0
AllSettled a s n ids = (i : ComponentInstanceTypeId) → has_type ids (any.Instance i) ≡ true → IsSettled (known n) s (tree_at a (part.Instance i))
