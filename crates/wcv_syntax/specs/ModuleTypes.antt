-- The type of a core module: what its declarations make of it, one after another, and why they are refused.
use Rattle.wcv_core.specs.Limits.{max_entries, max_list, max_size, max_text}
use Rattle.std.specs.Prelude.{ℕ, zero, suc, ◌+◌, List, [], ◌∷◌, ◌++◌, length, map, Bool, false, ◌||◌, Option, Some, None, slice_get}
use Rattle.std.specs.Option.{option_map}
use Rattle.wcv_core.specs.Checks.{Checks, all_checks, missing, too_many}
use Rattle.wcv_core.specs.CoreFeatures.{group_left}
use Rattle.wcv_core.specs.CoreForm.{Group}
use Rattle.wcv_core.specs.CoreJoining.{group_checks, group_ids, grown, then_checks, with_types}
use Rattle.wcv_core.specs.CoreWritten.{Core_entry, sub_entry, module_entry, entry_checks, closed_group}
use Rattle.wcv_core.specs.Label.{is_among}
-- of the names of a module and of an item in it
pub use Rattle.wcv_core.specs.TextSet.{same_pair}
use Rattle.wcv_core.specs.declared.core_types.CoreTypeId.{CoreTypeId}
use Rattle.wcv_core.specs.declared.core_types.EntityType.{EntityType}
use Rattle.wcv_core.specs.declared.error.ErrorKind.TheVariants as kind
use Rattle.wcv_core.specs.declared.features.WasmFeatures.{WasmFeatures}
use Rattle.wcv_syntax.specs.CoreItems.{type_entries, ref_checks, entity_of, entity_size}
use Rattle.wcv_syntax.specs.Model.{Text, Module_decl, module_type, module_import, module_export, module_outer}
use Rattle.wcv_syntax.specs.declared.core_section.TypeRef.{TypeRef}

-- ## The type of a module

-- what is imported under the name of a module and a name in it
abbrev pub Core_import : Type 0
Core_import = (Text × Text) × EntityType

abbrev pub Core_export : Type 0
Core_export = Text × EntityType

-- the features that may be used, the ids of the types that were declared, what is imported and exported, and the size so far
pub record Module_type : Type 0 where
  pub features : WasmFeatures
  pub types : List CoreTypeId
  pub imports : List Core_import
  pub exports : List Core_export
  pub size : ℕ

abbrev pub empty_module : WasmFeatures → Module_type
empty_module fs = record { features = fs; types = []; imports = []; exports = []; size = 1 }

abbrev pub module_entries : Module_type → List Core_entry
module_entries m = type_entries m.types

-- one more type, by its id
abbrev pub with_type : Module_type → ℕ → Module_type
with_type m i = record { features = m.features; types = m.types ++ (record { index = i }) ∷ []; imports = m.imports; exports = m.exports; size = m.size }

-- one more import, one more export
abbrev pub with_import : List Group → Module_type → Text × Text → EntityType → Module_type
with_import gs m p e = record { features = m.features; types = m.types; imports = m.imports ++ (p, e) ∷ []; exports = m.exports; size = m.size + entity_size gs e }

abbrev pub with_export : List Group → Module_type → Text → EntityType → Module_type
with_export gs m n e = record { features = m.features; types = m.types; imports = m.imports; exports = m.exports ++ (n, e) ∷ []; size = m.size + entity_size gs e }

-- ## Limits

-- ## Names

abbrev pub export_names : List Core_export → List Text
export_names es = map (λ e. e.0) es

abbrev pub is_pair_among : Text × Text → List (Text × Text) → Bool
is_pair_among p [] = false
is_pair_among p (q ∷ qs) = same_pair p q || is_pair_among p qs

-- two imports stand under one pair of names
abbrev pub pairs_repeat : List (Text × Text) → Bool
pairs_repeat [] = false
pairs_repeat (p ∷ ps) = is_pair_among p ps || pairs_repeat ps

abbrev pub import_pairs : List Core_import → List (Text × Text)
import_pairs is = map (λ i. i.0) is

-- ## What joins

abbrev pub size_checks : List Group → Module_type → EntityType → Checks
size_checks gs m e = too_many max_size (m.size + entity_size gs e)

abbrev pub types_checks : Module_type → ℕ → Checks
types_checks m n = too_many max_entries (length m.types + n)

abbrev pub import_checks : List Group → Module_type → EntityType → Checks
import_checks gs m e = too_many max_entries (length m.imports + 1) ++ size_checks gs m e

abbrev pub export_checks : List Group → Module_type → Text → EntityType → Checks
export_checks gs m n e = (kind.Conflict, is_among n (export_names m.exports)) ∷ (too_many max_entries (length m.exports + 1) ++ size_checks gs m e)

-- the type is whole: no pair of names is imported twice
abbrev pub whole_checks : Module_type → Checks
whole_checks m = (kind.Conflict, pairs_repeat (import_pairs m.imports)) ∷ []

-- ## Outer aliases

-- the core types of the module itself, or of what is open around it by a count, the innermost first
abbrev pub space_at : List (List Core_entry) → Module_type → ℕ → Option (List Core_entry)
space_at outers m zero = Some (module_entries m)
space_at outers m (suc k) = slice_get outers k

abbrev pub at_index : Option (List Core_entry) → ℕ → Option Core_entry
at_index None i = None
at_index (Some es) i = slice_get es i

abbrev pub alias_checks : Option (List Core_entry) → ℕ → Checks
alias_checks o i = missing o ++ entry_checks (at_index o i)

abbrev pub entry_id : Core_entry → Option ℕ
entry_id (sub_entry i) = Some i
entry_id module_entry = None

abbrev pub on_entry : Option Core_entry → Option ℕ
on_entry None = None
on_entry (Some e) = entry_id e

-- the id of the type that is named
abbrev pub aliased : List (List Core_entry) → Module_type → ℕ → ℕ → Option ℕ
aliased outers m k i = on_entry (at_index (space_at outers m k) i)

-- ## Declarations

abbrev pub if_entity : (EntityType → Checks) → Option EntityType → Checks
if_entity f None = []
if_entity f (Some e) = f e

-- why a declaration is refused, behind those that made the type so far
abbrev pub group_joins : List Group → Module_type → Group → Checks
group_joins gs m w = types_checks m (length w) ++ group_checks m.features gs (module_entries m) w

abbrev pub import_joins : List Group → Module_type → TypeRef → Checks
import_joins gs m t = ref_checks m.features gs m.types t ++ if_entity (import_checks gs m) (entity_of m.types t)

abbrev pub export_joins : List Group → Module_type → Text → TypeRef → Checks
export_joins gs m n t = ref_checks m.features gs m.types t ++ if_entity (export_checks gs m n) (entity_of m.types t)

abbrev pub alias_joins : List (List Core_entry) → Module_type → ℕ → ℕ → Checks
alias_joins outers m k i = alias_checks (space_at outers m k) i ++ types_checks m 1

abbrev pub decl_checks : List (List Core_entry) → List Group → Module_type → Module_decl → Checks
decl_checks outers gs m (module_type w) = group_joins gs m w
decl_checks outers gs m (module_import i) = import_joins gs m i.ty
decl_checks outers gs m (module_export n t) = export_joins gs m n t
decl_checks outers gs m (module_outer k i) = alias_joins outers m k i

-- a table of core types, and the type of a module over it
abbrev pub Made : Type 0
Made = List Group × Module_type

abbrev pub with_group_of : List Group → Module_type → Group → Made
with_group_of gs m w =
    (grown gs (closed_group (module_entries m) w), with_types with_type m (group_ids gs (closed_group (module_entries m) w)))

-- what a declaration makes of them. There is nothing where an index names no type
abbrev pub declared : List (List Core_entry) → List Group → Module_type → Module_decl → Option Made
declared outers gs m (module_type w) = Some (with_group_of gs m w)
declared outers gs m (module_import i) = option_map (λ e. (gs, with_import gs m (i.module, i.name) e)) (entity_of m.types i.ty)
declared outers gs m (module_export n t) = option_map (λ e. (gs, with_export gs m n e)) (entity_of m.types t)
declared outers gs m (module_outer k i) = option_map (λ t. (gs, with_type m t)) (aliased outers m k i)

-- ## Lists of declarations

abbrev pub and_then : {A B : Type 0} → (A → Option B) → Option A → Option B
and_then f None = None
and_then f (Some x) = f x

abbrev pub all_declared : List (List Core_entry) → List Group → Module_type → List Module_decl → Option Made
all_declared outers gs m [] = Some (gs, m)
all_declared outers gs m (d ∷ ds) = and_then (λ s. all_declared outers s.0 s.1 ds) (declared outers gs m d)

abbrev pub on_made : (Made → Checks) → Option Made → Checks
on_made f None = []
on_made f (Some s) = f s

-- the causes of the first declaration that has one, or of the whole type
abbrev pub module_checks : List (List Core_entry) → List Group → Module_type → List Module_decl → Checks
module_checks outers gs m [] = whole_checks m
module_checks outers gs m (d ∷ ds) = then_checks (decl_checks outers gs m d) (on_made (λ s. module_checks outers s.0 s.1 ds) (declared outers gs m d))

-- ## Limits on lists and texts, which the calls of a module leave to their caller

abbrev pub decl_left : Module_decl → Checks
decl_left (module_type w) = group_left w
decl_left (module_import i) = too_many max_text (length i.module) ++ too_many max_text (length i.name)
decl_left (module_export n t) = too_many max_text (length n)
decl_left (module_outer k i) = []

abbrev pub module_left : List Module_decl → Checks
module_left ds = too_many max_list (length ds) ++ all_checks decl_left ds
