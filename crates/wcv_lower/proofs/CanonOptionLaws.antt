-- The options of canonical functions under a map of entries: what stands at their indices, how a list is read, and why it is refused.
use Rattle.std.proofs.Common.{◌≡◌, ℕ, List, [], ◌∷◌, ◌++◌, refl, ◌∙◌, ap}
use Rattle.std.specs.Prelude.{Option, slice_get}
use Rattle.std.specs.Option.{option_map, option_and_then}
use Rattle.wcv_core.specs.Checks.{all_checks}
use Rattle.wcv_core.specs.CoreWritten.{entry_checks}
use Rattle.wcv_core.specs.declared.core_types.MemoryType.{MemoryType}
use Rattle.wcv_core.specs.declared.core_types.ValType.{ValType}
use Rattle.wcv_core.specs.declared.error.ErrorKind.TheVariants as error
use Rattle.wcv_core.specs.declared.features.WasmFeatures.{WasmFeatures}
use Rattle.wcv_syntax.specs.declared.canonical.CanonicalOption.{CanonicalOption}
use Rattle.wcv_syntax.specs.declared.canonical.CanonicalOption.TheVariants as option
use Rattle.wcv_syntax.specs.declared.core_section.ExternalKind.{ExternalKind}
use Rattle.wcv_syntax.specs.declared.core_section.ExternalKind.TheVariants as kind
use Rattle.wcv_flat.specs.Flat.{pointer_type}
use Rattle.wcv_flat.specs.Options.{pointer_size}
use Rattle.wcv_flat.specs.declared.options.CanonicalOptions.{CanonicalOptions}
use Rattle.wcv_lower.specs.CanonOptions.{first, memory_in, core_entity_at, as_memory, memory_type_at, has_64_bits, size_of, memory_pointers, options_read, option_found, memory_rules, is_no_realloc, is_no_callback, option_rules, list_rules, pointer_of, options_found, memory_found, options_rules, options_checks}
use Rattle.wcv_lower.specs.Checks.{IsFree, if_found, missing}
use Rattle.wcv_lower.specs.Context.{Context, Stack}
use Rattle.wcv_lower.specs.CoreInstances.{core_item_at, test_found}
use Rattle.wcv_lower.specs.CoreItems.{core_entries}
use Rattle.wcv_lower.specs.Mapped.{Map, Commutes, map_context, map_stack}
use Rattle.wcv_lower.specs.Readers.{Reader}
use Rattle.wcv_lower.proofs.Causes.{free_left, free_right}
use Rattle.wcv_lower.proofs.CoreInstanceLaws.{item_at-mapped, item_found-mapped}
use Rattle.wcv_lower.proofs.CoreLaws.{core_entries-mapped}
use Rattle.wcv_lower.proofs.Mapping.{missing-mapped}

module _ {X Y : Reader} (m : Map X Y) {Known : X.Entry → Type 0} (law : Commutes m Known) where
  -- ## What stands at an index

  pub item_missing-mapped : (c : Context X) (k : ExternalKind) (i : ℕ) → missing (core_item_at (map_context m c) k i) ≡ missing (core_item_at c k i)
  item_missing-mapped c k i = ap missing (item_at-mapped m law c k i) ∙ missing-mapped m.entry (core_item_at c k i)

  pub entity-mapped : (c : Context X) (k : ExternalKind) (i : ℕ) → core_entity_at (map_context m c) k i ≡ core_entity_at c k i
  entity-mapped c k i = ap (option_and_then Y.item) (item_at-mapped m law c k i) ∙ item_found-mapped m law (core_item_at c k i)

  pub memory_type-mapped : (c : Context X) (i : ℕ) → memory_type_at (map_context m c) i ≡ memory_type_at c i
  memory_type-mapped c i = ap (option_and_then as_memory) (entity-mapped c kind.Memory i)

  pub memory_pointers-mapped : (c : Context X) (i : ℕ) → memory_pointers (map_context m c) i ≡ memory_pointers c i
  memory_pointers-mapped c i = ap (λ (o : Option MemoryType). size_of (test_found has_64_bits o)) (memory_type-mapped c i)

  pub core_type_found-mapped : (c : Context X) (i : ℕ) → entry_checks (slice_get (core_entries (map_context m c)) i) ≡ entry_checks (slice_get (core_entries c) i)
  core_type_found-mapped c i = λ j. entry_checks (slice_get (core_entries-mapped m law c j) i)

  -- ## How a list is read

  pub options_read-mapped : (c : Context X) (os : List CanonicalOption) → options_read (map_context m c) os ≡ options_read c os
  options_read-mapped c os = λ j. record (options_read c os) { memory = option_map (λ i. (i, memory_pointers-mapped c i j)) (first memory_in os) }

  pointer_of-mapped : (c : Context X) (os : List CanonicalOption) → pointer_of (map_context m c) os ≡ pointer_of c os
  pointer_of-mapped c os = ap (λ (o : CanonicalOptions). pointer_type (pointer_size o)) (options_read-mapped c os)

  -- ## Why it is refused

  option_found-mapped : (c : Context X) (o : CanonicalOption) → option_found (map_context m c) o ≡ option_found c o
  option_found-mapped c (option.Memory i) = item_missing-mapped c kind.Memory i
  option_found-mapped c (option.Realloc i) = item_missing-mapped c kind.Func i
  option_found-mapped c (option.PostReturn i) = item_missing-mapped c kind.Func i
  option_found-mapped c (option.Callback i) = item_missing-mapped c kind.Func i
  option_found-mapped c (option.CoreType i) = core_type_found-mapped c i
  option_found-mapped c o = refl

  pub options_found-mapped : (c : Context X) (os : List CanonicalOption) → options_found (map_context m c) os ≡ options_found c os
  options_found-mapped c os = λ j. all_checks (λ (o : CanonicalOption). option_found-mapped c o j) os

  pub memory_found-mapped : (c : Context X) (os : List CanonicalOption) → memory_found (map_context m c) os ≡ memory_found c os
  memory_found-mapped c os = λ j. if_found (λ i. item_missing-mapped c kind.Memory i j) (first memory_in os)

  option_rules-mapped : (fs : WasmFeatures) (s : Stack X) (p : ValType) (o : CanonicalOption) → option_rules fs (map_stack m s) p o ≡ option_rules fs s p o
  option_rules-mapped fs s p (option.Memory i) = ap (if_found (memory_rules fs)) (memory_type-mapped s.top i)
  option_rules-mapped fs s p (option.Realloc i) = λ j. (error.Options, is_no_realloc s.groups p (entity-mapped s.top kind.Func i j)) ∷ []
  option_rules-mapped fs s p (option.Callback i) = λ j. (error.Options, is_no_callback s.groups (entity-mapped s.top kind.Func i j)) ∷ []
  option_rules-mapped fs s p o = refl

  options_rules-mapped : (fs : WasmFeatures) (s : Stack X) (os : List CanonicalOption) → options_rules fs (map_stack m s) os ≡ options_rules fs s os
  options_rules-mapped fs s os =
      ap (λ (p : ValType). all_checks (option_rules fs (map_stack m s) p) os ++ list_rules os) (pointer_of-mapped s.top os) ∙ (λ j. all_checks (λ (o : CanonicalOption). option_rules-mapped fs s (pointer_of s.top os) o j) os ++ list_rules os)

  pub options_checks-mapped : (fs : WasmFeatures) (s : Stack X) (os : List CanonicalOption) → options_checks fs (map_stack m s) os ≡ options_checks fs s os
  options_checks-mapped fs s os = λ j. options_found-mapped s.top os j ++ options_rules-mapped fs s os j

-- ## Without a cause

-- the first memory is there where all are
pub memory_there : (X : Reader) (c : Context X) (os : List CanonicalOption) → IsFree (options_found c os) → IsFree (memory_found c os)
memory_there X c [] h = tt
memory_there X c (option.Memory i ∷ os) h = free_left (missing (core_item_at c kind.Memory i)) (options_found c os) h
memory_there X c (o ∷ os) h = memory_there X c os (free_right (option_found c o) (options_found c os) h)
