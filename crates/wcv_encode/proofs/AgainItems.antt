-- The items of sections are read again.
use Rattle.std.proofs.Common.{◌≡◌, ℕ, ◌-◌, ◌≤◌, Ok, List, [], ◌∷◌, ◌++◌, length, refl}
use Rattle.wcv_syntax.specs.Model.{Form, core_type_item, core_module_item, core_instance_item, type_item, import_item, export_item, component_item, instance_item, alias_item, start_item, canon_item, Entry}
use Rattle.wcv_bytes.specs.Reading.{◌>>=◌, leb_at, u32_at, list_at, vec_at}
use Rattle.wcv_binary.specs.Aliases.{alias_at}
use Rattle.wcv_binary.specs.Canons.{canon_at}
use Rattle.wcv_binary.specs.CoreInstances.{core_instance_at}
use Rattle.wcv_binary.specs.Items.{start_at, form_at, entry_at, count_at, entries_at}
use Rattle.wcv_binary.specs.ModuleTypes.{core_type_at}
use Rattle.wcv_binary.specs.Names.{import_at, export_at, instance_at}
use Rattle.wcv_binary.specs.Types.{type_over, type_within}
use Rattle.wcv_encode.specs.Bytes.{◌⧺◌, u32_bytes, vec}
use Rattle.wcv_encode.specs.Canons.{canon_bytes}
use Rattle.wcv_encode.specs.Entries.{core_instance_bytes, import_bytes, export_bytes, alias_bytes, instance_bytes}
use Rattle.wcv_encode.specs.Laws.{Reads}
use Rattle.wcv_encode.specs.Modules.{core_type_bytes}
use Rattle.wcv_encode.specs.Nesting.{form_nesting}
use Rattle.wcv_encode.specs.Spelling.{form_id, one_of}
use Rattle.wcv_encode.specs.Types.{type_bytes}
use Rattle.wcv_encode.proofs.Again.{behind, made, made_of_two}
use Rattle.wcv_encode.proofs.AgainCanons.{canon_again}
use Rattle.wcv_encode.proofs.AgainCoreTypes.{core_type_again}
use Rattle.wcv_encode.proofs.AgainEntries.{import_again, export_again, alias_again, instance_again, core_instance_again}
use Rattle.wcv_encode.proofs.AgainLists.{vec_again}
use Rattle.wcv_encode.proofs.AgainNumbers.{u32_again}
use Rattle.wcv_encode.proofs.AgainTypes.{type_again}

pub one_again : (f : Form) (depth : ℕ) → form_nesting f ≤ depth → Reads (form_at depth (form_id f)) (one_of f) f
unfolding form_at one_of form_nesting
one_again (core_instance_item i) depth h = made core_instance_at core_instance_item (core_instance_bytes i) i (core_instance_again i)
one_again (core_type_item t) depth h = made core_type_at core_type_item (core_type_bytes t) t (core_type_again t)
one_again (instance_item i) depth h = made instance_at instance_item (instance_bytes i) i (instance_again i)
one_again (alias_item a) depth h = made alias_at alias_item (alias_bytes a) a (alias_again a)
one_again (type_item t) depth h = made (type_over (type_within depth)) type_item (type_bytes t) t (type_again t depth h)
one_again (canon_item f) depth h = made canon_at canon_item (canon_bytes f) f (canon_again f)
one_again (import_item i) depth h = made import_at import_item (import_bytes i) i (import_again i)
one_again (export_item e) depth h = made export_at export_item (export_bytes e) e (export_again e)
one_again (core_module_item ds) depth h = λ b rest e. absurd (cc)
one_again (component_item is end) depth h = λ b rest e. absurd (cc)
one_again (start_item f args results) depth h = λ b rest e. absurd (cc)

pub start_again : (f : ℕ) (args : List ℕ) (results : ℕ) → Reads start_at (u32_bytes f ⧺ vec u32_bytes args ⧺ u32_bytes results) (start_item f args results)
unfolding start_at
start_again f args results =
    behind u32_at (λ g. vec_at u32_at g.1 >>= λ xs. u32_at xs.1 >>= λ n. Ok (start_item g.0 xs.0 n.0, n.1)) (u32_bytes f) (vec u32_bytes args ⧺ u32_bytes results) f (start_item f args results) (u32_again f)
    (made_of_two (vec_at u32_at) u32_at (λ xs n. start_item f xs n) (vec u32_bytes args) (u32_bytes results) args results (vec_again u32_at u32_bytes u32_again args) (u32_again results))

-- a section of one item
pub entries_again : (depth id end : ℕ) (f : Form) (front : List Entry) (c x : List ℕ) → count_at id c ≡ Ok (1, x) → form_at depth id x ≡ Ok (f, []) → entries_at depth id end front c ≡ Ok (front ++ (record { offset = end - length x; form = f } ∷ []))
unfolding entries_at list_at entry_at
entries_again depth id end f front c x counted read = rw (counted, read) refl

-- a count of one
pub counts_one : (x : List ℕ) → u32_at (1 ∷ x) ≡ Ok (1, x)
unfolding leb_at
counts_one x = refl

-- a start has no count
pub counts_none : (x : List ℕ) → count_at 9 x ≡ Ok (1, x)
counts_none x = refl

pub reads_start : (depth : ℕ) (x : List ℕ) → form_at depth 9 x ≡ start_at x
unfolding form_at
reads_start depth x = refl
