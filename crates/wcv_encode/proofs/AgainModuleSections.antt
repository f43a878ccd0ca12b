-- What the sections of a core module say is what was written of them.
use Rattle.std.proofs.Common.{◌≡◌, ℕ, ◌+◌, ◌≤◌, nat_eq, true, Some, Result, Ok, List, [], length, refl, ◌∙◌, subst, append-nil, arith}
use Rattle.std.proofs.lemmas.Bool.Decides.{nat_tests}
use Rattle.wcv_bytes.specs.declared.fault.Fault.{Fault}
use Rattle.wcv_bytes.specs.Reading.{◌>>=◌, u32_at, vec_at}
use Rattle.wcv_binary.specs.CoreTypes.{group_at}
use Rattle.wcv_binary.specs.Entities.{memory_type_at, module_import_at}
use Rattle.wcv_binary.specs.Items.{ended}
use Rattle.wcv_binary.specs.ModuleItems.{Module_form, spaces_of, table_at, global_at, tag_at, export_at}
use Rattle.wcv_binary.specs.ModuleSections.{place_behind, kept_at, bodies_at, said_at}
use Rattle.wcv_encode.specs.Bytes.{Bytes, u32_bytes, each, vec}
use Rattle.wcv_encode.specs.CoreTypes.{group_bytes, table_bytes, memory_bytes}
use Rattle.wcv_encode.specs.Laws.{Reads}
use Rattle.wcv_encode.specs.Modules.{core_import_bytes}
use Rattle.wcv_encode.proofs.Again.{parted}
use Rattle.wcv_encode.proofs.AgainConstants.{own_table_again, own_global_again, own_tag_again}
use Rattle.wcv_encode.proofs.AgainCoreTypes.{group_again}
use Rattle.wcv_encode.proofs.AgainEntities.{memory_again, module_import_again}
use Rattle.wcv_encode.proofs.AgainLists.{vec_again}
use Rattle.wcv_encode.proofs.AgainModuleParts.{body, own_tag, own_global}
use Rattle.wcv_encode.proofs.AgainNumbers.{u32_again, not_below}

-- what is said by a section that stands at its place
unfoldable pub Says : ℕ → ℕ → Module_form → Bytes → Module_form → Type 0
Says id place m contents out = (next : ℕ) (c : List ℕ) → next ≤ place → contents ≡ Some c → said_at id (record m { next = next }) c ≡ Ok (record out { next = place + 1 })

-- a section that is kept, whose list is read again
list_says : {X : Type 0} (id place : ℕ) (r : List ℕ → Result (X × List ℕ) Fault) (contents : Bytes) (m : Module_form) (out : List X → Module_form) (xs : List X) → Reads (vec_at r) contents xs → ((next : ℕ) (c : List ℕ) → said_at id (record m { next = next }) c ≡ (place_behind next (Some place) c >>= λ n. ended (vec_at r c >>= λ x. Ok (record (out x.0) { next = n }, x.1)))) → Says id place m contents (out xs)
unfolding Says
list_says id place r contents m out xs again step = λ next c n e.
    let read : vec_at r c ≡ Ok (xs, []) = subst (λ z. vec_at r z ≡ Ok (xs, [])) (append-nil c) (again c [] e) in
    step next c ∙ rw (not_below place next n, read) refl

pub groups_say : (m : Module_form) (xs : List _) → Says 1 0 m (vec group_bytes xs) (record m { groups = xs })
unfolding said_at kept_at
groups_say m xs = list_says 1 0 group_at (vec group_bytes xs) m (λ ys. record m { groups = ys }) xs (vec_again group_at group_bytes group_again xs) (λ next c. refl)

pub imports_say : (m : Module_form) (xs : List _) → Says 2 1 m (vec core_import_bytes xs) (record m { imports = xs })
unfolding said_at kept_at
imports_say m xs = list_says 2 1 module_import_at (vec core_import_bytes xs) m (λ ys. record m { imports = ys }) xs (vec_again module_import_at core_import_bytes module_import_again xs) (λ next c. refl)

pub functions_say : (m : Module_form) (xs : List ℕ) → Says 3 2 m (vec u32_bytes xs) (record m { functions = xs })
unfolding said_at kept_at
functions_say m xs = list_says 3 2 u32_at (vec u32_bytes xs) m (λ ys. record m { functions = ys }) xs (vec_again u32_at u32_bytes u32_again xs) (λ next c. refl)

pub tables_say : (m : Module_form) (xs : List _) → Says 4 3 m (vec table_bytes xs) (record m { tables = xs })
unfolding said_at kept_at
tables_say m xs = list_says 4 3 table_at (vec table_bytes xs) m (λ ys. record m { tables = ys }) xs (vec_again table_at table_bytes own_table_again xs) (λ next c. refl)

pub memories_say : (m : Module_form) (xs : List _) → Says 5 4 m (vec memory_bytes xs) (record m { memories = xs })
unfolding said_at kept_at
memories_say m xs = list_says 5 4 memory_type_at (vec memory_bytes xs) m (λ ys. record m { memories = ys }) xs (vec_again memory_type_at memory_bytes memory_again xs) (λ next c. refl)

pub tags_say : (m : Module_form) (xs : List _) → Says 13 5 m (vec own_tag xs) (record m { tags = xs })
unfolding said_at kept_at own_tag
tags_say m xs = list_says 13 5 tag_at (vec own_tag xs) m (λ ys. record m { tags = ys }) xs (vec_again tag_at own_tag (λ t. own_tag_again t.func) xs) (λ next c. refl)

pub globals_say : (m : Module_form) (xs : List _) → Says 6 6 m (vec own_global xs) (record m { globals = xs })
unfolding said_at kept_at own_global
globals_say m xs = list_says 6 6 global_at (vec own_global xs) m (λ ys. record m { globals = ys }) xs (vec_again global_at own_global own_global_again xs) (λ next c. refl)

pub exports_say : (m : Module_form) (contents : Bytes) (xs : List _) → Reads (vec_at (export_at (spaces_of m))) contents xs → Says 7 7 m contents (record m { exports = xs })
unfolding said_at kept_at
exports_say m contents xs again = list_says 7 7 (export_at (spaces_of m)) contents m (λ ys. record m { exports = ys }) xs again (λ next c. refl)

pub same_count : (n : ℕ) → nat_eq n n ≡ true
same_count n = grind (arith, nat_tests)

pub bodies_say : (m : Module_form) → Says 10 11 m (vec body m.functions) (record m { bodies = length m.functions })
unfolding Says said_at bodies_at vec
bodies_say m = λ next c n e.
    parted (λ z. said_at 10 (record m { next = next }) z ≡ Ok (record m { next = 12; bodies = length m.functions })) (u32_bytes (length m.functions)) (each body m.functions)
    (λ x y size others. rw (not_below 11 next n, u32_again (length m.functions) x y size, same_count (length m.functions)) refl) c e
