-- What a core module writes of each of its parts, and that its exports are read again.
use Rattle.std.proofs.Common.{◌≡◌, ℕ, Option, Some, None, option_map, filter_map, Result, Ok, List, [], ◌∷◌, ◌++◌, length, map, refl, sym, ap, ◌∙◌}
use Rattle.std.specs.List.{cons_option}
use Rattle.wcv_core.specs.declared.core_types.GlobalType.{GlobalType}
use Rattle.wcv_syntax.specs.declared.core_section.ExternalKind.{ExternalKind}
use Rattle.wcv_syntax.specs.declared.core_section.TypeRef.{TypeRef}
use Rattle.wcv_syntax.specs.declared.core_section.TypeRef.TheVariants as ty
use Rattle.wcv_syntax.specs.Model.{Text, Module_decl, module_type, module_import, module_export, module_outer}
use Rattle.wcv_bytes.specs.declared.fault.Fault.{Fault}
use Rattle.wcv_binary.specs.declared.module_item.Tag.{Tag}
use Rattle.wcv_bytes.specs.Reading.{◌>>=◌, u32_at, list_at, text_at}
use Rattle.wcv_binary.specs.ModuleItems.{Spaces_form, item_of, item_at, export_at}
use Rattle.wcv_binary.specs.Sorts.{core_sort_at}
use Rattle.wcv_encode.specs.declared.counts.Counts.{Counts}
use Rattle.wcv_encode.specs.declared.part.Part.{Part}
use Rattle.wcv_encode.specs.declared.part.Part.TheVariants as part
use Rattle.wcv_encode.specs.Bytes.{Bytes, ◌⧺◌, byte, u32_bytes, text, each, section}
use Rattle.wcv_encode.specs.CoreTypes.{group_bytes, table_bytes, memory_bytes, global_bytes}
use Rattle.wcv_encode.specs.Entries.{core_export, core_sort}
use Rattle.wcv_encode.specs.Laws.{Reads}
use Rattle.wcv_encode.specs.Modules.{core_import_bytes, constant, own_entry, entry, part_id, as_they_are, section_of, part_bytes, kind_of, count_of, next, exports_from}
use Rattle.wcv_encode.specs.Modules as modules
use Rattle.wcv_encode.proofs.Again.{behind, made, known}
use Rattle.wcv_encode.proofs.AgainDeclarations.{group_in, import_in, export_in, function_in, table_in, memory_in, global_in, tag_in, Named}
use Rattle.wcv_encode.proofs.AgainEntries.{core_sort_again}
use Rattle.wcv_encode.proofs.AgainLists.{text_again}
use Rattle.wcv_encode.proofs.AgainNumbers.{u32_again}
use Rattle.wcv_encode.proofs.Lists.{vec_map}

-- ## What is written of the parts

mapped : {X Y : Type 0} (w : X → Y) (o : Option X) (xs : List X) → cons_option (option_map w o) (map w xs) ≡ map w (cons_option o xs)
mapped w None xs = refl
mapped w (Some x) xs = refl

-- what a part writes, where `pick` says what a declaration adds to it
picked : {X : Type 0} (p : Part) (w : X → Bytes) (pick : Module_decl → Option X) → ((d : Module_decl) → entry p d ≡ option_map w (pick d)) → (ds : List Module_decl) → filter_map (entry p) ds ≡ map w (filter_map pick ds)
picked p w pick same [] = refl
picked p w pick same (d ∷ ds) =
    ap (λ o. cons_option o (filter_map (entry p) ds)) (same d) ∙ ap (cons_option (option_map w (pick d))) (picked p w pick same ds) ∙ mapped w (pick d) (filter_map pick ds)

section_map : {X : Type 0} (id : ℕ) (w : X → Bytes) (xs : List X) → section_of id as_they_are (map w xs) ≡ section_of id w xs
unfolding section_of
section_map id w [] = refl
section_map id w (x ∷ xs) = ap (section id) (sym (vec_map as_they_are w (x ∷ xs)))

pub part_is : {X : Type 0} (p : Part) (w : X → Bytes) (pick : Module_decl → Option X) → ((d : Module_decl) → entry p d ≡ option_map w (pick d)) → (ds : List Module_decl) → part_bytes p ds ≡ section_of (part_id p) w (filter_map pick ds)
unfolding part_bytes
part_is p w pick same ds = ap (section_of (part_id p) as_they_are) (picked p w pick same ds) ∙ section_map (part_id p) w (filter_map pick ds)

pub body : ℕ → Bytes
body f = Some (0x03 ∷ 0x00 ∷ 0x00 ∷ 0x0B ∷ [])

unfoldable pub own_tag : Tag → Bytes
own_tag t = byte 0x00 ⧺ u32_bytes t.func

unfoldable pub own_global : GlobalType → Bytes
own_global g = global_bytes g ⧺ constant g.content_type

pub types_are : (d : Module_decl) → entry part.Types d ≡ option_map group_bytes (group_in d)
unfolding entry own_entry
types_are (module_type g) = refl
types_are (module_import i) = refl
types_are (module_export n (ty.Func t)) = refl
types_are (module_export n (ty.Table t)) = refl
types_are (module_export n (ty.Memory t)) = refl
types_are (module_export n (ty.Global t)) = refl
types_are (module_export n (ty.Tag t)) = refl
types_are (module_outer n i) = refl

pub imports_are : (d : Module_decl) → entry part.Imports d ≡ option_map core_import_bytes (import_in d)
unfolding entry own_entry
imports_are (module_type g) = refl
imports_are (module_import i) = refl
imports_are (module_export n (ty.Func t)) = refl
imports_are (module_export n (ty.Table t)) = refl
imports_are (module_export n (ty.Memory t)) = refl
imports_are (module_export n (ty.Global t)) = refl
imports_are (module_export n (ty.Tag t)) = refl
imports_are (module_outer n i) = refl

pub functions_are : (d : Module_decl) → entry part.Functions d ≡ option_map u32_bytes (function_in d)
unfolding entry own_entry
functions_are (module_type g) = refl
functions_are (module_import i) = refl
functions_are (module_export n (ty.Func t)) = refl
functions_are (module_export n (ty.Table t)) = refl
functions_are (module_export n (ty.Memory t)) = refl
functions_are (module_export n (ty.Global t)) = refl
functions_are (module_export n (ty.Tag t)) = refl
functions_are (module_outer n i) = refl

pub tables_are : (d : Module_decl) → entry part.Tables d ≡ option_map table_bytes (table_in d)
unfolding entry own_entry
tables_are (module_type g) = refl
tables_are (module_import i) = refl
tables_are (module_export n (ty.Func t)) = refl
tables_are (module_export n (ty.Table t)) = refl
tables_are (module_export n (ty.Memory t)) = refl
tables_are (module_export n (ty.Global t)) = refl
tables_are (module_export n (ty.Tag t)) = refl
tables_are (module_outer n i) = refl

pub memories_are : (d : Module_decl) → entry part.Memories d ≡ option_map memory_bytes (memory_in d)
unfolding entry own_entry
memories_are (module_type g) = refl
memories_are (module_import i) = refl
memories_are (module_export n (ty.Func t)) = refl
memories_are (module_export n (ty.Table t)) = refl
memories_are (module_export n (ty.Memory t)) = refl
memories_are (module_export n (ty.Global t)) = refl
memories_are (module_export n (ty.Tag t)) = refl
memories_are (module_outer n i) = refl

pub tags_are : (d : Module_decl) → entry part.Tags d ≡ option_map own_tag (tag_in d)
unfolding entry own_entry own_tag
tags_are (module_type g) = refl
tags_are (module_import i) = refl
tags_are (module_export n (ty.Func t)) = refl
tags_are (module_export n (ty.Table t)) = refl
tags_are (module_export n (ty.Memory t)) = refl
tags_are (module_export n (ty.Global t)) = refl
tags_are (module_export n (ty.Tag t)) = refl
tags_are (module_outer n i) = refl

pub globals_are : (d : Module_decl) → entry part.Globals d ≡ option_map own_global (global_in d)
unfolding entry own_entry own_global
globals_are (module_type g) = refl
globals_are (module_import i) = refl
globals_are (module_export n (ty.Func t)) = refl
globals_are (module_export n (ty.Table t)) = refl
globals_are (module_export n (ty.Memory t)) = refl
globals_are (module_export n (ty.Global t)) = refl
globals_are (module_export n (ty.Tag t)) = refl
globals_are (module_outer n i) = refl

pub bodies_are : (d : Module_decl) → entry part.Bodies d ≡ option_map body (function_in d)
unfolding entry own_entry body
bodies_are (module_type g) = refl
bodies_are (module_import i) = refl
bodies_are (module_export n (ty.Func t)) = refl
bodies_are (module_export n (ty.Table t)) = refl
bodies_are (module_export n (ty.Memory t)) = refl
bodies_are (module_export n (ty.Global t)) = refl
bodies_are (module_export n (ty.Tag t)) = refl
bodies_are (module_outer n i) = refl

-- ## Exports

-- an export of an item that is there
export_again : (s : Spaces_form) (n : Text) (k : ExternalKind) (i : ℕ) (t : TypeRef) → item_of s k i ≡ Some t → Reads (export_at s) (text n ⧺ byte (core_sort k) ⧺ u32_bytes i) (n, t)
unfolding export_at
export_again s n k i t there =
    behind text_at (λ name. core_sort_at name.1 >>= λ kind. u32_at kind.1 >>= λ index. item_at (item_of s kind.0 index.0) kind.1 >>= λ item. Ok ((name.0, item), index.1)) (text n) (byte (core_sort k) ⧺ u32_bytes i) n (n, t) (text_again n)
    (behind core_sort_at (λ kind. u32_at kind.1 >>= λ index. item_at (item_of s kind.0 index.0) kind.1 >>= λ item. Ok ((n, item), index.1)) (byte (core_sort k)) (u32_bytes i) k (n, t) (core_sort_again k)
    (λ b rest e.
    let from : ℕ × List ℕ → Result ((Text × TypeRef) × List ℕ) Fault = λ index. item_at (item_of s k index.0) (b ++ rest) >>= λ item. Ok ((n, item), index.1) in
    let with : TypeRef → Result ((Text × TypeRef) × List ℕ) Fault = λ item. Ok ((n, item), rest) in
    ap (λ y. y >>= from) (u32_again i b rest e) ∙ ap (λ o. item_at o (b ++ rest) >>= with) there))

pub exports_again : (s : Spaces_form) (c : Counts) (ds : List Module_decl) → Named s c ds → Reads (list_at (export_at s) (length (exports_from c ds))) (each core_export (exports_from c ds)) (filter_map export_in ds)
unfolding list_at each exports_from modules.export_at core_export Named next
exports_again s c [] there = known [] (λ bytes. Ok ([], bytes)) [] (λ rest. refl)
exports_again s c (module_type g ∷ ds) there = exports_again s (next c (module_type g)) ds there
exports_again s c (module_import i ∷ ds) there = exports_again s (next c (module_import i)) ds there
exports_again s c (module_export n t ∷ ds) there =
    let others = exports_from (next c (module_export n t)) ds in
    behind (export_at s) (λ first. list_at (export_at s) (length others) first.1 >>= λ more. Ok (first.0 ∷ more.0, more.1)) (text n ⧺ byte (core_sort (kind_of t)) ⧺ u32_bytes (count_of c (kind_of t))) (each core_export others) (n, t) ((n, t) ∷ filter_map export_in ds) (export_again s n (kind_of t) (count_of c (kind_of t)) t there.0)
    (made (list_at (export_at s) (length others)) (λ more. (n, t) ∷ more) (each core_export others) (filter_map export_in ds) (exports_again s (next c (module_export n t)) ds there.1))
exports_again s c (module_outer n i ∷ ds) there = exports_again s (next c (module_outer n i)) ds there
