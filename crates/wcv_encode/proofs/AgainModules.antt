-- Core modules are read again: their sections from the last to the first.
use Rattle.std.proofs.Common.{◌≡◌, ℕ, zero, suc, ◌+◌, ◌-◌, ◌*◌, ◌≤◌, Bool, true, false, cond, Option, Some, None, option_map, filter_map, Result, Ok, List, [], ◌∷◌, ◌++◌, length, drop, refl, sym, ap, ◌∙◌, subst, arith}
use Rattle.std.proofs.lemmas.List.{length-append}
use Rattle.wcv_core.specs.CoreForm.{Group}
use Rattle.wcv_core.specs.declared.core_types.GlobalType.{GlobalType}
use Rattle.wcv_core.specs.declared.core_types.MemoryType.{MemoryType}
use Rattle.wcv_core.specs.declared.core_types.TableType.{TableType}
use Rattle.wcv_syntax.specs.declared.core_section.ExternalKind.{ExternalKind}
use Rattle.wcv_syntax.specs.declared.core_section.ExternalKind.TheVariants as kind
use Rattle.wcv_syntax.specs.declared.core_section.Import.{Import}
use Rattle.wcv_syntax.specs.declared.core_section.TypeRef.{TypeRef}
use Rattle.wcv_syntax.specs.declared.core_section.TypeRef.TheVariants as ty
use Rattle.wcv_syntax.specs.Model.{Text, Module_decl, module_type, module_import, module_export, module_outer}
use Rattle.wcv_bytes.specs.declared.fault.BinaryFault.{BinaryFault}
use Rattle.wcv_binary.specs.declared.module_item.Tag.{Tag}
use Rattle.wcv_binary.specs.ModuleItems.{Module_form, export_at, spaces_of, imported_function, imported_table, imported_memory, imported_global, imported_tag}
use Rattle.wcv_binary.specs.Headers.{magic_at, module_header_at}
use Rattle.wcv_bytes.specs.Reading.{u32_at, list_at, vec_at}
use Rattle.wcv_binary.specs.ModuleSections.{is_kept, said_at, no_sections}
use Rattle.wcv_binary.specs.Modules.{module_room, module_section_at, module_sections_at, whole_module, core_module_at}
use Rattle.wcv_bytes.specs.Sections.{◌>>=◌, told, counted_at}
use Rattle.wcv_encode.specs.declared.part.Part.{Part}
use Rattle.wcv_encode.specs.declared.part.Part.TheVariants as part
use Rattle.wcv_encode.specs.Bytes.{Bytes, ◌⧺◌, u32_bytes, each, vec, section}
use Rattle.wcv_encode.specs.CoreTypes.{group_bytes, table_bytes, memory_bytes}
use Rattle.wcv_encode.specs.Entries.{core_export}
use Rattle.wcv_encode.specs.declared.counts.Counts.{Counts}
use Rattle.wcv_encode.specs.Kept.{module_more}
use Rattle.wcv_encode.specs.Laws.{Reads}
use Rattle.wcv_encode.specs.Modules as modules
use Rattle.wcv_encode.specs.Modules.{core_import_bytes, entry, part_id, section_of, part_bytes, count_of, next, no_items, exports_from, is_ordered, parts, parts_bytes, module_header, module_bytes}
use Rattle.wcv_encode.proofs.Again.{some_of, behind, parted}
use Rattle.wcv_encode.proofs.AgainDeclarations.{group_in, import_in, export_in, function_in, table_in, memory_in, global_in, tag_in, declared_again, of_kind, brought, space, named, gathered}
use Rattle.wcv_encode.proofs.AgainKept.{counted_again, count_again}
use Rattle.wcv_encode.proofs.AgainModuleParts.{part_is, body, own_tag, own_global, types_are, imports_are, functions_are, tables_are, memories_are, tags_are, globals_are, bodies_are, exports_again}
use Rattle.wcv_encode.proofs.AgainModuleSections.{Says, groups_say, imports_say, functions_say, tables_say, memories_say, tags_say, globals_say, exports_say, bodies_say, same_count}
use Rattle.wcv_encode.proofs.AgainNumbers.{u32_again, not_below}
use Rattle.wcv_encode.proofs.AgainSections.{counted_at_most, opened, contents_again}
use Rattle.wcv_encode.proofs.Joins.{empty_join, join_assoc, join_one}

-- ## Sections

-- what is known once so much was read
abbrev state : List Group → List Import → List ℕ → List TableType → List MemoryType → List Tag → List GlobalType → List (Text × TypeRef) → ℕ → Module_form
state groups imports functions tables memories tags globals exports bodies = record { next = 0; bodies = bodies; groups = groups; imports = imports; functions = functions; tables = tables; memories = memories; tags = tags; globals = globals; exports = exports }

-- for how many bytes more so many entries of a section count
abbrev section_more : ℕ → ℕ → ℕ
section_more id count = cond (is_kept id) (3 * count) 0

-- Sections that stand at a place or behind it, and count for more by a number, lead from what is known to what is known
-- at the end.
Leads : Module_form → Bytes → ℕ → ℕ → Module_form → Type 0
Leads m made more place out = (b : List ℕ) (next most end room : ℕ) → made ≡ Some b → next ≤ place → length b ≤ most → length b + more ≤ room → (left : ℕ) × (last : ℕ) × (module_sections_at most end room (record m { next = next }) b ≡ Ok (record out { next = last }, left)) × (room ≤ left + (length b + more))

at_end : (m : Module_form) (place : ℕ) → Leads m (Some []) 0 place m
unfolding Leads module_sections_at
at_end m place = λ b next most end room e n f r.
    (room, next, ap (λ z. module_sections_at most end room (record m { next = next }) z) (sym (some_of [] b e)), omega arith)

-- how much may still be kept behind what a section said, and what is behind it
abbrev counted_with : List ℕ → Module_form → Result ℕ BinaryFault → Result (Module_form × List ℕ × ℕ) BinaryFault
counted_with rest m room = room >>= λ left. Ok (m, rest, left)

-- what a section said, and what is behind it
abbrev said_with : List ℕ → Result ℕ BinaryFault → Result Module_form BinaryFault → Result (Module_form × List ℕ × ℕ) BinaryFault
said_with rest room said = said >>= λ m. counted_with rest m room

-- and the sections behind that
abbrev and_more : ℕ → ℕ → Result (Module_form × List ℕ × ℕ) BinaryFault → Result (Module_form × ℕ) BinaryFault
and_more most end read = read >>= λ x. module_sections_at most end x.2 x.0 x.1

-- how much may still be kept behind the entries of a section, if it is kept
room_again : (kept : Bool) (end room count : ℕ) (c rest : List ℕ) → u32_at c ≡ Ok (count, rest) → cond kept (3 * count) 0 ≤ room → (left : ℕ) × (cond kept (counted_at false end room c) (Ok room) ≡ Ok left) × (room ≤ left + cond kept (3 * count) 0)
room_again true end room count c rest read h =
    let counted = counted_again false end room count c rest read (omega (arith, h)) in
    (counted.0, counted.1, omega (arith, counted.2))
room_again false end room count c rest read h = (room, refl, omega arith)

-- contents that begin with a count
abbrev BeginsWith : Bytes → ℕ → Type 0
BeginsWith contents count = (c : List ℕ) → contents ≡ Some c → (rest : List ℕ) × (u32_at c ≡ Ok (count, rest))

section_step : (id place count others : ℕ) (contents more : Bytes) (m middle out : Module_form) → BeginsWith contents count → Says id place m contents middle → Leads middle more others (place + 1) out → (l c y : List ℕ) (next most end room : ℕ) → next ≤ place → u32_bytes (length c) ≡ Some l → contents ≡ Some c → more ≡ Some y → length (id ∷ l ++ (c ++ y)) ≤ most → length (id ∷ l ++ (c ++ y)) + (section_more id count + others) ≤ room → (left : ℕ) × (last : ℕ) × (module_sections_at most end room (record m { next = next }) (id ∷ l ++ (c ++ y)) ≡ Ok (record out { next = last }, left)) × (room ≤ left + (length (id ∷ l ++ (c ++ y)) + (section_more id count + others)))
unfolding Says Leads module_sections_at module_section_at
section_step id place count others contents more m middle out counts says leads l c y next zero end room n size first second f r = absurd (omega (arith, f))
section_step id place count others contents more m middle out counts says leads l c y next (suc most) end room n size first second f r =
    let long : length (l ++ (c ++ y)) ≡ length l + length c + length y = omega (arith, length-append l (c ++ y), length-append c y) in
    let found = contents_again (is_kept id) end room l c y size (omega (arith, r, long, counted_at_most (is_kept id) l c)) in
    let counted = counts c first in
    let behind = room_again (is_kept id) (end - length y) found.0 count c counted.0 counted.1 (omega (arith, r, long, found.2, counted_at_most (is_kept id) l c)) in
    let rest = leads y (place + 1) most end behind.0 second (omega arith) (omega (arith, f, long)) (omega (arith, r, long, found.2, behind.2, counted_at_most (is_kept id) l c)) in (
      rest.0,
      rest.1,
      ap (λ z. and_more most end (z >>= λ read. said_with read.1 (module_room id (end - length read.1) read.2 read.0) (told (end - length read.1) (said_at id (record m { next = next }) read.0)))) found.1
          ∙ ap (λ z. and_more most end (said_with y (module_room id (end - length y) found.0 c) (told (end - length y) z))) (says next c n first)
          ∙ ap (λ z. and_more most end (counted_with y (record middle { next = place + 1 }) z)) behind.1
          ∙ rest.2,
      omega (arith, long, found.2, behind.2, rest.3, counted_at_most (is_kept id) l c),
    )

-- a section and those behind it
section_leads : (id place count others : ℕ) (contents more : Bytes) (m middle out : Module_form) → BeginsWith contents count → Says id place m contents middle → Leads middle more others (place + 1) out → Leads m (section id contents ⧺ more) (section_more id count + others) place out
unfolding Says Leads module_sections_at module_section_at
section_leads id place count others contents more m middle out counts says leads = λ b next most end room e n f r.
    opened (λ z. length z ≤ most → length z + (section_more id count + others) ≤ room → (left : ℕ) × (last : ℕ) × (module_sections_at most end room (record m { next = next }) z ≡ Ok (record out { next = last }, left)) × (room ≤ left + (length z + (section_more id count + others)))) id contents more
    (λ l c y size first second. section_step id place count others contents more m middle out counts says leads l c y next most end room n size first second) b e f r

none_more : (kept : Bool) (others : ℕ) → cond kept (3 * 0) 0 + others ≡ others
none_more true others = omega arith
none_more false others = omega arith

-- a section of a list, which is not there where the list is empty
list_leads : {X : Type 0} (id place others : ℕ) (w : X → Bytes) (xs : List X) (more : Bytes) (m middle out : Module_form) → (xs ≡ [] → m ≡ middle) → Says id place m (vec w xs) middle → Leads middle more others (place + 1) out → Leads m (section_of id w xs ⧺ more) (section_more id (length xs) + others) place out
unfolding Leads section_of
list_leads id place others w [] more m middle out same says leads =
    subst (λ z. Leads z (Some [] ⧺ more) (section_more id 0 + others) place out) (sym (same refl))
    (subst (λ (k : ℕ). Leads middle (Some [] ⧺ more) k place out) (sym (none_more (is_kept id) others))
    (λ b next most end room e n f r. leads b next most end room (sym (empty_join more) ∙ e) (omega (arith, n)) f r))
list_leads id place others w (x ∷ xs) more m middle out same says leads = section_leads id place (length (x ∷ xs)) others (vec w (x ∷ xs)) more m middle out (count_again w (x ∷ xs)) says leads

-- ## All sections

-- a part before other parts
part_leads : {X : Type 0} (p : Part) (place others : ℕ) (w : X → Bytes) (pick : Module_decl → Option X) (ds : List Module_decl) (ps : List Part) (more : Bytes) (m middle out : Module_form) → ((d : Module_decl) → entry p d ≡ option_map w (pick d)) → (filter_map pick ds ≡ [] → m ≡ middle) → Says (part_id p) place m (vec w (filter_map pick ds)) middle → Leads middle (parts_bytes ds ps ⧺ more) others (place + 1) out → Leads m (parts_bytes ds (p ∷ ps) ⧺ more) (section_more (part_id p) (length (filter_map pick ds)) + others) place out
unfolding each
part_leads p place others w pick ds ps more m middle out are same says leads =
    subst (λ z. Leads m z (section_more (part_id p) (length (filter_map pick ds)) + others) place out)
    (sym (sym (join_assoc (part_bytes p ds) (parts_bytes ds ps) more) ∙ ap (λ z. z ⧺ (parts_bytes ds ps ⧺ more)) (part_is p w pick are ds)))
    (list_leads (part_id p) place others w (filter_map pick ds) (parts_bytes ds ps ⧺ more) m middle out same says leads)

no_exports : (c : Counts) (ds : List Module_decl) → exports_from c ds ≡ [] → filter_map export_in ds ≡ []
unfolding exports_from modules.export_at next
no_exports c [] h = refl
no_exports c (module_type g ∷ ds) h = no_exports (next c (module_type g)) ds h
no_exports c (module_import i ∷ ds) h = no_exports (next c (module_import i)) ds h
no_exports c (module_export n t ∷ ds) h = absurd (cc)
no_exports c (module_outer n i ∷ ds) h = no_exports (next c (module_outer n i)) ds h

-- what is known behind all parts that are no exports
abbrev known_parts : List Module_decl → List (Text × TypeRef) → ℕ → Module_form
known_parts ds exports bodies = state (filter_map group_in ds) (filter_map import_in ds) (filter_map function_in ds) (filter_map table_in ds) (filter_map memory_in ds) (filter_map tag_in ds) (filter_map global_in ds) exports bodies

-- ## What exports name

abbrev tag_ref : Tag → TypeRef
tag_ref t = ty.Tag t.func

function_import : (m n : Text) (t : TypeRef) → option_map ty.Func (imported_function (record { «module» = m; name = n; ty = t })) ≡ of_kind kind.Func t
unfolding of_kind
function_import m n (ty.Func t) = refl
function_import m n (ty.Table t) = refl
function_import m n (ty.Memory t) = refl
function_import m n (ty.Global t) = refl
function_import m n (ty.Tag t) = refl

function_export : (n : Text) (t : TypeRef) → option_map ty.Func (function_in (module_export n t)) ≡ of_kind kind.Func t
unfolding of_kind
function_export n (ty.Func t) = refl
function_export n (ty.Table t) = refl
function_export n (ty.Memory t) = refl
function_export n (ty.Global t) = refl
function_export n (ty.Tag t) = refl

table_import : (m n : Text) (t : TypeRef) → option_map ty.Table (imported_table (record { «module» = m; name = n; ty = t })) ≡ of_kind kind.Table t
unfolding of_kind
table_import m n (ty.Func t) = refl
table_import m n (ty.Table t) = refl
table_import m n (ty.Memory t) = refl
table_import m n (ty.Global t) = refl
table_import m n (ty.Tag t) = refl

table_export : (n : Text) (t : TypeRef) → option_map ty.Table (table_in (module_export n t)) ≡ of_kind kind.Table t
unfolding of_kind
table_export n (ty.Func t) = refl
table_export n (ty.Table t) = refl
table_export n (ty.Memory t) = refl
table_export n (ty.Global t) = refl
table_export n (ty.Tag t) = refl

memory_import : (m n : Text) (t : TypeRef) → option_map ty.Memory (imported_memory (record { «module» = m; name = n; ty = t })) ≡ of_kind kind.Memory t
unfolding of_kind
memory_import m n (ty.Func t) = refl
memory_import m n (ty.Table t) = refl
memory_import m n (ty.Memory t) = refl
memory_import m n (ty.Global t) = refl
memory_import m n (ty.Tag t) = refl

memory_export : (n : Text) (t : TypeRef) → option_map ty.Memory (memory_in (module_export n t)) ≡ of_kind kind.Memory t
unfolding of_kind
memory_export n (ty.Func t) = refl
memory_export n (ty.Table t) = refl
memory_export n (ty.Memory t) = refl
memory_export n (ty.Global t) = refl
memory_export n (ty.Tag t) = refl

global_import : (m n : Text) (t : TypeRef) → option_map ty.Global (imported_global (record { «module» = m; name = n; ty = t })) ≡ of_kind kind.Global t
unfolding of_kind
global_import m n (ty.Func t) = refl
global_import m n (ty.Table t) = refl
global_import m n (ty.Memory t) = refl
global_import m n (ty.Global t) = refl
global_import m n (ty.Tag t) = refl

global_export : (n : Text) (t : TypeRef) → option_map ty.Global (global_in (module_export n t)) ≡ of_kind kind.Global t
unfolding of_kind
global_export n (ty.Func t) = refl
global_export n (ty.Table t) = refl
global_export n (ty.Memory t) = refl
global_export n (ty.Global t) = refl
global_export n (ty.Tag t) = refl

tag_import : (m n : Text) (t : TypeRef) → option_map tag_ref (imported_tag (record { «module» = m; name = n; ty = t })) ≡ of_kind kind.Tag t
unfolding of_kind
tag_import m n (ty.Func t) = refl
tag_import m n (ty.Table t) = refl
tag_import m n (ty.Memory t) = refl
tag_import m n (ty.Global t) = refl
tag_import m n (ty.Tag t) = refl

tag_export : (n : Text) (t : TypeRef) → option_map tag_ref (tag_in (module_export n t)) ≡ of_kind kind.Tag t
unfolding of_kind
tag_export n (ty.Func t) = refl
tag_export n (ty.Table t) = refl
tag_export n (ty.Memory t) = refl
tag_export n (ty.Global t) = refl
tag_export n (ty.Tag t) = refl

-- the items of a sort stand in the order of the declarations
in_space : (ds : List Module_decl) → is_ordered 0 ds ≡ true → (k : ExternalKind) → space (spaces_of (known_parts ds [] 0)) k ≡ filter_map (brought k) ds
unfolding space
in_space ds ordered kind.Func = gathered kind.Func ty.Func imported_function function_in (λ i. function_import i.«module» i.name i.ty) function_export (λ g. refl) (λ i. refl) 0 ds ordered
in_space ds ordered kind.Table = gathered kind.Table ty.Table imported_table table_in (λ i. table_import i.«module» i.name i.ty) table_export (λ g. refl) (λ i. refl) 0 ds ordered
in_space ds ordered kind.Memory = gathered kind.Memory ty.Memory imported_memory memory_in (λ i. memory_import i.«module» i.name i.ty) memory_export (λ g. refl) (λ i. refl) 0 ds ordered
in_space ds ordered kind.Global = gathered kind.Global ty.Global imported_global global_in (λ i. global_import i.«module» i.name i.ty) global_export (λ g. refl) (λ i. refl) 0 ds ordered
in_space ds ordered kind.Tag = gathered kind.Tag tag_ref imported_tag tag_in (λ i. tag_import i.«module» i.name i.ty) tag_export (λ g. refl) (λ i. refl) 0 ds ordered

none_yet : (k : ExternalKind) → count_of no_items k ≡ 0
unfolding count_of
none_yet kind.Func = refl
none_yet kind.Table = refl
none_yet kind.Memory = refl
none_yet kind.Global = refl
none_yet kind.Tag = refl

all_exports : (ds : List Module_decl) → is_ordered 0 ds ≡ true → Reads (vec_at (export_at (spaces_of (known_parts ds [] 0)))) (vec core_export (exports_from no_items ds)) (filter_map export_in ds)
unfolding vec_at vec
all_exports ds ordered =
    let s = spaces_of (known_parts ds [] 0) in
    let xs = exports_from no_items ds in
    behind u32_at (λ n. list_at (export_at s) n.0 n.1) (u32_bytes (length xs)) (each core_export xs) (length xs) (filter_map export_in ds) (u32_again (length xs))
    (exports_again s no_items ds (named s no_items ds (λ k. ([], in_space ds ordered k, none_yet k))))

-- ## All sections

-- for how many bytes more the entries of all sections count
abbrev exports_more : Counts → List Module_decl → ℕ
exports_more c ds = 3 * length (exports_from c ds)

abbrev own_more : List Module_decl → ℕ → ℕ
own_more ds others =
    3 * length (filter_map function_in ds) + (3 * length (filter_map table_in ds) + (3 * length (filter_map memory_in ds) + (3 * length (filter_map tag_in ds) + (3 * length (filter_map global_in ds) + others))))

abbrev entries_more : Counts → List Module_decl → ℕ
entries_more c ds = 3 * length (filter_map group_in ds) + (3 * length (filter_map import_in ds) + own_more ds (exports_more c ds + 0))

more_of_entries : (c : Counts) (ds : List Module_decl) → entries_more c ds ≤ module_more ds
unfolding exports_from modules.export_at next module_more
more_of_entries c [] = omega arith
more_of_entries c (module_type g ∷ ds) = omega (arith, more_of_entries (next c (module_type g)) ds)
more_of_entries c (module_import i ∷ ds) = omega (arith, more_of_entries (next c (module_import i)) ds)
more_of_entries c (module_export n (ty.Func t) ∷ ds) = omega (arith, more_of_entries (next c (module_export n (ty.Func t))) ds)
more_of_entries c (module_export n (ty.Table t) ∷ ds) = omega (arith, more_of_entries (next c (module_export n (ty.Table t))) ds)
more_of_entries c (module_export n (ty.Memory t) ∷ ds) = omega (arith, more_of_entries (next c (module_export n (ty.Memory t))) ds)
more_of_entries c (module_export n (ty.Global t) ∷ ds) = omega (arith, more_of_entries (next c (module_export n (ty.Global t))) ds)
more_of_entries c (module_export n (ty.Tag t) ∷ ds) = omega (arith, more_of_entries (next c (module_export n (ty.Tag t))) ds)
more_of_entries c (module_outer n i ∷ ds) = omega (arith, more_of_entries (next c (module_outer n i)) ds)

lower : (m : Module_form) (made : Bytes) (more place higher : ℕ) (out : Module_form) → place ≤ higher → Leads m made more higher out → Leads m made more place out
unfolding Leads
lower m made more place higher out h leads = λ b next most end room e n f r. leads b next most end room e (omega (arith, n, h)) f r

-- the export section and the bodies
ending : (ds : List Module_decl) → is_ordered 0 ds ≡ true → Leads (known_parts ds [] 0) (section_of 7 core_export (exports_from no_items ds) ⧺ part_bytes part.Bodies ds) (exports_more no_items ds + 0) 7 (known_parts ds (filter_map export_in ds) (length (filter_map function_in ds)))
ending ds ordered =
    let es = filter_map export_in ds in
    let fs = filter_map function_in ds in
    let out = known_parts ds es (length fs) in
    list_leads 7 7 0 core_export (exports_from no_items ds) (part_bytes part.Bodies ds) (known_parts ds [] 0) (known_parts ds es 0) out (λ none. ap (λ xs. known_parts ds xs 0) (sym (no_exports no_items ds none)))
    (exports_say (known_parts ds [] 0) (vec core_export (exports_from no_items ds)) es (all_exports ds ordered))
    (lower (known_parts ds es 0) (part_bytes part.Bodies ds) 0 8 11 out (omega arith)
    (subst (λ z. Leads (known_parts ds es 0) z 0 11 out) (join_one (section_of 10 body fs) ∙ sym (part_is part.Bodies body function_in bodies_are ds))
    (list_leads 10 11 0 body fs (Some []) (known_parts ds es 0) out out (λ none. ap (λ (xs : List ℕ). known_parts ds es (length xs)) (sym none)) (bodies_say (known_parts ds es 0)) (at_end out 12))))

all_lead : (ds : List Module_decl) → is_ordered 0 ds ≡ true → Leads no_sections (parts_bytes ds parts ⧺ section_of 7 core_export (exports_from no_items ds) ⧺ part_bytes part.Bodies ds) (entries_more no_items ds) 0 (known_parts ds (filter_map export_in ds) (length (filter_map function_in ds)))
unfolding each
all_lead ds ordered =
    let more = section_of 7 core_export (exports_from no_items ds) ⧺ part_bytes part.Bodies ds in
    let out = known_parts ds (filter_map export_in ds) (length (filter_map function_in ds)) in
    let gs = filter_map group_in ds in
    let is = filter_map import_in ds in
    let fs = filter_map function_in ds in
    let ts = filter_map table_in ds in
    let ms = filter_map memory_in ds in
    let tags = filter_map tag_in ds in
    let gls = filter_map global_in ds in
    let m0 = state [] [] [] [] [] [] [] [] 0 in
    let m1 = state gs [] [] [] [] [] [] [] 0 in
    let m2 = state gs is [] [] [] [] [] [] 0 in
    let m3 = state gs is fs [] [] [] [] [] 0 in
    let m4 = state gs is fs ts [] [] [] [] 0 in
    let m5 = state gs is fs ts ms [] [] [] 0 in
    let m6 = state gs is fs ts ms tags [] [] 0 in
    let m7 = state gs is fs ts ms tags gls [] 0 in
    let n7 : ℕ = exports_more no_items ds + 0 in
    let n6 : ℕ = 3 * length gls + n7 in
    let n5 : ℕ = 3 * length tags + n6 in
    let n4 : ℕ = 3 * length ms + n5 in
    let n3 : ℕ = 3 * length ts + n4 in
    let n2 : ℕ = 3 * length fs + n3 in
    let n1 : ℕ = 3 * length is + n2 in
    part_leads part.Types 0 n1 group_bytes group_in ds (drop 1 parts) more m0 m1 out types_are (λ none. ap (λ xs. state xs [] [] [] [] [] [] [] 0) (sym none)) (groups_say m0 gs)
    (part_leads part.Imports 1 n2 core_import_bytes import_in ds (drop 2 parts) more m1 m2 out imports_are (λ none. ap (λ xs. state gs xs [] [] [] [] [] [] 0) (sym none)) (imports_say m1 is)
    (part_leads part.Functions 2 n3 u32_bytes function_in ds (drop 3 parts) more m2 m3 out functions_are (λ none. ap (λ xs. state gs is xs [] [] [] [] [] 0) (sym none)) (functions_say m2 fs)
    (part_leads part.Tables 3 n4 table_bytes table_in ds (drop 4 parts) more m3 m4 out tables_are (λ none. ap (λ xs. state gs is fs xs [] [] [] [] 0) (sym none)) (tables_say m3 ts)
    (part_leads part.Memories 4 n5 memory_bytes memory_in ds (drop 5 parts) more m4 m5 out memories_are (λ none. ap (λ xs. state gs is fs ts xs [] [] [] 0) (sym none)) (memories_say m4 ms)
    (part_leads part.Tags 5 n6 own_tag tag_in ds (drop 6 parts) more m5 m6 out tags_are (λ none. ap (λ xs. state gs is fs ts ms xs [] [] 0) (sym none)) (tags_say m5 tags)
    (part_leads part.Globals 6 n7 own_global global_in ds (drop 7 parts) more m6 m7 out globals_are (λ none. ap (λ xs. state gs is fs ts ms tags xs [] 0) (sym none)) (globals_say m6 gls)
    (subst (λ z. Leads m7 z n7 7 out) (sym (empty_join more)) (ending ds ordered))))))))

-- ## Core modules

header_again : (rest : List ℕ) → module_header_at (0x00 ∷ 0x61 ∷ 0x73 ∷ 0x6D ∷ 0x01 ∷ 0x00 ∷ 0x00 ∷ 0x00 ∷ rest) ≡ Ok rest
unfolding module_header_at magic_at
header_again rest = rw (not_below (length (0x00 ∷ 0x61 ∷ 0x73 ∷ 0x6D ∷ 0x01 ∷ 0x00 ∷ 0x00 ∷ 0x00 ∷ rest)) 8 (omega arith)) refl

-- a core module that is read again, and no more kept than what it counts for
abbrev pub ModuleRead : List Module_decl → List ℕ → Type 0
ModuleRead ds b = (end room : ℕ) → length b + module_more ds ≤ room → (left : ℕ) × (core_module_at end room b ≡ Ok (ds, left)) × (room ≤ left + (length b + module_more ds))

behind_header : (ds : List Module_decl) → is_ordered 0 ds ≡ true → (y : List ℕ) → parts_bytes ds parts ⧺ section_of 7 core_export (exports_from no_items ds) ⧺ part_bytes part.Bodies ds ≡ Some y → ModuleRead ds ((0x00 ∷ 0x61 ∷ 0x73 ∷ 0x6D ∷ 0x01 ∷ 0x00 ∷ 0x00 ∷ 0x00 ∷ []) ++ y)
unfolding Leads core_module_at
behind_header ds ordered y e end room h =
    let fs = filter_map function_in ds in
    let counted = more_of_entries no_items ds in
    let read = all_lead ds ordered y 0 (length y) end (room - 8) e (omega arith) (omega arith) (omega (arith, h, counted)) in (
      read.0,
      ap (λ z. told end z >>= λ rest. module_sections_at (length rest) end (room - 8) no_sections rest >>= λ m. whole_module end m) (header_again y)
          ∙ ap (λ z. z >>= λ m. whole_module end m) read.2
          ∙ rw (same_count (length fs)) (ap (λ (xs : List Module_decl). Ok (xs, read.0)) (declared_again 0 ds ordered)),
      omega (arith, read.3, h, counted),
    )

guarded : (t : Bool) (a : Bytes) (b : List ℕ) → cond t a None ≡ Some b → (t ≡ true) × (a ≡ Some b)
guarded true a b e = (refl, e)
guarded false a b e = absurd (cc)

pub core_module_again : (ds : List Module_decl) (b : List ℕ) → module_bytes ds ≡ Some b → ModuleRead ds b
unfolding module_bytes module_header
core_module_again ds b e =
    let more = parts_bytes ds parts ⧺ section_of 7 core_export (exports_from no_items ds) ⧺ part_bytes part.Bodies ds in
    let header = 0x00 ∷ 0x61 ∷ 0x73 ∷ 0x6D ∷ 0x01 ∷ 0x00 ∷ 0x00 ∷ 0x00 ∷ [] in
    let g = guarded (is_ordered 0 ds) (Some header ⧺ more) b e in
    parted (λ z. ModuleRead ds z) (Some header) more (λ x y first second. subst (λ z. ModuleRead ds (z ++ y)) (some_of header x first) (behind_header ds g.0 y second)) b g.1
