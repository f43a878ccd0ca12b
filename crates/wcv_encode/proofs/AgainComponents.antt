-- The items of components are read again, each at the offset at which it was written.
use Rattle.std.proofs.Common.{◌≡◌, ℕ, zero, suc, ◌+◌, ◌-◌, ◌≤◌, Bool, true, false, cond, Some, Result, Ok, List, [], ◌∷◌, ◌++◌, length, nat_eq, refl, sym, ap, ◌∙◌, subst, append-nil, append_assoc, not-suc-le-zero, le_of_suc-le-suc, arith}
use Rattle.std.proofs.lemmas.List.{length-append}
use Rattle.wcv_syntax.specs.Model.{Module_decl, Type_form, Form, core_type_item, core_module_item, core_instance_item, type_item, import_item, export_item, component_item, instance_item, alias_item, start_item, canon_item, Items, no_items, next_item, Entry}
use Rattle.wcv_syntax.specs.View.{items_of}
use Rattle.wcv_bytes.specs.declared.fault.BinaryFault.{BinaryFault}
use Rattle.wcv_bytes.specs.declared.fault.Fault.{Fault}
use Rattle.wcv_binary.specs.Binary.{binary_within, binary_of}
use Rattle.wcv_binary.specs.Components.{max_nesting, counts, whole_at, held_at, section_at, sections_at, component_over, component_within}
use Rattle.wcv_binary.specs.Headers.{magic_at, component_header_at}
use Rattle.wcv_binary.specs.Items.{form_at, count_at, entries_at, start_at}
use Rattle.wcv_bytes.specs.Sections.{◌>>=◌, max_kept, told, counted_at}
use Rattle.wcv_encode.specs.Bytes.{Bytes, ◌⧺◌, byte, u32_bytes, vec, sized, section}
use Rattle.wcv_encode.specs.Kept.{module_more, form_more, items_more, kept}
use Rattle.wcv_encode.specs.Laws.{Reads}
use Rattle.wcv_encode.specs.Modules.{module_bytes}
use Rattle.wcv_encode.specs.Types.{type_bytes}
use Rattle.wcv_encode.specs.Nesting.{form_nesting, items_nesting, nesting}
use Rattle.wcv_encode.specs.Placed.{size, inside, lead, placed_form, placed_items, entries_of, placed}
use Rattle.wcv_encode.specs.Spelling.{component_header, form_id, one_of, contents, items_bytes, spelling}
use Rattle.wcv_encode.proofs.Again.{some_of, begun_by, parted}
use Rattle.wcv_encode.proofs.AgainTypes.{of_left, of_right}
use Rattle.wcv_encode.proofs.AgainItems.{one_again, start_again, entries_again, counts_one, counts_none, reads_start}
use Rattle.wcv_encode.proofs.AgainKept.{counted_again}
use Rattle.wcv_encode.proofs.AgainModules.{core_module_again}
use Rattle.wcv_encode.proofs.AgainSections.{counted_at_most, opened, contents_again}
use Rattle.wcv_encode.proofs.AgainNumbers.{not_below}

-- ## Items of sections

-- how many bytes of a section are counted by what it holds
abbrev gap : ℕ → List ℕ → ℕ
gap id c = cond (counts id) 0 (length c)

-- A section's contents hold an item, and no more is kept than their bytes and what the item counts for more.
abbrev Holds : (depth id end room : ℕ) (front : List Entry) (c : List ℕ) (more : ℕ) (e : Entry) → Type 0
Holds depth id end room front c more e = (left : ℕ) × (held_at depth (component_within depth) id end front room c ≡ Ok (front ++ (e ∷ []), left)) × (room ≤ left + (gap id c + more))

-- what a section of one item holds
abbrev as_module : Result (List Module_decl × ℕ) BinaryFault → Result (Form × ℕ) BinaryFault
as_module read = read >>= λ x. Ok (core_module_item x.0, x.1)

abbrev as_component : ℕ → Result (List Entry × ℕ) BinaryFault → Result (Form × ℕ) BinaryFault
as_component end read = read >>= λ x. Ok (component_item (items_of x.0) end, x.1)

abbrev behind_front : List Entry → ℕ → Result (Form × ℕ) BinaryFault → Result (List Entry × ℕ) BinaryFault
behind_front front offset read = read >>= λ x. Ok (front ++ (record { offset = offset; form = x.0 } ∷ []), x.1)

-- the items of a section and how much may still be kept
abbrev entries_told : ℕ → Result (List Entry) Fault → Result ℕ BinaryFault → Result (List Entry × ℕ) BinaryFault
entries_told end read room = room >>= λ left. told end read >>= λ es. Ok (es, left)

-- a section of a list
listed_holds : (depth id end room from more : ℕ) (front : List Entry) (f : Form) → ((c : List ℕ) → held_at depth (component_within depth) id end front room c ≡ entries_told end (entries_at depth id end front c) (counted_at (nat_eq id 7) end room c)) → ((x : List ℕ) → count_at id (1 ∷ x) ≡ Ok (1, x)) → Reads (form_at depth id) (one_of f) f → ((x : List ℕ) → one_of f ≡ Some x → 3 + cond (nat_eq id 7) (length x) 0 ≤ more) → (c : List ℕ) → byte 1 ⧺ one_of f ≡ Some c → end ≡ from + length c → more ≤ room → Holds depth id end room front c more (record { offset = from + 1; form = f })
listed_holds depth id end room from more front f step one again most c e at fits =
    begun_by 1 (λ z. end ≡ from + length z → Holds depth id end room front z more (record { offset = from + 1; form = f })) (one_of f)
    (λ x made h.
    let counted = counted_again (nat_eq id 7) end room 1 (1 ∷ x) x (counts_one x) (omega (arith, fits, most x made)) in (
      counted.0,
      step (1 ∷ x)
          ∙ ap (entries_told end (entries_at depth id end front (1 ∷ x))) counted.1
          ∙ ap (λ z. told end z >>= λ es. Ok (es, counted.0)) (entries_again depth id end f front (1 ∷ x) x (one x) (subst (λ z. form_at depth id z ≡ Ok (f, [])) (append-nil x) (again x [] made)))
          ∙ ap (λ (n : ℕ). Ok (front ++ (record { offset = n; form = f } ∷ []), counted.0)) (omega (arith, h)),
      omega (arith, counted.2, most x made),
    )) c e at

-- what a type counts for more
type_more : (t : Type_form) (x : List ℕ) → one_of (type_item t) ≡ Some x → 3 + length x ≤ 3 + size (type_bytes t)
unfolding one_of
type_more t x made =
    let long : size (type_bytes t) ≡ length x = ap size made in
    omega (arith, long)

start_holds : (depth end room from : ℕ) (front : List Entry) (f : ℕ) (args : List ℕ) (results : ℕ) (c : List ℕ) → u32_bytes f ⧺ vec u32_bytes args ⧺ u32_bytes results ≡ Some c → end ≡ from + length c → Holds depth 9 end room front c 0 (record { offset = from + 0; form = start_item f args results })
unfolding held_at
start_holds depth end room from front f args results c e at = (
  room,
  ap (λ z. told end z >>= λ es. Ok (es, room)) (entries_again depth 9 end (start_item f args results) front c c (counts_none c) (reads_start depth c ∙ subst (λ z. start_at z ≡ Ok (start_item f args results, [])) (append-nil c) (start_again f args results c [] e)))
      ∙ ap (λ (n : ℕ). Ok (front ++ (record { offset = n; form = start_item f args results } ∷ []), room)) (omega (arith, at)),
  omega arith,
)

module_holds : (depth end room from : ℕ) (front : List Entry) (ds : List Module_decl) (c : List ℕ) → module_bytes ds ≡ Some c → end ≡ from + length c → length c + module_more ds ≤ room → Holds depth 1 end room front c (module_more ds) (record { offset = from + 0; form = core_module_item ds })
unfolding held_at whole_at
module_holds depth end room from front ds c e at fits =
    let read = core_module_again ds c e end room fits in (
      read.0,
      ap (λ z. behind_front front (end - length c) (as_module z)) read.1
          ∙ ap (λ (n : ℕ). Ok (front ++ (record { offset = n; form = core_module_item ds } ∷ []), read.0)) (omega (arith, at)),
      read.2,
    )

-- ## Components

-- the items of sections, one behind the other, that begin at an offset, and what may still be kept behind them
abbrev ItemsRead : (depth at most end room : ℕ) (front : List Entry) (is : Items) (b : List ℕ) → Type 0
ItemsRead depth at most end room front is b = (left : ℕ) × (sections_at depth (component_within depth) most end front room b ≡ Ok (front ++ entries_of (placed_items at is), left)) × (room ≤ left + (length b + items_more is))

header_again : (rest : List ℕ) → component_header_at (0x00 ∷ 0x61 ∷ 0x73 ∷ 0x6D ∷ 0x0D ∷ 0x00 ∷ 0x01 ∷ 0x00 ∷ rest) ≡ Ok rest
unfolding component_header_at magic_at
header_again rest = rw (not_below (length (0x00 ∷ 0x61 ∷ 0x73 ∷ 0x6D ∷ 0x0D ∷ 0x00 ∷ 0x01 ∷ 0x00 ∷ rest)) 8 (omega arith)) refl

-- what holds of all that begins with the header holds of a component's bytes
headed : (P : List ℕ → Type 0) (more : Bytes) → ((y : List ℕ) → more ≡ Some y → P (0x00 ∷ 0x61 ∷ 0x73 ∷ 0x6D ∷ 0x0D ∷ 0x00 ∷ 0x01 ∷ 0x00 ∷ y)) → (b : List ℕ) → component_header ⧺ more ≡ Some b → P b
unfolding component_header
headed P more each b e =
    parted P component_header more (λ x y first second. subst (λ z. P (z ++ y)) (some_of (0x00 ∷ 0x61 ∷ 0x73 ∷ 0x6D ∷ 0x0D ∷ 0x00 ∷ 0x01 ∷ 0x00 ∷ []) x first) (each y second)) b e

-- a component over its sections
over : (depth at end room : ℕ) (is : Items) (y : List ℕ) → 8 ≤ room → ItemsRead depth at (length y) end (room - 8) [] is y → (left : ℕ) × (component_over depth (component_within depth) end room (0x00 ∷ 0x61 ∷ 0x73 ∷ 0x6D ∷ 0x0D ∷ 0x00 ∷ 0x01 ∷ 0x00 ∷ y) ≡ Ok (entries_of (placed_items at is), left)) × (room ≤ left + (8 + length y + items_more is))
unfolding component_over
over depth at end room is y h read = (
  read.0,
  ap (λ z. told end z >>= λ rest. sections_at depth (component_within depth) (length rest) end [] (room - 8) rest) (header_again y) ∙ read.1,
  omega (arith, h, read.2),
)

pub same_items : (is : Items) → items_of (entries_of is) ≡ is
unfolding entries_of
same_items no_items = refl
same_items (next_item offset f is) = ap (next_item offset f) (same_items is)

component_holds : (depth end room from : ℕ) (front : List Entry) (is : Items) (n : ℕ) (y : List ℕ) → end ≡ from + (8 + length y) → 8 + length y ≤ room → ItemsRead depth (from + 8) (length y) end (room - 8) [] is y → Holds (suc depth) 4 end room front (0x00 ∷ 0x61 ∷ 0x73 ∷ 0x6D ∷ 0x0D ∷ 0x00 ∷ 0x01 ∷ 0x00 ∷ y) (items_more is) (record { offset = from + 0; form = component_item (placed_items (from + 8) is) end })
unfolding held_at whole_at component_within
component_holds depth end room from front is n y at fits read =
    let whole = over depth (from + 8) end room is y (omega (arith, fits)) read in
    let c = 0x00 ∷ 0x61 ∷ 0x73 ∷ 0x6D ∷ 0x0D ∷ 0x00 ∷ 0x01 ∷ 0x00 ∷ y in (
      whole.0,
      ap (λ z. behind_front front (end - length c) (as_component end z)) whole.1
          ∙ ap (λ xs. Ok (front ++ (record { offset = end - length c; form = component_item xs end } ∷ []), whole.0)) (same_items (placed_items (from + 8) is))
          ∙ ap (λ (k : ℕ). Ok (front ++ (record { offset = k; form = component_item (placed_items (from + 8) is) end } ∷ []), whole.0)) (omega (arith, at)),
      omega (arith, whole.2),
    )

-- ## Sections

split : (t : Bool) (n : ℕ) → cond t n 0 + cond t 0 n ≡ n
split true n = omega arith
split false n = omega arith

-- where contents begin and where a section ends, in numbers
inside_at : (at : ℕ) (contents : Bytes) (l c : List ℕ) → u32_bytes (length c) ≡ Some l → contents ≡ Some c → inside at contents ≡ at + 1 + length l
unfolding inside
inside_at at contents l c s e = rw (e, s) refl

section_size : (id : ℕ) (contents : Bytes) (l c : List ℕ) → u32_bytes (length c) ≡ Some l → contents ≡ Some c → size (section id contents) ≡ 1 + (length l + length c)
unfolding section sized ◌⧺◌
section_size id contents l c s e = rw (e, s) (omega (arith, length-append l c))

-- what a section held, and what is behind it
abbrev held_with : List ℕ → Result (List Entry × ℕ) BinaryFault → Result (List Entry × ℕ × List ℕ) BinaryFault
held_with rest held = held >>= λ x. Ok (x.0, x.1, rest)

-- and the sections behind that
abbrev and_more : (depth most end : ℕ) → Result (List Entry × ℕ × List ℕ) BinaryFault → Result (List Entry × ℕ) BinaryFault
and_more depth most end read = read >>= λ x. sections_at depth (component_within depth) most end x.0 x.1 x.2

-- one section and those behind it, where its item and theirs count for so much more
section_read : (depth id most end room own later : ℕ) (front : List Entry) (e : Entry) (others : List Entry) (l c y : List ℕ) → u32_bytes (length c) ≡ Some l → ((kept : ℕ) → gap id c + own ≤ kept → Holds depth id (end - length y) kept front c own e) → ((more kept : ℕ) → length y ≤ more → length y + later ≤ kept → (left : ℕ) × (sections_at depth (component_within depth) more end (front ++ (e ∷ [])) kept y ≡ Ok ((front ++ (e ∷ [])) ++ others, left)) × (kept ≤ left + (length y + later))) → length (id ∷ l ++ (c ++ y)) ≤ most → length (id ∷ l ++ (c ++ y)) + (own + later) ≤ room → (left : ℕ) × (sections_at depth (component_within depth) most end front room (id ∷ l ++ (c ++ y)) ≡ Ok (front ++ (e ∷ others), left)) × (room ≤ left + (length (id ∷ l ++ (c ++ y)) + (own + later)))
unfolding sections_at section_at
section_read depth id zero end room own later front e others l c y s holds rest f r = absurd (omega (arith, f))
section_read depth id (suc most) end room own later front e others l c y s holds rest f r =
    let long : length (l ++ (c ++ y)) ≡ length l + length c + length y = omega (arith, length-append l (c ++ y), length-append c y) in
    let found = contents_again (counts id) end room l c y s (omega (arith, r, long, counted_at_most (counts id) l c)) in
    let held = holds found.0 (omega (arith, r, long, found.2, split (counts id) (length c))) in
    let next = rest most held.0 (omega (arith, f, long)) (omega (arith, r, long, found.2, held.2, split (counts id) (length c))) in (
      next.0,
      ap (λ z. and_more depth most end (z >>= λ d. held_with d.1 (held_at depth (component_within depth) id (end - length d.1) front d.2 d.0))) found.1
          ∙ ap (λ z. and_more depth most end (held_with y z)) held.1
          ∙ next.1
          ∙ ap (λ xs. Ok (xs, next.0)) (append_assoc front (e ∷ []) others),
      omega (arith, long, found.2, held.2, next.2, split (counts id) (length c)),
    )

mutual
  unfolding held_at contents form_nesting form_more placed_form component_header items_bytes items_nesting items_more sections_at placed_items entries_of

  held_again : (f : Form) (depth : ℕ) → form_nesting f ≤ depth → (c : List ℕ) (from end room : ℕ) (front : List Entry) → contents f ≡ Some c → end ≡ from + length c → gap (form_id f) c + form_more f ≤ room → Holds depth (form_id f) end room front c (form_more f) (record { offset = from + lead f; form = placed_form from f })
  held_again (core_instance_item i) depth h c from end room front e at fits = listed_holds depth 2 end room from 3 front (core_instance_item i) (λ d. refl) counts_one (one_again (core_instance_item i) depth h) (λ x made. omega arith) c e at (omega (arith, fits))
  held_again (core_type_item t) depth h c from end room front e at fits = listed_holds depth 3 end room from 3 front (core_type_item t) (λ d. refl) counts_one (one_again (core_type_item t) depth h) (λ x made. omega arith) c e at (omega (arith, fits))
  held_again (instance_item i) depth h c from end room front e at fits = listed_holds depth 5 end room from 3 front (instance_item i) (λ d. refl) counts_one (one_again (instance_item i) depth h) (λ x made. omega arith) c e at (omega (arith, fits))
  held_again (alias_item a) depth h c from end room front e at fits = listed_holds depth 6 end room from 3 front (alias_item a) (λ d. refl) counts_one (one_again (alias_item a) depth h) (λ x made. omega arith) c e at (omega (arith, fits))
  held_again (type_item t) depth h c from end room front e at fits = listed_holds depth 7 end room from (3 + size (type_bytes t)) front (type_item t) (λ d. refl) counts_one (one_again (type_item t) depth h) (type_more t) c e at (omega (arith, fits))
  held_again (canon_item f) depth h c from end room front e at fits = listed_holds depth 8 end room from 3 front (canon_item f) (λ d. refl) counts_one (one_again (canon_item f) depth h) (λ x made. omega arith) c e at (omega (arith, fits))
  held_again (import_item i) depth h c from end room front e at fits = listed_holds depth 10 end room from 3 front (import_item i) (λ d. refl) counts_one (one_again (import_item i) depth h) (λ x made. omega arith) c e at (omega (arith, fits))
  held_again (export_item x) depth h c from end room front e at fits = listed_holds depth 11 end room from 3 front (export_item x) (λ d. refl) counts_one (one_again (export_item x) depth h) (λ x made. omega arith) c e at (omega (arith, fits))
  held_again (start_item f args results) depth h c from end room front e at fits = start_holds depth end room from front f args results c e at
  held_again (core_module_item ds) depth h c from end room front e at fits = module_holds depth end room from front ds c e at fits
  held_again (component_item is n) zero h c from end room front e at fits = absurd (not-suc-le-zero h)
  held_again (component_item is n) (suc depth) h c from end room front e at fits =
      subst (λ (k : ℕ). Holds (suc depth) 4 end room front c (items_more is) (record { offset = from + 0; form = component_item (placed_items (from + 8) is) k }))
      (at ∙ ap (λ b. from + size b) (sym e))
      (headed (λ z. end ≡ from + length z → length z + items_more is ≤ room → Holds (suc depth) 4 end room front z (items_more is) (record { offset = from + 0; form = component_item (placed_items (from + 8) is) end })) (items_bytes is)
      (λ y second ends small. component_holds depth end room from front is n y (omega (arith, ends)) (omega (arith, small)) (items_again is depth (le_of_suc-le-suc h) y (from + 8) (length y) end (room - 8) [] second (omega (arith, ends)) (omega arith) (omega (arith, small))))
      c e at fits)

  items_again : (is : Items) (depth : ℕ) → items_nesting is ≤ depth → (b : List ℕ) (at most end room : ℕ) (front : List Entry) → items_bytes is ≡ Some b → end ≡ at + length b → length b ≤ most → length b + items_more is ≤ room → ItemsRead depth at most end room front is b
  items_again no_items depth h b at most end room front e ends f r =
      (room, ap (λ z. sections_at depth (component_within depth) most end front room z) (sym (some_of [] b e)) ∙ ap (λ xs. Ok (xs, room)) (sym (append-nil front)), omega arith)
  items_again (next_item offset x is) depth h b at most end room front e ends f r =
      opened (λ z. end ≡ at + length z → length z ≤ most → length z + (form_more x + items_more is) ≤ room → ItemsRead depth at most end room front (next_item offset x is) z) (form_id x) (contents x) (items_bytes is)
      (λ l c y s first second ends f r.
      let long : length (l ++ (c ++ y)) ≡ length l + length c + length y = omega (arith, length-append l (c ++ y), length-append c y) in
      section_read depth (form_id x) most end room (form_more x) (items_more is) front (record { offset = inside at (contents x) + lead x; form = placed_form (inside at (contents x)) x }) (entries_of (placed_items (at + size (section (form_id x) (contents x))) is)) l c y s
      (λ kept fits. held_again x depth (of_left (form_nesting x) (items_nesting is) depth h) c (inside at (contents x)) (end - length y) kept front first (omega (arith, ends, long, inside_at at (contents x) l c s first)) fits)
      (λ more kept small fits. items_again is depth (of_right (form_nesting x) (items_nesting is) depth h) y (at + size (section (form_id x) (contents x))) more end kept (front ++ (record { offset = inside at (contents x) + lead x; form = placed_form (inside at (contents x)) x } ∷ [])) second (omega (arith, ends, long, section_size (form_id x) (contents x) l c s first)) small fits)
      f r)
      b e ends f r

-- ## Binaries

-- a binary by its component
binary_made : (xs : List Entry) (b : List ℕ) (left end : ℕ) → end ≡ length b → component_over max_nesting (component_within max_nesting) end max_kept b ≡ Ok (xs, left) → binary_of b ≡ Ok (xs, length b)
unfolding binary_within
binary_made xs b left end same read =
    ap (λ z. z >>= λ x. Ok (x.0, length b)) (subst (λ (n : ℕ). component_over max_nesting (component_within max_nesting) n max_kept b ≡ Ok (xs, left)) same read)

spelt : (es : List Entry) → spelling es ≡ component_header ⧺ items_bytes (items_of es)
unfolding spelling
spelt es = refl

pub spelling_again : (es : List Entry) (b : List ℕ) → spelling es ≡ Some b → nesting es ≤ max_nesting → kept es ≤ max_kept → binary_of b ≡ Ok (placed es, length b)
unfolding component_header
spelling_again es b e deep small =
    headed (λ z. length z + items_more (items_of es) ≤ max_kept → binary_of z ≡ Ok (placed es, length z)) (items_bytes (items_of es))
    (λ y second fits.
    let whole = over max_nesting 8 (8 + length y) max_kept (items_of es) y (omega (arith, fits)) (items_again (items_of es) max_nesting deep y 8 (length y) (8 + length y) (max_kept - 8) [] second refl (omega arith) (omega (arith, fits))) in
    binary_made (placed es) (0x00 ∷ 0x61 ∷ 0x73 ∷ 0x6D ∷ 0x0D ∷ 0x00 ∷ 0x01 ∷ 0x00 ∷ y) whole.0 (8 + length y) (omega arith) whole.1)
    b (sym (spelt es) ∙ e) (subst (λ z. size z + items_more (items_of es) ≤ max_kept) e small)
