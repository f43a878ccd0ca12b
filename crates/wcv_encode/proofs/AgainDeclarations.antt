-- What the declarations of a core module are taken apart into, and that they are what those make in this order.
use Rattle.std.proofs.Common.{◌≡◌, ℕ, ◌+◌, Bool, true, false, cond, nat_lt, Option, Some, None, option_map, filter_map, slice_get, List, [], ◌∷◌, ◌++◌, length, map, refl, sym, ap, ◌∙◌, append_assoc, append-nil, arith}
use Rattle.std.specs.List.{cons_option}
use Rattle.std.proofs.lemmas.List.{length-append}
use Rattle.std.proofs.lemmas.Option.{slice_get-map}
use Rattle.wcv_core.specs.CoreForm.{Group}
use Rattle.wcv_core.specs.declared.core_types.GlobalType.{GlobalType}
use Rattle.wcv_core.specs.declared.core_types.MemoryType.{MemoryType}
use Rattle.wcv_core.specs.declared.core_types.TableType.{TableType}
use Rattle.wcv_syntax.specs.declared.core_section.ExternalKind.{ExternalKind}
use Rattle.wcv_syntax.specs.declared.core_section.ExternalKind.TheVariants as kind
use Rattle.wcv_syntax.specs.declared.core_section.Import.{Import}
use Rattle.wcv_syntax.specs.declared.core_section.TypeRef.{TypeRef}
use Rattle.wcv_syntax.specs.declared.core_section.TypeRef.TheVariants as ty
use Rattle.wcv_syntax.specs.Model.{Text, Module_decl, module_type, module_import, module_export, module_outer}
use Rattle.wcv_binary.specs.declared.module_item.Tag.{Tag}
use Rattle.wcv_binary.specs.ModuleItems.{Spaces_form, item_of}
use Rattle.wcv_encode.proofs.AgainNumbers.{above}
use Rattle.wcv_encode.specs.declared.counts.Counts.{Counts}
use Rattle.wcv_encode.specs.Modules.{kind_of, count_of, one_more, next, rank, is_ordered}

-- ## The parts of declarations

abbrev pub group_in : Module_decl → Option Group
group_in (module_type g) = Some g
group_in d = None

abbrev pub import_in : Module_decl → Option Import
import_in (module_import i) = Some i
import_in d = None

abbrev pub export_in : Module_decl → Option (Text × TypeRef)
export_in (module_export n t) = Some (n, t)
export_in d = None

-- what an export of its own has
abbrev pub function_in : Module_decl → Option ℕ
function_in (module_export n (ty.Func f)) = Some f
function_in d = None

abbrev pub table_in : Module_decl → Option TableType
table_in (module_export n (ty.Table t)) = Some t
table_in d = None

abbrev pub memory_in : Module_decl → Option MemoryType
memory_in (module_export n (ty.Memory m)) = Some m
memory_in d = None

abbrev pub global_in : Module_decl → Option GlobalType
global_in (module_export n (ty.Global g)) = Some g
global_in d = None

abbrev pub tag_in : Module_decl → Option Tag
tag_in (module_export n (ty.Tag f)) = Some (record { func = f })
tag_in d = None

-- ## Their order

-- what a test that failed leaves
passes : (t r : Bool) → cond t false r ≡ true → (t ≡ false) × (r ≡ true)
passes true r e = absurd (cc)
passes false r e = (refl, e)

no_groups : (n : ℕ) (ds : List Module_decl) → is_ordered (n + 1) ds ≡ true → filter_map group_in ds ≡ []
unfolding is_ordered rank
no_groups n [] h = refl
no_groups n (module_type g ∷ ds) h = absurd (omega (arith, above 0 (n + 1) (passes (nat_lt 0 (n + 1)) (is_ordered 0 ds) h).0))
no_groups n (module_import i ∷ ds) h = no_groups 0 ds (passes (nat_lt 1 (n + 1)) (is_ordered 1 ds) h).1
no_groups n (module_export m t ∷ ds) h = no_groups 1 ds (passes (nat_lt 2 (n + 1)) (is_ordered 2 ds) h).1
no_groups n (module_outer m i ∷ ds) h = absurd (cc)

pub no_imports : (n : ℕ) (ds : List Module_decl) → is_ordered (n + 2) ds ≡ true → filter_map import_in ds ≡ []
unfolding is_ordered rank
no_imports n [] h = refl
no_imports n (module_type g ∷ ds) h = absurd (omega (arith, above 0 (n + 2) (passes (nat_lt 0 (n + 2)) (is_ordered 0 ds) h).0))
no_imports n (module_import i ∷ ds) h = absurd (omega (arith, above 1 (n + 2) (passes (nat_lt 1 (n + 2)) (is_ordered 1 ds) h).0))
no_imports n (module_export m t ∷ ds) h = no_imports 0 ds (passes (nat_lt 2 (n + 2)) (is_ordered 2 ds) h).1
no_imports n (module_outer m i ∷ ds) h = absurd (cc)

abbrev pub exported : Text × TypeRef → Module_decl
exported e = module_export e.0 e.1

-- types, imports and exports, one behind the other
abbrev in_order : List Group → List Import → List (Text × TypeRef) → List Module_decl
in_order gs is es = map module_type gs ++ map module_import is ++ map exported es

pub declared_again : (least : ℕ) (ds : List Module_decl) → is_ordered least ds ≡ true → in_order (filter_map group_in ds) (filter_map import_in ds) (filter_map export_in ds) ≡ ds
unfolding is_ordered rank
declared_again least [] h = refl
declared_again least (module_type g ∷ ds) h = ap (λ xs. module_type g ∷ xs) (declared_again 0 ds (passes (nat_lt 0 least) (is_ordered 0 ds) h).1)
declared_again least (module_import i ∷ ds) h =
    let ordered = (passes (nat_lt 1 least) (is_ordered 1 ds) h).1 in
    let none = no_groups 0 ds ordered in
    ap (λ gs. in_order gs (i ∷ filter_map import_in ds) (filter_map export_in ds)) none
    ∙ ap (λ xs. module_import i ∷ xs) (ap (λ gs. in_order gs (filter_map import_in ds) (filter_map export_in ds)) (sym none) ∙ declared_again 1 ds ordered)
declared_again least (module_export n t ∷ ds) h =
    let ordered = (passes (nat_lt 2 least) (is_ordered 2 ds) h).1 in
    let none = no_groups 1 ds ordered in
    let nothing = no_imports 0 ds ordered in
    ap (λ gs. in_order gs (filter_map import_in ds) ((n, t) ∷ filter_map export_in ds)) none
    ∙ ap (λ is. in_order [] is ((n, t) ∷ filter_map export_in ds)) nothing
    ∙ ap (λ xs. module_export n t ∷ xs) (ap (λ is. in_order [] is (filter_map export_in ds)) (sym nothing) ∙ ap (λ gs. in_order gs (filter_map import_in ds) (filter_map export_in ds)) (sym none) ∙ declared_again 2 ds ordered)
declared_again least (module_outer n i ∷ ds) h = absurd (cc)

-- ## The items of a sort

-- an item, where it is of a sort
unfoldable pub of_kind : ExternalKind → TypeRef → Option TypeRef
of_kind kind.Func (ty.Func t) = Some (ty.Func t)
of_kind kind.Table (ty.Table t) = Some (ty.Table t)
of_kind kind.Memory (ty.Memory t) = Some (ty.Memory t)
of_kind kind.Global (ty.Global t) = Some (ty.Global t)
of_kind kind.Tag (ty.Tag t) = Some (ty.Tag t)
of_kind k t = None

-- an item that a declaration brings, imported or its own, where it is of a sort
abbrev pub brought : ExternalKind → Module_decl → Option TypeRef
brought k (module_import i) = of_kind k i.ty
brought k (module_export n t) = of_kind k t
brought k d = None

-- what the indices of a sort name
unfoldable pub space : Spaces_form → ExternalKind → List TypeRef
space s kind.Func = map ty.Func s.functions
space s kind.Table = map ty.Table s.tables
space s kind.Memory = map ty.Memory s.memories
space s kind.Global = map ty.Global s.globals
space s kind.Tag = map (λ t. ty.Tag t.func) s.tags

named_in : (s : Spaces_form) (k : ExternalKind) (i : ℕ) → item_of s k i ≡ slice_get (space s k) i
unfolding space
named_in s kind.Func i = sym (slice_get-map ty.Func s.functions i)
named_in s kind.Table i = sym (slice_get-map ty.Table s.tables i)
named_in s kind.Memory i = sym (slice_get-map ty.Memory s.memories i)
named_in s kind.Global i = sym (slice_get-map ty.Global s.globals i)
named_in s kind.Tag i = sym (slice_get-map (λ t. ty.Tag t.func) s.tags i)

own_kind : (t : TypeRef) → of_kind (kind_of t) t ≡ Some t
unfolding of_kind
own_kind (ty.Func t) = refl
own_kind (ty.Table t) = refl
own_kind (ty.Memory t) = refl
own_kind (ty.Global t) = refl
own_kind (ty.Tag t) = refl

counted : (k : ExternalKind) (t : TypeRef) (c : Counts) → count_of (one_more (kind_of t) c) k ≡ count_of c k + length (cons_option (of_kind k t) [])
unfolding of_kind count_of one_more
counted kind.Func (ty.Func t) c = omega arith
counted kind.Func (ty.Table t) c = omega arith
counted kind.Func (ty.Memory t) c = omega arith
counted kind.Func (ty.Global t) c = omega arith
counted kind.Func (ty.Tag t) c = omega arith
counted kind.Table (ty.Func t) c = omega arith
counted kind.Table (ty.Table t) c = omega arith
counted kind.Table (ty.Memory t) c = omega arith
counted kind.Table (ty.Global t) c = omega arith
counted kind.Table (ty.Tag t) c = omega arith
counted kind.Memory (ty.Func t) c = omega arith
counted kind.Memory (ty.Table t) c = omega arith
counted kind.Memory (ty.Memory t) c = omega arith
counted kind.Memory (ty.Global t) c = omega arith
counted kind.Memory (ty.Tag t) c = omega arith
counted kind.Global (ty.Func t) c = omega arith
counted kind.Global (ty.Table t) c = omega arith
counted kind.Global (ty.Memory t) c = omega arith
counted kind.Global (ty.Global t) c = omega arith
counted kind.Global (ty.Tag t) c = omega arith
counted kind.Tag (ty.Func t) c = omega arith
counted kind.Tag (ty.Table t) c = omega arith
counted kind.Tag (ty.Memory t) c = omega arith
counted kind.Tag (ty.Global t) c = omega arith
counted kind.Tag (ty.Tag t) c = omega arith

-- what stands behind a list stands at its length
at_length : {A : Type 0} (xs : List A) (x : A) (ys : List A) → slice_get (xs ++ (x ∷ ys)) (length xs) ≡ Some x
at_length [] x ys = refl
at_length (y ∷ xs) x ys = at_length xs x ys

moved : {A : Type 0} (xs : List A) (o : Option A) (ys : List A) → xs ++ cons_option o ys ≡ (xs ++ cons_option o []) ++ ys
moved xs None ys = ap (λ z. z ++ ys) (sym (append-nil xs))
moved xs (Some x) ys = sym (append_assoc xs (x ∷ []) ys)

-- Each export that is to be read names its item, at the index that the writer gives it
unfoldable pub Named : Spaces_form → Counts → List Module_decl → Type 0
Named s c [] = Unit {0}
Named s c (module_type g ∷ ds) = Named s c ds
Named s c (module_import i ∷ ds) = Named s (next c (module_import i)) ds
Named s c (module_export n t ∷ ds) = (item_of s (kind_of t) (count_of c (kind_of t)) ≡ Some t) × Named s (next c (module_export n t)) ds
Named s c (module_outer n i ∷ ds) = Named s c ds

-- the items before those of some declarations, and how many they are
abbrev Before : Spaces_form → Counts → List Module_decl → Type 0
Before s c ds = (k : ExternalKind) → (front : List TypeRef) × (space s k ≡ front ++ filter_map (brought k) ds) × (count_of c k ≡ length front)

-- one item further
further : (s : Spaces_form) (c : Counts) (t : TypeRef) (ds : List Module_decl) → ((k : ExternalKind) → (front : List TypeRef) × (space s k ≡ front ++ cons_option (of_kind k t) (filter_map (brought k) ds)) × (count_of c k ≡ length front)) → Before s (one_more (kind_of t) c) ds
further s c t ds before k =
    let at = before k in (
      at.0 ++ cons_option (of_kind k t) [],
      at.1 ∙ moved at.0 (of_kind k t) (filter_map (brought k) ds),
      counted k t c ∙ ap (λ n. n + length (cons_option (of_kind k t) [])) at.2 ∙ sym (length-append at.0 (cons_option (of_kind k t) [])),
    )

pub named : (s : Spaces_form) (c : Counts) (ds : List Module_decl) → Before s c ds → Named s c ds
unfolding Named next
named s c [] before = tt
named s c (module_type g ∷ ds) before = named s c ds before
named s c (module_import i ∷ ds) before = named s (one_more (kind_of i.ty) c) ds (further s c i.ty ds before)
named s c (module_export n t ∷ ds) before =
    let at = before (kind_of t) in (
      named_in s (kind_of t) (count_of c (kind_of t))
          ∙ ap (λ xs. slice_get xs (count_of c (kind_of t))) (at.1 ∙ ap (λ o. at.0 ++ cons_option o (filter_map (brought (kind_of t)) ds)) (own_kind t))
          ∙ ap (λ j. slice_get (at.0 ++ (t ∷ filter_map (brought (kind_of t)) ds)) j) at.2
          ∙ at_length at.0 t (filter_map (brought (kind_of t)) ds),
      named s (one_more (kind_of t) c) ds (further s c t ds before),
    )
named s c (module_outer n i ∷ ds) before = named s c ds before

-- ## What is imported stands before what is its own

made_first : {X Y : Type 0} (make : X → Y) (o : Option X) (xs ys : List X) → map make (cons_option o xs ++ ys) ≡ cons_option (option_map make o) (map make (xs ++ ys))
made_first make None xs ys = refl
made_first make (Some x) xs ys = refl

made_only : {X Y : Type 0} (make : X → Y) (o : Option X) (xs : List X) → map make (cons_option o xs) ≡ cons_option (option_map make o) (map make xs)
made_only make None xs = refl
made_only make (Some x) xs = refl

-- so in one sort, of whose items `make` makes what is named
pub gathered : {X : Type 0} (k : ExternalKind) (make : X → TypeRef) (imported : Import → Option X) (own : Module_decl → Option X) → ((i : Import) → option_map make (imported i) ≡ of_kind k i.ty) → ((n : Text) (t : TypeRef) → option_map make (own (module_export n t)) ≡ of_kind k t) → ((g : Group) → own (module_type g) ≡ None) → ((i : Import) → own (module_import i) ≡ None) → (least : ℕ) (ds : List Module_decl) → is_ordered least ds ≡ true → map make (filter_map imported (filter_map import_in ds) ++ filter_map own ds) ≡ filter_map (brought k) ds
unfolding is_ordered rank
gathered k make imported own one two three four least [] h = refl
gathered k make imported own one two three four least (module_type g ∷ ds) h =
    ap (λ o. map make (filter_map imported (filter_map import_in ds) ++ cons_option o (filter_map own ds))) (three g)
    ∙ gathered k make imported own one two three four 0 ds (passes (nat_lt 0 least) (is_ordered 0 ds) h).1
gathered k make imported own one two three four least (module_import i ∷ ds) h =
    ap (λ o. map make (cons_option (imported i) (filter_map imported (filter_map import_in ds)) ++ cons_option o (filter_map own ds))) (four i)
    ∙ made_first make (imported i) (filter_map imported (filter_map import_in ds)) (filter_map own ds)
    ∙ ap (λ o. cons_option o (map make (filter_map imported (filter_map import_in ds) ++ filter_map own ds))) (one i)
    ∙ ap (λ xs. cons_option (of_kind k i.ty) xs) (gathered k make imported own one two three four 1 ds (passes (nat_lt 1 least) (is_ordered 1 ds) h).1)
gathered k make imported own one two three four least (module_export n t ∷ ds) h =
    let ordered = (passes (nat_lt 2 least) (is_ordered 2 ds) h).1 in
    let none = no_imports 0 ds ordered in
    ap (λ is. map make (filter_map imported is ++ cons_option (own (module_export n t)) (filter_map own ds))) none
    ∙ made_only make (own (module_export n t)) (filter_map own ds)
    ∙ ap (λ o. cons_option o (map make (filter_map own ds))) (two n t)
    ∙ ap (λ xs. cons_option (of_kind k t) xs) (ap (λ is. map make (filter_map imported is ++ filter_map own ds)) (sym none) ∙ gathered k make imported own one two three four 2 ds ordered)
gathered k make imported own one two three four least (module_outer n i ∷ ds) h = absurd (cc)
