-- Types and their declarations are read again, where they stand no deeper in one another than the reader goes.
use Rattle.std.proofs.Common.{◌≡◌, ℕ, zero, suc, ◌≤◌, max, Bool, true, false, cond, Option, Some, None, Result, Ok, List, [], ◌∷◌, ◌++◌, refl, ap, ◌∙◌, subst, not-suc-le-zero, le_of_suc-le-suc, arith}
use Rattle.wcv_core.specs.declared.primitive.PrimitiveValType.{PrimitiveValType}
use Rattle.wcv_core.specs.declared.primitive.PrimitiveValType.TheVariants as prim
use Rattle.wcv_syntax.specs.declared.component_type.ComponentDefinedType.{ComponentDefinedType}
use Rattle.wcv_syntax.specs.declared.component_type.ComponentDefinedType.TheVariants as defined
use Rattle.wcv_syntax.specs.declared.component_type.ComponentValType.{ComponentValType}
use Rattle.wcv_syntax.specs.Model.{Text, Defined_form, record_of, variant_of, tuple_of, flags_of, enum_of, simple, Func_form, Type_form, defined_type, func_type, component_type, instance_type, resource_type, Decl, core_type_decl, type_decl, alias_decl, export_decl, import_decl, Decls, no_decls, declare}
use Rattle.wcv_syntax.specs.View.{decls_of}
use Rattle.wcv_bytes.specs.declared.fault.Fault.{Fault}
use Rattle.wcv_bytes.specs.Reading.{◌>>=◌, byte_at, flag_at, of_one, of_two, u32_at, list_at, vec_at}
use Rattle.wcv_binary.specs.Aliases.{alias_at}
use Rattle.wcv_binary.specs.CoreValues.{core_val_at}
use Rattle.wcv_binary.specs.Defined.{defined_at}
use Rattle.wcv_binary.specs.Funcs.{func_at}
use Rattle.wcv_binary.specs.ModuleTypes.{core_type_at}
use Rattle.wcv_binary.specs.Names.{name_at, ref_at, import_at}
use Rattle.wcv_binary.specs.Types.{destructor_at, plain_type_at, plain_decl_at, instance_decl_at, component_decl_at, type_over, type_within}
use Rattle.wcv_encode.specs.Bytes.{Bytes, ◌⧺◌, byte, u32_bytes, text, vec, maybe}
use Rattle.wcv_encode.specs.CoreTypes.{val_bytes}
use Rattle.wcv_encode.specs.Entries.{name_bytes, ref_of, import_bytes, alias_bytes}
use Rattle.wcv_encode.specs.Laws.{Reads, IsReadAgain}
use Rattle.wcv_encode.specs.Modules.{core_type_bytes}
use Rattle.wcv_encode.specs.Nesting.{type_nesting, decl_nesting, decls_nesting}
use Rattle.wcv_encode.specs.Types.{decl_count, type_bytes, decl_bytes, decls_bytes}
use Rattle.wcv_encode.specs.Values.{prim_byte, value_bytes, maybe_value, field_of, case_bytes, simple_bytes, defined_bytes, result_bytes, func_bytes}
use Rattle.wcv_encode.proofs.Again.{behind, made, made_of_two, led, known, begun}
use Rattle.wcv_encode.proofs.AgainNumbers.{u32_again}
use Rattle.wcv_encode.proofs.AgainValues.{defined_again, func_again}
use Rattle.wcv_encode.proofs.AgainEntries.{name_again, ref_again, import_again, alias_again}
use Rattle.wcv_encode.proofs.AgainCore.{val_again}
use Rattle.wcv_encode.proofs.AgainCoreTypes.{core_type_again}
use Rattle.wcv_encode.proofs.AgainConstants.{other}

-- ## Types without declarations

abbrev Types : Type 0
Types = List ℕ → Result (Type_form × List ℕ) Fault

-- a byte that begins no other type than a defined one
is_defined : (inner : Types) (n : ℕ) (c : List ℕ) → 99 ≤ n → type_over inner (n ∷ c) ≡ of_one defined_at defined_type (n ∷ c)
unfolding type_over plain_type_at byte_at
is_defined inner n c h = rw (other n 0x41 (omega arith), other n 0x42 (omega arith), other n 0x40 (omega arith), other n 0x43 (omega arith), other n 0x3F (omega arith)) refl

prim_begins : (p : PrimitiveValType) → 99 ≤ prim_byte p
unfolding prim_byte
prim_begins prim.Bool = omega arith
prim_begins prim.S8 = omega arith
prim_begins prim.U8 = omega arith
prim_begins prim.S16 = omega arith
prim_begins prim.U16 = omega arith
prim_begins prim.S32 = omega arith
prim_begins prim.U32 = omega arith
prim_begins prim.S64 = omega arith
prim_begins prim.U64 = omega arith
prim_begins prim.F32 = omega arith
prim_begins prim.F64 = omega arith
prim_begins prim.Char = omega arith
prim_begins prim.String = omega arith
prim_begins prim.ErrorContext = omega arith

-- what holds of all bytes that begin so holds of a defined type's
simple_begins : (P : List ℕ → Type 0) → ((n : ℕ) (c : List ℕ) → 99 ≤ n → P (n ∷ c)) → (d : ComponentDefinedType) (b : List ℕ) → simple_bytes d ≡ Some b → P b
unfolding simple_bytes
simple_begins P each (defined.Primitive p) b e =
    let same : prim_byte p ∷ [] ≡ b = cc in
    subst P same (each (prim_byte p) [] (prim_begins p))
simple_begins P each (defined.List v) b e = begun 0x70 P (value_bytes v) (λ c. each 0x70 c (omega arith)) b e
simple_begins P each (defined.Option v) b e = begun 0x6B P (value_bytes v) (λ c. each 0x6B c (omega arith)) b e
simple_begins P each (defined.Result ok err) b e = begun 0x6A P (maybe_value ok ⧺ maybe_value err) (λ c. each 0x6A c (omega arith)) b e
simple_begins P each (defined.Own i) b e = begun 0x69 P (u32_bytes i) (λ c. each 0x69 c (omega arith)) b e
simple_begins P each (defined.Borrow i) b e = begun 0x68 P (u32_bytes i) (λ c. each 0x68 c (omega arith)) b e
simple_begins P each (defined.FixedLengthList v n) b e = begun 0x67 P (value_bytes v ⧺ u32_bytes n) (λ c. each 0x67 c (omega arith)) b e
simple_begins P each (defined.Stream v) b e = begun 0x66 P (maybe_value v) (λ c. each 0x66 c (omega arith)) b e
simple_begins P each (defined.Future v) b e = begun 0x65 P (maybe_value v) (λ c. each 0x65 c (omega arith)) b e
simple_begins P each (defined.Map k v) b e = begun 0x63 P (value_bytes k ⧺ value_bytes v) (λ c. each 0x63 c (omega arith)) b e
simple_begins P each (defined.Record fs) b e = absurd (cc)
simple_begins P each (defined.Variant cs) b e = absurd (cc)
simple_begins P each (defined.Tuple vs) b e = absurd (cc)
simple_begins P each (defined.Flags ns) b e = absurd (cc)
simple_begins P each (defined.Enum ns) b e = absurd (cc)

defined_begins : (P : List ℕ → Type 0) → ((n : ℕ) (c : List ℕ) → 99 ≤ n → P (n ∷ c)) → (d : Defined_form) (b : List ℕ) → defined_bytes d ≡ Some b → P b
unfolding defined_bytes
defined_begins P each (record_of fs) b e = begun 0x72 P (vec field_of fs) (λ c. each 0x72 c (omega arith)) b e
defined_begins P each (variant_of cs) b e = begun 0x71 P (vec case_bytes cs) (λ c. each 0x71 c (omega arith)) b e
defined_begins P each (tuple_of vs) b e = begun 0x6F P (vec value_bytes vs) (λ c. each 0x6F c (omega arith)) b e
defined_begins P each (flags_of ns) b e = begun 0x6E P (vec text ns) (λ c. each 0x6E c (omega arith)) b e
defined_begins P each (enum_of ns) b e = begun 0x6D P (vec text ns) (λ c. each 0x6D c (omega arith)) b e
defined_begins P each (simple d) b e = simple_begins P each d b e

defined_item : (inner : Types) (d : Defined_form) → Reads (type_over inner) (defined_bytes d) (defined_type d)
defined_item inner d = λ b rest e.
    defined_begins (λ c. type_over inner (c ++ rest) ≡ of_one defined_at defined_type (c ++ rest)) (λ n c h. is_defined inner n (c ++ rest) h) d b e ∙ made defined_at defined_type (defined_bytes d) d (defined_again d) b rest e

func_item : (inner : Types) (async : Bool) (params : List (Text × ComponentValType)) (result : Option ComponentValType) → Reads (type_over inner) (byte (cond async 0x43 0x40) ⧺ vec field_of params ⧺ result_bytes result) (func_type (record { async = async; params = params; result = result }))
unfolding type_over plain_type_at byte_at
func_item inner true params result =
    let f : Func_form = record { async = true; params = params; result = result } in
    led 0x43 (type_over inner) (of_one (func_at true) func_type) (vec field_of params ⧺ result_bytes result) (func_type f) (λ rest. refl) (made (func_at true) func_type (vec field_of params ⧺ result_bytes result) f (func_again f))
func_item inner false params result =
    let f : Func_form = record { async = false; params = params; result = result } in
    led 0x40 (type_over inner) (of_one (func_at false) func_type) (vec field_of params ⧺ result_bytes result) (func_type f) (λ rest. refl) (made (func_at false) func_type (vec field_of params ⧺ result_bytes result) f (func_again f))

destructor_again : IsReadAgain destructor_at (maybe u32_bytes)
unfolding destructor_at flag_at maybe
destructor_again None = known (0 ∷ []) destructor_at None (λ rest. refl)
destructor_again (Some i) = led 1 destructor_at (of_one u32_at Some) (u32_bytes i) (Some i) (λ rest. refl) (made u32_at Some (u32_bytes i) i (u32_again i))

-- ## Declarations

list_of : Decls → List Decl
list_of no_decls = []
list_of (declare d ds) = d ∷ list_of ds

of_list : (ds : Decls) → decls_of (list_of ds) ≡ ds
unfolding list_of
of_list no_decls = refl
of_list (declare d ds) = ap (declare d) (of_list ds)

-- a declaration of a component type or else of an instance type, over types that may stand in it
abbrev decl_at : Bool → Types → List ℕ → Result (Decl × List ℕ) Fault
decl_at true inner bytes = component_decl_at inner bytes
decl_at false inner bytes = instance_decl_at inner bytes

-- a type, behind what says that it is one
typed : (imports : Bool) (inner : Types) (t : Type_form) → Reads inner (type_bytes t) t → Reads (decl_at imports inner) (byte 0x01 ⧺ type_bytes t) (type_decl t)
unfolding component_decl_at instance_decl_at byte_at
typed true inner t again = led 0x01 (component_decl_at inner) (of_one inner type_decl) (type_bytes t) (type_decl t) (λ rest. refl) (made inner type_decl (type_bytes t) t again)
typed false inner t again = led 0x01 (instance_decl_at inner) (of_one inner type_decl) (type_bytes t) (type_decl t) (λ rest. refl) (made inner type_decl (type_bytes t) t again)

-- a declaration that is no type, led by a byte
plain : (n : ℕ) (g : List ℕ → Result (Decl × List ℕ) Fault) (imports : Bool) (inner : Types) (made : Bytes) (d : Decl) → ((rest : List ℕ) → component_decl_at inner (n ∷ rest) ≡ g rest) → ((rest : List ℕ) → instance_decl_at inner (n ∷ rest) ≡ g rest) → Reads g made d → Reads (decl_at imports inner) (byte n ⧺ made) d
plain n g true inner made d component instance again = led n (component_decl_at inner) g made d component again
plain n g false inner made d component instance again = led n (instance_decl_at inner) g made d instance again

-- declarations in a type, behind their count
declared : (n : ℕ) (inner : Types) (imports : Bool) (f : Decls → Type_form) (ds : Decls) → ((rest : List ℕ) → type_over inner (n ∷ rest) ≡ of_one (vec_at (decl_at imports inner)) (λ xs. f (decls_of xs)) rest) → Reads (list_at (decl_at imports inner) (decl_count ds)) (decls_bytes imports ds) (list_of ds) → Reads (type_over inner) (byte n ⧺ u32_bytes (decl_count ds) ⧺ decls_bytes imports ds) (f ds)
unfolding vec_at
declared n inner imports f ds step again =
    subst (λ t. Reads (type_over inner) (byte n ⧺ u32_bytes (decl_count ds) ⧺ decls_bytes imports ds) t) (ap f (of_list ds))
    (led n (type_over inner) (of_one (vec_at (decl_at imports inner)) (λ xs. f (decls_of xs))) (u32_bytes (decl_count ds) ⧺ decls_bytes imports ds) (f (decls_of (list_of ds))) step
    (made (vec_at (decl_at imports inner)) (λ xs. f (decls_of xs)) (u32_bytes (decl_count ds) ⧺ decls_bytes imports ds) (list_of ds)
    (behind u32_at (λ k. list_at (decl_at imports inner) k.0 k.1) (u32_bytes (decl_count ds)) (decls_bytes imports ds) (decl_count ds) (list_of ds) (u32_again (decl_count ds)) again)))

-- what nests no deeper than the deeper one of two
pub of_left : (a b n : ℕ) → max a b ≤ n → a ≤ n
of_left a b n h = omega (arith, h)

pub of_right : (a b n : ℕ) → max a b ≤ n → b ≤ n
of_right a b n h = omega (arith, h)

-- ## Types

mutual
  unfolding type_over plain_type_at byte_at type_bytes func_bytes type_nesting component_decl_at instance_decl_at plain_decl_at decl_bytes decl_nesting type_within list_at decls_bytes decls_nesting list_of

  pub type_again : (t : Type_form) (depth : ℕ) → type_nesting t ≤ depth → Reads (type_over (type_within depth)) (type_bytes t) t
  type_again (defined_type d) depth h = defined_item (type_within depth) d
  type_again (func_type f) depth h = func_item (type_within depth) f.async f.params f.result
  type_again (component_type ds) depth h = declared 0x41 (type_within depth) true component_type ds (λ rest. refl) (decls_again true ds depth h)
  type_again (instance_type ds) depth h = declared 0x42 (type_within depth) false instance_type ds (λ rest. refl) (decls_again false ds depth h)
  type_again (resource_type rep dtor) depth h =
      led 0x3F (type_over (type_within depth)) (of_two core_val_at destructor_at resource_type) (val_bytes rep ⧺ maybe u32_bytes dtor) (resource_type rep dtor) (λ rest. refl) (made_of_two core_val_at destructor_at resource_type (val_bytes rep) (maybe u32_bytes dtor) rep dtor (val_again rep) (destructor_again dtor))

  decl_again : (imports : Bool) (d : Decl) (depth : ℕ) → decl_nesting d ≤ depth → Reads (decl_at imports (type_within depth)) (decl_bytes imports d) d
  decl_again imports (core_type_decl t) depth h = plain 0x00 (of_one core_type_at core_type_decl) imports (type_within depth) (core_type_bytes t) (core_type_decl t) (λ rest. refl) (λ rest. refl) (made core_type_at core_type_decl (core_type_bytes t) t (core_type_again t))
  decl_again imports (type_decl t) zero h = absurd (not-suc-le-zero h)
  decl_again imports (type_decl t) (suc depth) h = typed imports (type_within (suc depth)) t (type_again t depth (le_of_suc-le-suc h))
  decl_again imports (alias_decl a) depth h = plain 0x02 (of_one alias_at alias_decl) imports (type_within depth) (alias_bytes a) (alias_decl a) (λ rest. refl) (λ rest. refl) (made alias_at alias_decl (alias_bytes a) a (alias_again a))
  decl_again imports (export_decl n t) depth h = plain 0x04 (of_two name_at ref_at export_decl) imports (type_within depth) (name_bytes n ⧺ ref_of t) (export_decl n t) (λ rest. refl) (λ rest. refl) (made_of_two name_at ref_at export_decl (name_bytes n) (ref_of t) n t (name_again n) (ref_again t))
  decl_again true (import_decl i) depth h = led 0x03 (component_decl_at (type_within depth)) (of_one import_at import_decl) (import_bytes i) (import_decl i) (λ rest. refl) (made import_at import_decl (import_bytes i) i (import_again i))
  decl_again false (import_decl i) depth h = λ b rest e. absurd (cc)

  decls_again : (imports : Bool) (ds : Decls) (depth : ℕ) → decls_nesting ds ≤ depth → Reads (list_at (decl_at imports (type_within depth)) (decl_count ds)) (decls_bytes imports ds) (list_of ds)
  decls_again imports no_decls depth h = known [] (λ bytes. Ok ([], bytes)) [] (λ rest. refl)
  decls_again imports (declare d ds) depth h =
      let r : List ℕ → Result (Decl × List ℕ) Fault = decl_at imports (type_within depth) in
      behind r (λ first. list_at r (decl_count ds) first.1 >>= λ others. Ok (first.0 ∷ others.0, others.1)) (decl_bytes imports d) (decls_bytes imports ds) d (d ∷ list_of ds) (decl_again imports d depth (of_left (decl_nesting d) (decls_nesting ds) depth h))
      (made (list_at r (decl_count ds)) (λ xs. d ∷ xs) (decls_bytes imports ds) (list_of ds) (decls_again imports ds depth (of_right (decl_nesting d) (decls_nesting ds) depth h)))
