-- Flat types with pointers left open are those with pointers of either size.
use Rattle.std.proofs.Common.{◌≡◌, ℕ, zero, suc, List, [], ◌∷◌, ◌++◌, refl, ◌∙◌, ap, map}
use Rattle.std.proofs.lemmas.List.{map-append}
use Rattle.wcv_core.specs.declared.primitive.PrimitiveValType.{PrimitiveValType}
use Rattle.wcv_core.specs.declared.primitive.PrimitiveValType.TheVariants as prim
use Rattle.wcv_types.specs.Flat.{Flat_words, joined, repeated, primitive_flat, former_flat, flat, flat_all, flat_cases}
use Rattle.wcv_types.specs.Tree.{Former, named, record_of, variant_of, list_of, map_of, tuple_of, option_of, result_of, fixed_list_of, primitive, defined, Tree, node, Parts, none, part}
use Rattle.wcv_types.specs.Open.{open_join, open_words, open_flat, open_all}
use Rattle.wcv_types.specs.declared.flat_type.FlatType.{FlatType}
use Rattle.wcv_types.specs.declared.flat_type.FlatType.TheVariants as f
use Rattle.wcv_flat.specs.Flat.{pointer_type, core_join, core_words, as_core, cores}
use Rattle.wcv_flat.specs.declared.options.PtrSize.{PtrSize}
use Rattle.wcv_flat.specs.declared.options.PtrSize.TheVariants as ptr

-- ## What stands for flat types, by other words

-- a map of words, which keeps what they stand for
pub record Keeps {X Y : Type 0} (h : X → Y) (w : Flat_words X) (v : Flat_words Y) : Type 0 where
  pub i32 : h w.i32 ≡ v.i32
  pub i64 : h w.i64 ≡ v.i64
  pub f32 : h w.f32 ≡ v.f32
  pub f64 : h w.f64 ≡ v.f64
  pub pointer : h w.pointer ≡ v.pointer
  pub join : (a b : X) → h (w.join a b) ≡ v.join (h a) (h b)

module _ {X Y : Type 0} (h : X → Y) (w : Flat_words X) (v : Flat_words Y) (keeps : Keeps h w v) where
  joined_mapped : (xs ys : List X) → map h (joined w.join xs ys) ≡ joined v.join (map h xs) (map h ys)
  joined_mapped [] ys = refl
  joined_mapped (x ∷ xs) [] = refl
  joined_mapped (x ∷ xs) (y ∷ ys) = λ i. keeps.join x y i ∷ joined_mapped xs ys i

  repeated_mapped : (n : ℕ) (xs : List X) → map h (repeated n xs) ≡ repeated n (map h xs)
  repeated_mapped zero xs = refl
  repeated_mapped (suc n) xs = map-append h xs (repeated n xs) ∙ ap (λ (ys : List Y). map h xs ++ ys) (repeated_mapped n xs)

  one : {x : X} {y : Y} → h x ≡ y → (map h (x ∷ [])) ≡ y ∷ []
  one e = λ i. e i ∷ []

  pointers : map h (w.pointer ∷ w.pointer ∷ []) ≡ v.pointer ∷ v.pointer ∷ []
  pointers = λ i. keeps.pointer i ∷ keeps.pointer i ∷ []

  primitive_mapped : (q : PrimitiveValType) → map h (primitive_flat w q) ≡ primitive_flat v q
  primitive_mapped prim.Bool = one keeps.i32
  primitive_mapped prim.S8 = one keeps.i32
  primitive_mapped prim.U8 = one keeps.i32
  primitive_mapped prim.S16 = one keeps.i32
  primitive_mapped prim.U16 = one keeps.i32
  primitive_mapped prim.S32 = one keeps.i32
  primitive_mapped prim.U32 = one keeps.i32
  primitive_mapped prim.S64 = one keeps.i64
  primitive_mapped prim.U64 = one keeps.i64
  primitive_mapped prim.F32 = one keeps.f32
  primitive_mapped prim.F64 = one keeps.f64
  primitive_mapped prim.Char = one keeps.i32
  primitive_mapped prim.String = pointers
  primitive_mapped prim.ErrorContext = one keeps.i32

  former_mapped : (k : Former) (all cases : List X) → map h (former_flat w k all cases) ≡ former_flat v k (map h all) (map h cases)
  former_mapped (named q) all cases = primitive_mapped q
  former_mapped record_of all cases = refl
  former_mapped tuple_of all cases = refl
  former_mapped (fixed_list_of n) all cases = repeated_mapped n all
  former_mapped variant_of all cases = λ i. keeps.i32 i ∷ map h cases
  former_mapped option_of all cases = λ i. keeps.i32 i ∷ map h cases
  former_mapped result_of all cases = λ i. keeps.i32 i ∷ map h cases
  former_mapped list_of all cases = pointers
  former_mapped map_of all cases = pointers
  former_mapped x all cases = one keeps.i32

  mutual
    pub flat_mapped : {R I : Type 0} (t : Tree R I) → map h (flat w t) ≡ flat v t
    flat_mapped (node (primitive q) ps) = primitive_mapped q
    flat_mapped (node (defined i k) ps) =
        former_mapped k (flat_all w ps) (flat_cases w [] ps) ∙ (λ j. former_flat v k (all_mapped ps j) (cases_mapped [] ps j))
    flat_mapped (node x ps) = refl

    pub all_mapped : {R I : Type 0} (ps : Parts R I) → map h (flat_all w ps) ≡ flat_all v ps
    all_mapped none = refl
    all_mapped (part r t ps) = map-append h (flat w t) (flat_all w ps) ∙ (λ j. flat_mapped t j ++ all_mapped ps j)

    cases_mapped : {R I : Type 0} (before : List X) (ps : Parts R I) → map h (flat_cases w before ps) ≡ flat_cases v (map h before) ps
    cases_mapped before none = refl
    cases_mapped before (part r t ps) =
        cases_mapped (joined w.join before (flat w t)) ps ∙ ap (λ (xs : List Y). flat_cases v xs ps) (joined_mapped before (flat w t) ∙ ap (joined v.join (map h before)) (flat_mapped t))

-- ## With pointers of one size

pointer_first : (s : PtrSize) (b : FlatType) → as_core s (open_join f.Pointer b) ≡ core_join (pointer_type s) (as_core s b)
pointer_first ptr.Ptr32 f.I32 = refl
pointer_first ptr.Ptr32 f.I64 = refl
pointer_first ptr.Ptr32 f.F32 = refl
pointer_first ptr.Ptr32 f.F64 = refl
pointer_first ptr.Ptr32 f.Pointer = refl
pointer_first ptr.Ptr64 f.I32 = refl
pointer_first ptr.Ptr64 f.I64 = refl
pointer_first ptr.Ptr64 f.F32 = refl
pointer_first ptr.Ptr64 f.F64 = refl
pointer_first ptr.Ptr64 f.Pointer = refl

pointer_second : (s : PtrSize) (a : FlatType) → as_core s (open_join a f.Pointer) ≡ core_join (as_core s a) (pointer_type s)
pointer_second ptr.Ptr32 f.I32 = refl
pointer_second ptr.Ptr32 f.I64 = refl
pointer_second ptr.Ptr32 f.F32 = refl
pointer_second ptr.Ptr32 f.F64 = refl
pointer_second ptr.Ptr32 f.Pointer = refl
pointer_second ptr.Ptr64 f.I32 = refl
pointer_second ptr.Ptr64 f.I64 = refl
pointer_second ptr.Ptr64 f.F32 = refl
pointer_second ptr.Ptr64 f.F64 = refl
pointer_second ptr.Ptr64 f.Pointer = refl

join_opened : (s : PtrSize) (a b : FlatType) → as_core s (open_join a b) ≡ core_join (as_core s a) (as_core s b)
join_opened s f.Pointer b = pointer_first s b
join_opened s a f.Pointer = pointer_second s a
join_opened s f.I32 f.I32 = refl
join_opened s f.I32 f.I64 = refl
join_opened s f.I32 f.F32 = refl
join_opened s f.I32 f.F64 = refl
join_opened s f.I64 f.I32 = refl
join_opened s f.I64 f.I64 = refl
join_opened s f.I64 f.F32 = refl
join_opened s f.I64 f.F64 = refl
join_opened s f.F32 f.I32 = refl
join_opened s f.F32 f.I64 = refl
join_opened s f.F32 f.F32 = refl
join_opened s f.F32 f.F64 = refl
join_opened s f.F64 f.I32 = refl
join_opened s f.F64 f.I64 = refl
join_opened s f.F64 f.F32 = refl
join_opened s f.F64 f.F64 = refl

opened_keeps : (s : PtrSize) → Keeps (as_core s) open_words (core_words s)
opened_keeps s = record { i32 = refl; i64 = refl; f32 = refl; f64 = refl; pointer = refl; join = join_opened s }

pub opened : {R I : Type 0} (s : PtrSize) (t : Tree R I) → cores s (open_flat t) ≡ flat (core_words s) t
opened s t = flat_mapped (as_core s) open_words (core_words s) (opened_keeps s) t

pub all_opened : {R I : Type 0} (s : PtrSize) (ps : Parts R I) → cores s (open_all ps) ≡ flat_all (core_words s) ps
all_opened s ps = all_mapped (as_core s) open_words (core_words s) (opened_keeps s) ps
