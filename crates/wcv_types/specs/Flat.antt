-- The flat types of value types, by the canonical ABI: the core values as which one value is passed. X is the type of what
-- stands for them.
use Rattle.std.specs.Prelude.{ℕ, zero, suc, List, [], ◌∷◌, ◌++◌, Option, Some, None}
use Rattle.wcv_core.specs.declared.primitive.PrimitiveValType.{PrimitiveValType}
use Rattle.wcv_core.specs.declared.primitive.PrimitiveValType.TheVariants as prim
use Rattle.wcv_types.specs.Tree.{Former, named, record_of, variant_of, list_of, map_of, tuple_of, option_of, result_of, own_of, borrow_of, future_of, stream_of, fixed_list_of, flags_of, enum_of, primitive, defined, Tree, node, Parts, none, part}

pub record Flat_words (X : Type 0) : Type 0 where
  pub i32 : X
  pub i64 : X
  pub f32 : X
  pub f64 : X
  pub pointer : X
  -- what holds the values of both
  pub join : X → X → X

-- position by position. Where one list ends, the other goes on
abbrev pub joined : {X : Type 0} → (X → X → X) → List X → List X → List X
joined join [] ys = ys
joined join (x ∷ xs) [] = x ∷ xs
joined join (x ∷ xs) (y ∷ ys) = join x y ∷ joined join xs ys

-- at one position
abbrev pub either : {X : Type 0} → (X → X → X) → Option X → Option X → Option X
either join None o = o
either join (Some x) None = Some x
either join (Some x) (Some y) = Some (join x y)

-- the types n times, one behind another
abbrev pub repeated : {X : Type 0} → ℕ → List X → List X
repeated zero xs = []
repeated (suc n) xs = xs ++ repeated n xs

abbrev pub primitive_flat : {X : Type 0} → Flat_words X → PrimitiveValType → List X
primitive_flat w prim.Bool = w.i32 ∷ []
primitive_flat w prim.S8 = w.i32 ∷ []
primitive_flat w prim.U8 = w.i32 ∷ []
primitive_flat w prim.S16 = w.i32 ∷ []
primitive_flat w prim.U16 = w.i32 ∷ []
primitive_flat w prim.S32 = w.i32 ∷ []
primitive_flat w prim.U32 = w.i32 ∷ []
primitive_flat w prim.S64 = w.i64 ∷ []
primitive_flat w prim.U64 = w.i64 ∷ []
primitive_flat w prim.F32 = w.f32 ∷ []
primitive_flat w prim.F64 = w.f64 ∷ []
primitive_flat w prim.Char = w.i32 ∷ []
-- where it lies, and how long it is
primitive_flat w prim.String = w.pointer ∷ w.pointer ∷ []
primitive_flat w prim.ErrorContext = w.i32 ∷ []

-- from those of its parts one behind another, and from those of its parts joined
abbrev pub former_flat : {X : Type 0} → Flat_words X → Former → List X → List X → List X
former_flat w (named q) all cases = primitive_flat w q
former_flat w record_of all cases = all
former_flat w tuple_of all cases = all
former_flat w (fixed_list_of n) all cases = repeated n all
-- which case it is, and the payload of any
former_flat w variant_of all cases = w.i32 ∷ cases
former_flat w option_of all cases = w.i32 ∷ cases
former_flat w result_of all cases = w.i32 ∷ cases
former_flat w (enum_of ls) all cases = w.i32 ∷ []
former_flat w (flags_of ls) all cases = w.i32 ∷ []
former_flat w list_of all cases = w.pointer ∷ w.pointer ∷ []
former_flat w map_of all cases = w.pointer ∷ w.pointer ∷ []
former_flat w own_of all cases = w.i32 ∷ []
former_flat w borrow_of all cases = w.i32 ∷ []
former_flat w future_of all cases = w.i32 ∷ []
former_flat w stream_of all cases = w.i32 ∷ []

-- what is left out has none
abbrev mutual
  pub flat : {X R I : Type 0} → Flat_words X → Tree R I → List X
  flat w (node (primitive q) ps) = primitive_flat w q
  flat w (node (defined i k) ps) = former_flat w k (flat_all w ps) (flat_cases w [] ps)
  flat w (node h ps) = []

  -- of the parts, one behind another
  pub flat_all : {X R I : Type 0} → Flat_words X → Parts R I → List X
  flat_all w none = []
  flat_all w (part r t ps) = flat w t ++ flat_all w ps

  -- of the parts, each joined to those before
  pub flat_cases : {X R I : Type 0} → Flat_words X → List X → Parts R I → List X
  flat_cases w before none = before
  flat_cases w before (part r t ps) = flat_cases w (joined w.join before (flat w t)) ps
