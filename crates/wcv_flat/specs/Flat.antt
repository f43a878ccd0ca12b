-- Flat types as core types, where a pointer has a size.
use Rattle.std.specs.Prelude.{List, map}
use Rattle.wcv_core.specs.declared.core_types.ValType.{ValType}
use Rattle.wcv_core.specs.declared.core_types.ValType.TheVariants as core
use Rattle.wcv_types.specs.Flat.{Flat_words}
use Rattle.wcv_types.specs.declared.flat_type.FlatType.{FlatType}
use Rattle.wcv_types.specs.declared.flat_type.FlatType.TheVariants as f
use Rattle.wcv_flat.specs.declared.options.PtrSize.{PtrSize}
use Rattle.wcv_flat.specs.declared.options.PtrSize.TheVariants as ptr

-- the core type of a pointer
abbrev pub pointer_type : PtrSize → ValType
pointer_type ptr.Ptr32 = core.I32
pointer_type ptr.Ptr64 = core.I64

-- one type holds its own values, an i32 the bits of an f32 too, and an i64 those of any other
abbrev pub core_join : ValType → ValType → ValType
core_join core.I32 core.I32 = core.I32
core_join core.I32 core.F32 = core.I32
core_join core.F32 core.I32 = core.I32
core_join core.F32 core.F32 = core.F32
core_join core.F64 core.F64 = core.F64
core_join a b = core.I64

abbrev pub core_words : PtrSize → Flat_words ValType
core_words s = record { i32 = core.I32; i64 = core.I64; f32 = core.F32; f64 = core.F64; pointer = pointer_type s; join = core_join }

-- ## Flat types that leave the size of pointers open

-- the core type that it is, where a pointer has that size
abbrev pub as_core : PtrSize → FlatType → ValType
as_core s f.I32 = core.I32
as_core s f.I64 = core.I64
as_core s f.F32 = core.F32
as_core s f.F64 = core.F64
as_core s f.Pointer = pointer_type s

abbrev pub cores : PtrSize → List FlatType → List ValType
cores s xs = map (as_core s) xs
