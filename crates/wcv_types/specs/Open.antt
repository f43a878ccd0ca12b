-- Flat types where the size of pointers is left open: one list for both sizes, as the arena keeps it.
use Rattle.std.specs.Prelude.{List, take}
use Rattle.wcv_types.specs.Flat.{Flat_words, flat, flat_all}
use Rattle.wcv_types.specs.Tree.{Tree, Parts}
use Rattle.wcv_types.specs.declared.flat_type.FlatType.{FlatType}
use Rattle.wcv_types.specs.declared.flat_type.FlatType.TheVariants as f
use Rattle.wcv_types.specs.declared.lowered_types.LoweredTypes.{LoweredTypes}

-- a pointer takes in what an i32 does, and is taken in by an i64
abbrev pub open_join : FlatType → FlatType → FlatType
open_join f.I32 f.I32 = f.I32
open_join f.I32 f.F32 = f.I32
open_join f.F32 f.I32 = f.I32
open_join f.F32 f.F32 = f.F32
open_join f.F64 f.F64 = f.F64
open_join f.Pointer f.Pointer = f.Pointer
open_join f.Pointer f.I32 = f.Pointer
open_join f.Pointer f.F32 = f.Pointer
open_join f.I32 f.Pointer = f.Pointer
open_join f.F32 f.Pointer = f.Pointer
open_join a b = f.I64

abbrev pub open_words : Flat_words FlatType
open_words = record { i32 = f.I32; i64 = f.I64; f32 = f.F32; f64 = f.F64; pointer = f.Pointer; join = open_join }

abbrev pub open_flat : {R I : Type 0} → Tree R I → List FlatType
open_flat t = flat open_words t

-- of parts, one behind another
abbrev pub open_all : {R I : Type 0} → Parts R I → List FlatType
open_all ps = flat_all open_words ps

-- the list that a fixed place for flat types has
abbrev pub listed : LoweredTypes → List FlatType
listed l = take l.len l.types
