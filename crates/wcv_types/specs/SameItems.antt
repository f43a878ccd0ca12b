-- Whether two types of core imports or exports are the same.
use Rattle.std.specs.Prelude.{Bool, false, ◌&&◌, eqb, bytes_eq}
use Rattle.std.specs.Bool.{beq}
use Rattle.std.specs.Option.{option_eq}
use Rattle.wcv_core.specs.CoreCode.{val_code}
use Rattle.wcv_core.specs.declared.core_types.EntityType.{EntityType}
use Rattle.wcv_core.specs.declared.core_types.EntityType.TheVariants as entity
use Rattle.wcv_core.specs.declared.core_types.GlobalType.{GlobalType}
use Rattle.wcv_core.specs.declared.core_types.MemoryType.{MemoryType}
use Rattle.wcv_core.specs.declared.core_types.TableType.{TableType}
use Rattle.wcv_core.specs.declared.core_types.ValType.{ValType}
use Rattle.wcv_core.specs.declared.core_types.ValType.TheVariants as val

abbrev pub same_val : ValType → ValType → Bool
same_val v w = bytes_eq (val_code v) (val_code w)

abbrev pub same_table : TableType → TableType → Bool
same_table t u =
    same_val (val.Ref t.element_type) (val.Ref u.element_type) && (eqb t.initial u.initial
    && (option_eq eqb t.maximum u.maximum && (beq t.table64 u.table64 && beq t.shared u.shared)))

abbrev pub same_memory : MemoryType → MemoryType → Bool
same_memory m k =
    eqb m.initial k.initial && (option_eq eqb m.maximum k.maximum
    && (beq m.memory64 k.memory64 && (beq m.shared k.shared && eqb m.page_size_log2 k.page_size_log2)))

abbrev pub same_global : GlobalType → GlobalType → Bool
same_global g h = same_val g.content_type h.content_type && (beq g.mutable h.mutable && beq g.shared h.shared)

abbrev pub same_item : EntityType → EntityType → Bool
same_item (entity.Func t) (entity.Func u) = eqb t.index u.index
same_item (entity.Tag t) (entity.Tag u) = eqb t.index u.index
same_item (entity.Table t) (entity.Table u) = same_table t u
same_item (entity.Memory m) (entity.Memory k) = same_memory m k
same_item (entity.Global g) (entity.Global h) = same_global g h
same_item _ _ = false
