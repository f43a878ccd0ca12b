-- Whether two trees without identities are the same. The test of resources is given.
use Rattle.std.specs.Prelude.{ℕ, List, Bool, true, false, ◌&&◌, eqb, bytes_eq}
use Rattle.std.specs.Bool.{beq}
use Rattle.std.specs.Option.{option_eq}
use Rattle.std.specs.Cmp.Lexicographic.{pointwise}
use Rattle.wcv_core.specs.Names.{same}
use Rattle.wcv_core.specs.declared.primitive.PrimitiveValType.{PrimitiveValType}
use Rattle.wcv_core.specs.declared.primitive.PrimitiveValType.TheVariants as prim
use Rattle.wcv_types.specs.Alike.{form_number, form_primitive, form_length, form_names}
use Rattle.wcv_types.specs.Seen.{Within, outer, inner, seen}
use Rattle.wcv_types.specs.Tree.{Former, Extern_name, Head, nothing, primitive, resource, defined, func, instance, component, type_entity, core_module, core_instance, core_type, core_item, Role, here, label, import, export, core_import, core_export, Tree, node, Parts, none, part}
use Rattle.wcv_types.specs.Unfold.{Type_tree}
use Rattle.wcv_types.specs.SameItems.{same_item}

-- ## Heads, as they are seen

abbrev pub primitive_number : PrimitiveValType → ℕ
primitive_number prim.Bool = 0
primitive_number prim.S8 = 1
primitive_number prim.U8 = 2
primitive_number prim.S16 = 3
primitive_number prim.U16 = 4
primitive_number prim.S32 = 5
primitive_number prim.U32 = 6
primitive_number prim.S64 = 7
primitive_number prim.U64 = 8
primitive_number prim.F32 = 9
primitive_number prim.F64 = 10
primitive_number prim.Char = 11
primitive_number prim.String = 12
primitive_number prim.ErrorContext = 13

abbrev pub same_primitive : PrimitiveValType → PrimitiveValType → Bool
same_primitive p q = eqb (primitive_number p) (primitive_number q)

abbrev pub same_within : {A : Type 0} → (A → A → Bool) → Within A → Within A → Bool
same_within eq (outer a) (outer b) = eq a b
same_within eq (inner a) (inner b) = same a b
same_within eq _ _ = false

abbrev pub same_former : Former → Former → Bool
same_former j k =
    eqb (form_number j) (form_number k) && (option_eq same_primitive (form_primitive j) (form_primitive k)
    && (eqb (form_length j) (form_length k) && pointwise bytes_eq (form_names j) (form_names k)))

-- a resource with its path
abbrev pub same_listed : {R : Type 0} → (R → R → Bool) → R × List ℕ → R × List ℕ → Bool
same_listed eq p q = eq p.0 q.0 && bytes_eq p.1 q.1

abbrev pub same_head : {R : Type 0} → (R → R → Bool) → Head R (Unit {0}) → Head R (Unit {0}) → Bool
same_head eq nothing nothing = true
same_head eq (primitive p) (primitive q) = same_primitive p q
same_head eq (resource a s) (resource b t) = eq a b
same_head eq (defined i j) (defined l k) = same_former j k
same_head eq (func i a) (func l b) = beq a b
same_head eq (instance i own) (instance l others) = pointwise eq own others
same_head eq (component i ins outs) (component l sins souts) = pointwise (same_listed eq) ins sins && pointwise (same_listed eq) outs souts
same_head eq type_entity type_entity = true
same_head eq (core_module i m) (core_module l n) = eqb m n
same_head eq (core_instance i m) (core_instance l n) = eqb m n
same_head eq (core_type m) (core_type n) = eqb m n
same_head eq (core_item e) (core_item d) = same_item e d
same_head eq _ _ = false

-- ## Roles

abbrev pub same_name : Extern_name → Extern_name → Bool
same_name m n =
    bytes_eq m.name n.name && (option_eq bytes_eq m.implements n.implements
    && (option_eq bytes_eq m.version_suffix n.version_suffix && option_eq bytes_eq m.external_id n.external_id))

abbrev pub same_role : Role → Role → Bool
same_role here here = true
same_role (label l) (label m) = bytes_eq l m
same_role (import m) (import n) = same_name m n
same_role (export m) (export n) = same_name m n
same_role (core_import l m) (core_import k n) = bytes_eq l k && bytes_eq m n
same_role (core_export m) (core_export n) = bytes_eq m n
same_role _ _ = false

-- ## Trees

abbrev mutual
  pub same_tree : {R : Type 0} → (R → R → Bool) → Tree R (Unit {0}) → Tree R (Unit {0}) → Bool
  same_tree eq (node h ps) (node g qs) = same_head eq h g && same_parts eq ps qs

  pub same_parts : {R : Type 0} → (R → R → Bool) → Parts R (Unit {0}) → Parts R (Unit {0}) → Bool
  same_parts eq none none = true
  same_parts eq (part r t ps) (part q s qs) = same_role r q && (same_tree eq t s && same_parts eq ps qs)
  same_parts eq _ _ = false

-- they look alike
abbrev pub alike : Type_tree → Type_tree → Bool
alike s t = same_tree (same_within same) (seen outer s) (seen outer t)
