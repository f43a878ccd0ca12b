-- Sorts, names, imports, exports, aliases and instances are read again.
use Rattle.std.proofs.Common.{ℕ, Some, None, Option, Result, Ok, List, [], ◌∷◌, ◌++◌, refl, ◌∙◌}
use Rattle.wcv_syntax.specs.declared.component_type.ComponentTypeRef.{ComponentTypeRef}
use Rattle.wcv_syntax.specs.declared.component_type.ComponentTypeRef.TheVariants as ref
use Rattle.wcv_syntax.specs.declared.component_type.TypeBounds.TheVariants as bound
use Rattle.wcv_syntax.specs.declared.core_section.ExternalKind.{ExternalKind}
use Rattle.wcv_syntax.specs.declared.core_section.ExternalKind.TheVariants as code
use Rattle.wcv_syntax.specs.declared.instance.ComponentAlias.TheVariants as alias
use Rattle.wcv_syntax.specs.declared.instance.ComponentExternalKind.{ComponentExternalKind}
use Rattle.wcv_syntax.specs.declared.instance.ComponentExternalKind.TheVariants as kind
use Rattle.wcv_syntax.specs.declared.instance.ComponentOuterAliasKind.TheVariants as outer
use Rattle.wcv_syntax.specs.declared.name.ComponentExternName.{ComponentExternName}
use Rattle.wcv_syntax.specs.Model.{Text, core_instantiate, core_bag, instantiate, bag}
use Rattle.wcv_bytes.specs.declared.fault.Fault.{Fault}
use Rattle.wcv_bytes.specs.Reading.{◌>>=◌, byte_at, flag_at, zero_at, expected_at, of_one, of_two, u32_at, vec_at, text_at}
use Rattle.wcv_binary.specs.Sorts.{core_sort_at, module_sort_at, sort_at}
use Rattle.wcv_binary.specs.Values.{val_at}
use Rattle.wcv_binary.specs.Names.{plain, name_at, bounds_at, ref_at, optional_ref_at, import_at, item_at, export_at, listed_at, arg_at, instantiated_at, instance_at}
use Rattle.wcv_binary.specs.Aliases.{behind_sort_at, aliased_core_sort_at, core_outer_at, outer_sort_at, export_alias_at, core_export_alias_at, outer_alias_at, alias_at}
use Rattle.wcv_binary.specs.CoreInstances.{passed_at, core_arg_at, core_listed_at, core_instance_at}
use Rattle.wcv_encode.specs.Bytes.{◌⧺◌, byte, u32_bytes, text, vec, maybe}
use Rattle.wcv_encode.specs.Entries.{sort, core_sort, outer_sort, name_form, name_bytes, bounds, ref_of, import_bytes, exported, export_bytes, alias_bytes, core_arg, core_export, core_instance_bytes, arg_bytes, untyped, bag_export, instance_bytes}
use Rattle.wcv_encode.specs.Laws.{Reads, IsReadAgain}
use Rattle.wcv_encode.specs.Values.{value_bytes}
use Rattle.wcv_encode.proofs.Again.{behind, made, made_of_two, led, prefixed, known}
use Rattle.wcv_encode.proofs.Joins.{join_assoc}
use Rattle.wcv_encode.proofs.AgainNumbers.{u32_again}
use Rattle.wcv_encode.proofs.AgainLists.{text_again, vec_again}
use Rattle.wcv_encode.proofs.AgainValues.{value_again}

-- ## Sorts

pub sort_again : IsReadAgain sort_at sort
unfolding sort_at module_sort_at byte_at sort
sort_again kind.Module = known (0x00 ∷ 0x11 ∷ []) sort_at kind.Module (λ rest. refl)
sort_again kind.Func = known (0x01 ∷ []) sort_at kind.Func (λ rest. refl)
sort_again kind.Value = known (0x02 ∷ []) sort_at kind.Value (λ rest. refl)
sort_again kind.Ty = known (0x03 ∷ []) sort_at kind.Ty (λ rest. refl)
sort_again kind.Component = known (0x04 ∷ []) sort_at kind.Component (λ rest. refl)
sort_again kind.Instance = known (0x05 ∷ []) sort_at kind.Instance (λ rest. refl)

pub core_sort_again : (k : ExternalKind) → Reads core_sort_at (byte (core_sort k)) k
unfolding core_sort_at byte_at core_sort
core_sort_again code.Func = known (0 ∷ []) core_sort_at code.Func (λ rest. refl)
core_sort_again code.Table = known (1 ∷ []) core_sort_at code.Table (λ rest. refl)
core_sort_again code.Memory = known (2 ∷ []) core_sort_at code.Memory (λ rest. refl)
core_sort_again code.Global = known (3 ∷ []) core_sort_at code.Global (λ rest. refl)
core_sort_again code.Tag = known (4 ∷ []) core_sort_at code.Tag (λ rest. refl)

-- ## Names

name_of : (n : Text) (implements suffix id : Option Text) → Reads name_at (name_form n implements suffix id) (record { name = n; implements = implements; version_suffix = suffix; external_id = id })
unfolding name_at byte_at name_form
name_of n None None None = led 0 name_at (of_one text_at plain) (text n) (plain n) (λ rest. refl) (made text_at plain (text n) n (text_again n))
name_of n (Some i) s e = λ b rest h. absurd (cc)
name_of n None (Some s) e = λ b rest h. absurd (cc)
name_of n None None (Some e) = λ b rest h. absurd (cc)

pub name_again : IsReadAgain name_at name_bytes
name_again n = name_of n.name n.implements n.version_suffix n.external_id

-- ## Written types

bounds_again : IsReadAgain bounds_at bounds
unfolding bounds_at flag_at bounds
bounds_again (bound.Eq i) = led 0 bounds_at (of_one u32_at bound.Eq) (u32_bytes i) (bound.Eq i) (λ rest. refl) (made u32_at bound.Eq (u32_bytes i) i (u32_again i))
bounds_again bound.SubResource = known (1 ∷ []) bounds_at bound.SubResource (λ rest. refl)

pub ref_again : IsReadAgain ref_at ref_of
unfolding ref_at sort_at module_sort_at byte_at ref_of
ref_again (ref.Module i) = prefixed (0x00 ∷ 0x11 ∷ []) ref_at (of_one u32_at ref.Module) (u32_bytes i) (ref.Module i) (λ rest. refl) (made u32_at ref.Module (u32_bytes i) i (u32_again i))
ref_again (ref.Func i) = led 1 ref_at (of_one u32_at ref.Func) (u32_bytes i) (ref.Func i) (λ rest. refl) (made u32_at ref.Func (u32_bytes i) i (u32_again i))
ref_again (ref.Component i) = led 4 ref_at (of_one u32_at ref.Component) (u32_bytes i) (ref.Component i) (λ rest. refl) (made u32_at ref.Component (u32_bytes i) i (u32_again i))
ref_again (ref.Instance i) = led 5 ref_at (of_one u32_at ref.Instance) (u32_bytes i) (ref.Instance i) (λ rest. refl) (made u32_at ref.Instance (u32_bytes i) i (u32_again i))
ref_again (ref.Value v) = led 2 ref_at (of_one val_at ref.Value) (value_bytes v) (ref.Value v) (λ rest. refl) (made val_at ref.Value (value_bytes v) v (value_again v))
ref_again (ref.Ty b) = led 3 ref_at (of_one bounds_at ref.Ty) (bounds b) (ref.Ty b) (λ rest. refl) (made bounds_at ref.Ty (bounds b) b (bounds_again b))

maybe_ref_again : IsReadAgain optional_ref_at (maybe ref_of)
unfolding optional_ref_at flag_at maybe
maybe_ref_again None = known (0 ∷ []) optional_ref_at None (λ rest. refl)
maybe_ref_again (Some t) = led 1 optional_ref_at (of_one ref_at Some) (ref_of t) (Some t) (λ rest. refl) (made ref_at Some (ref_of t) t (ref_again t))

-- ## Imports and exports

pub import_again : IsReadAgain import_at import_bytes
unfolding import_at import_bytes
import_again i =
    made_of_two name_at ref_at (λ name ty. record { name = name; ty = ty }) (name_bytes i.name) (ref_of i.ty) i.name i.ty (name_again i.name) (ref_again i.ty)

item_again : (k : ComponentExternalKind) (i : ℕ) → Reads item_at (sort k ⧺ u32_bytes i) (k, i)
unfolding item_at
item_again k i = made_of_two sort_at u32_at (λ kind index. (kind, index)) (sort k) (u32_bytes i) k i (sort_again k) (u32_again i)

pub export_again : IsReadAgain export_at export_bytes
unfolding export_at export_bytes exported
export_again e = λ b rest h.
    behind name_at (λ name. item_at name.1 >>= λ item. optional_ref_at item.1 >>= λ ty. Ok (record { name = name.0; kind = item.0.0; index = item.0.1; ty = ty.0 }, ty.1)) (name_bytes e.name) ((sort e.kind ⧺ u32_bytes e.index) ⧺ maybe ref_of e.ty) e.name e (name_again e.name)
    (behind item_at (λ item. optional_ref_at item.1 >>= λ ty. Ok (record { name = e.name; kind = item.0.0; index = item.0.1; ty = ty.0 }, ty.1)) (sort e.kind ⧺ u32_bytes e.index) (maybe ref_of e.ty) (e.kind, e.index) e (item_again e.kind e.index)
    (made optional_ref_at (λ ty. record { name = e.name; kind = e.kind; index = e.index; ty = ty }) (maybe ref_of e.ty) e.ty (maybe_ref_again e.ty))) b rest (join_assoc (name_bytes e.name) (sort e.kind ⧺ u32_bytes e.index) (maybe ref_of e.ty) ∙ h)

-- ## Instances

arg_again : IsReadAgain arg_at arg_bytes
unfolding arg_at arg_bytes
arg_again a =
    made_of_two text_at item_at (λ name item. record { name = name; kind = item.0; index = item.1 }) (text a.name) (sort a.kind ⧺ u32_bytes a.index) a.name (a.kind, a.index) (text_again a.name) (item_again a.kind a.index)

listed_of : (n : ComponentExternName) (k : ComponentExternalKind) (i : ℕ) (ty : Option ComponentTypeRef) → Reads listed_at (untyped ty (name_bytes n ⧺ sort k ⧺ u32_bytes i)) (record { name = n; kind = k; index = i; ty = ty })
unfolding listed_at untyped
listed_of n k i None =
    made_of_two name_at item_at (λ name item. record { name = name; kind = item.0; index = item.1; ty = None }) (name_bytes n) (sort k ⧺ u32_bytes i) n (k, i) (name_again n) (item_again k i)
listed_of n k i (Some t) = λ b rest e. absurd (cc)

listed_again : IsReadAgain listed_at bag_export
unfolding exported
listed_again e = listed_of e.name e.kind e.index e.ty

pub instance_again : IsReadAgain instance_at instance_bytes
unfolding instance_at instantiated_at flag_at instance_bytes
instance_again (instantiate c args) =
    led 0 instance_at (of_two u32_at (vec_at arg_at) instantiate) (u32_bytes c ⧺ vec arg_bytes args) (instantiate c args) (λ rest. refl) (made_of_two u32_at (vec_at arg_at) instantiate (u32_bytes c) (vec arg_bytes args) c args (u32_again c) (vec_again arg_at arg_bytes arg_again args))
instance_again (bag es) =
    led 1 instance_at (of_one (vec_at listed_at) bag) (vec bag_export es) (bag es) (λ rest. refl) (made (vec_at listed_at) bag (vec bag_export es) es (vec_again listed_at bag_export listed_again es))

core_arg_again : IsReadAgain core_arg_at core_arg
unfolding core_arg_at passed_at expected_at core_arg byte_at
core_arg_again a =
    made_of_two text_at passed_at (λ name index. record { name = name; index = index }) (text a.name) (byte 0x12 ⧺ u32_bytes a.index) a.name a.index (text_again a.name) (led 0x12 passed_at u32_at (u32_bytes a.index) a.index (λ rest. refl) (u32_again a.index))

core_listed_again : IsReadAgain core_listed_at core_export
unfolding core_listed_at core_export
core_listed_again e =
    behind text_at (λ name. of_two core_sort_at u32_at (λ kind index. record { name = name.0; kind = kind; index = index }) name.1) (text e.name) (byte (core_sort e.kind) ⧺ u32_bytes e.index) e.name e (text_again e.name)
    (made_of_two core_sort_at u32_at (λ kind index. record { name = e.name; kind = kind; index = index }) (byte (core_sort e.kind)) (u32_bytes e.index) e.kind e.index (core_sort_again e.kind) (u32_again e.index))

pub core_instance_again : IsReadAgain core_instance_at core_instance_bytes
unfolding core_instance_at flag_at core_instance_bytes
core_instance_again (core_instantiate m args) =
    led 0 core_instance_at (of_two u32_at (vec_at core_arg_at) core_instantiate) (u32_bytes m ⧺ vec core_arg args) (core_instantiate m args) (λ rest. refl) (made_of_two u32_at (vec_at core_arg_at) core_instantiate (u32_bytes m) (vec core_arg args) m args (u32_again m) (vec_again core_arg_at core_arg core_arg_again args))
core_instance_again (core_bag es) =
    led 1 core_instance_at (of_one (vec_at core_listed_at) core_bag) (vec core_export es) (core_bag es) (λ rest. refl) (made (vec_at core_listed_at) core_bag (vec core_export es) es (vec_again core_listed_at core_export core_listed_again es))

-- ## Aliases

-- what is behind the sort and the target
abbrev indexed : {X : Type 0} → (ℕ → Text → X) → List ℕ → Result (X × List ℕ) Fault
indexed f bytes = u32_at bytes >>= λ instance. text_at instance.1 >>= λ name. Ok (f instance.0 name.0, name.1)

indexed_again : {X : Type 0} (f : ℕ → Text → X) (i : ℕ) (n : Text) → Reads (indexed f) (u32_bytes i ⧺ text n) (f i n)
indexed_again f i n = made_of_two u32_at text_at f (u32_bytes i) (text n) i n (u32_again i) (text_again n)

pub alias_again : IsReadAgain alias_at alias_bytes
unfolding alias_at behind_sort_at export_alias_at core_export_alias_at outer_alias_at aliased_core_sort_at core_outer_at outer_sort_at sort_at module_sort_at core_sort_at byte_at zero_at alias_bytes sort core_sort outer_sort
alias_again (alias.InstanceExport kind.Module i n) =
    prefixed (0x00 ∷ 0x11 ∷ []) alias_at (λ rest. alias_at ((0x00 ∷ 0x11 ∷ []) ++ rest)) (byte 0 ⧺ u32_bytes i ⧺ text n) (alias.InstanceExport kind.Module i n) (λ rest. refl) (led 0 (λ rest. alias_at ((0x00 ∷ 0x11 ∷ []) ++ rest)) (indexed (λ i n. alias.InstanceExport kind.Module i n)) (u32_bytes i ⧺ text n) (alias.InstanceExport kind.Module i n) (λ rest. refl) (indexed_again (λ i n. alias.InstanceExport kind.Module i n) i n))
alias_again (alias.InstanceExport kind.Func i n) =
    prefixed (0x01 ∷ []) alias_at (λ rest. alias_at ((0x01 ∷ []) ++ rest)) (byte 0 ⧺ u32_bytes i ⧺ text n) (alias.InstanceExport kind.Func i n) (λ rest. refl) (led 0 (λ rest. alias_at ((0x01 ∷ []) ++ rest)) (indexed (λ i n. alias.InstanceExport kind.Func i n)) (u32_bytes i ⧺ text n) (alias.InstanceExport kind.Func i n) (λ rest. refl) (indexed_again (λ i n. alias.InstanceExport kind.Func i n) i n))
alias_again (alias.InstanceExport kind.Value i n) =
    prefixed (0x02 ∷ []) alias_at (λ rest. alias_at ((0x02 ∷ []) ++ rest)) (byte 0 ⧺ u32_bytes i ⧺ text n) (alias.InstanceExport kind.Value i n) (λ rest. refl) (led 0 (λ rest. alias_at ((0x02 ∷ []) ++ rest)) (indexed (λ i n. alias.InstanceExport kind.Value i n)) (u32_bytes i ⧺ text n) (alias.InstanceExport kind.Value i n) (λ rest. refl) (indexed_again (λ i n. alias.InstanceExport kind.Value i n) i n))
alias_again (alias.InstanceExport kind.Ty i n) =
    prefixed (0x03 ∷ []) alias_at (λ rest. alias_at ((0x03 ∷ []) ++ rest)) (byte 0 ⧺ u32_bytes i ⧺ text n) (alias.InstanceExport kind.Ty i n) (λ rest. refl) (led 0 (λ rest. alias_at ((0x03 ∷ []) ++ rest)) (indexed (λ i n. alias.InstanceExport kind.Ty i n)) (u32_bytes i ⧺ text n) (alias.InstanceExport kind.Ty i n) (λ rest. refl) (indexed_again (λ i n. alias.InstanceExport kind.Ty i n) i n))
alias_again (alias.InstanceExport kind.Component i n) =
    prefixed (0x04 ∷ []) alias_at (λ rest. alias_at ((0x04 ∷ []) ++ rest)) (byte 0 ⧺ u32_bytes i ⧺ text n) (alias.InstanceExport kind.Component i n) (λ rest. refl) (led 0 (λ rest. alias_at ((0x04 ∷ []) ++ rest)) (indexed (λ i n. alias.InstanceExport kind.Component i n)) (u32_bytes i ⧺ text n) (alias.InstanceExport kind.Component i n) (λ rest. refl) (indexed_again (λ i n. alias.InstanceExport kind.Component i n) i n))
alias_again (alias.InstanceExport kind.Instance i n) =
    prefixed (0x05 ∷ []) alias_at (λ rest. alias_at ((0x05 ∷ []) ++ rest)) (byte 0 ⧺ u32_bytes i ⧺ text n) (alias.InstanceExport kind.Instance i n) (λ rest. refl) (led 0 (λ rest. alias_at ((0x05 ∷ []) ++ rest)) (indexed (λ i n. alias.InstanceExport kind.Instance i n)) (u32_bytes i ⧺ text n) (alias.InstanceExport kind.Instance i n) (λ rest. refl) (indexed_again (λ i n. alias.InstanceExport kind.Instance i n) i n))
alias_again (alias.CoreInstanceExport code.Func i n) =
    led 0 alias_at (λ rest. alias_at (0 ∷ rest)) (byte 0 ⧺ byte 1 ⧺ u32_bytes i ⧺ text n) (alias.CoreInstanceExport code.Func i n) (λ rest. refl) (led 0 (λ rest. alias_at (0 ∷ rest)) (λ rest. alias_at (0 ∷ 0 ∷ rest)) (byte 1 ⧺ u32_bytes i ⧺ text n) (alias.CoreInstanceExport code.Func i n) (λ rest. refl) (led 1 (λ rest. alias_at (0 ∷ 0 ∷ rest)) (indexed (λ i n. alias.CoreInstanceExport code.Func i n)) (u32_bytes i ⧺ text n) (alias.CoreInstanceExport code.Func i n) (λ rest. refl) (indexed_again (λ i n. alias.CoreInstanceExport code.Func i n) i n)))
alias_again (alias.CoreInstanceExport code.Table i n) =
    led 0 alias_at (λ rest. alias_at (0 ∷ rest)) (byte 1 ⧺ byte 1 ⧺ u32_bytes i ⧺ text n) (alias.CoreInstanceExport code.Table i n) (λ rest. refl) (led 1 (λ rest. alias_at (0 ∷ rest)) (λ rest. alias_at (0 ∷ 1 ∷ rest)) (byte 1 ⧺ u32_bytes i ⧺ text n) (alias.CoreInstanceExport code.Table i n) (λ rest. refl) (led 1 (λ rest. alias_at (0 ∷ 1 ∷ rest)) (indexed (λ i n. alias.CoreInstanceExport code.Table i n)) (u32_bytes i ⧺ text n) (alias.CoreInstanceExport code.Table i n) (λ rest. refl) (indexed_again (λ i n. alias.CoreInstanceExport code.Table i n) i n)))
alias_again (alias.CoreInstanceExport code.Memory i n) =
    led 0 alias_at (λ rest. alias_at (0 ∷ rest)) (byte 2 ⧺ byte 1 ⧺ u32_bytes i ⧺ text n) (alias.CoreInstanceExport code.Memory i n) (λ rest. refl) (led 2 (λ rest. alias_at (0 ∷ rest)) (λ rest. alias_at (0 ∷ 2 ∷ rest)) (byte 1 ⧺ u32_bytes i ⧺ text n) (alias.CoreInstanceExport code.Memory i n) (λ rest. refl) (led 1 (λ rest. alias_at (0 ∷ 2 ∷ rest)) (indexed (λ i n. alias.CoreInstanceExport code.Memory i n)) (u32_bytes i ⧺ text n) (alias.CoreInstanceExport code.Memory i n) (λ rest. refl) (indexed_again (λ i n. alias.CoreInstanceExport code.Memory i n) i n)))
alias_again (alias.CoreInstanceExport code.Global i n) =
    led 0 alias_at (λ rest. alias_at (0 ∷ rest)) (byte 3 ⧺ byte 1 ⧺ u32_bytes i ⧺ text n) (alias.CoreInstanceExport code.Global i n) (λ rest. refl) (led 3 (λ rest. alias_at (0 ∷ rest)) (λ rest. alias_at (0 ∷ 3 ∷ rest)) (byte 1 ⧺ u32_bytes i ⧺ text n) (alias.CoreInstanceExport code.Global i n) (λ rest. refl) (led 1 (λ rest. alias_at (0 ∷ 3 ∷ rest)) (indexed (λ i n. alias.CoreInstanceExport code.Global i n)) (u32_bytes i ⧺ text n) (alias.CoreInstanceExport code.Global i n) (λ rest. refl) (indexed_again (λ i n. alias.CoreInstanceExport code.Global i n) i n)))
alias_again (alias.CoreInstanceExport code.Tag i n) =
    led 0 alias_at (λ rest. alias_at (0 ∷ rest)) (byte 4 ⧺ byte 1 ⧺ u32_bytes i ⧺ text n) (alias.CoreInstanceExport code.Tag i n) (λ rest. refl) (led 4 (λ rest. alias_at (0 ∷ rest)) (λ rest. alias_at (0 ∷ 4 ∷ rest)) (byte 1 ⧺ u32_bytes i ⧺ text n) (alias.CoreInstanceExport code.Tag i n) (λ rest. refl) (led 1 (λ rest. alias_at (0 ∷ 4 ∷ rest)) (indexed (λ i n. alias.CoreInstanceExport code.Tag i n)) (u32_bytes i ⧺ text n) (alias.CoreInstanceExport code.Tag i n) (λ rest. refl) (indexed_again (λ i n. alias.CoreInstanceExport code.Tag i n) i n)))
alias_again (alias.Outer outer.CoreType n i) =
    prefixed (0x00 ∷ 0x10 ∷ []) alias_at (λ rest. alias_at ((0x00 ∷ 0x10 ∷ []) ++ rest)) (byte 2 ⧺ u32_bytes n ⧺ u32_bytes i) (alias.Outer outer.CoreType n i) (λ rest. refl) (led 2 (λ rest. alias_at ((0x00 ∷ 0x10 ∷ []) ++ rest)) (of_two u32_at u32_at (λ n i. alias.Outer outer.CoreType n i)) (u32_bytes n ⧺ u32_bytes i) (alias.Outer outer.CoreType n i) (λ rest. refl) (made_of_two u32_at u32_at (λ n i. alias.Outer outer.CoreType n i) (u32_bytes n) (u32_bytes i) n i (u32_again n) (u32_again i)))
alias_again (alias.Outer outer.CoreModule n i) =
    prefixed (0x00 ∷ 0x11 ∷ []) alias_at (λ rest. alias_at ((0x00 ∷ 0x11 ∷ []) ++ rest)) (byte 2 ⧺ u32_bytes n ⧺ u32_bytes i) (alias.Outer outer.CoreModule n i) (λ rest. refl) (led 2 (λ rest. alias_at ((0x00 ∷ 0x11 ∷ []) ++ rest)) (of_two u32_at u32_at (λ n i. alias.Outer outer.CoreModule n i)) (u32_bytes n ⧺ u32_bytes i) (alias.Outer outer.CoreModule n i) (λ rest. refl) (made_of_two u32_at u32_at (λ n i. alias.Outer outer.CoreModule n i) (u32_bytes n) (u32_bytes i) n i (u32_again n) (u32_again i)))
alias_again (alias.Outer outer.Ty n i) =
    prefixed (0x03 ∷ []) alias_at (λ rest. alias_at ((0x03 ∷ []) ++ rest)) (byte 2 ⧺ u32_bytes n ⧺ u32_bytes i) (alias.Outer outer.Ty n i) (λ rest. refl) (led 2 (λ rest. alias_at ((0x03 ∷ []) ++ rest)) (of_two u32_at u32_at (λ n i. alias.Outer outer.Ty n i)) (u32_bytes n ⧺ u32_bytes i) (alias.Outer outer.Ty n i) (λ rest. refl) (made_of_two u32_at u32_at (λ n i. alias.Outer outer.Ty n i) (u32_bytes n) (u32_bytes i) n i (u32_again n) (u32_again i)))
alias_again (alias.Outer outer.Component n i) =
    prefixed (0x04 ∷ []) alias_at (λ rest. alias_at ((0x04 ∷ []) ++ rest)) (byte 2 ⧺ u32_bytes n ⧺ u32_bytes i) (alias.Outer outer.Component n i) (λ rest. refl) (led 2 (λ rest. alias_at ((0x04 ∷ []) ++ rest)) (of_two u32_at u32_at (λ n i. alias.Outer outer.Component n i)) (u32_bytes n ⧺ u32_bytes i) (alias.Outer outer.Component n i) (λ rest. refl) (made_of_two u32_at u32_at (λ n i. alias.Outer outer.Component n i) (u32_bytes n) (u32_bytes i) n i (u32_again n) (u32_again i)))
