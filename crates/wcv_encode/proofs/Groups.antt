-- The bytes of a group of types by its length.
use Rattle.std.proofs.Common.{◌≡◌, ◌≢◌, Some, List, [], ◌∷◌, length, get_or, map, cond, refl, sym, ap, arith}
use Rattle.wcv_core.specs.CoreForm.{sub_form}
use Rattle.wcv_core.specs.declared.core_types.SubType.{SubType}
use Rattle.wcv_encode.specs.Bytes.{◌⧺◌, byte, each, vec}
use Rattle.wcv_encode.specs.CoreTypes.{group_bytes, sub_bytes}
use Rattle.wcv_encode.specs.Modules.{open_mark, module_decl_bytes}
use Rattle.wcv_syntax.specs.declared.core_section.ModuleTypeDeclaration.{ModuleTypeDeclaration}
use Rattle.wcv_syntax.specs.View.{module_decl_view}
use Rattle.wcv_encode.proofs.Joins.{join_one}
use Rattle.wcv_encode.proofs.Lists.{vec_map}

pub group_of_one : (ts : List SubType) → length ts ≡ 1 → group_bytes (map sub_form ts) ≡ each (λ s. sub_bytes (sub_form s)) ts
unfolding each group_bytes
group_of_one [] h = absurd (omega arith)
group_of_one (t ∷ []) h = sym (join_one (sub_bytes (sub_form t)))
group_of_one (t ∷ u ∷ ts) h = absurd (omega arith)

pub group_of_more : (ts : List SubType) → length ts ≢ 1 → group_bytes (map sub_form ts) ≡ byte 0x4E ⧺ vec (λ s. sub_bytes (sub_form s)) ts
unfolding group_bytes
group_of_more [] h = sym (ap (λ b. byte 0x4E ⧺ b) (vec_map sub_bytes sub_form []))
group_of_more (t ∷ []) h = absurd (h refl)
group_of_more (t ∷ u ∷ ts) h = sym (ap (λ b. byte 0x4E ⧺ b) (vec_map sub_bytes sub_form (t ∷ u ∷ ts)))

pub open_mark_of_one : (ts : List SubType) (t : SubType) → length ts ≡ 1 → t ≡ get_or ts 0 t → open_mark (map sub_form ts) ≡ cond t.is_final (Some []) (byte 0)
unfolding open_mark
open_mark_of_one [] t h e = absurd (omega arith)
open_mark_of_one (s ∷ []) t h e = ap (λ (x : SubType). cond x.is_final (Some []) (byte 0)) (sym e)
open_mark_of_one (s ∷ u ∷ ts) t h e = absurd (omega arith)

pub open_mark_of_more : (ts : List SubType) → length ts ≢ 1 → open_mark (map sub_form ts) ≡ Some []
unfolding open_mark
open_mark_of_more [] h = refl
open_mark_of_more (t ∷ []) h = absurd (h refl)
open_mark_of_more (t ∷ u ∷ ts) h = refl

pub ruleset open_marks = (open_mark_of_one, open_mark_of_more)

pub module_decls : (ds : List ModuleTypeDeclaration) → vec module_decl_bytes (map module_decl_view ds) ≡ vec (λ d. module_decl_bytes (module_decl_view d)) ds
module_decls ds = sym (vec_map module_decl_bytes module_decl_view ds)

pub ruleset groups = (group_of_one, group_of_more)
