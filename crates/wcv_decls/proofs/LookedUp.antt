-- Value types that were looked up.
use Rattle.std.proofs.Common.{◌≡◌, ℕ, refl, sym, ◌∙◌, ap, subst, cond, Some, None, inr}
use Rattle.std.specs.Prelude.{slice_get, Option}
use Rattle.std.specs.Option.{option_map, option_and_then}
use Rattle.wcv_core.specs.declared.error.Error.{Error}
use Rattle.wcv_core.specs.declared.features.WasmFeatures.{WasmFeatures}
use Rattle.wcv_core.specs.declared.primitive.PrimitiveValType.{PrimitiveValType}
use Rattle.wcv_syntax.specs.declared.component_type.ComponentValType.TheVariants as w
use Rattle.wcv_types.specs.Arena.{Arena}
use Rattle.wcv_types.specs.Standing.{Stands}
use Rattle.wcv_types.specs.Tree.{Sort, is_value}
use Rattle.wcv_types.specs.Unfold.{trees, part_tree}
use Rattle.wcv_types.specs.declared.ids.ComponentAnyTypeId.TheVariants as any
use Rattle.wcv_types.specs.declared.ids.ComponentDefinedTypeId.{ComponentDefinedTypeId}
use Rattle.wcv_types.specs.declared.ids.Part.TheVariants as part
use Rattle.wcv_types.specs.declared.shapes.ComponentValType.TheVariants as v
use Rattle.wcv_types.proofs.Unfolding.{sort_stands}
use Rattle.wcv_lower.specs.Checks.{IsFree, missing_of, same_sort}
use Rattle.wcv_lower.specs.Context.{in_types}
use Rattle.wcv_lower.specs.Readers.{if_sort}
use Rattle.wcv_lower.specs.Trees.{Type_tree, Tree_context, tree_reader}
use Rattle.wcv_lower.specs.Values.{type_at, option_checks}
use Rattle.wcv_spaces.specs.Contents.{Contents, context_of, id_tree, StateStands}
use Rattle.wcv_spaces.specs.Looking.{any_sort}
use Rattle.wcv_spaces.specs.Promises.{CausedBy, MemoryOrCausedBy}
use Rattle.wcv_spaces.proofs.Found.{get_same, stands_at, sorts_same}
use Rattle.wcv_decls.specs.Resolved.{IsOption}

pub nothing_is : (a : Arena) (c : Tree_context) → IsOption a c None None
nothing_is a c = record { stands = tt; tree = refl }

pub primitive_is : (a : Arena) (c : Tree_context) (p : PrimitiveValType) → IsOption a c (Some (w.Primitive p)) (Some (v.Primitive p))
primitive_is a c p = record { stands = tt; tree = refl }

pub index_is : (a : Arena) (s : Contents) (k : ℕ) (i : ComponentDefinedTypeId) → StateStands a s → slice_get s.spaces.types k ≡ Some (any.Defined i) → IsOption a (context_of a s) (Some (w.Ty k)) (Some (v.Ty i))
index_is a s k i h e =
    let p : Stands a (part.Defined i) = (stands_at a s h in_types k (any.Defined i) e).0 in
    let t : Type_tree = part_tree (trees a.nodes) (part.Defined i) in
    let found : type_at (context_of a s) k ≡ Some t = ap (option_map tree_reader.referenced) (get_same a s h in_types k ∙ ap (option_map (id_tree (trees a.nodes) in_types)) e) in
    record {
      stands = p;
      tree = ap (option_and_then (if_sort tree_reader is_value)) found ∙ ap (λ (r : Sort). cond (same_sort is_value r) (Some t) None) (sort_stands a (part.Defined i) p);
    }

pub index_free : (fs : WasmFeatures) (a : Arena) (s : Contents) (k : ℕ) (i : ComponentDefinedTypeId) → StateStands a s → slice_get s.spaces.types k ≡ Some (any.Defined i) → IsFree (option_checks fs (context_of a s) (Some (w.Ty k)))
index_free fs a s k i h e =
    subst (λ (o : Option Sort). IsFree (missing_of is_value o)) (sym (sorts_same a s h k ∙ ap (option_map any_sort) e)) (refl, (refl, tt))

pub index_caused : {M : Type 0} (fs : WasmFeatures) (a : Arena) (s : Contents) (k offset : ℕ) (e : Error M) → StateStands a s → CausedBy (missing_of is_value (option_map any_sort (slice_get s.spaces.types k))) offset e →
    MemoryOrCausedBy (option_checks fs (context_of a s) (Some (w.Ty k))) offset e
index_caused fs a s k offset e h t = inr (subst (λ (o : Option Sort). CausedBy (missing_of is_value o) offset e) (sym (sorts_same a s h k)) t)
