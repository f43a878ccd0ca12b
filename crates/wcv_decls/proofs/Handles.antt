-- Handles, and types that are made of value types, as nodes of defined types.
use Rattle.std.proofs.Common.{◌≡◌, ℕ, [], ◌∷◌, ◌++◌, refl, sym, ◌∙◌, ap, subst, Some, None, inr}
use Rattle.std.specs.Prelude.{All, Option, slice_get}
use Rattle.std.specs.Option.{option_map, option_and_then}
use Rattle.std.proofs.lemmas.List.Elements.{All-nil, All-push}
use Rattle.wcv_syntax.specs.declared.component_type.ComponentDefinedType.TheVariants as written
use Rattle.wcv_syntax.specs.Model.{Defined_form, simple}
use Rattle.wcv_types.specs.Arena.{Arena}
use Rattle.wcv_types.specs.Standing.{Stands}
use Rattle.wcv_types.specs.Tree.{Sort, is_resource, here}
use Rattle.wcv_types.specs.Unfold.{Slots, defined_slots, parts_in, slot_tree, reference, trees}
use Rattle.wcv_types.specs.declared.ids.AliasableResourceId.{AliasableResourceId}
use Rattle.wcv_types.specs.declared.ids.ComponentAnyTypeId.TheVariants as any
use Rattle.wcv_types.specs.declared.ids.Part.TheVariants as part_id
use Rattle.wcv_types.specs.declared.shapes.ComponentDefinedType.{ComponentDefinedType}
use Rattle.wcv_types.specs.declared.shapes.ComponentDefinedType.TheVariants as d
use Rattle.wcv_types.proofs.Forming.{slots_of_values}
use Rattle.wcv_core.specs.Refusal.{error_kind}
use Rattle.wcv_core.specs.declared.error.Error.{Error}
use Rattle.wcv_lower.specs.Checks.{Checks, Cause, IsFree, missing_of}
use Rattle.wcv_lower.proofs.Causes.{cause_left, free_both}
use Rattle.wcv_spaces.specs.Promises.{CausedBy, MemoryOrCausedBy}
use Rattle.wcv_lower.specs.Defined.{written_parts, handle_index, made_of}
use Rattle.wcv_lower.specs.Mapped.{map_parts}
use Rattle.wcv_lower.specs.Readers.{if_sort}
use Rattle.wcv_lower.specs.Trees.{Type_tree, Tree_context, tree_reader}
use Rattle.wcv_lower.specs.Values.{resource_at, sort_checks}
use Rattle.wcv_spaces.specs.Contents.{Contents, context_of, StateStands}
use Rattle.wcv_spaces.specs.Looking.{any_sort}
use Rattle.wcv_spaces.proofs.Found.{type_is, stands_at, sorts_same}
use Rattle.wcv_lower.specs.Context.{in_types}
use Rattle.wcv_decls.specs.Resolved.{IsShape, IsValueShape}

-- a type that is made of value types is formed of them
pub value_shape : (a : Arena) (c : Tree_context) (x : Defined_form) (s : ComponentDefinedType) → handle_index x ≡ None → IsValueShape a c x s → IsShape a c x s
value_shape a c x s h w =
    let slots : defined_slots s ≡ _ = slots_of_values s w.values in
    record {
      formed = w.formed;
      stands = subst (λ (ss : Slots). All (Stands a) (parts_in ss)) (sym slots) w.slots.stands;
      parts = ap (λ o. made_of c o (written_parts x)) h ∙ w.slots.trees ∙ ap (λ (ss : Slots). Some (map_parts (slot_tree (trees a.nodes)) ss)) (sym slots);
    }

module _ (a : Arena) (s : Contents) (h : StateStands a s) (k : ℕ) (r : AliasableResourceId) (e : slice_get s.spaces.types k ≡ Some (any.Resource r)) where
  resource_found : resource_at (context_of a s) k ≡ Some (reference r)
  resource_found = ap (option_and_then (if_sort tree_reader is_resource)) (type_is a s h k (any.Resource r) e)

  resource_stands : All (Stands a) (part_id.Resource r ∷ [])
  resource_stands = All-push (Stands a) [] (part_id.Resource r) (All-nil _) (stands_at a s h in_types k (any.Resource r) e).0

  pub own_shape : IsShape a (context_of a s) (simple (written.Own k)) (d.Own r)
  own_shape = record { formed = refl; stands = resource_stands; parts = ap (option_map (λ (t : Type_tree). (here, t) ∷ [])) resource_found }

  pub borrow_shape : IsShape a (context_of a s) (simple (written.Borrow k)) (d.Borrow r)
  borrow_shape = record { formed = refl; stands = resource_stands; parts = ap (option_map (λ (t : Type_tree). (here, t) ∷ [])) resource_found }

  pub resource_free : IsFree (sort_checks is_resource (context_of a s) k)
  resource_free = subst (λ (o : Option Sort). IsFree (missing_of is_resource o)) (sym (sorts_same a s h k ∙ ap (option_map any_sort) e)) (refl, (refl, tt))

  -- what is looked up has no other cause
  pub resource_looked_free : IsFree (sort_checks is_resource (context_of a s) k ++ [])
  resource_looked_free = free_both (sort_checks is_resource (context_of a s) k) [] resource_free tt

pub resource_caused : {M : Type 0} (a : Arena) (s : Contents) → StateStands a s → (k offset : ℕ) (e : Error M) → CausedBy (missing_of is_resource (option_map any_sort (slice_get s.spaces.types k))) offset e → MemoryOrCausedBy (sort_checks is_resource (context_of a s) k ++ []) offset e
resource_caused a s h k offset e t =
    let cs : Checks = sort_checks is_resource (context_of a s) k in
    inr (cause_left cs [] (error_kind e) (subst (λ (o : Option Sort). Cause (missing_of is_resource o) (error_kind e)) (sym (sorts_same a s h k)) t.0), t.1)
