-- What is looked up by ids for a row is what the rules say of the trees.
use Rattle.std.proofs.Common.{◌≡◌, ℕ, List, [], ◌∷◌, ◌++◌, map, refl, ◌∙◌, ap, Bool, false, cond, Some, None, inl, inr}
use Rattle.std.specs.Prelude.{Option, slice_get, eqb}
use Rattle.std.specs.Map.{lookup}
use Rattle.std.specs.Option.{option_map, option_and_then}
use Rattle.std.proofs.lemmas.Bool.{false≢true}
use Rattle.std.proofs.lemmas.Option.{slice_get-map}
use Rattle.wcv_core.specs.Checks.{CausedBy}
use Rattle.wcv_core.specs.CoreWritten.{Core_entry}
use Rattle.wcv_core.specs.Names.{number}
use Rattle.wcv_core.specs.declared.core_types.MemoryType.{MemoryType}
use Rattle.wcv_core.specs.declared.core_types.ValType.{ValType}
use Rattle.wcv_core.specs.declared.error.Error.{Error}
use Rattle.wcv_core.specs.declared.error.ErrorKind.{ErrorKind}
use Rattle.wcv_core.specs.declared.error.ErrorKind.TheVariants as error
use Rattle.wcv_core.specs.Refusal.{error_kind}
use Rattle.wcv_syntax.specs.declared.component_type.ComponentValType.{ComponentValType as Written}
use Rattle.wcv_syntax.specs.declared.component_type.ComponentValType.TheVariants as written
use Rattle.wcv_types.specs.Arena.{Arena}
use Rattle.wcv_types.specs.Resources.{is_free}
use Rattle.wcv_types.specs.Sets.{same_resource}
use Rattle.wcv_types.specs.Tree.{Sort, is_resource, is_value, sort}
use Rattle.wcv_types.specs.Unfold.{Type_tree, any_part, option_slot, slot_tree, tree_at, trees, reference}
use Rattle.wcv_types.specs.declared.ids.AliasableResourceId.{AliasableResourceId}
use Rattle.wcv_types.specs.declared.ids.ComponentAnyTypeId.{ComponentAnyTypeId}
use Rattle.wcv_types.specs.declared.ids.ComponentAnyTypeId.TheVariants as any
use Rattle.wcv_types.specs.declared.ids.ComponentCoreTypeId.{ComponentCoreTypeId}
use Rattle.wcv_types.specs.declared.ids.ComponentCoreTypeId.TheVariants as core_type
use Rattle.wcv_types.specs.declared.ids.Part.TheVariants as part
use Rattle.wcv_types.specs.declared.ids.ResourceId.{ResourceId}
use Rattle.wcv_types.proofs.Copying.{eqb-sym}
use Rattle.wcv_types.proofs.Unfolding.{sort_stands}
use Rattle.wcv_flat.specs.Rows.{Ask}
use Rattle.wcv_flat.specs.Rows as row
use Rattle.wcv_flat.specs.declared.rows.RowFacts.{RowFacts}
use Rattle.wcv_lower.specs.CanonOptions.{memory_pointers, has_64_bits, size_of}
use Rattle.wcv_lower.specs.Canons.{core_id, core_id_at, element_size, rep_among, local_rep, start_param, memory_alone, told_by, all_told}
use Rattle.wcv_lower.specs.Checks.{Cause, if_found, is_none, missing, missing_of, same_sort}
use Rattle.wcv_lower.specs.Context.{in_types}
use Rattle.wcv_lower.specs.CoreInstances.{test_found}
use Rattle.wcv_lower.specs.Readers.{if_sort}
use Rattle.wcv_lower.specs.Trees.{Tree_context, tree_reader}
use Rattle.wcv_lower.specs.Values.{option_entry}
use Rattle.wcv_spaces.specs.Contents.{Contents, IdStands, StateStands, context_of, stack_of, core_entry_of, defined_resource, id_tree}
use Rattle.wcv_spaces.specs.Looking.{any_sort, any_resource, rep_of, local_rep_checks}
use Rattle.wcv_state.proofs.CoreTypes.{entries_same}
use Rattle.wcv_spaces.proofs.Found.{get_same, stands_at}
use Rattle.wcv_canon.specs.Facts.{rep_at, pointers_at, sub_id, id_at, told_in, all_told_in, defined_value, result_at}
use Rattle.wcv_canon.proofs.Found.{memory_here, table_here}
use Rattle.wcv_canon.proofs.OptionLists.{or_false}

-- ## Where nothing is found

pub not_there : {M A : Type 0} (o : Option A) (offset : ℕ) (e : Error M) → CausedBy (missing o) offset e → o ≡ None
not_there None offset e c = refl
not_there (Some x) offset e c = go c.0
  where
    go : Cause (missing (Some x)) (error_kind e) → Some x ≡ None
    go (inl h) = absurd (false≢true h.1)
    go (inr h) = absurd h

no_rep : (o : Option ComponentAnyTypeId) (ds : List (ResourceId × Option ValType)) (k : ErrorKind) →
    Cause (missing_of is_resource (option_map any_sort o) ++ if_found (λ r. (error.ResourceScope, is_none (rep_of ds r)) ∷ []) (option_and_then any_resource o)) k →
    option_map (λ (p : ResourceId × ValType). p.1) (option_and_then (λ r. option_map (λ v. (r, v)) (rep_of ds r)) (option_and_then any_resource o)) ≡ None
no_rep None ds k c = refl
no_rep (Some (any.Resource r)) ds k c = go (rep_of ds r.resource) c
  where
    go : (v : Option ValType) → Cause ((error.OutOfBounds, false) ∷ (error.WrongSort, false) ∷ (error.ResourceScope, is_none v) ∷ []) k → option_map (λ (p : ResourceId × ValType). p.1) (option_map (λ w. (r.resource, w)) v) ≡ None
    go None c = refl
    go (Some w) (inl h) = absurd (false≢true h.1)
    go (Some w) (inr (inl h)) = absurd (false≢true h.1)
    go (Some w) (inr (inr (inl h))) = absurd (false≢true h.1)
    go (Some w) (inr (inr (inr h))) = absurd h
no_rep (Some (any.Defined i)) ds k c = refl
no_rep (Some (any.Func i)) ds k c = refl
no_rep (Some (any.Instance i)) ds k c = refl
no_rep (Some (any.Component i)) ds k c = refl

pub rep_gone : {M : Type 0} (s : Contents) (k offset : ℕ) (e : Error M) → CausedBy (local_rep_checks s.spaces.types s.defined_resources k) offset e → rep_at s k ≡ None
rep_gone s k offset e c = no_rep (slice_get s.spaces.types k) s.defined_resources (error_kind e) c.0

-- ## Core items

module _ (a : Arena) (s : Contents) where
  pointers_here : (m : ℕ) → memory_pointers (context_of a s) m ≡ pointers_at s m
  pointers_here m = ap (λ (o : Option MemoryType). size_of (test_found has_64_bits o)) (memory_here a s m)

-- ## Types

among : (r : AliasableResourceId) (ds : List (ResourceId × Option ValType)) → lookup (λ n. is_free n (reference r)) (map defined_resource ds) ≡ lookup (same_resource r.resource) ds
among r [] = refl
among r (d ∷ ds) =
    let e : is_free (number d.0.index) (reference r) ≡ same_resource r.resource d.0 = or_false (eqb d.0.index r.resource.index) ∙ eqb-sym d.0.index r.resource.index in
    λ j. cond (e j) (Some d.1) (among r ds j)

module _ (a : Arena) (s : Contents) (h : StateStands a s) where
  -- a type of another sort is not found
  other : {A : Type 0} (z : Sort) (t : Type_tree) (f : Type_tree → Option A) → same_sort z (sort t) ≡ false → option_and_then f (if_sort tree_reader z t) ≡ None
  other z t f e = ap (λ (b : Bool). option_and_then f (cond b (Some t) None)) e

  pub rep_here : (k : ℕ) → local_rep (context_of a s) k ≡ rep_at s k
  rep_here k = ap (λ (o : Option Type_tree). option_and_then found (option_and_then (if_sort tree_reader is_resource) (option_map tree_reader.referenced o))) (get_same a s h in_types k) ∙ go (slice_get s.spaces.types k) (λ x e. stands_at a s h in_types k x e)
    where
      found : Type_tree → Option ValType
      found = rep_among tree_reader (map defined_resource s.defined_resources)

      own : (r : ResourceId) (o : Option ValType) → o ≡ option_map (λ (p : ResourceId × ValType). p.1) (option_map (λ v. (r, v)) o)
      own r None = refl
      own r (Some v) = refl

      go : (o : Option ComponentAnyTypeId) → ((x : ComponentAnyTypeId) → o ≡ Some x → IdStands a in_types x) →
          option_and_then found (option_and_then (if_sort tree_reader is_resource) (option_map tree_reader.referenced (option_map (id_tree (trees a.nodes) in_types) o)))
          ≡ option_map (λ (p : ResourceId × ValType). p.1) (option_and_then (λ r. option_map (λ v. (r, v)) (rep_of s.defined_resources r)) (option_and_then any_resource o))
      go None p = refl
      go (Some (any.Resource r)) p = ap (option_and_then (λ (v : Option ValType). v)) (among r s.defined_resources) ∙ own r.resource (rep_of s.defined_resources r.resource)
      go (Some (any.Defined i)) p = other is_resource (tree_at a (part.Defined i)) found (ap (same_sort is_resource) (sort_stands a (part.Defined i) (p (any.Defined i) refl).0))
      go (Some (any.Func i)) p = other is_resource (tree_at a (part.Func i)) found (ap (same_sort is_resource) (sort_stands a (part.Func i) (p (any.Func i) refl).0))
      go (Some (any.Instance i)) p = other is_resource (tree_at a (part.Instance i)) found (ap (same_sort is_resource) (sort_stands a (part.Instance i) (p (any.Instance i) refl).0))
      go (Some (any.Component i)) p = other is_resource (tree_at a (part.Component i)) found (ap (same_sort is_resource) (sort_stands a (part.Component i) (p (any.Component i) refl).0))

  pub id_here : (t : ℕ) → core_id_at (context_of a s) t ≡ id_at s t
  id_here t =
      ap (λ (es : List Core_entry). option_and_then core_id (slice_get es t)) (entries_same a s h) ∙ ap (option_and_then core_id) (slice_get-map core_entry_of s.spaces.core_types t) ∙ go (slice_get s.spaces.core_types t)
    where
      go : (o : Option ComponentCoreTypeId) → option_and_then core_id (option_map core_entry_of o) ≡ option_and_then sub_id o
      go None = refl
      go (Some (core_type.Sub i)) = refl
      go (Some (core_type.Module i)) = refl

  -- the type of the result of a task
  pub result_here : (r : Option Written) → option_entry (context_of a s) r ≡ option_map (λ v. slot_tree (trees a.nodes) (option_slot v)) (result_at s r)
  result_here None = refl
  result_here (Some (written.Primitive p)) = refl
  result_here (Some (written.Ty k)) = ap (λ (o : Option Type_tree). option_and_then (if_sort tree_reader is_value) (option_map tree_reader.referenced o)) (get_same a s h in_types k) ∙ go (slice_get s.spaces.types k) (λ x e. stands_at a s h in_types k x e)
    where
      found : ComponentAnyTypeId → Option Type_tree
      found x = if_sort tree_reader is_value (tree_at a (any_part x))

      none : (x : ComponentAnyTypeId) → same_sort is_value (sort (tree_at a (any_part x))) ≡ false → found x ≡ None
      none x e = ap (λ (b : Bool). cond b (Some (tree_at a (any_part x))) None) e

      go : (o : Option ComponentAnyTypeId) → ((x : ComponentAnyTypeId) → o ≡ Some x → IdStands a in_types x) →
          option_and_then (if_sort tree_reader is_value) (option_map tree_reader.referenced (option_map (id_tree (trees a.nodes) in_types) o))
          ≡ option_map (λ v. slot_tree (trees a.nodes) (option_slot v)) (option_map (λ x. Some x) (option_and_then defined_value o))
      go None p = refl
      go (Some (any.Resource r)) p = refl
      go (Some (any.Defined i)) p = ap (λ (z : Sort). cond (same_sort is_value z) (Some (tree_at a (part.Defined i))) None) (sort_stands a (part.Defined i) (p (any.Defined i) refl).0)
      go (Some (any.Func i)) p = none (any.Func i) (ap (same_sort is_value) (sort_stands a (part.Func i) (p (any.Func i) refl).0))
      go (Some (any.Instance i)) p = none (any.Instance i) (ap (same_sort is_value) (sort_stands a (part.Instance i) (p (any.Instance i) refl).0))
      go (Some (any.Component i)) p = none (any.Component i) (ap (same_sort is_value) (sort_stands a (part.Component i) (p (any.Component i) refl).0))

  -- ## What operands say

  told_here : (outer : List Tree_context) (q : Ask) (x : RowFacts) → told_by (stack_of a s outer) q x ≡ told_in a s q x
  told_here outer (row.local_resource_at k) x = λ j. record x { rep = rep_here k j }
  told_here outer (row.memory_at m) x = λ j. record x { options = Some (memory_alone m (pointers_here a s m j)) }
  told_here outer (row.spawn_type_at t) x = λ j. record x { start = id_here t j }
  told_here outer (row.start_type_at t) x = λ j. record x { start_param = option_and_then (start_param a.core) (id_here t j) }
  told_here outer (row.start_table_at n) x = λ j. record x { table_index = option_map element_size (table_here a s n j) }
  told_here outer q x = refl

  pub all_told_here : (outer : List Tree_context) (qs : List Ask) (x : RowFacts) → all_told (stack_of a s outer) qs x ≡ all_told_in a s qs x
  all_told_here outer [] x = refl
  all_told_here outer (q ∷ qs) x = ap (told_by (stack_of a s outer) q) (all_told_here outer qs x) ∙ told_here outer q (all_told_in a s qs x)
