-- What is looked up by ids is what is looked up in the context.
use Rattle.std.proofs.Common.{◌≡◌, ℕ, ◌<◌, List, [], ◌∷◌, ◌++◌, map, refl, sym, ◌∙◌, ap, subst, Bool, true, false, not, ◌||◌, cond, eqb, Some, None, inl, inr, ⊎_elim, get_or}
use Rattle.std.specs.Prelude.{Option, slice_get}
use Rattle.std.specs.Map.{lookup}
use Rattle.std.specs.Option.{option_map, option_and_then}
use Rattle.wcv_core.specs.CoreFeatures.{needs}
use Rattle.wcv_core.specs.CoreForm.{SubForm, Group, no_type}
use Rattle.wcv_core.specs.CoreGroups.{total, types_of}
use Rattle.wcv_core.specs.CoreMatching as table
use Rattle.wcv_core.specs.CoreWritten.{Core_entry, sub_entry, entry_checks, IsKnown}
use Rattle.wcv_core.specs.Refusal.{error_kind, error_offset}
use Rattle.wcv_core.specs.declared.core_types.CoreTypeId.{CoreTypeId}
use Rattle.wcv_core.specs.declared.core_types.EntityType.{EntityType}
use Rattle.wcv_core.specs.declared.core_types.EntityType.TheVariants as entity
use Rattle.wcv_core.specs.declared.core_types.MemoryType.{MemoryType}
use Rattle.wcv_core.specs.declared.core_types.TableType.{TableType}
use Rattle.wcv_core.specs.declared.core_types.ValType.{ValType}
use Rattle.wcv_core.specs.declared.error.Error.{Error}
use Rattle.wcv_core.specs.declared.error.ErrorKind.{ErrorKind}
use Rattle.wcv_core.specs.declared.error.ErrorKind.TheVariants as error
use Rattle.wcv_core.specs.declared.features.WasmFeatures.{WasmFeatures}
use Rattle.wcv_core.proofs.Causes.{cause_left, cause_right, cause_either}
use Rattle.wcv_syntax.specs.declared.core_section.ExternalKind.{ExternalKind}
use Rattle.wcv_syntax.specs.declared.core_section.ExternalKind.TheVariants as kind
use Rattle.wcv_syntax.specs.declared.component_type.ComponentValType.TheVariants as written
use Rattle.wcv_types.specs.Abi.{borrow, contains}
use Rattle.wcv_types.specs.Arena.{Arena}
use Rattle.wcv_types.specs.Resources.{is_free}
use Rattle.wcv_types.specs.Tree.{Sort, is_resource, is_value, sort}
use Rattle.wcv_types.specs.Unfold.{reference, tree_at, trees, unfolded}
use Rattle.wcv_types.specs.declared.arena.Node.TheVariants as n
use Rattle.wcv_types.specs.declared.ids.AliasableResourceId.{AliasableResourceId}
use Rattle.wcv_types.specs.declared.ids.ComponentAnyTypeId.{ComponentAnyTypeId}
use Rattle.wcv_types.specs.declared.ids.ComponentAnyTypeId.TheVariants as any
use Rattle.wcv_types.specs.declared.ids.ComponentDefinedTypeId.{ComponentDefinedTypeId}
use Rattle.wcv_types.specs.declared.ids.ComponentFuncTypeId.{ComponentFuncTypeId}
use Rattle.wcv_types.specs.declared.ids.Part.TheVariants as part
use Rattle.wcv_types.specs.declared.ids.ResourceId.{ResourceId}
use Rattle.wcv_types.specs.declared.shapes.ComponentFuncType.{ComponentFuncType}
use Rattle.wcv_types.specs.Sets.{same_resource}
use Rattle.wcv_types.proofs.Copying.{eqb-sym}
use Rattle.wcv_types.proofs.Unfolding.{sort_stands}
use Rattle.wcv_flat.specs.Rows as row
use Rattle.wcv_flat.specs.declared.options.PtrSize.TheVariants as ptr
use Rattle.wcv_lower.specs.CanonOptions.{as_memory, has_64_bits, size_of, memory_pointers, core_entity_at, memory_type_at, memory_rules, is_other_func}
use Rattle.wcv_lower.specs.Canons.{func_at, as_table, table_type_at, core_id, is_abroad, rep_among, is_spawned, is_start, is_func_table, is_spawn_table}
use Rattle.wcv_lower.specs.Checks.{Checks, Cause, IsFree, if_found, is_none, missing, missing_of, same_sort}
use Rattle.wcv_lower.specs.Context.{in_types, in_funcs}
use Rattle.wcv_lower.specs.CoreInstances.{core_item_at, test_found}
use Rattle.wcv_lower.specs.CoreItems.{core_entries}
use Rattle.wcv_lower.specs.Defined.{has_borrow}
use Rattle.wcv_lower.specs.Outlines.{outline, is_async_func}
use Rattle.wcv_lower.specs.Readers.{if_sort}
use Rattle.wcv_lower.specs.Trees.{Type_tree, Tree_context, tree_reader, referenced}
use Rattle.wcv_lower.specs.Types.{takes_and_gives}
use Rattle.wcv_core.specs.Features.{cm64}
use Rattle.wcv_lower.specs.Values.{type_at, type_of_sort, sort_checks}
use Rattle.wcv_spaces.specs.Contents.{Contents, IdStands, context_of, id_tree, defined_resource, core_entries_of, StateStands}
use Rattle.wcv_spaces.specs.Looking.{any_sort, any_resource, core_item_in, rep_of, resource_in, local_rep, local_rep_checks}
use Rattle.wcv_spaces.specs.Promises.{MemoryOrCausedBy}
use Rattle.wcv_spaces.proofs.Calls.{caused_more}
use Rattle.wcv_spaces.proofs.CoreItems.{item_tree, item_here, missing_mapped}
use Rattle.wcv_state.proofs.CoreTypes.{entries_same, entries_known}
use Rattle.wcv_spaces.proofs.Found.{get_same, stands_at, sorts_same, type_is}
use Rattle.wcv_spaces.proofs.Keeping.{all_at}
use Rattle.wcv_canon.specs.Operands.{asked}
use Rattle.wcv_canon.proofs.OptionLists.{or_false}

-- ## Core items

module _ (a : Arena) (s : Contents) where
  abbrev c : Tree_context
  c = context_of a s

  pub entity_here : (k : ExternalKind) (i : ℕ) → core_entity_at c k i ≡ core_item_in s.spaces k i
  entity_here k i = ap (option_and_then tree_reader.item) (item_here a s k i) ∙ go (core_item_in s.spaces k i)
    where
      go : (o : Option EntityType) → option_and_then tree_reader.item (option_map item_tree o) ≡ o
      go None = refl
      go (Some e) = refl

  missing_here : (k : ExternalKind) (i : ℕ) → missing (core_item_at c k i) ≡ missing (core_item_in s.spaces k i)
  missing_here k i = ap missing (item_here a s k i) ∙ missing_mapped item_tree (core_item_in s.spaces k i)

  pub memory_here : (i : ℕ) → memory_type_at c i ≡ slice_get s.spaces.core_memories i
  memory_here i = ap (option_and_then as_memory) (entity_here kind.Memory i) ∙ go (slice_get s.spaces.core_memories i)
    where
      go : (o : Option MemoryType) → option_and_then as_memory (option_map entity.Memory o) ≡ o
      go None = refl
      go (Some m) = refl

  pub table_here : (i : ℕ) → table_type_at c i ≡ slice_get s.spaces.core_tables i
  table_here i = ap (option_and_then as_table) (entity_here kind.Table i) ∙ go (slice_get s.spaces.core_tables i)
    where
      go : (o : Option TableType) → option_and_then as_table (option_map entity.Table o) ≡ o
      go None = refl
      go (Some t) = refl

  -- a memory that is looked up
  module _ (fs : WasmFeatures) (i : ℕ) where
    abbrev of_memory : Option MemoryType → Checks
    of_memory o = missing o ++ if_found (memory_rules fs) o

    pub memory_looked : missing (core_item_at c kind.Memory i) ++ if_found (memory_rules fs) (memory_type_at c i) ≡ of_memory (slice_get s.spaces.core_memories i)
    memory_looked =
        let e : missing (core_item_at c kind.Memory i) ≡ missing (slice_get s.spaces.core_memories i) = missing_here kind.Memory i ∙ missing_mapped entity.Memory (slice_get s.spaces.core_memories i) in
        λ j. e j ++ if_found (memory_rules fs) (memory_here i j)

  -- a core function
  module _ (ps rs : List ValType) (i : ℕ) where
    abbrev of_func : Option CoreTypeId → Checks
    of_func o = missing o ++ (error.Options, is_other_func a.core ps rs (option_map entity.Func o)) ∷ []

    pub func_looked : missing (core_item_at c kind.Func i) ++ (error.Options, is_other_func a.core ps rs (core_entity_at c kind.Func i)) ∷ [] ≡ of_func (slice_get s.spaces.core_funcs i)
    func_looked =
        let e : missing (core_item_at c kind.Func i) ≡ missing (slice_get s.spaces.core_funcs i) = missing_here kind.Func i ∙ missing_mapped entity.Func (slice_get s.spaces.core_funcs i) in
        λ j. e j ++ (error.Options, is_other_func a.core ps rs (entity_here kind.Func i j)) ∷ []

  -- tables
  table_missing : (i : ℕ) → missing (core_item_at c kind.Table i) ≡ missing (slice_get s.spaces.core_tables i)
  table_missing i = missing_here kind.Table i ∙ missing_mapped entity.Table (slice_get s.spaces.core_tables i)

  abbrev of_spawn_table : Option TableType → Checks
  of_spawn_table o = missing o ++ (error.Signature, test_found (λ (t : TableType). not (is_spawn_table t)) o) ∷ []

  pub spawn_table_looked : (i : ℕ) → asked a s (row.spawn_table_at i) ≡ of_spawn_table (slice_get s.spaces.core_tables i)
  spawn_table_looked i = λ j. table_missing i j ++ (error.Signature, test_found (λ (t : TableType). not (is_spawn_table t)) (table_here i j)) ∷ []

  abbrev of_start_table : Option TableType → Checks
  of_start_table o = missing o ++ (error.Signature, test_found (λ (t : TableType). not (is_func_table false t)) o) ∷ needs s.features cm64 (test_found (λ (t : TableType). t.table64) o)

  pub start_table_looked : (i : ℕ) → asked a s (row.start_table_at i) ≡ of_start_table (slice_get s.spaces.core_tables i)
  start_table_looked i = λ j. table_missing i j ++ (error.Signature, test_found (λ (t : TableType). not (is_func_table false t)) (table_here i j)) ∷ needs s.features cm64 (test_found (λ (t : TableType). t.table64) (table_here i j))

-- ## Core types

module _ (a : Arena) (s : Contents) (h : StateStands a s) where
  abbrev ctx : Tree_context
  ctx = context_of a s

  entry_here : (t : ℕ) → slice_get (core_entries ctx) t ≡ slice_get (core_entries_of s) t
  entry_here t = ap (λ (es : List Core_entry). slice_get es t) (entries_same a s h)

  pub entry_within : (t : ℕ) (i : CoreTypeId) → slice_get (core_entries_of s) t ≡ Some (sub_entry i.index) → i.index < total a.core
  entry_within t i e = all_at (IsKnown (total a.core)) (core_entries_of s) t (sub_entry i.index) (entries_known a s h) e

  abbrev of_spawn_type : Option Core_entry → Checks
  of_spawn_type o = entry_checks o ++ (error.Signature, test_found (λ (i : CoreTypeId). not (is_spawned (table.type_at a.core i.index))) (option_and_then core_id o)) ∷ []

  pub spawn_type_looked : (t : ℕ) → asked a s (row.spawn_type_at t) ≡ of_spawn_type (slice_get (core_entries_of s) t)
  spawn_type_looked t = ap of_spawn_type (entry_here t)

  abbrev of_start_type : Option Core_entry → Checks
  of_start_type o = entry_checks o ++ (error.Signature, test_found (λ (i : CoreTypeId). not (is_start s.features (table.type_at a.core i.index))) (option_and_then core_id o)) ∷ []

  pub start_type_looked : (t : ℕ) → asked a s (row.start_type_at t) ≡ of_start_type (slice_get (core_entries_of s) t)
  start_type_looked t = ap of_start_type (entry_here t)

  -- ## Resources

  pub resource_looked : (k : ℕ) → asked a s (row.resource_at k) ≡ missing_of is_resource (option_map any_sort (slice_get s.spaces.types k))
  resource_looked k = ap (missing_of is_resource) (sorts_same a s h k)

  abbrev with_rep : List (ResourceId × Option ValType) → Option Type_tree → Bool
  with_rep ds o = test_found (λ (x : Type_tree). is_none (rep_among tree_reader (map defined_resource ds) x)) o

  rep_same : (ds : List (ResourceId × Option ValType)) (r : AliasableResourceId) → lookup (λ m. is_free m (reference r)) (map defined_resource ds) ≡ lookup (same_resource r.resource) ds
  rep_same [] r = refl
  rep_same (d ∷ ds) r =
      let e : (eqb d.0.index r.resource.index || false) ≡ eqb r.resource.index d.0.index = or_false (eqb d.0.index r.resource.index) ∙ eqb-sym d.0.index r.resource.index in
      λ j. cond (e j) (Some d.1) (rep_same ds r j)

  -- a resource that stands there has the representation that it was defined with
  abroad_here : (o : Option ComponentAnyTypeId) → ((x : ComponentAnyTypeId) → o ≡ Some x → IdStands a in_types x) →
      with_rep s.defined_resources (option_and_then (if_sort tree_reader is_resource) (option_map referenced (option_map (id_tree (trees a.nodes) in_types) o))) ≡ test_found (λ (r : ResourceId). is_none (rep_of s.defined_resources r)) (option_and_then any_resource o)
  abroad_here None p = refl
  abroad_here (Some (any.Resource r)) p = ap (λ (v : Option (Option ValType)). is_none (option_and_then (λ (w : Option ValType). w) v)) (rep_same s.defined_resources r)
  abroad_here (Some (any.Defined i)) p = ap (λ (t : Sort). with_rep s.defined_resources (cond (same_sort is_resource t) (Some (tree_at a (part.Defined i))) None)) (sort_stands a (part.Defined i) (p (any.Defined i) refl).0)
  abroad_here (Some (any.Func i)) p = ap (λ (t : Sort). with_rep s.defined_resources (cond (same_sort is_resource t) (Some (tree_at a (part.Func i))) None)) (sort_stands a (part.Func i) (p (any.Func i) refl).0)
  abroad_here (Some (any.Instance i)) p = ap (λ (t : Sort). with_rep s.defined_resources (cond (same_sort is_resource t) (Some (tree_at a (part.Instance i))) None)) (sort_stands a (part.Instance i) (p (any.Instance i) refl).0)
  abroad_here (Some (any.Component i)) p = ap (λ (t : Sort). with_rep s.defined_resources (cond (same_sort is_resource t) (Some (tree_at a (part.Component i))) None)) (sort_stands a (part.Component i) (p (any.Component i) refl).0)

  abroad_same : (k : ℕ) → is_abroad ctx k ≡ test_found (λ (r : ResourceId). is_none (rep_of s.defined_resources r)) (resource_in s.spaces.types k)
  abroad_same k =
      ap (λ (o : Option Type_tree). with_rep s.defined_resources (option_and_then (if_sort tree_reader is_resource) (option_map referenced o))) (get_same a s h in_types k) ∙
      abroad_here (slice_get s.spaces.types k) (λ x e. stands_at a s h in_types k x e)

  pub local_looked : (k : ℕ) → asked a s (row.local_resource_at k) ≡ missing_of is_resource (option_map any_sort (slice_get s.spaces.types k)) ++ (error.ResourceScope, test_found (λ (r : ResourceId). is_none (rep_of s.defined_resources r)) (resource_in s.spaces.types k)) ∷ []
  local_looked k = λ j. missing_of is_resource (sorts_same a s h k j) ++ (error.ResourceScope, abroad_same k j) ∷ []

  -- ## Functions and value types

  pub async_looked : (k : ℕ) (i : ComponentFuncTypeId) (f : ComponentFuncType) → slice_get s.spaces.funcs k ≡ Some i → tree_at a (part.Func i) ≡ unfolded a i.index (n.Func f) →
      test_found (λ (x : Type_tree). not (is_async_func (outline x))) (func_at ctx k) ≡ not f.async_
  async_looked k i f e u =
      ap (test_found (λ (x : Type_tree). not (is_async_func (outline x)))) (get_same a s h in_funcs k ∙ ap (option_map (id_tree (trees a.nodes) in_funcs)) e) ∙ ap (λ (t : Type_tree). not (is_async_func (outline t))) u

  pub no_func : (k : ℕ) → is_none (slice_get s.spaces.funcs k) ≡ true → test_found (λ (x : Type_tree). not (is_async_func (outline x))) (func_at ctx k) ≡ false
  no_func k e = ap (test_found (λ (x : Type_tree). not (is_async_func (outline x)))) (get_same a s h in_funcs k) ∙ go (slice_get s.spaces.funcs k) e
    where
      go : (o : Option ComponentFuncTypeId) → is_none o ≡ true → test_found (λ (x : Type_tree). not (is_async_func (outline x))) (option_map (id_tree (trees a.nodes) in_funcs) o) ≡ false
      go None e = refl
      go (Some x) e = absurd (cc)

  pub value_looked : (k : ℕ) (i : ComponentDefinedTypeId) → slice_get s.spaces.types k ≡ Some (any.Defined i) →
      asked a s (row.no_borrow (Some (written.Ty k))) ≡ (error.OutOfBounds, false) ∷ (error.WrongSort, false) ∷ (error.Borrow, contains borrow (tree_at a (part.Defined i))) ∷ []
  value_looked k i e =
      let t : Type_tree = tree_at a (part.Defined i) in
      let sorts : option_map sort (type_at ctx k) ≡ Some is_value = sorts_same a s h k ∙ ap (option_map any_sort) e in
      let found : type_of_sort is_value ctx k ≡ Some t = ap (option_and_then (if_sort tree_reader is_value)) (type_is a s h k (any.Defined i) e) ∙ ap (λ (r : Sort). cond (same_sort is_value r) (Some t) None) (sort_stands a (part.Defined i) (stands_at a s h in_types k (any.Defined i) e).0) in
      λ j. missing_of is_value (sorts j) ++ if_found (has_borrow tree_reader) (found j)

  pub value_caused : {M : Type 0} (k offset : ℕ) (e : Error M) → MemoryOrCausedBy (missing_of is_value (option_map any_sort (slice_get s.spaces.types k))) offset e → MemoryOrCausedBy (asked a s (row.no_borrow (Some (written.Ty k)))) offset e
  value_caused k offset e t =
      caused_more (missing_of is_value (option_map any_sort (slice_get s.spaces.types k))) (asked a s (row.no_borrow (Some (written.Ty k)))) offset e
      (λ c. cause_left (sort_checks is_value ctx k) (if_found (has_borrow tree_reader) (type_of_sort is_value ctx k)) (error_kind e) (subst (λ (o : Option Sort). Cause (missing_of is_value o) (error_kind e)) (sym (sorts_same a s h k)) c)) t

  module _ (k : ℕ) (i : ComponentDefinedTypeId) (w : slice_get s.spaces.types k ≡ Some (any.Defined i)) where
    pub value_free : contains borrow (tree_at a (part.Defined i)) ≡ false → IsFree (asked a s (row.no_borrow (Some (written.Ty k))))
    value_free f = subst IsFree (sym (value_looked k i w)) (refl, (refl, (f, tt)))

    pub value_borrows : {M : Type 0} (offset : ℕ) (e : Error M) → contains borrow (tree_at a (part.Defined i)) ≡ true → error_kind e ≡ error.Borrow → error_offset e ≡ offset → MemoryOrCausedBy (asked a s (row.no_borrow (Some (written.Ty k)))) offset e
    value_borrows offset e f q o = subst (λ (ds : Checks). MemoryOrCausedBy ds offset e) (sym (value_looked k i w)) (inr (inr (inr (inl (q, f))), o))

-- ## What is then asked

-- what is looked up first has no other cause than all of it
left_caused : {M : Type 0} (cs rest all : Checks) (offset : ℕ) (e : Error M) → all ≡ cs ++ rest → MemoryOrCausedBy cs offset e → MemoryOrCausedBy all offset e
left_caused cs rest all offset e same t = subst (λ (ds : Checks). MemoryOrCausedBy ds offset e) (sym same) (caused_more cs (cs ++ rest) offset e (λ k. cause_left cs rest (error_kind e) k) t)

module _ (a : Arena) (s : Contents) (i : ℕ) where
  abbrev here : Tree_context
  here = context_of a s

  module _ (fs : WasmFeatures) where
    abbrev memory_asked : Checks
    memory_asked = missing (core_item_at here kind.Memory i) ++ if_found (memory_rules fs) (memory_type_at here i)

    abbrev memory_at : Option MemoryType
    memory_at = slice_get s.spaces.core_memories i

    pub memory_missing : {M : Type 0} (offset : ℕ) (e : Error M) → MemoryOrCausedBy (missing memory_at) offset e → MemoryOrCausedBy memory_asked offset e
    memory_missing offset e t = left_caused (missing memory_at) (if_found (memory_rules fs) memory_at) memory_asked offset e (memory_looked a s fs i) t

    pub memory_free : (m : MemoryType) → memory_at ≡ Some m → IsFree (memory_rules fs m) → IsFree memory_asked
    memory_free m w f = subst IsFree (sym (memory_looked a s fs i ∙ ap (of_memory a s fs i) w)) (refl, f)

    pub memory_refused : {M : Type 0} (offset : ℕ) (e : Error M) (m : MemoryType) → memory_at ≡ Some m → MemoryOrCausedBy (memory_rules fs m) offset e → MemoryOrCausedBy memory_asked offset e
    memory_refused offset e m w t =
        subst (λ (ds : Checks). MemoryOrCausedBy ds offset e) (sym (memory_looked a s fs i ∙ ap (of_memory a s fs i) w)) (caused_more (memory_rules fs m) (of_memory a s fs i (Some m)) offset e (λ k. inr k) t)

  pub pointers_found : (m : MemoryType) → slice_get s.spaces.core_memories i ≡ Some m → memory_pointers here i ≡ size_of m.memory64
  pointers_found m w = ap (λ (o : Option MemoryType). size_of (test_found has_64_bits o)) (memory_here a s i ∙ w)

  pub pointers_none : is_none (slice_get s.spaces.core_memories i) ≡ true → memory_pointers here i ≡ ptr.Ptr32
  pointers_none e = ap (λ (o : Option MemoryType). size_of (test_found has_64_bits o)) (memory_here a s i) ∙ go (slice_get s.spaces.core_memories i) e
    where
      go : (o : Option MemoryType) → is_none o ≡ true → size_of (test_found has_64_bits o) ≡ ptr.Ptr32
      go None e = refl
      go (Some m) e = absurd (cc)

  module _ (ps rs : List ValType) where
    abbrev func_asked : Checks
    func_asked = missing (core_item_at here kind.Func i) ++ (error.Options, is_other_func a.core ps rs (core_entity_at here kind.Func i)) ∷ []

    abbrev func_found : Option CoreTypeId
    func_found = slice_get s.spaces.core_funcs i

    abbrev serves : CoreTypeId → Bool
    serves t = takes_and_gives a.core ps rs (entity.Func t)

    pub func_missing : {M : Type 0} (offset : ℕ) (e : Error M) → MemoryOrCausedBy (missing func_found) offset e → MemoryOrCausedBy func_asked offset e
    func_missing offset e t = left_caused (missing func_found) ((error.Options, is_other_func a.core ps rs (option_map entity.Func func_found)) ∷ []) func_asked offset e (func_looked a s ps rs i) t

    pub func_free : (t : CoreTypeId) → func_found ≡ Some t → serves t ≡ true → IsFree func_asked
    func_free t w f = subst IsFree (sym (func_looked a s ps rs i ∙ ap (of_func a s ps rs i) w)) (refl, (ap not f, tt))

    pub func_other : {M : Type 0} (offset : ℕ) (e : Error M) (t : CoreTypeId) → func_found ≡ Some t → serves t ≡ false → error_kind e ≡ error.Options → error_offset e ≡ offset → MemoryOrCausedBy func_asked offset e
    func_other offset e t w f k o = subst (λ (ds : Checks). MemoryOrCausedBy ds offset e) (sym (func_looked a s ps rs i ∙ ap (of_func a s ps rs i) w)) (inr (inr (inl (k, ap not f)), o))

  abbrev table_at : Option TableType
  table_at = slice_get s.spaces.core_tables i

  pub spawn_table_missing : {M : Type 0} (offset : ℕ) (e : Error M) → MemoryOrCausedBy (missing table_at) offset e → MemoryOrCausedBy (asked a s (row.spawn_table_at i)) offset e
  spawn_table_missing offset e t = left_caused (missing table_at) ((error.Signature, test_found (λ (x : TableType). not (is_spawn_table x)) table_at) ∷ []) (asked a s (row.spawn_table_at i)) offset e (spawn_table_looked a s i) t

  pub spawn_table_free : (t : TableType) → table_at ≡ Some t → is_spawn_table t ≡ true → IsFree (asked a s (row.spawn_table_at i))
  spawn_table_free t w f = subst IsFree (sym (spawn_table_looked a s i ∙ ap (of_spawn_table a s) w)) (refl, (ap not f, tt))

  pub spawn_table_other : {M : Type 0} (offset : ℕ) (e : Error M) (t : TableType) → table_at ≡ Some t → is_spawn_table t ≡ false → error_kind e ≡ error.Signature → error_offset e ≡ offset → MemoryOrCausedBy (asked a s (row.spawn_table_at i)) offset e
  spawn_table_other offset e t w f k o = subst (λ (ds : Checks). MemoryOrCausedBy ds offset e) (sym (spawn_table_looked a s i ∙ ap (of_spawn_table a s) w)) (inr (inr (inl (k, ap not f)), o))

  pub start_table_missing : {M : Type 0} (offset : ℕ) (e : Error M) → MemoryOrCausedBy (missing table_at) offset e → MemoryOrCausedBy (asked a s (row.start_table_at i)) offset e
  start_table_missing offset e t =
      left_caused (missing table_at) ((error.Signature, test_found (λ (x : TableType). not (is_func_table false x)) table_at) ∷ needs s.features cm64 (test_found (λ (x : TableType). x.table64) table_at)) (asked a s (row.start_table_at i)) offset e (start_table_looked a s i) t

  module _ (t : TableType) (w : table_at ≡ Some t) where
    start_table_is : asked a s (row.start_table_at i) ≡ of_start_table a s (Some t)
    start_table_is = start_table_looked a s i ∙ ap (of_start_table a s) w

    pub start_table_free : is_func_table false t ≡ true → IsFree (needs s.features cm64 t.table64) → IsFree (asked a s (row.start_table_at i))
    start_table_free f g = subst IsFree (sym start_table_is) (refl, (ap not f, g))

    pub start_table_needs : {M : Type 0} (offset : ℕ) (e : Error M) → MemoryOrCausedBy (needs s.features cm64 t.table64) offset e → MemoryOrCausedBy (asked a s (row.start_table_at i)) offset e
    start_table_needs offset e g = subst (λ (ds : Checks). MemoryOrCausedBy ds offset e) (sym start_table_is) (caused_more (needs s.features cm64 t.table64) (of_start_table a s (Some t)) offset e (λ k. inr (inr k)) g)

    pub start_table_other : {M : Type 0} (offset : ℕ) (e : Error M) → is_func_table false t ≡ false → error_kind e ≡ error.Signature → error_offset e ≡ offset → MemoryOrCausedBy (asked a s (row.start_table_at i)) offset e
    start_table_other offset e f k o = subst (λ (ds : Checks). MemoryOrCausedBy ds offset e) (sym start_table_is) (inr (inr (inl (k, ap not f)), o))

module _ (a : Arena) (s : Contents) (h : StateStands a s) (t : ℕ) where
  abbrev entry_at : Option Core_entry
  entry_at = slice_get (core_entries_of s) t

  abbrev type_at_id : CoreTypeId → SubForm
  type_at_id i = table.type_at a.core i.index

  pub spawn_type_missing : {M : Type 0} (offset : ℕ) (e : Error M) → MemoryOrCausedBy (entry_checks entry_at) offset e → MemoryOrCausedBy (asked a s (row.spawn_type_at t)) offset e
  spawn_type_missing offset e m =
      left_caused (entry_checks entry_at) ((error.Signature, test_found (λ (i : CoreTypeId). not (is_spawned (type_at_id i))) (option_and_then core_id entry_at)) ∷ []) (asked a s (row.spawn_type_at t)) offset e (spawn_type_looked a s h t) m

  pub start_type_missing : {M : Type 0} (offset : ℕ) (e : Error M) → MemoryOrCausedBy (entry_checks entry_at) offset e → MemoryOrCausedBy (asked a s (row.start_type_at t)) offset e
  start_type_missing offset e m =
      left_caused (entry_checks entry_at) ((error.Signature, test_found (λ (i : CoreTypeId). not (is_start s.features (type_at_id i))) (option_and_then core_id entry_at)) ∷ []) (asked a s (row.start_type_at t)) offset e (start_type_looked a s h t) m

  module _ (i : CoreTypeId) (w : entry_at ≡ Some (sub_entry i.index)) where
    spawn_type_is : asked a s (row.spawn_type_at t) ≡ of_spawn_type a s h (Some (sub_entry i.index))
    spawn_type_is = spawn_type_looked a s h t ∙ ap (of_spawn_type a s h) w

    pub spawn_type_free : is_spawned (type_at_id i) ≡ true → IsFree (asked a s (row.spawn_type_at t))
    spawn_type_free f = subst IsFree (sym spawn_type_is) (refl, (refl, (ap not f, tt)))

    pub spawn_type_other : {M : Type 0} (offset : ℕ) (e : Error M) → is_spawned (type_at_id i) ≡ false → error_kind e ≡ error.Signature → error_offset e ≡ offset → MemoryOrCausedBy (asked a s (row.spawn_type_at t)) offset e
    spawn_type_other offset e f k o = subst (λ (ds : Checks). MemoryOrCausedBy ds offset e) (sym spawn_type_is) (inr (inr (inr (inl (k, ap not f))), o))

    start_type_is : asked a s (row.start_type_at t) ≡ of_start_type a s h (Some (sub_entry i.index))
    start_type_is = start_type_looked a s h t ∙ ap (of_start_type a s h) w

    pub start_type_free : is_start s.features (type_at_id i) ≡ true → IsFree (asked a s (row.start_type_at t))
    start_type_free f = subst IsFree (sym start_type_is) (refl, (refl, (ap not f, tt)))

    pub start_type_other : {M : Type 0} (offset : ℕ) (e : Error M) → is_start s.features (type_at_id i) ≡ false → error_kind e ≡ error.Signature → error_offset e ≡ offset → MemoryOrCausedBy (asked a s (row.start_type_at t)) offset e
    start_type_other offset e f k o = subst (λ (ds : Checks). MemoryOrCausedBy ds offset e) (sym start_type_is) (inr (inr (inr (inl (k, ap not f))), o))

module _ (a : Arena) (s : Contents) (h : StateStands a s) (k : ℕ) where
  abbrev sort_at : Option Sort
  sort_at = option_map any_sort (slice_get s.spaces.types k)

  pub resource_free : (r : AliasableResourceId) → slice_get s.spaces.types k ≡ Some (any.Resource r) → IsFree (asked a s (row.resource_at k))
  resource_free r e = subst IsFree (sym (resource_looked a s h k ∙ ap (λ (o : Option ComponentAnyTypeId). missing_of is_resource (option_map any_sort o)) e)) (refl, (refl, tt))

  pub resource_caused : {M : Type 0} (offset : ℕ) (e : Error M) → MemoryOrCausedBy (missing_of is_resource sort_at) offset e → MemoryOrCausedBy (asked a s (row.resource_at k)) offset e
  resource_caused offset e t = subst (λ (ds : Checks). MemoryOrCausedBy ds offset e) (sym (resource_looked a s h k)) t

  -- a local resource
  abbrev rep_test : Option ResourceId → Checks
  rep_test o = (error.ResourceScope, test_found (λ (r : ResourceId). is_none (rep_of s.defined_resources r)) o) ∷ []

  scope_same : (o : Option ResourceId) (q : ErrorKind) → Cause (if_found (λ r. (error.ResourceScope, is_none (rep_of s.defined_resources r)) ∷ []) o) q → Cause (rep_test o) q
  scope_same None q c = absurd c
  scope_same (Some r) q c = c

  pub local_caused : {M : Type 0} (offset : ℕ) (e : Error M) → MemoryOrCausedBy (local_rep_checks s.spaces.types s.defined_resources k) offset e → MemoryOrCausedBy (asked a s (row.local_resource_at k)) offset e
  local_caused offset e t =
      let cs : Checks = missing_of is_resource sort_at in
      let ds : Checks = if_found (λ r. (error.ResourceScope, is_none (rep_of s.defined_resources r)) ∷ []) (resource_in s.spaces.types k) in
      subst (λ (ds : Checks). MemoryOrCausedBy ds offset e) (sym (local_looked a s h k))
      (caused_more (cs ++ ds) (cs ++ rep_test (resource_in s.spaces.types k)) offset e
      (λ c. ⊎_elim (λ d. cause_left cs (rep_test (resource_in s.spaces.types k)) (error_kind e) d) (λ d. cause_right cs (rep_test (resource_in s.spaces.types k)) (error_kind e) (scope_same (resource_in s.spaces.types k) (error_kind e) d)) (cause_either cs ds (error_kind e) c)) t)

  pub local_free : (p : ResourceId × ValType) → local_rep s.spaces.types s.defined_resources k ≡ Some p → IsFree (asked a s (row.local_resource_at k))
  local_free p e = subst IsFree (sym (local_looked a s h k)) (go (slice_get s.spaces.types k) e)
    where
      known : (r : ResourceId) (v : Option ValType) → option_map (λ w. (r, w)) v ≡ Some p → is_none v ≡ false
      known r None e = absurd (cc)
      known r (Some v) e = refl

      go : (o : Option ComponentAnyTypeId) → option_and_then (λ r. option_map (λ v. (r, v)) (rep_of s.defined_resources r)) (option_and_then any_resource o) ≡ Some p →
          IsFree (missing_of is_resource (option_map any_sort o) ++ rep_test (option_and_then any_resource o))
      go None e = absurd (cc)
      go (Some (any.Resource r)) e = (refl, (refl, (known r.resource (rep_of s.defined_resources r.resource) e, tt)))
      go (Some (any.Defined i)) e = absurd (cc)
      go (Some (any.Func i)) e = absurd (cc)
      go (Some (any.Instance i)) e = absurd (cc)
      go (Some (any.Component i)) e = absurd (cc)

-- a core type that was looked up in the table
pub found_form : (gs hs : List Group) (i : ℕ) (f : SubForm) → ((d : SubForm) → f ≡ get_or (types_of gs) i d) → gs ≡ hs → f ≡ table.type_at hs i
found_form gs hs i f h e = h no_type ∙ ap (λ (ks : List Group). get_or (types_of ks) i no_type) e
