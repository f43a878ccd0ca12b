-- Operands of canonical functions: what a context has, the lists that agree have too, and it says the same of core types.
use Rattle.std.proofs.Common.{◌≡◌, ◌∙◌, ℕ, List, true, Option, Some, None, refl, sym, ap, subst}
use Rattle.std.specs.Option.{option_map, option_and_then}
use Rattle.wcv_core.specs.CoreForm.{Group}
use Rattle.wcv_core.specs.CoreJoining.{is_free}
use Rattle.wcv_core.specs.Names.{Name}
use Rattle.wcv_core.specs.declared.core_types.EntityType.{EntityType}
use Rattle.wcv_core.specs.declared.core_types.EntityType.TheVariants as entity
use Rattle.wcv_syntax.specs.declared.canonical.CanonicalOption.{CanonicalOption}
use Rattle.wcv_syntax.specs.declared.core_section.ExternalKind.{ExternalKind}
use Rattle.wcv_syntax.specs.declared.core_section.ExternalKind.TheVariants as kind
use Rattle.wcv_types.specs.Tree.{Sort, is_core_item, sort}
use Rattle.wcv_types.specs.Unfold.{Type_tree}
use Rattle.wcv_matching.specs.ModuleItems.{ItemsMatch}
use Rattle.wcv_flat.specs.declared.options.PtrSize.{PtrSize}
use Rattle.wcv_flat.specs.declared.options.CanonicalOptions.{CanonicalOptions}
use Rattle.wcv_lower.specs.CanonOptions.{first, memory_in, realloc_in, post_return_in, concurrency_of, core_entity_at, as_memory, has_64_bits, size_of, memory_pointers, options_read, memory_found}
use Rattle.wcv_lower.specs.Canons.{func_at, as_table, element_size}
use Rattle.wcv_lower.specs.Checks.{missing, missing_of, if_found}
use Rattle.wcv_lower.specs.Context.{in_funcs, type_at}
use Rattle.wcv_lower.specs.CoreInstances.{space_of, core_item_at, test_found}
use Rattle.wcv_lower.specs.Readers.{sort_of}
use Rattle.wcv_lower.specs.Trees.{Tree_stack, tree_reader}
use Rattle.wcv_lower.specs.Values.{sort_checks}
use Rattle.wcv_growth.proofs.Known.{all-get}
use Rattle.wcv_world.specs.Reading.{Value_stack, value_reader}
use Rattle.wcv_world.specs.Values.{Value, type_over}
use Rattle.wcv_safety.specs.Agreeing.{Agrees, AgreesAs, AgreeReadings}
use Rattle.wcv_safety.specs.Standing.{HasSortIn, BothStand}
use Rattle.wcv_safety.proofs.CoreBags.{item-sort}
use Rattle.wcv_safety.proofs.Found.{entry-sort, type-found}
use Rattle.wcv_safety.proofs.Lists.{zip-get}

pub missing-there : {A : Type 0} (o : Option A) → is_free (missing o) ≡ true → (x : A) × (o ≡ Some x)
missing-there None e = cc
missing-there (Some x) e = (x, refl)

pub is-there : {A : Type 0} (o : Option A) (x : A) → o ≡ Some x → is_free (missing o) ≡ true
is-there {A = A} o x e = ap (λ (o : Option A). is_free (missing o)) e

module _ (gs : List Group) where
  -- memories that match have pointers of one size, and tables numbers
  wide-memory : (x y : EntityType) → ItemsMatch gs x y → test_found has_64_bits (as_memory x) ≡ test_found has_64_bits (as_memory y)
  wide-memory (entity.Memory m) (entity.Memory n) w = w.wide
  wide-memory (entity.Func m) (entity.Func n) w = refl
  wide-memory (entity.Table m) (entity.Table n) w = refl
  wide-memory (entity.Global m) (entity.Global n) w = refl
  wide-memory (entity.Tag m) (entity.Tag n) w = refl
  wide-memory x y w = absurd w

  pub wide-table : (x y : EntityType) → ItemsMatch gs x y → option_map element_size (as_table x) ≡ option_map element_size (as_table y)
  wide-table (entity.Table m) (entity.Table n) w = ap (λ b. Some (size_of b)) w.wide
  wide-table (entity.Func m) (entity.Func n) w = refl
  wide-table (entity.Memory m) (entity.Memory n) w = refl
  wide-table (entity.Global m) (entity.Global n) w = refl
  wide-table (entity.Tag m) (entity.Tag n) w = refl
  wide-table x y w = absurd w

module _ (g : Name → Name) (v : Value_stack) (s : Tree_stack) (h : BothStand v s) (a : AgreeReadings g v s) where
  -- ## Items

  pub func-there : (k : ℕ) → is_free (missing (func_at s.top k)) ≡ true → is_free (missing (func_at v.top k)) ≡ true
  func-there k e =
      let t = missing-there (func_at s.top k) e in
      let z = zip-get (Agrees v.groups g) (v.top.space in_funcs) (s.top.space in_funcs) k t.0 (a.stacks.all.0.space in_funcs) t.1 in
      is-there (func_at v.top k) z.0 z.1

  pub item-there : (k : ExternalKind) (i : ℕ) → is_free (missing (core_item_at s.top k i)) ≡ true → is_free (missing (core_item_at v.top k i)) ≡ true
  item-there k i e =
      let t = missing-there (core_item_at s.top k i) e in
      let z = zip-get (Agrees v.groups g) (v.top.core (space_of k)) (s.top.core (space_of k)) i t.0 (a.stacks.all.0.core (space_of k)) t.1 in
      is-there (core_item_at v.top k i) z.0 z.1

  -- what the core item is in both
  pub entities-match : (k : ExternalKind) (i : ℕ) → is_free (missing (core_item_at s.top k i)) ≡ true →
      (x y : EntityType) × (core_entity_at v.top k i ≡ Some x) × (core_entity_at s.top k i ≡ Some y) × ItemsMatch v.groups x y
  entities-match k i e =
      let t = missing-there (core_item_at s.top k i) e in
      let z = zip-get (Agrees v.groups g) (v.top.core (space_of k)) (s.top.core (space_of k)) i t.0 (a.stacks.all.0.core (space_of k)) t.1 in
      let l : sort t.0 ≡ is_core_item = item-sort k (sort t.0) (all-get (λ (x : Type_tree). HasSortIn (space_of k) (sort x)) (s.top.core (space_of k)) i t.0 (h.types.core_sorted (space_of k)) t.1) in
      let f : AgreesAs is_core_item v.groups g (type_over z.0) t.0 = subst (λ (l : Sort). AgreesAs l v.groups g (type_over z.0) t.0) l z.2 in
      (f.0, f.1, ap (option_and_then value_reader.item) z.1 ∙ f.2, ap (option_and_then tree_reader.item) t.1 ∙ f.3, f.4)

  -- ## Options

  pub pointers-same : (i : ℕ) → is_free (missing (core_item_at s.top kind.Memory i)) ≡ true → memory_pointers v.top i ≡ memory_pointers s.top i
  pointers-same i e =
      let m = entities-match kind.Memory i e in
      ap (λ (o : Option EntityType). size_of (test_found has_64_bits (option_and_then as_memory o))) m.2 ∙ ap size_of (wide-memory v.groups m.0 m.1 m.4) ∙ sym (ap (λ (o : Option EntityType). size_of (test_found has_64_bits (option_and_then as_memory o))) m.3)

  abbrev read-with : List CanonicalOption → Option (ℕ × PtrSize) → CanonicalOptions
  read-with os m = record { string_encoding = (options_read s.top os).string_encoding; memory = m; realloc = first realloc_in os; post_return = first post_return_in os; concurrency = concurrency_of os }

  pub options-same : (os : List CanonicalOption) → is_free (memory_found s.top os) ≡ true → options_read v.top os ≡ options_read s.top os
  options-same os e = ap (read-with os) (go (first memory_in os) e)
    where
      go : (o : Option ℕ) → is_free (if_found (λ i. missing (core_item_at s.top kind.Memory i)) o) ≡ true → option_map {U = ℕ × PtrSize} (λ i. (i, memory_pointers v.top i)) o ≡ option_map {U = ℕ × PtrSize} (λ i. (i, memory_pointers s.top i)) o
      go None e = refl
      go (Some i) e = ap (λ (z : PtrSize). Some (i, z)) (pointers-same i e)

  pub memory-there : (os : List CanonicalOption) → is_free (memory_found s.top os) ≡ true → is_free (memory_found v.top os) ≡ true
  memory-there os e = go (first memory_in os) e
    where
      go : (o : Option ℕ) → is_free (if_found (λ i. missing (core_item_at s.top kind.Memory i)) o) ≡ true → is_free (if_found (λ i. missing (core_item_at v.top kind.Memory i)) o) ≡ true
      go None e = refl
      go (Some i) e = item-there kind.Memory i e

  -- ## Types

  pub sort-there : (l : Sort) (k : ℕ) → is_free (sort_checks l s.top k) ≡ true → is_free (sort_checks l v.top k) ≡ true
  sort-there l k e = go (type_at s.top k) refl e
    where
      go : (o : Option Type_tree) → type_at s.top k ≡ o → is_free (missing_of l (option_map (sort_of tree_reader) o)) ≡ true → is_free (sort_checks l v.top k) ≡ true
      go None q e = cc
      go (Some t) q e =
          let x = type-found v.groups v.top.defined g v.top s.top a.stacks.all.0 h.types k t q in
          subst (λ (o : Option Value). is_free (missing_of l (option_map (sort_of value_reader) o)) ≡ true) (sym x.1)
          (subst (λ (k : Sort). is_free (missing_of l (Some k)) ≡ true) (sym (entry-sort (ItemsMatch v.groups) {A = Name} (λ r. r) g (type_over x.0) t x.2)) e)
