-- The new names of the steps of declarations: each is made at the place of its declaration, and none twice.
use Rattle.std.proofs.Common.{◌≡◌, ℕ, zero, suc, List, [], ◌∷◌, ◌++◌, map, refl, sym, ◌∙◌, ap, subst, append-nil, Bool, true, false, cond, ◌||◌, ◌&&◌, ◌⊎◌, inl, inr, Some, None}
use Rattle.std.specs.Prelude.{Option}
use Rattle.std.specs.Option.{option_and_then}
use Rattle.std.proofs.lemmas.Bool.{false≢true, or_cases}
use Rattle.wcv_core.specs.CoreForm.{Group}
use Rattle.wcv_core.specs.CoreJoining.{group_ids}
use Rattle.wcv_core.specs.CoreWritten.{closed_group}
use Rattle.wcv_core.specs.Names.{Name, Place, base, at, same, member}
use Rattle.wcv_core.specs.declared.core_types.EntityType.{EntityType}
use Rattle.wcv_core.specs.declared.features.WasmFeatures.{WasmFeatures}
use Rattle.wcv_core.proofs.Names.{and_right, same-true}
use Rattle.wcv_syntax.specs.Model.{Type_form, defined_type, func_type, component_type, instance_type, resource_type, Core_type_form, core_rec, core_module_type}
use Rattle.wcv_syntax.specs.declared.component_type.ComponentTypeRef.{ComponentTypeRef}
use Rattle.wcv_syntax.specs.declared.component_type.ComponentTypeRef.TheVariants as ref
use Rattle.wcv_syntax.specs.declared.component_type.TypeBounds.TheVariants as bounds
use Rattle.wcv_syntax.specs.declared.instance.ComponentAlias.{ComponentAlias}
use Rattle.wcv_syntax.specs.declared.instance.ComponentAlias.TheVariants as alias
use Rattle.wcv_syntax.specs.declared.instance.ComponentOuterAliasKind.{ComponentOuterAliasKind}
use Rattle.wcv_syntax.specs.declared.instance.ComponentOuterAliasKind.TheVariants as outer
use Rattle.wcv_types.specs.FirstPath.{first_path}
use Rattle.wcv_types.specs.Tree.{Extern_name, Sort, is_nothing, is_value, is_resource, is_func, is_instance, is_component, is_type, is_module, is_core_instance, is_core_type, is_core_item, sort, owned, exports, node}
use Rattle.wcv_types.specs.Unfold.{Type_tree}
use Rattle.wcv_lower.specs.Aliases.{sort_named, instance_at, export_of, joining, outer_at, outer_joins, is_charged, concrete_at, charged, alias_step}
use Rattle.wcv_lower.specs.Context.{Side, is_concrete, core_types, type_at, exporting, same_side}
use Rattle.wcv_lower.specs.CoreInstances.{core_instance_at, core_export_of, if_of, item_joins}
use Rattle.wcv_lower.specs.CoreItems.{core_entries, may_join, types_join, closed_step, module_joins, core_type_made, core_type_step}
use Rattle.wcv_lower.specs.Defined.{defined_made}
use Rattle.wcv_lower.specs.Entries.{module_type_at, again_brought, written}
use Rattle.wcv_lower.specs.Names.{names_by_place}
use Rattle.wcv_lower.specs.NewTypes.{path_or_none}
use Rattle.wcv_lower.specs.Owned.{AllEntries, IsOnce, OwnsOnce, IsMadeAt}
use Rattle.wcv_lower.specs.Readers.{if_sort, Maker}
use Rattle.wcv_lower.specs.Step.{Step, charges, defines, joins_types, Brought, bare, joins, enters}
use Rattle.wcv_lower.specs.Trees.{tree_reader, Tree_context, Tree_stack, tree_maker}
use Rattle.wcv_lower.specs.Types.{func_made, added, dtor_stands, type_step}
use Rattle.wcv_lower.specs.Values.{type_of_sort, value_entry}
use Rattle.wcv_lower.proofs.Bringing.{OfAny, any_mapped, any_cond, of_sort_has}
use Rattle.wcv_lower.proofs.Given.{not_so, or_left, or_right}
use Rattle.wcv_lower.proofs.Members.{names_in}
use Rattle.wcv_lower.proofs.Once.{new_names}
use Rattle.wcv_lower.proofs.Owning.{owns_once_inherited}

-- no name stands twice, and each is made at that place
pub record AreMade (q : Place) (ns : List Name) : Type 0 where
  pub once : IsOnce ns
  pub made : (r : Name) → member r ns ≡ true → IsMadeAt q r

pub none_made : (q : Place) → AreMade q []
none_made q = record { once = tt; made = λ r e. absurd (false≢true e) }

pub any_is : {A : Type 0} (o : Option A) → OfAny (λ x. Unit {0}) o
any_is None = tt
any_is (Some x) = tt

owned_once : (t : Type_tree) → OwnsOnce t → IsOnce (owned t)
owned_once (node h ps) w = w.0

module _ (q : Place) where
  abbrev mk : Maker tree_reader
  mk = tree_maker names_by_place q

  abbrev BroughtOnce : Brought tree_reader → Type 0
  BroughtOnce b = AreMade q (names_in b.resources)

  abbrev StepOnce : Step tree_reader → Type 0
  StepOnce p = AreMade q (new_names p)

  quiet : (p : Step tree_reader) → new_names p ≡ [] → StepOnce p
  quiet p e = subst (AreMade q) (sym e) (none_made q)

  -- ## An instance

  module _ (f : Name → List ℕ) where
    abbrev made_names : List Name → List Name
    made_names own = names_in (map (λ r. (at q r, f r)) own)

    member_made : (r : Name) (own : List Name) → member (at q r) (made_names own) ≡ true → member r own ≡ true
    member_made r [] e = e
    member_made r (x ∷ own) e = go (or_cases (same (at q r) (at q x)) (member (at q r) (made_names own)) e) (member_made r own)
      where
        go : (same (at q r) (at q x) ≡ true) ⊎ (member (at q r) (made_names own) ≡ true) → (member (at q r) (made_names own) ≡ true → member r own ≡ true) → (same r x || member r own) ≡ true
        go (inl h) later = or_left (same r x) (member r own) (and_right _ _ h)
        go (inr h) later = or_right (same r x) (member r own) (later h)

    made_once : (own : List Name) → IsOnce own → IsOnce (made_names own)
    made_once [] w = tt
    made_once (x ∷ own) w = (not_so (member (at q x) (made_names own)) (λ e. false≢true (sym w.0 ∙ member_made x own e)), made_once own w.1)

    each_made : (own : List Name) (r : Name) → member r (made_names own) ≡ true → IsMadeAt q r
    each_made [] r e = absurd (false≢true e)
    each_made (x ∷ own) r e = go (or_cases (same r (at q x)) (member r (made_names own)) e) (each_made own r)
      where
        go : (same r (at q x) ≡ true) ⊎ (member r (made_names own) ≡ true) → (member r (made_names own) ≡ true → IsMadeAt q r) → IsMadeAt q r
        go (inl h) later = subst (IsMadeAt q) (sym (same-true r (at q x) h)) refl
        go (inr h) later = later h

    own_made : (own : List Name) → IsOnce own → AreMade q (made_names own)
    own_made own w = record { once = made_once own w; made = each_made own }

  base_made : AreMade q (base q ∷ [])
  base_made = record { once = (refl, tt); made = λ r e. go r (or_cases (same r (base q)) false e) }
    where
      go : (r : Name) → (same r (base q) ≡ true) ⊎ (false ≡ true) → IsMadeAt q r
      go r (inl h) = subst (IsMadeAt q) (sym (same-true r (base q) h)) refl
      go r (inr h) = absurd (false≢true h)

  -- ## Steps

  joins_quiet : (used : Bool) (s : Sort) (x : Type_tree) → new_names (joins tree_reader used s x) ≡ []
  joins_quiet used is_func x = refl
  joins_quiet used is_value x = refl
  joins_quiet used is_instance x = refl
  joins_quiet used is_component x = refl
  joins_quiet used is_type x = refl
  joins_quiet used is_module x = refl
  joins_quiet used is_resource x = refl
  joins_quiet used is_nothing x = refl
  joins_quiet used is_core_instance x = refl
  joins_quiet used is_core_type x = refl
  joins_quiet used is_core_item x = refl

  pub enters_once : (d : Side) (n : Extern_name) (b : Brought tree_reader) → BroughtOnce b → StepOnce (enters d n b)
  enters_once d n b w = subst (AreMade q) (sym (ap (λ (xs : List Name). names_in b.resources ++ xs) (joins_quiet (same_side d exporting) (sort b.entity) b.entity) ∙ append-nil (names_in b.resources))) w

  bare_once : (x : Type_tree) → Unit {0} → BroughtOnce (bare tree_reader x)
  bare_once x w = none_made q

  module _ (c : Tree_context) (all : AllEntries OwnsOnce c) where
    pub written_once : (r : ComponentTypeRef) → OfAny BroughtOnce (written mk c r)
    written_once (ref.Module k) = any_mapped (λ x. Unit {0}) BroughtOnce (bare tree_reader) bare_once (module_type_at c k) (any_is (module_type_at c k))
    written_once (ref.Func k) = any_mapped (λ x. Unit {0}) BroughtOnce (bare tree_reader) bare_once (type_of_sort is_func c k) (any_is (type_of_sort is_func c k))
    written_once (ref.Instance k) =
        any_mapped OwnsOnce BroughtOnce mk.instance_of (λ x w. own_made (λ r. path_or_none (first_path r (exports x))) (owned x) (owned_once x w)) (type_of_sort is_instance c k)
        (of_sort_has owns_once_inherited (λ r. Unit {0}) c all is_instance k)
    written_once (ref.Component k) = any_mapped (λ x. Unit {0}) BroughtOnce (bare tree_reader) bare_once (type_of_sort is_component c k) (any_is (type_of_sort is_component c k))
    written_once (ref.Ty (bounds.Eq k)) = any_mapped (λ x. Unit {0}) BroughtOnce (again_brought mk) (λ x w. none_made q) (type_at c k) (any_is (type_at c k))
    written_once (ref.Ty bounds.SubResource) = base_made
    written_once (ref.Value v) = any_mapped (λ x. Unit {0}) BroughtOnce (bare tree_reader) bare_once (value_entry c v) (any_is (value_entry c v))

    pub types_once : (t : Type_form) → OfAny StepOnce (type_step mk c t)
    types_once (defined_type d) = any_mapped (λ x. Unit {0}) StepOnce (added mk) (λ x w. none_made q) (defined_made c d) (any_is (defined_made c d))
    types_once (func_type f) = any_mapped (λ x. Unit {0}) StepOnce (added mk) (λ x w. none_made q) (func_made c f) (any_is (func_made c f))
    types_once (component_type ds) = tt
    types_once (instance_type ds) = tt
    types_once (resource_type rep dtor) = any_cond StepOnce (is_concrete c.kind && dtor_stands c dtor) (defines mk.resource (Some rep) ∷ joins_types mk.reference) base_made

  types_quiet : (is : List ℕ) → new_names (types_join tree_reader is) ≡ []
  types_quiet [] = refl
  types_quiet (i ∷ is) = types_quiet is

  pub core_types_once : (fs : WasmFeatures) (s : Tree_stack) (t : Core_type_form) → OfAny StepOnce (core_type_step fs mk s t)
  core_types_once fs s (core_rec w) =
      let g : Group = closed_group (core_entries s.top) w in
      any_cond StepOnce (may_join s.groups (core_entries s.top) w) (closed_step tree_reader s.groups g) (quiet (closed_step tree_reader s.groups g) (types_quiet (group_ids s.groups g)))
  core_types_once fs s (core_module_type ds) = any_mapped (λ x. Unit {0}) StepOnce (module_joins mk core_types) (λ x w. none_made q) (core_type_made fs s (core_module_type ds)) (any_is (core_type_made fs s (core_module_type ds)))

  outer_quiet : (w : ComponentOuterAliasKind) (x : Type_tree) → new_names (outer_joins w x) ≡ []
  outer_quiet outer.CoreModule x = refl
  outer_quiet outer.CoreType x = refl
  outer_quiet outer.Ty x = refl
  outer_quiet outer.Component x = refl

  charged_quiet : (s : Tree_stack) (w : ComponentOuterAliasKind) (n : ℕ) (x : Type_tree) → new_names (charged s w n x ++ outer_joins w x) ≡ []
  charged_quiet s w zero x = outer_quiet w x
  charged_quiet s w (suc n) x = go (is_charged w && concrete_at n s)
    where
      go : (b : Bool) → new_names (cond b (charges n (tree_reader.size x) ∷ []) [] ++ outer_joins w x) ≡ []
      go true = outer_quiet w x
      go false = outer_quiet w x

  pub aliases_once : (s : Tree_stack) (x : ComponentAlias) → OfAny StepOnce (alias_step s x)
  aliases_once s (alias.InstanceExport w i n) =
      let o : Option Type_tree = option_and_then (if_sort tree_reader (sort_named w)) (option_and_then (export_of tree_reader n) (instance_at s.top i)) in
      any_mapped (λ x. Unit {0}) StepOnce joining (λ x v. quiet (joining x) (joins_quiet false (sort x) x)) o (any_is o)
  aliases_once s (alias.CoreInstanceExport w i n) =
      let o : Option EntityType = option_and_then (if_of w) (option_and_then (core_export_of tree_reader n) (core_instance_at s.top i)) in
      any_mapped (λ (e : EntityType). Unit {0}) StepOnce (item_joins tree_reader w) (λ e v. none_made q) o (any_is o)
  aliases_once s (alias.Outer w n i) = any_mapped (λ x. Unit {0}) StepOnce (λ x. charged s w n x ++ outer_joins w x) (λ x v. quiet (charged s w n x ++ outer_joins w x) (charged_quiet s w n x)) (outer_at s w n i) (any_is (outer_at s w n i))
