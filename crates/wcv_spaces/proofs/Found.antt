-- What is looked up over ids is what is looked up in the context.
use Rattle.std.proofs.Common.{◌≡◌, ℕ, ◌+◌, ◌≤◌, List, [], ◌∷◌, ◌++◌, map, refl, sym, ◌∙◌, ap, subst, arith, append-nil, Bool, true, cond, eqb, Some, None}
use Rattle.std.specs.Prelude.{slice_get, Option, ◌&&◌, All}
use Rattle.std.proofs.lemmas.List.Elements.{All-nil, All-cons}
use Rattle.std.proofs.Math.Bool.{and-false}
use Rattle.std.proofs.lemmas.Bool.{eq-eqb, ne_eqb}
use Rattle.std.specs.Option.{option_map, option_and_then}
use Rattle.std.proofs.lemmas.Bool.{false≢true}
use Rattle.std.proofs.lemmas.Option.{slice_get-map}
use Rattle.wcv_core.specs.Names.{Place, number, stamp}
use Rattle.wcv_core.specs.declared.features.WasmFeatures.{WasmFeatures}
use Rattle.wcv_syntax.specs.declared.component_type.ComponentTypeRef.{ComponentTypeRef}
use Rattle.wcv_syntax.specs.declared.component_type.ComponentTypeRef.TheVariants as ref
use Rattle.wcv_syntax.specs.declared.component_type.TypeBounds.TheVariants as bounds
use Rattle.wcv_syntax.specs.declared.component_type.ComponentValType.{ComponentValType as Written_value}
use Rattle.wcv_syntax.specs.declared.component_type.ComponentValType.TheVariants.{Primitive, Ty}
use Rattle.wcv_types.specs.Arena.{Arena}
use Rattle.wcv_types.specs.ComponentTrees.{resource_path}
use Rattle.wcv_types.specs.Entities.{any_part, entity_tree, EntityStands}
use Rattle.wcv_types.specs.Renewed as arena
use Rattle.wcv_types.specs.Renewed.{next_name, next_id, Renewed}
use Rattle.wcv_types.specs.Standing.{Stands, Extends}
use Rattle.wcv_types.specs.Tree.{Sort, is_value, is_func, is_instance, is_component, is_module, sort, type_of, resource_type}
use Rattle.wcv_types.specs.Unfold.{trees, part_tree, tree_at}
use Rattle.wcv_types.specs.declared.ids.AliasableResourceId.{AliasableResourceId}
use Rattle.wcv_types.specs.declared.ids.ComponentCoreTypeId.{ComponentCoreTypeId}
use Rattle.wcv_types.specs.declared.ids.ComponentCoreTypeId.TheVariants as core_id
use Rattle.wcv_types.specs.declared.ids.ComponentInstanceTypeId.{ComponentInstanceTypeId}
use Rattle.wcv_types.specs.declared.ids.ResourceId.{ResourceId}
use Rattle.wcv_types.specs.declared.ids.ComponentAnyTypeId.{ComponentAnyTypeId}
use Rattle.wcv_types.specs.declared.ids.ComponentAnyTypeId.TheVariants as any
use Rattle.wcv_types.specs.declared.ids.Part.TheVariants as part
use Rattle.wcv_types.specs.declared.shapes.ComponentEntityType.{ComponentEntityType}
use Rattle.wcv_types.specs.declared.shapes.ComponentEntityType.TheVariants as entity
use Rattle.wcv_types.specs.declared.shapes.ComponentValType.{ComponentValType}
use Rattle.wcv_types.specs.declared.shapes.ComponentValType.TheVariants as val
use Rattle.wcv_types.proofs.Lists.{some-inj}
use Rattle.wcv_types.proofs.Grown.{extends_refl}
use Rattle.wcv_types.proofs.Unfolding.{sort_stands}
use Rattle.wcv_lower.specs.Checks.{Checks, IsFree, missing, missing_of, same_sort}
use Rattle.wcv_lower.specs.Context.{Space, in_types, Core_space, core_types}
use Rattle.wcv_lower.specs.Entries.{type_at, again_brought, new_resource, written_checks, written}
use Rattle.wcv_lower.specs.Given.{GivenNames, none_given, both_given, names_of, GivesAt}
use Rattle.wcv_lower.specs.Names.{Names, Under}
use Rattle.wcv_lower.specs.Readers.{Maker, if_sort}
use Rattle.wcv_lower.specs.Step.{Brought, bare, brought_at}
use Rattle.wcv_lower.specs.Trees.{Type_tree, type_entry, referenced, tree_reader, tree_maker}
use Rattle.wcv_core.specs.Features.{cm_values}
use Rattle.wcv_lower.specs.Values.{lacks, value_checks, value_entry}
use Rattle.wcv_lower.proofs.Causes.{free_both}
use Rattle.wcv_lower.proofs.Unfolded.{part_sorted}
use Rattle.wcv_spaces.specs.Contents.{Contents, Id, Core_id, ids, core_ids, context_of, id_tree, core_tree, core_type_part, IdStands, CoreIdStands, StateStands}
use Rattle.wcv_spaces.specs.Looking.{any_sort, core_sort, func_entity, instance_entity, component_entity, module_entity, value_entity, value_id, value_id_checks, written_id_checks, CreatesAgain, MakesResource, GivesWritten, introduced_by, introduced_id, introduced_in, created_reference}
use Rattle.wcv_spaces.specs.Bringing.{brought_new}
use Rattle.wcv_spaces.specs.Promises.{numbers_of, is_instance_entity, EntityAlone}
use Rattle.wcv_spaces.proofs.Brought.{as_it_is_at, instance_at, as_new, brought_same}
use Rattle.wcv_spaces.proofs.Given.{again_names, again_given, again_core, renewed_first, resource_names, resource_given, name_first, reference_first}
use Rattle.wcv_spaces.proofs.Keeping.{all_at}
use Rattle.wcv_spaces.proofs.StaysAlone.{stays_at}

-- what is brought by a maker
abbrev pub Brings : Type 0
Brings = Maker tree_reader → Option (Brought tree_reader)

-- the entity was looked up for an entry, in an arena that may have grown: what is brought at each place, by names that the arena gave, whatever
-- is given behind them, is what joins of the entity, and there is no cause
pub record Looked (a b : Arena) (x : ComponentEntityType) (looked : Maker tree_reader → Checks) (brings : Brings) : Type 0 where
  pub grown : Extends a b
  pub core : b.core ≡ a.core
  pub given_names : Place → GivenNames
  pub given : (p : Place) → GivesAt (Under p) (numbers_of a) (numbers_of b) (given_names p)
  pub brought : (p : Place) (more : GivenNames) → let mk : Maker tree_reader = tree_maker (names_of (both_given (given_names p) more)) p in brings mk ≡ Some (brought_at mk (entity_tree (trees b.nodes) x))
  -- for an instance type nothing is made
  pub instance : is_instance_entity x ≡ true → (b ≡ a) × ((p : Place) → given_names p ≡ none_given)
  pub free : (p : Place) (more : GivenNames) → IsFree (looked (tree_maker (names_of (both_given (given_names p) more)) p))
  pub stands : EntityStands b x
  -- a resource that it introduces is new
  pub fresh : (r : ResourceId) → introduced_id x ≡ Some r → a.resources ≤ r.index
  -- the stamp of a reference that it creates is
  pub stamped : All (λ q. a.stamps ≤ q.stamp) (created_reference x)

-- so where the causes do not go by what is made
abbrev pub LookedUp : Arena → Arena → ComponentEntityType → Checks → Brings → Type 0
LookedUp a b x looked brings = Looked a b x (λ k. looked) brings

-- with more causes that are none
pub also_free : (a b : Arena) (x : ComponentEntityType) (looked : Maker tree_reader → Checks) (brings : Brings) (cs : Checks) → IsFree cs → Looked a b x looked brings → Looked a b x (λ k. cs ++ looked k) brings
also_free a b x looked brings cs f w = record {
  grown = w.grown;
  core = w.core;
  given_names = w.given_names;
  given = w.given;
  brought = w.brought;
  instance = w.instance;
  free = λ p more. free_both cs (looked (tree_maker (names_of (both_given (w.given_names p) more)) p)) f (w.free p more);
  stands = w.stands;
  fresh = w.fresh;
  stamped = w.stamped;
}

-- what joins as it is, of an entity that introduces nothing
bare_is : (a : Arena) (x : ComponentEntityType) (names : Names) (p : Place) → EntityStands a x → EntityAlone a x → introduced_id x ≡ None → bare tree_reader (entity_tree (trees a.nodes) x) ≡ brought_at (tree_maker names p) (entity_tree (trees a.nodes) x)
bare_is a x names p h e n =
    ap (λ (o : Option ResourceId). record { entity = entity_tree (trees a.nodes) x; resources = map resource_path (introduced_in o) }) (sym n) ∙ sym (brought_same a x h) ∙ sym (stays_at a names p x h e)

-- one that stands as it is
pub found_same : (a : Arena) (x : ComponentEntityType) (looked : Checks) (o : Option Type_tree) → o ≡ Some (entity_tree (trees a.nodes) x) → IsFree looked → EntityAlone a x → EntityStands a x → introduced_id x ≡ None → created_reference x ≡ [] →
    LookedUp a a x looked (λ k. option_map (bare tree_reader) o)
found_same a x looked o e free alone h same plain = record {
  grown = extends_refl a;
  core = refl;
  given_names = λ p. none_given;
  given = λ p. record { resources = tt; identities = tt };
  brought = λ p more. ap (option_map (bare tree_reader)) e ∙ ap Some (bare_is a x (names_of (both_given none_given more)) p h alone same);
  instance = λ k. (refl, λ p. refl);
  free = λ p more. free;
  stands = h;
  fresh = λ r k. absurd (cc);
  stamped = subst (All (λ q. a.stamps ≤ q.stamp)) (sym plain) (All-nil _);
}

-- an instance type, of which an instance is made where it joins
pub found_instance : (a : Arena) (i : ComponentInstanceTypeId) (looked : Checks) (o : Option Type_tree) → o ≡ Some (entity_tree (trees a.nodes) (entity.Instance i)) → IsFree looked → EntityStands a (entity.Instance i) → LookedUp a a (entity.Instance i) looked (λ k. option_map k.instance_of o)
found_instance a i looked o e free h = record {
  grown = extends_refl a;
  core = refl;
  given_names = λ p. none_given;
  given = λ p. record { resources = tt; identities = tt };
  brought = λ p more.
      let mk : Maker tree_reader = tree_maker (names_of (both_given none_given more)) p in
      ap (option_map mk.instance_of) e ∙ ap Some (sym (instance_at a mk i h));
  instance = λ k. (refl, λ p. refl);
  free = λ p more. free;
  stands = h;
  fresh = λ r k. absurd (cc);
  stamped = All-nil _;
}

-- ## A type that is made again

none_introduced : (a : Arena) (r : ComponentAnyTypeId) → Stands a (any_part r) → introduced_by (next_id a r) r ≡ None
none_introduced a (any.Resource q) s =
    ap (λ (x : Bool). cond (eqb q.resource.index q.resource.index && x) (Some q.resource) None) (ne_eqb a.stamps q.stamp (λ e. omega (arith, e, s.stamp))) ∙
    ap (λ (x : Bool). cond x (Some q.resource) None) (and-false (eqb q.resource.index q.resource.index))
none_introduced a (any.Defined i) s = refl
none_introduced a (any.Func i) s = refl
none_introduced a (any.Instance i) s = refl
none_introduced a (any.Component i) s = refl

-- the reference to a type that is made again has the next stamp
leq_self : (k : ℕ) → k ≤ k
leq_self k = omega arith

next_stamped : (a : Arena) (r : ComponentAnyTypeId) → All (λ q. a.stamps ≤ q.stamp) (created_reference (entity.Ty (next_id a r) r))
next_stamped a (any.Resource q) = All-cons (λ (p : AliasableResourceId). a.stamps ≤ p.stamp) (record q { stamp = a.stamps }) [] (leq_self a.stamps) (All-nil _)
next_stamped a (any.Defined i) = All-nil _
next_stamped a (any.Func i) = All-nil _
next_stamped a (any.Instance i) = All-nil _
next_stamped a (any.Component i) = All-nil _

pub found_again : (a b : Arena) (r c : ComponentAnyTypeId) (looked : Checks) (brings : Brings) → Stands a (any_part r) → Renewed a b r c →
    ((k : Maker tree_reader) → brings k ≡ Some (again_brought k (tree_at a (any_part r)))) → IsFree looked → LookedUp a b (entity.Ty c r) looked brings
found_again a b r c looked brings h w made free =
    let t : Type_tree = tree_at a (any_part r) in
    let alone : introduced_by c r ≡ None = ap (λ (x : ComponentAnyTypeId). introduced_by x r) w.made_is ∙ none_introduced a r h in
    let same_entity : type_of (arena.renewed (next_name a r) t) t ≡ entity_tree (trees b.nodes) (entity.Ty c r) = λ j. type_of (sym w.tree j) (sym (w.stay.trees (any_part r) h) j) in
    record {
      grown = w.grown;
      core = again_core a b r w.arena;
      given_names = again_names a r;
      given = λ p. again_given a b p r h w.arena;
      brought = λ p more.
          let mk : Maker tree_reader = tree_maker (names_of (both_given (again_names a r p) more)) p in
          made mk ∙ ap (λ (u : Type_tree). Some (bare tree_reader (type_of u t))) (renewed_first a r p more h) ∙ ap (λ (u : Type_tree). Some (bare tree_reader u)) same_entity ∙
          ap Some (bare_is b (entity.Ty c r) (names_of (both_given (again_names a r p) more)) p (w.stands, w.stay.stands (any_part r) h) (λ k. absurd (false≢true k)) alone);
      instance = λ k. absurd (false≢true k);
      free = λ p more. free;
      stands = (w.stands, w.stay.stands (any_part r) h);
      fresh = λ q k. absurd (cc);
      stamped = subst (λ (x : ComponentAnyTypeId). All (λ q. a.stamps ≤ q.stamp) (created_reference (entity.Ty x r))) (sym w.made_is) (next_stamped a r);
    }

-- ## A resource that is made

pub found_new : (a b : Arena) (x : ComponentEntityType) (looked : Checks) (brings : Brings) → MakesResource a b x → ((k : Maker tree_reader) → brings k ≡ Some (new_resource k)) → IsFree looked → LookedUp a b x looked brings
found_new a b x looked brings w made free =
    let reference : Type_tree = resource_type (number a.resources) (stamp a.stamps) in
    let id : AliasableResourceId = record { resource = record { index = a.resources }; stamp = a.stamps } in
    let is : x ≡ entity.Ty (any.Resource id) (any.Resource id) = w.entity ∙ ap (λ (i : AliasableResourceId). entity.Ty (any.Resource i) (any.Resource i)) w.is in
    let more : b.resources ≡ a.resources + 1 = ap (λ (y : Arena). y.resources) w.arena in
    let stamps : b.stamps ≡ a.stamps + 1 = ap (λ (y : Arena). y.stamps) w.arena in
    let self : introduced_id (entity.Ty (any.Resource id) (any.Resource id)) ≡ Some (record { index = a.resources }) = own_introduced id in
    let stand : EntityStands b (entity.Ty (any.Resource id) (any.Resource id)) = (record { resource = omega (arith, more); stamp = omega (arith, stamps) }, record { resource = omega (arith, more); stamp = omega (arith, stamps) }) in
    let brought : record { entity = type_entry reference; resources = (number a.resources, []) ∷ [] } ≡ brought_new b (as_new (entity.Ty (any.Resource id) (any.Resource id))) =
    λ j. record { entity = type_entry reference; resources = map resource_path (introduced_in (sym self j)) } in
    subst (λ (y : ComponentEntityType). LookedUp a b y looked brings) (sym is) (record {
      grown = record { more = []; nodes = ap (λ (y : Arena). y.nodes) w.arena ∙ sym (append-nil a.nodes); groups = []; core = ap (λ (y : Arena). y.core) w.arena ∙ sym (append-nil a.core); resources = omega (arith, more); stamps = omega (arith, stamps) };
      core = ap (λ (y : Arena). y.core) w.arena;
      given_names = resource_names a;
      given = λ p. resource_given a b p more stamps;
      brought = λ p names.
          let mk : Maker tree_reader = tree_maker (names_of (both_given (resource_names a p) names)) p in
          made mk ∙ (λ j. Some (record { entity = type_entry (reference_first a p names j); resources = (name_first a p names j, []) ∷ [] })) ∙
          ap Some (brought ∙ sym (brought_same b (entity.Ty (any.Resource id) (any.Resource id)) stand) ∙ sym (as_it_is_at b mk (entity.Ty (any.Resource id) (any.Resource id)) stand refl));
      instance = λ k. absurd (false≢true k);
      free = λ p more. free;
      stands = stand;
      fresh = λ r k. fresh_is r (sym self ∙ k);
      stamped = All-cons (λ (p : AliasableResourceId). a.stamps ≤ p.stamp) id [] (leq_self a.stamps) (All-nil _);
    })
  where
    own_introduced : (i : AliasableResourceId) → introduced_id (entity.Ty (any.Resource i) (any.Resource i)) ≡ Some i.resource
    own_introduced i = ap (λ (x : Bool). cond (x && eqb i.stamp i.stamp) (Some i.resource) None) (eq-eqb i.resource.index i.resource.index refl) ∙ ap (λ (x : Bool). cond x (Some i.resource) None) (eq-eqb i.stamp i.stamp refl)

    fresh_is : (r : ResourceId) → Some (record { index = a.resources }) ≡ Some r → a.resources ≤ r.index
    fresh_is r e = let k : record { index = a.resources } ≡ r = cc in omega (arith, ap (λ (q : ResourceId). q.index) k)

module _ (a : Arena) (s : Contents) (h : StateStands a s) where
  abbrev ts : List Type_tree
  ts = trees a.nodes

  -- what stands at an index
  pub get_same : (k : Space) (i : ℕ) → slice_get ((context_of a s).space k) i ≡ option_map (id_tree (trees a.nodes) k) (slice_get (ids k s.spaces) i)
  get_same k i = slice_get-map (id_tree (trees a.nodes) k) (ids k s.spaces) i

  pub stands_at : (k : Space) (i : ℕ) (x : Id k) → slice_get (ids k s.spaces) i ≡ Some x → IdStands a k x
  stands_at k i x e = all_at (IdStands a k) (ids k s.spaces) i x (h.space k) e

  pub core_same : (k : Core_space) (i : ℕ) → slice_get ((context_of a s).core k) i ≡ option_map (core_tree (trees a.nodes) k) (slice_get (core_ids k s.spaces) i)
  core_same k i = slice_get-map (core_tree (trees a.nodes) k) (core_ids k s.spaces) i

  pub core_stands_at : (k : Core_space) (i : ℕ) (x : Core_id k) → slice_get (core_ids k s.spaces) i ≡ Some x → CoreIdStands a k x
  core_stands_at k i x e = all_at (CoreIdStands a k) (core_ids k s.spaces) i x (h.core k) e

  -- ## Types

  pub sorts_same : (i : ℕ) → option_map sort (type_at (context_of a s) i) ≡ option_map any_sort (slice_get s.spaces.types i)
  sorts_same i = ap (λ (o : Option Type_tree). option_map sort (option_map referenced o)) (get_same in_types i) ∙ go (slice_get s.spaces.types i) (λ x e. stands_at in_types i x e)
    where
      go : (o : Option ComponentAnyTypeId) → ((x : ComponentAnyTypeId) → o ≡ Some x → IdStands a in_types x) →
          option_map sort (option_map referenced (option_map (id_tree (trees a.nodes) in_types) o)) ≡ option_map any_sort o
      go None p = refl
      go (Some x) p = ap Some (part_sorted a (any_part x) (p x refl).0)

  core_sorts_same : (i : ℕ) → option_map sort (slice_get ((context_of a s).core core_types) i) ≡ option_map core_sort (slice_get s.spaces.core_types i)
  core_sorts_same i = ap (option_map sort) (core_same core_types i) ∙ go (slice_get s.spaces.core_types i) (λ x e. core_stands_at core_types i x e)
    where
      go : (o : Option ComponentCoreTypeId) → ((x : ComponentCoreTypeId) → o ≡ Some x → CoreIdStands a core_types x) → option_map sort (option_map (core_tree (trees a.nodes) core_types) o) ≡ option_map core_sort o
      go None p = refl
      go (Some x) p = ap Some (part_sorted a (core_type_part x) (p x refl))

  -- ## Written types

  missing_same : (i : ℕ) → missing (type_at (context_of a s) i) ≡ missing (slice_get s.spaces.types i)
  missing_same i = ap (λ (o : Option Type_tree). missing (option_map referenced o)) (get_same in_types i) ∙ go (slice_get s.spaces.types i)
    where
      go : (o : Option ComponentAnyTypeId) → missing (option_map referenced (option_map (id_tree (trees a.nodes) in_types) o)) ≡ missing o
      go None = refl
      go (Some x) = refl

  value_checks_same : (fs : WasmFeatures) (v : Written_value) → value_checks fs (context_of a s) v ≡ value_id_checks fs s.spaces v
  value_checks_same fs (Primitive p) = refl
  value_checks_same fs (Ty k) = ap (missing_of is_value) (sorts_same k)

  pub written_checks_same : (fs : WasmFeatures) (r : ComponentTypeRef) → written_checks fs (context_of a s) r ≡ written_id_checks fs s.spaces r
  written_checks_same fs (ref.Func k) = ap (missing_of is_func) (sorts_same k)
  written_checks_same fs (ref.Module k) = ap (missing_of is_module) (core_sorts_same k)
  written_checks_same fs (ref.Value v) = ap (λ (cs : Checks). lacks fs cm_values ++ cs) (value_checks_same fs v)
  written_checks_same fs (ref.Ty (bounds.Eq k)) = missing_same k
  written_checks_same fs (ref.Ty bounds.SubResource) = refl
  written_checks_same fs (ref.Instance k) = ap (missing_of is_instance) (sorts_same k)
  written_checks_same fs (ref.Component k) = ap (missing_of is_component) (sorts_same k)

  -- what is looked up joins as it is
  abbrev as_it_is : Option Type_tree → Brings
  as_it_is o k = option_map (bare tree_reader) o

  func_found : (k : ℕ) (o : Option ComponentAnyTypeId) (x : ComponentEntityType) → slice_get s.spaces.types k ≡ o → option_and_then func_entity o ≡ Some x →
      LookedUp a a x (missing_of is_func (option_map any_sort o)) (as_it_is (option_and_then (if_sort tree_reader is_func) (option_map referenced (option_map (id_tree (trees a.nodes) in_types) o))))
  func_found k None x e f = cc
  func_found k (Some (any.Func i)) x e f =
      let p : Stands a (part.Func i) = (stands_at in_types k (any.Func i) e).0 in
      let t : Type_tree = part_tree (trees a.nodes) (part.Func i) in
      let same : entity.Func i ≡ x = cc in
      let look : Option Type_tree = cond (same_sort is_func (sort t)) (Some t) None in
      subst (λ (y : ComponentEntityType). LookedUp a a y (missing_of is_func (Some is_func)) (as_it_is look)) same
      (found_same a (entity.Func i) (missing_of is_func (Some is_func)) look (ap (λ (r : Sort). cond (same_sort is_func r) (Some t) None) (sort_stands a (part.Func i) p)) (refl, (refl, tt)) (λ k. absurd (false≢true k)) p refl refl)
  func_found k (Some (any.Resource r)) x e f = cc
  func_found k (Some (any.Defined i)) x e f = cc
  func_found k (Some (any.Instance i)) x e f = cc
  func_found k (Some (any.Component i)) x e f = cc

  component_found : (k : ℕ) (o : Option ComponentAnyTypeId) (x : ComponentEntityType) → slice_get s.spaces.types k ≡ o → option_and_then component_entity o ≡ Some x →
      LookedUp a a x (missing_of is_component (option_map any_sort o)) (as_it_is (option_and_then (if_sort tree_reader is_component) (option_map referenced (option_map (id_tree (trees a.nodes) in_types) o))))
  component_found k None x e f = cc
  component_found k (Some (any.Component i)) x e f =
      let p : Stands a (part.Component i) = (stands_at in_types k (any.Component i) e).0 in
      let t : Type_tree = part_tree (trees a.nodes) (part.Component i) in
      let same : entity.Component i ≡ x = cc in
      let look : Option Type_tree = cond (same_sort is_component (sort t)) (Some t) None in
      subst (λ (y : ComponentEntityType). LookedUp a a y (missing_of is_component (Some is_component)) (as_it_is look)) same
      (found_same a (entity.Component i) (missing_of is_component (Some is_component)) look (ap (λ (r : Sort). cond (same_sort is_component r) (Some t) None) (sort_stands a (part.Component i) p)) (refl, (refl, tt)) (λ k. absurd (false≢true k)) p refl refl)
  component_found k (Some (any.Resource r)) x e f = cc
  component_found k (Some (any.Defined i)) x e f = cc
  component_found k (Some (any.Func i)) x e f = cc
  component_found k (Some (any.Instance i)) x e f = cc

  -- an instance of it joins
  abbrev as_instance : Option Type_tree → Brings
  as_instance o k = option_map k.instance_of o

  instance_found : (k : ℕ) (o : Option ComponentAnyTypeId) (x : ComponentEntityType) → slice_get s.spaces.types k ≡ o → option_and_then instance_entity o ≡ Some x →
      LookedUp a a x (missing_of is_instance (option_map any_sort o)) (as_instance (option_and_then (if_sort tree_reader is_instance) (option_map referenced (option_map (id_tree (trees a.nodes) in_types) o))))
  instance_found k None x e f = cc
  instance_found k (Some (any.Instance i)) x e f =
      let p : Stands a (part.Instance i) = (stands_at in_types k (any.Instance i) e).0 in
      let t : Type_tree = part_tree (trees a.nodes) (part.Instance i) in
      let same : entity.Instance i ≡ x = cc in
      let look : Option Type_tree = cond (same_sort is_instance (sort t)) (Some t) None in
      subst (λ (y : ComponentEntityType). LookedUp a a y (missing_of is_instance (Some is_instance)) (as_instance look)) same
      (found_instance a i (missing_of is_instance (Some is_instance)) look (ap (λ (r : Sort). cond (same_sort is_instance r) (Some t) None) (sort_stands a (part.Instance i) p)) (refl, (refl, tt)) p)
  instance_found k (Some (any.Resource r)) x e f = cc
  instance_found k (Some (any.Defined i)) x e f = cc
  instance_found k (Some (any.Func i)) x e f = cc
  instance_found k (Some (any.Component i)) x e f = cc

  module_found : (k : ℕ) (o : Option ComponentCoreTypeId) (x : ComponentEntityType) → slice_get s.spaces.core_types k ≡ o → option_and_then module_entity o ≡ Some x →
      LookedUp a a x (missing_of is_module (option_map core_sort o)) (as_it_is (option_and_then (if_sort tree_reader is_module) (option_map (core_tree (trees a.nodes) core_types) o)))
  module_found k None x e f = cc
  module_found k (Some (core_id.Module i)) x e f =
      let p : Stands a (part.Module i) = core_stands_at core_types k (core_id.Module i) e in
      let t : Type_tree = part_tree (trees a.nodes) (part.Module i) in
      let same : entity.Module i ≡ x = cc in
      let look : Option Type_tree = cond (same_sort is_module (sort t)) (Some t) None in
      subst (λ (y : ComponentEntityType). LookedUp a a y (missing_of is_module (Some is_module)) (as_it_is look)) same
      (found_same a (entity.Module i) (missing_of is_module (Some is_module)) look (ap (λ (r : Sort). cond (same_sort is_module r) (Some t) None) (sort_stands a (part.Module i) p)) (refl, (refl, tt)) (λ k. absurd (false≢true k)) p refl refl)
  module_found k (Some (core_id.Sub i)) x e f = cc

  -- what stands at an index of types, as the rules have it
  pub type_is : (k : ℕ) (r : ComponentAnyTypeId) → slice_get s.spaces.types k ≡ Some r → type_at (context_of a s) k ≡ Some (tree_at a (any_part r))
  type_is k r e = ap (option_map referenced) (get_same in_types k) ∙ ap (λ (o : Option ComponentAnyTypeId). option_map referenced (option_map (id_tree (trees a.nodes) in_types) o)) e

  pub again : (b : Arena) (k : ℕ) (x : ComponentEntityType) (looked : Checks) (brings : Brings) → CreatesAgain a b (slice_get s.spaces.types k) x →
      ((r : ComponentAnyTypeId) → slice_get s.spaces.types k ≡ Some r → ((m : Maker tree_reader) → brings m ≡ Some (again_brought m (tree_at a (any_part r)))) × IsFree looked) → LookedUp a b x looked brings
  again b k x looked brings w f = go (slice_get s.spaces.types k) refl w
    where
      go : (i : Option ComponentAnyTypeId) → slice_get s.spaces.types k ≡ i → CreatesAgain a b i x → LookedUp a b x looked brings
      go None e w = absurd w
      go (Some r) e w =
          let g = f r e in
          subst (λ (y : ComponentEntityType). LookedUp a b y looked brings) (sym w.2) (found_again a b r w.0 looked brings (stands_at in_types k r e).0 w.1 g.0 g.1)

  -- a value joins as it is
  value_as : (looked : Checks) (v : ComponentValType) (x : ComponentEntityType) (o : Option Type_tree) → entity.Value v ≡ x → o ≡ Some (entity_tree ts (entity.Value v)) → EntityStands a (entity.Value v) → IsFree looked → LookedUp a a x looked (as_it_is o)
  value_as looked v x o is e p free = subst (λ (y : ComponentEntityType). LookedUp a a y looked (as_it_is o)) is (found_same a (entity.Value v) looked o e free (λ k. absurd (false≢true k)) p refl refl)

  value_found : (fs : WasmFeatures) (v : Written_value) (x : ComponentEntityType) → value_id s.spaces v ≡ Some x → IsFree (written_checks fs (context_of a s) (ref.Value v)) →
      LookedUp a a x (written_checks fs (context_of a s) (ref.Value v)) (λ m. written m (context_of a s) (ref.Value v))
  value_found fs (Primitive p) x e free = value_as (written_checks fs (context_of a s) (ref.Value (Primitive p))) (val.Primitive p) x (Some (tree_reader.primitive p)) (some-inj e) refl tt free
  value_found fs (Ty k) x e free = go (slice_get s.spaces.types k) refl e
    where
      go : (o : Option ComponentAnyTypeId) → slice_get s.spaces.types k ≡ o → option_and_then value_entity o ≡ Some x → LookedUp a a x (written_checks fs (context_of a s) (ref.Value (Ty k))) (λ m. written m (context_of a s) (ref.Value (Ty k)))
      go None q f = cc
      go (Some (any.Defined i)) q f =
          let p : Stands a (part.Defined i) = (stands_at in_types k (any.Defined i) q).0 in
          let t : Type_tree = part_tree (trees a.nodes) (part.Defined i) in
          value_as (written_checks fs (context_of a s) (ref.Value (Ty k))) (val.Ty i) x (value_entry (context_of a s) (Ty k)) (some-inj f)
          (ap (option_and_then (if_sort tree_reader is_value)) (type_is k (any.Defined i) q) ∙ ap (λ (r : Sort). cond (same_sort is_value r) (Some t) None) (sort_stands a (part.Defined i) p)) p free
      go (Some (any.Resource r)) q f = cc
      go (Some (any.Func i)) q f = cc
      go (Some (any.Instance i)) q f = cc
      go (Some (any.Component i)) q f = cc

  pub written_found : (fs : WasmFeatures) (b : Arena) (r : ComponentTypeRef) (x : ComponentEntityType) → GivesWritten a b s.spaces r x → IsFree (written_checks fs (context_of a s) r) → LookedUp a b x (written_checks fs (context_of a s) r) (λ m. written m (context_of a s) r)
  written_found fs b (ref.Func k) x e free =
      let look : Option Type_tree → Option Type_tree = λ o. option_and_then (if_sort tree_reader is_func) (option_map referenced o) in
      subst (λ (c : Arena). LookedUp a c x (written_checks fs (context_of a s) (ref.Func k)) (λ m. written m (context_of a s) (ref.Func k))) (sym e.0)
      (subst (λ (cs : Checks). LookedUp a a x cs (as_it_is (look (slice_get ((context_of a s).space in_types) k)))) (sym (written_checks_same fs (ref.Func k)))
      (subst (λ (o : Option Type_tree). LookedUp a a x (written_id_checks fs s.spaces (ref.Func k)) (as_it_is (look o))) (sym (get_same in_types k)) (func_found k (slice_get s.spaces.types k) x refl e.1)))
  written_found fs b (ref.Ty (bounds.Eq k)) x w free =
      again b k x (written_checks fs (context_of a s) (ref.Ty (bounds.Eq k))) (λ m. written m (context_of a s) (ref.Ty (bounds.Eq k))) w
      (λ r e. ((λ m. ap (option_map (again_brought m)) (type_is k r e)), subst (λ (o : Option Type_tree). IsFree (missing o)) (sym (type_is k r e)) (refl, tt)))
  written_found fs b (ref.Ty bounds.SubResource) x w free =
      found_new a b x (written_checks fs (context_of a s) (ref.Ty bounds.SubResource)) (λ m. written m (context_of a s) (ref.Ty bounds.SubResource)) w (λ m. refl) tt
  written_found fs b (ref.Module k) x e free =
      let look : Option Type_tree → Option Type_tree = option_and_then (if_sort tree_reader is_module) in
      subst (λ (c : Arena). LookedUp a c x (written_checks fs (context_of a s) (ref.Module k)) (λ m. written m (context_of a s) (ref.Module k))) (sym e.0)
      (subst (λ (cs : Checks). LookedUp a a x cs (as_it_is (look (slice_get ((context_of a s).core core_types) k)))) (sym (written_checks_same fs (ref.Module k)))
      (subst (λ (o : Option Type_tree). LookedUp a a x (written_id_checks fs s.spaces (ref.Module k)) (as_it_is (look o))) (sym (core_same core_types k)) (module_found k (slice_get s.spaces.core_types k) x refl e.1)))
  written_found fs b (ref.Value v) x e free =
      subst (λ (c : Arena). LookedUp a c x (written_checks fs (context_of a s) (ref.Value v)) (λ m. written m (context_of a s) (ref.Value v))) (sym e.0) (value_found fs v x e.1 free)
  written_found fs b (ref.Component k) x e free =
      let look : Option Type_tree → Option Type_tree = λ o. option_and_then (if_sort tree_reader is_component) (option_map referenced o) in
      subst (λ (c : Arena). LookedUp a c x (written_checks fs (context_of a s) (ref.Component k)) (λ m. written m (context_of a s) (ref.Component k))) (sym e.0)
      (subst (λ (cs : Checks). LookedUp a a x cs (as_it_is (look (slice_get ((context_of a s).space in_types) k)))) (sym (written_checks_same fs (ref.Component k)))
      (subst (λ (o : Option Type_tree). LookedUp a a x (written_id_checks fs s.spaces (ref.Component k)) (as_it_is (look o))) (sym (get_same in_types k)) (component_found k (slice_get s.spaces.types k) x refl e.1)))
  written_found fs b (ref.Instance k) x e free =
      let look : Option Type_tree → Option Type_tree = λ o. option_and_then (if_sort tree_reader is_instance) (option_map referenced o) in
      subst (λ (c : Arena). LookedUp a c x (written_checks fs (context_of a s) (ref.Instance k)) (λ m. written m (context_of a s) (ref.Instance k))) (sym e.0)
      (subst (λ (cs : Checks). LookedUp a a x cs (as_instance (look (slice_get ((context_of a s).space in_types) k)))) (sym (written_checks_same fs (ref.Instance k)))
      (subst (λ (o : Option Type_tree). LookedUp a a x (written_id_checks fs s.spaces (ref.Instance k)) (as_instance (look o))) (sym (get_same in_types k)) (instance_found k (slice_get s.spaces.types k) x refl e.1)))
