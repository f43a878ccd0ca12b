-- Written types: where a context gives one, so do the lists that agree with it, and what fits the first fits the second.
use Rattle.std.proofs.Common.{◌≡◌, ◌∙◌, ℕ, zero, suc, List, [], ◌∷◌, map, Bool, true, false, ◌||◌, cond, Some, refl, sym, ap, subst}
use Rattle.std.specs.Prelude.{slice_get}
use Rattle.std.specs.Option.{option_map}
use Rattle.wcv_core.specs.CoreForm.{Group}
use Rattle.wcv_core.specs.Names.{Name, Place, same, member}
use Rattle.wcv_core.proofs.Names.{same-refl}
use Rattle.wcv_syntax.specs.declared.component_type.ComponentTypeRef.{ComponentTypeRef}
use Rattle.wcv_syntax.specs.declared.component_type.ComponentTypeRef.TheVariants as ref
use Rattle.wcv_syntax.specs.declared.component_type.ComponentValType.TheVariants as val
use Rattle.wcv_syntax.specs.declared.component_type.TypeBounds.TheVariants as bounds
use Rattle.wcv_syntax.specs.declared.instance.ComponentExternalKind.{ComponentExternalKind}
use Rattle.wcv_syntax.specs.declared.instance.ComponentExternalKind.TheVariants as kind
use Rattle.wcv_core.specs.declared.primitive.PrimitiveValType.{PrimitiveValType}
use Rattle.wcv_types.specs.FirstPath.{first_path}
use Rattle.wcv_types.specs.Seen.{outer, seen}
use Rattle.wcv_types.specs.Tree.{is_func, is_value, is_instance, is_component, is_type, is_module, resource, node, none, sort, owned, type_of, resource_type, exports, referenced}
use Rattle.wcv_types.specs.Unfold.{Type_tree}
use Rattle.wcv_types.proofs.Lists.{some-inj}
use Rattle.wcv_matching.specs.Matching.{outside, MatchBelow, opened_by}
use Rattle.wcv_matching.specs.ModuleItems.{ItemsMatch}
use Rattle.wcv_lower.specs.Aliases.{sort_named}
use Rattle.wcv_lower.specs.Checks.{same_sort}
use Rattle.wcv_lower.specs.Context.{core_types, type_at}
use Rattle.wcv_lower.specs.Entries.{written, module_type_at, again_brought, new_resource}
use Rattle.wcv_lower.specs.Names.{Names, introduced, again, stamp_at}
use Rattle.wcv_lower.specs.NewTypes.{renewed, instance_resources, path_or_none, type_entry}
use Rattle.wcv_lower.specs.Readers.{Brought}
use Rattle.wcv_lower.specs.Step.{bare}
use Rattle.wcv_lower.specs.Trees as trees
use Rattle.wcv_lower.specs.Trees.{Tree_context, tree_reader, tree_maker}
use Rattle.wcv_lower.specs.Values.{type_of_sort}
use Rattle.wcv_growth.proofs.Bare.{bare-instance}
use Rattle.wcv_growth.proofs.Known.{mapped-some}
use Rattle.wcv_growth.proofs.Looking.{sorted-here}
use Rattle.wcv_world.specs.Growth.{Tokens, importing_alone}
use Rattle.wcv_world.specs.Reading.{Value_context, value_reader, value_maker, over_types}
use Rattle.wcv_world.specs.Values.{Value, typed, type_over}
use Rattle.wcv_safety.specs.Agreeing.{AgreesAsType, AgreeContexts}
use Rattle.wcv_safety.specs.Fitting.{MatchesAs, Fits}
use Rattle.wcv_safety.specs.Standing.{StandsInOrder}
use Rattle.wcv_safety.proofs.Found.{type-found, sorted-found, module-found}
use Rattle.wcv_safety.proofs.Renewed.{entry-renewed}

module _ (gs : List Group) (g : Name → Name) where
  -- of types that match as entries the second matches the first
  back-below : (d : ℕ) (a t : Type_tree) → MatchBelow (ItemsMatch gs) d Name (λ r. r) g (type_entry a) (type_entry t) → MatchesAs (ItemsMatch gs) {A = Name} g (λ r. r) t a
  back-below zero a t m = absurd m
  back-below (suc d) a t m = (d, m.1.1)

  pub back : (a t : Type_tree) → Fits gs g (type_entry a) (type_entry t) → MatchesAs (ItemsMatch gs) {A = Name} g (λ r. r) t a
  back a t m = back-below m.0 a t m.1

  -- matching looks at no created type
  again-below : (d : ℕ) (a t x y : Type_tree) → MatchBelow (ItemsMatch gs) d Name (λ r. r) g (type_entry a) (type_entry t) → MatchBelow (ItemsMatch gs) d Name g (λ r. r) (type_of x t) (type_of y a)
  again-below zero a t x y m = absurd m
  again-below (suc d) a t x y m = (refl, (m.1.1, m.1.0, λ r. sym (m.1.2 r)))

  again-back : (a t x y : Type_tree) → Fits gs g (type_entry a) (type_entry t) → MatchesAs (ItemsMatch gs) {A = Name} g (λ r. r) (type_of x t) (type_of y a)
  again-back a t x y m = (m.0, again-below m.0 a t x y m.1)

  -- both own the same
  own-below : (d : ℕ) (a t : Type_tree) → MatchBelow (ItemsMatch gs) d Name (λ r. r) g (type_entry a) (type_entry t) → (r : Name) → member r (owned a) ≡ member r (owned t)
  own-below zero a t m r = absurd m
  own-below (suc d) a t m r = m.1.2 r

  -- what the machine tests an argument against is matched by what the context has
  pub record Asked (b : Brought tree_reader) (w : Brought value_reader) : Type 0 where
    pub kind : ComponentExternalKind
    pub sorted : same_sort (sort_named kind) (sort b.entity) ≡ true
    pub reads : Name → Name
    pub fits : MatchesAs (ItemsMatch gs) {A = Name} g (opened_by reads (importing_alone w)) b.entity (type_over w.entity)
    pub created : sort b.entity ≡ is_type → (a : Type_tree) → Fits gs g (type_entry a) (type_entry (referenced b.entity)) → Fits gs g (type_entry a) (trees.created b.entity)

  pub as-it-is : (k : ComponentExternalKind) (x : Value) (t : Type_tree) → same_sort (sort_named k) (sort t) ≡ true → same_sort (sort_named k) is_type ≡ false → AgreesAsType gs g x t → Asked (bare tree_reader t) (bare value_reader x)
  as-it-is k x t e n m = record { kind = k; sorted = e; reads = λ r. r; fits = back (type_over x) t m; created = λ f. absurd (other (same_sort (sort_named k) (sort t)) e (ap (same_sort (sort_named k)) f ∙ n)) }
    where
      other : (b : Bool) → b ≡ true → b ≡ false → ⊥
      other true e f = cc
      other false e f = cc

  no-member : (rs : List Name) → ((r : Name) → member r rs ≡ false) → rs ≡ []
  no-member [] h = refl
  no-member (r ∷ rs) h = absurd (go (same r r) (same-refl r) (h r))
    where
      go : (b : Bool) → b ≡ true → (b || member r rs) ≡ false → ⊥
      go true e f = cc
      go false e f = cc

  pub both-bare : (x : Value) (t : Type_tree) → AgreesAsType gs g x t → owned t ≡ [] → owned (type_over x) ≡ []
  both-bare x t m o = no-member (owned (type_over x)) (λ r. own-below m.0 (type_over x) t m.1 r ∙ ap (member r) o)

bare-over : (gs : List Group) (g : Name → Name) (x : Value) (t : Type_tree) → Asked gs g (bare tree_reader t) (bare value_reader x) → Asked gs g (bare tree_reader t) (over_types (bare tree_reader (type_over x)))
bare-over gs g x t w = record { kind = w.kind; sorted = w.sorted; reads = w.reads; fits = w.fits; created = w.created }

none-mapped : {A B : Type 0} (f : A → B) (xs : List A) → map f xs ≡ [] → xs ≡ []
none-mapped f [] e = refl
none-mapped f (x ∷ xs) e = cc

none-owned : (names : Names) (p : Place) (t : Type_tree) → instance_resources names p t ≡ [] → owned t ≡ []
none-owned names p t e = none-mapped (λ r. (names.resource (again p r), path_or_none (first_path r (exports t)))) (owned t) e

module _ (names other : Names) (p q : Place) (gs : List Group) (ts : Tokens) (g : Name → Name) (v : Value_context) (c : Tree_context) (a : AgreeContexts gs ts g v c) (h : StandsInOrder {X = tree_reader} (λ t. t) gs c) where
  abbrev Answer : ComponentTypeRef → Brought tree_reader → Type 0
  Answer r b = (w : Brought value_reader) × (written (value_maker other q) v r ≡ Some w) × Asked gs g b w

  -- a type of a sort
  plain-found : (k : ComponentExternalKind) (i : ℕ) (t : Type_tree) → same_sort (sort_named k) is_type ≡ false → type_of_sort (sort_named k) c i ≡ Some t →
      (x : Value) × (type_of_sort (sort_named k) v i ≡ Some x) × Asked gs g (bare tree_reader t) (bare value_reader x)
  plain-found k i t n e =
      let x = sorted-found gs ts g v c a h (sort_named k) i t e in
      (x.0, x.1, as-it-is gs g k x.0 t (sorted-here (sort_named k) (type_at c i) t e).1 n x.2)

  -- the reference to a resource that is new is read as the other is
  reference-asked : (r s r' s' : Name) → Asked gs g (record { entity = type_entry (resource_type r s); resources = (r, []) ∷ [] }) (record { entity = typed (type_entry (resource_type r' s')); resources = (r', []) ∷ [] })
  reference-asked r s r' s' = record { kind = kind.Ty; sorted = refl; reads = λ z. g r; fits = (2, (refl, ((refl, alike), (refl, sym alike), λ x. refl))); created = λ f x m. m }
    where
      reading : Name → Name
      reading = opened_by (λ z. g r) (importing_alone (record { entity = typed (type_entry (resource_type r' s')); resources = (r', []) ∷ [] }))

      read : g r ≡ reading r'
      read = sym (ap (λ (b : Bool). cond (b || false) (g r) r') (same-refl r'))

      alike : seen (outside g) (resource_type r s) ≡ seen (outside reading) (resource_type r' s')
      alike = λ j. node (resource (outer (read j)) tt) none

  again-asked : (x : Value) (t : Type_tree) → AgreesAsType gs g x t → Asked gs g (again_brought (tree_maker names p) t) (again_brought (value_maker other q) x)
  again-asked x t m = record {
    kind = kind.Ty;
    sorted = refl;
    reads = λ r. r;
    fits = again-back gs g (type_over x) t (renewed names p t) (renewed other q (type_over x)) m;
    created = λ f y n. entry-renewed names p (ItemsMatch gs) {A = Name} (λ r. r) g y t n;
  }

  module-case : (k : ℕ) (t : Type_tree) → module_type_at c k ≡ Some t → Answer (ref.Module k) (bare tree_reader t)
  module-case k t e =
      let x = module-found gs ts g v c a h k t e in
      (bare value_reader x.0, ap (option_map (bare value_reader)) x.1, as-it-is gs g kind.Module x.0 t (sorted-here is_module (slice_get (c.core core_types) k) t e).1 refl x.2)

  func-case : (k : ℕ) (t : Type_tree) → type_of_sort is_func c k ≡ Some t → Answer (ref.Func k) (bare tree_reader t)
  func-case k t e = let x = plain-found kind.Func k t refl e in (bare value_reader x.0, ap (option_map (bare value_reader)) x.1, x.2)

  component-case : (k : ℕ) (t : Type_tree) → type_of_sort is_component c k ≡ Some t → Answer (ref.Component k) (bare tree_reader t)
  component-case k t e = let x = plain-found kind.Component k t refl e in (bare value_reader x.0, ap (option_map (bare value_reader)) x.1, x.2)

  value-case : (k : ℕ) (t : Type_tree) → type_of_sort is_value c k ≡ Some t → Answer (ref.Value (val.Ty k)) (bare tree_reader t)
  value-case k t e = let x = plain-found kind.Value k t refl e in (bare value_reader x.0, ap (option_map (bare value_reader)) x.1, x.2)

  again-case : (k : ℕ) (t : Type_tree) → type_at c k ≡ Some t → Answer (ref.Ty (bounds.Eq k)) (again_brought (tree_maker names p) t)
  again-case k t e =
      let x = type-found gs ts g v c a h k t e in
      (again_brought (value_maker other q) x.0, ap (option_map (again_brought (value_maker other q))) x.1, again-asked x.0 t x.2)

  -- an instance type that owns nothing
  instance-asked : (x : Value) (t : Type_tree) → same_sort is_instance (sort t) ≡ true → AgreesAsType gs g x t → owned t ≡ [] → Asked gs g ((tree_maker names p).instance_of t) (over_types ((tree_maker other q).instance_of (type_over x)))
  instance-asked x t e m o =
      subst (λ (b : Brought tree_reader). Asked gs g b (over_types ((tree_maker other q).instance_of (type_over x)))) (sym (bare-instance names p t o))
      (subst (λ (w : Brought tree_reader). Asked gs g (bare tree_reader t) (over_types w)) (sym (bare-instance other q (type_over x) (both-bare gs g x t m o)))
      (bare-over gs g x t (as-it-is gs g kind.Instance x t e refl m)))

  instance-case : (k : ℕ) (t : Type_tree) → type_of_sort is_instance c k ≡ Some t → owned t ≡ [] → Answer (ref.Instance k) ((tree_maker names p).instance_of t)
  instance-case k t e o =
      let x = sorted-found gs ts g v c a h is_instance k t e in
      ((value_maker other q).instance_of x.0, ap (option_map (value_maker other q).instance_of) x.1, instance-asked x.0 t (sorted-here is_instance (type_at c k) t e).1 x.2 o)

  new-case : Answer (ref.Ty bounds.SubResource) (new_resource (tree_maker names p))
  new-case = (new_resource (value_maker other q), refl, reference-asked (names.resource (introduced p)) (names.identity (stamp_at p)) (other.resource (introduced q)) (other.identity (stamp_at q)))

  primitive-case : (n : PrimitiveValType) → Answer (ref.Value (val.Primitive n)) (bare tree_reader (tree_reader.primitive n))
  primitive-case n = (bare value_reader (value_reader.primitive n), refl, record { kind = kind.Value; sorted = refl; reads = λ r. r; fits = (1, (refl, refl)); created = λ f. absurd (cc) })

  -- where no instance type that owns resources is written
  pub written-found : (r : ComponentTypeRef) (b : Brought tree_reader) → ((k : ℕ) → r ≡ ref.Instance k → b.resources ≡ []) → written (tree_maker names p) c r ≡ Some b → Answer r b
  written-found (ref.Module k) b o e = let m = mapped-some {B = Brought tree_reader} (bare tree_reader) (module_type_at c k) b e in subst (Answer (ref.Module k)) m.2 (module-case k m.0 m.1)
  written-found (ref.Func k) b o e = let m = mapped-some {B = Brought tree_reader} (bare tree_reader) (type_of_sort is_func c k) b e in subst (Answer (ref.Func k)) m.2 (func-case k m.0 m.1)
  written-found (ref.Component k) b o e = let m = mapped-some {B = Brought tree_reader} (bare tree_reader) (type_of_sort is_component c k) b e in subst (Answer (ref.Component k)) m.2 (component-case k m.0 m.1)
  written-found (ref.Value (val.Ty k)) b o e = let m = mapped-some {B = Brought tree_reader} (bare tree_reader) (type_of_sort is_value c k) b e in subst (Answer (ref.Value (val.Ty k))) m.2 (value-case k m.0 m.1)
  written-found (ref.Value (val.Primitive n)) b o e = subst (Answer (ref.Value (val.Primitive n))) (some-inj e) (primitive-case n)
  written-found (ref.Ty (bounds.Eq k)) b o e = let m = mapped-some {B = Brought tree_reader} (again_brought (tree_maker names p)) (type_at c k) b e in subst (Answer (ref.Ty (bounds.Eq k))) m.2 (again-case k m.0 m.1)
  written-found (ref.Ty bounds.SubResource) b o e = subst (Answer (ref.Ty bounds.SubResource)) (some-inj e) new-case
  written-found (ref.Instance k) b o e =
      let m = mapped-some {B = Brought tree_reader} (tree_maker names p).instance_of (type_of_sort is_instance c k) b e in
      subst (Answer (ref.Instance k)) m.2 (instance-case k m.0 m.1 (none-owned names p m.0 (ap (λ (y : Brought tree_reader). y.resources) m.2 ∙ o k refl)))
