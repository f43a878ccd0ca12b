-- What an import or an export does to a context: it lists the resources that the entry brings, each with a path that leads to it.
use Rattle.std.proofs.Common.{◌≡◌, ℕ, zero, suc, List, [], ◌∷◌, ◌++◌, length, true, false, refl, sym, ◌∙◌, ap, subst, inl, inr, Some, None, ◌⊎◌}
use Rattle.std.specs.Prelude.{All, slice_get, Bool, Option}
use Rattle.std.specs.Option.{option_map}
use Rattle.std.proofs.lemmas.Bool.{false≢true}
use Rattle.std.proofs.lemmas.List.Elements.{All-append, All-nil, All-cons, All-head, All-tail, All-weaker}
use Rattle.wcv_core.specs.Names.{Name, Place, base, at}
use Rattle.wcv_syntax.specs.declared.component_type.ComponentTypeRef.{ComponentTypeRef}
use Rattle.wcv_syntax.specs.declared.component_type.ComponentTypeRef.TheVariants as ref
use Rattle.wcv_syntax.specs.declared.component_type.TypeBounds.TheVariants as bounds
use Rattle.wcv_syntax.specs.declared.instance.ComponentExternalKind.{ComponentExternalKind}
use Rattle.wcv_syntax.specs.declared.instance.ComponentExternalKind.TheVariants as kind
use Rattle.wcv_syntax.specs.declared.name.ComponentExport.{ComponentExport}
use Rattle.wcv_types.specs.FirstPath.{first_path}
use Rattle.wcv_types.specs.Led.{HasPath}
use Rattle.wcv_types.specs.Paths.{PathLeadsTo}
use Rattle.wcv_types.specs.Resources.{Free}
use Rattle.wcv_types.specs.Tree.{Extern_name, Sort, is_func, is_instance, is_component, sort, instance, node, exports_in}
use Rattle.wcv_types.proofs.Lists.{some-inj, map-map}
use Rattle.wcv_lower.specs.Checks.{same_sort}
use Rattle.wcv_lower.specs.Context.{Space, in_types, in_funcs, in_values, in_instances, in_components, core_modules, Side, importing, exporting, same_side, is_concrete, placed, unknown}
use Rattle.wcv_lower.specs.Entries.{module_type_at, again_brought, new_resource, written, items_of, exported_at, exported_as, exported_by}
use Rattle.wcv_lower.specs.Names.{names_by_place}
use Rattle.wcv_lower.specs.NewTypes.{new_reference, path_or_none}
use Rattle.wcv_lower.specs.Owned.{OwnsNot, OwnsApart, OwnApart, AllEntries, IsLed}
use Rattle.wcv_lower.specs.Step.{lists, introduces, creates, change, apply, joins, enters, Brought, bare}
use Rattle.wcv_lower.specs.Trees.{Type_tree, Entries, type_entry, referenced, Tree_context, Tree_stack, tree_reader, tree_maker}
use Rattle.wcv_lower.specs.Values.{type_at, type_of_sort, value_entry}
use Rattle.wcv_lower.proofs.Bringing.{of_some, type_has}
use Rattle.wcv_lower.proofs.Owning.{apart_outside, owns_not_inherited, own_apart_inherited}
use Rattle.wcv_growth.proofs.Bare.{OwnsNothing, IsBare, AreBare, bare-instance}
use Rattle.wcv_growth.proofs.Growing.{Leads, Ready, AreNew, Adds, Does, SameLists, same-leads, same-led, nothing-new}
use Rattle.wcv_growth.proofs.Having.{Has, has-right, has-beside, has-beside_back, once-beside}
use Rattle.wcv_growth.proofs.Known.{mapped-some, then-some, all-get, Fine, created-fine, Any, enters-bring}
use Rattle.wcv_growth.proofs.Looking.{sorted-here, again-fine, reference-fine, type-fine, sorted-fine, sorted-sort, value-fine, module-fine}
use Rattle.wcv_growth.proofs.Near.{Near, After, near-apply, later-fine}
use Rattle.wcv_growth.proofs.OpenedInstances.{free-opened, brought-placed, opened-once, opened-leads}
use Rattle.wcv_growth.proofs.Placed.{PlacedAt, placed_here}
use Rattle.wcv_growth.proofs.Sound.{instance-sound}

-- ## One more entry

pub joins-same : (used : Bool) (o : Sort) (t : Type_tree) (s : Tree_stack) → SameLists s.top (apply (joins tree_reader used o t) s).top
joins-same used is_func t s = record { imported = refl; defined = refl; imports = refl; exports = refl }
joins-same used o t s = record { imported = refl; defined = refl; imports = refl; exports = refl }

-- before it joins its space
abbrev entered : Side → Extern_name → Brought tree_reader → Tree_stack → Tree_stack
entered d n b s = change (creates d (tree_reader.creates b.entity)) (change (lists d n b.entity) (change (introduces d b.resources) s))

enters-same : (d : Side) (n : Extern_name) (b : Brought tree_reader) (s : Tree_stack) → SameLists (entered d n b s).top (apply (enters d n b) s).top
enters-same d n b s = joins-same (same_side d exporting) (sort b.entity) b.entity (entered d n b s)

-- one more entry behind the others changes no path
get-before : {X : Type 0} (xs ys : List X) (k : ℕ) (x : X) → slice_get xs k ≡ Some x → slice_get (xs ++ ys) k ≡ Some x
get-before [] ys k x e = cc
get-before (y ∷ xs) ys zero x e = e
get-before (y ∷ xs) ys (suc k) x e = get-before xs ys k x e

get-last : {X : Type 0} (xs : List X) (x : X) → slice_get (xs ++ x ∷ []) (length xs) ≡ Some x
get-last [] x = refl
get-last (y ∷ xs) x = get-last xs x

path-further : (p : List ℕ) (r : Name) (es more : Entries) → PathLeadsTo p r es → PathLeadsTo p r (es ++ more)
path-further [] r es more h = h
path-further (k ∷ []) r es more h = (h.0, get-before es more k h.0 h.1, h.2)
path-further (k ∷ j ∷ p) r es more h = (h.0, get-before es more k h.0 h.1, h.2, h.3)

-- the side with one more
abbrev with_entry : Side → Extern_name → Type_tree → Tree_context → Entries
with_entry d n t c = c.side d ++ (n, t) ∷ []

-- new paths lead to what is new
abbrev NewLead : Side → Extern_name → Brought tree_reader → Tree_context → Type 0
NewLead d n b c = All (λ p. PathLeadsTo p.1 p.0 (with_entry d n b.entity c)) (placed (length (c.side d)) b.resources)

some-paths : (es : Entries) (k : ℕ) (rs : List (Name × List ℕ)) → All (λ p. PathLeadsTo p.1 p.0 es) (placed k rs) → All (λ d. HasPath es d.0) (unknown rs)
some-paths es k [] w = All-nil _
some-paths es k (r ∷ rs) w =
    All-cons (λ d. HasPath es d.0) (r.0, None) (unknown rs) (k ∷ r.1, All-head (λ (p : Name × List ℕ). PathLeadsTo p.1 p.0 es) (r.0, k ∷ r.1) (placed k rs) w)
    (some-paths es k rs (All-tail (λ (p : Name × List ℕ). PathLeadsTo p.1 p.0 es) (r.0, k ∷ r.1) (placed k rs) w))

-- ## An entry with the resources that it brings

module _ (p : Place) (s : Tree_stack) (h : Ready p s) where
  abbrev top-fine : AllEntries (Fine (Near s)) s.top
  top-fine = h.fine.0.entries

  entered-leads : (d : Side) (n : Extern_name) (b : Brought tree_reader) → NewLead d n b s.top → Leads (entered d n b s).top
  entered-leads importing n b new =
      All-append (λ p. PathLeadsTo p.1 p.0 (with_entry importing n b.entity s.top)) s.top.imported (placed (length (s.top.side importing)) b.resources)
      (All-weaker (λ p. PathLeadsTo p.1 p.0 (s.top.side importing)) (λ p. PathLeadsTo p.1 p.0 (with_entry importing n b.entity s.top)) (λ p w. path-further p.1 p.0 (s.top.side importing) ((n, b.entity) ∷ []) w) s.top.imported h.leads) new
  entered-leads exporting n b new = h.leads

  entered-led : (d : Side) (n : Extern_name) (b : Brought tree_reader) → NewLead d n b s.top → is_concrete s.top.kind ≡ false → IsLed (entered d n b s).top
  entered-led importing n b new k = h.led k
  entered-led exporting n b new k =
      All-append (λ d. HasPath (with_entry exporting n b.entity s.top) d.0) s.top.defined (unknown b.resources)
      (All-weaker (λ d. HasPath (s.top.side exporting) d.0) (λ d. HasPath (with_entry exporting n b.entity s.top) d.0) (λ d w. (w.0, path-further w.0 d.0 (s.top.side exporting) ((n, b.entity) ∷ []) w.1)) s.top.defined (h.led k))
      (some-paths (with_entry exporting n b.entity s.top) (length (s.top.side exporting)) b.resources new)

  entered-adds : (d : Side) (n : Extern_name) (b : Brought tree_reader) → AreNew p b.resources → Adds d p s.top (apply (enters d n b) s).top
  entered-adds importing n b new =
      let same = enters-same importing n b s in
      let f : List ℕ → List ℕ = λ x. length (s.top.side importing) ∷ x in
      record {
        more = placed (length (s.top.side importing)) b.resources;
        new = record { placed = λ r w. new.placed r (has-beside_back f b.resources r w); once = once-beside f b.resources new.once };
        imported = same.imported;
        defined = same.defined;
      }
  entered-adds exporting n b new =
      let same = enters-same exporting n b s in
      record {
        more = unknown b.resources;
        new = record { placed = λ r w. new.placed r (has-beside_back (λ x. None) b.resources r w); once = once-beside (λ x. None) b.resources new.once };
        imported = same.imported;
        defined = same.defined;
      }

  -- what it brings is listed behind it
  brought-in : (d : Side) (n : Extern_name) (b : Brought tree_reader) (r : Name) → Has b.resources r → After (enters d n b) s r
  brought-in importing n b r w =
      let same = enters-same importing n b s in
      inl (inl (subst (λ (rs : List (Name × List ℕ)). Has rs r) (sym same.imported) (has-right s.top.imported (placed (length (s.top.side importing)) b.resources) r (has-beside (λ x. length (s.top.side importing) ∷ x) b.resources r w))))
  brought-in exporting n b r w =
      let same = enters-same exporting n b s in
      inl (inr (subst (λ rs. Has rs r) (sym same.defined) (has-right s.top.defined (unknown b.resources) r (has-beside (λ x. None) b.resources r w))))

  brought-does : (d : Side) (n : Extern_name) (b : Brought tree_reader) → Fine (After (enters d n b) s) b.entity → AreNew p b.resources → NewLead d n b s.top → Does d p s (enters d n b)
  brought-does d n b w new leads = record {
    brings = enters-bring (Fine (After (enters d n b) s)) (created-fine (After (enters d n b) s)) d n b w;
    leads = same-leads (entered d n b s).top (apply (enters d n b) s).top (enters-same d n b s) (entered-leads d n b leads);
    led = λ k. same-led (entered d n b s).top (apply (enters d n b) s).top (enters-same d n b s) (entered-led d n b leads k);
    adds = entered-adds d n b new;
  }

  -- one that introduces no resource
  bare-does : (d : Side) (n : Extern_name) (t : Type_tree) → Fine (Near s) t → Does d p s (enters d n (bare tree_reader t))
  bare-does d n t w = brought-does d n (bare tree_reader t) (later-fine (enters d n (bare tree_reader t)) s t w) (nothing-new p) (All-nil _)

  -- a resource that is new
  new_resource-does : (d : Side) (n : Extern_name) → Does d p s (enters d n (new_resource (tree_maker names_by_place p)))
  new_resource-does d n =
      brought-does d n b (reference-fine (After (enters d n b) s) p (brought-in d n b (base p) (inl refl))) (record { placed = λ r w. here r w; once = (λ w. w, tt) })
      (All-cons (λ q. PathLeadsTo q.1 q.0 (with_entry d n b.entity s.top)) (base p, length (s.top.side d) ∷ []) [] (last, get-last (s.top.side d) last, (refl, refl)) (All-nil _))
    where
      b : Brought tree_reader
      b = new_resource (tree_maker names_by_place p)

      last : Extern_name × Type_tree
      last = (n, type_entry (new_reference names_by_place p))

      here : (r : Name) → Has b.resources r → PlacedAt p r
      here r (inl e) = inl e
      here r (inr e) = absurd e

  -- an instance of an instance type
  abbrev instance_of : Type_tree → Brought tree_reader
  instance_of t = (tree_maker names_by_place p).instance_of t

  instance-does : (d : Side) (n : Extern_name) (t : Type_tree) → same_sort is_instance (sort t) ≡ true → Fine (Near s) t → OwnsApart t → ((r : Name) → PlacedAt p r → OwnsNot r t) → Does d p s (enters d n (instance_of t))
  instance-does d n (node (instance i own) ps) e w apart spares =
      brought-does d n b (inside, instance-sound names_by_place p (node (instance i own) ps) apart w.1) (record { placed = brought-placed p i own ps; once = opened-once p i own ps w.1.0.0 })
      (subst (All (λ q. PathLeadsTo q.1 q.0 (with_entry d n b.entity s.top))) (sym (map-map (λ (r : Name × List ℕ). (r.0, length (s.top.side d) ∷ r.1)) (λ r. (at p r, path_or_none (first_path r (exports_in ps)))) own))
      (opened-leads p i own ps n (with_entry d n b.entity s.top) (length (s.top.side d)) (get-last (s.top.side d) (n, b.entity)) (λ r. (spares (at p r) (inr (r, refl))).1) w.1.0.1))
    where
      b : Brought tree_reader
      b = instance_of (node (instance i own) ps)

      inside : (r : Name) → Free r b.entity → After (enters d n b) s r
      inside r f = go (free-opened p i own ps r f)
        where
          go : Free r (node (instance i own) ps) ⊎ Has b.resources r → After (enters d n b) s r
          go (inl x) = near-apply (enters d n b) s r (w.0 r x)
          go (inr x) = brought-in d n b r x
  instance-does d n (node g ps) e w apart spares = absurd (false≢true e)

  -- ## Written types

  -- what enters does so
  abbrev Enters : Side → Extern_name → Brought tree_reader → Type 0
  Enters d n b = Does d p s (enters d n b)

  -- what is given here, the type at an index does not own; it owns apart
  spared : (k : ℕ) (t : Type_tree) → type_of_sort is_instance s.top k ≡ Some t → (r : Name) → PlacedAt p r → OwnsNot r t
  spared k t e r w = of_some (OwnsNot r) (type_at s.top k) t (type_has (owns_not_inherited r) Any s.top (h.fresh r (placed_here p r w) zero s.top refl) k) (sorted-here is_instance (type_at s.top k) t e).0

  owns-apart : (k : ℕ) (t : Type_tree) → type_of_sort is_instance s.top k ≡ Some t → OwnsApart t
  owns-apart k t e = apart_outside t (of_some OwnApart (type_at s.top k) t (type_has own_apart_inherited Any s.top (h.apart zero s.top refl) k) (sorted-here is_instance (type_at s.top k) t e).0)

  pub written-does : (d : Side) (n : Extern_name) (x : ComponentTypeRef) (b : Brought tree_reader) → written (tree_maker names_by_place p) s.top x ≡ Some b → Does d p s (enters d n b)
  written-does d n (ref.Func k) b e =
      let m = mapped-some (bare tree_reader) (type_of_sort is_func s.top k) b e in
      subst (Enters d n) m.2 (bare-does d n m.0 (sorted-fine (Near s) s.top top-fine is_func k m.0 m.1))
  written-does d n (ref.Component k) b e =
      let m = mapped-some (bare tree_reader) (type_of_sort is_component s.top k) b e in
      subst (Enters d n) m.2 (bare-does d n m.0 (sorted-fine (Near s) s.top top-fine is_component k m.0 m.1))
  written-does d n (ref.Instance k) b e =
      let m = mapped-some instance_of (type_of_sort is_instance s.top k) b e in
      subst (Enters d n) m.2 (instance-does d n m.0 (sorted-sort (Near s) s.top top-fine is_instance k m.0 m.1) (sorted-fine (Near s) s.top top-fine is_instance k m.0 m.1) (owns-apart k m.0 m.1) (spared k m.0 m.1))
  written-does d n (ref.Ty (bounds.Eq k)) b e =
      let m = mapped-some (again_brought (tree_maker names_by_place p)) (type_at s.top k) b e in
      subst (Enters d n) m.2 (bare-does d n (again_brought (tree_maker names_by_place p) m.0).entity (again-fine (Near s) names_by_place p m.0 (type-fine (Near s) s.top top-fine k m.0 m.1)))
  written-does d n (ref.Ty bounds.SubResource) b e = subst (Enters d n) (some-inj e) (new_resource-does d n)
  written-does d n (ref.Module k) b e =
      let m = mapped-some (bare tree_reader) (module_type_at s.top k) b e in
      subst (Enters d n) m.2 (bare-does d n m.0 (module-fine (Near s) s.top top-fine k m.0 m.1))
  written-does d n (ref.Value v) b e =
      let m = mapped-some (bare tree_reader) (value_entry s.top v) b e in
      subst (Enters d n) m.2 (bare-does d n m.0 (value-fine (Near s) s.top top-fine v m.0 m.1))

  -- ## Exported items

  -- an item of a space is exported as it is
  item-does : (n : Extern_name) (k : Space) (i : ℕ) (b : Brought tree_reader) → option_map (bare tree_reader) (slice_get (s.top.space k) i) ≡ Some b → Enters exporting n b
  item-does n k i b e =
      let m = mapped-some (bare tree_reader) (slice_get (s.top.space k) i) b e in
      subst (Enters exporting n) m.2 (bare-does exporting n m.0 (all-get (Fine (Near s)) (s.top.space k) i m.0 (top-fine.space k) m.1))

  -- an instance owns nothing, and so it is the instance that is made of it
  exported_instance-does : AreBare s.top → (n : Extern_name) (i : ℕ) (b : Brought tree_reader) → option_map (tree_maker names_by_place p).instance_of (slice_get (s.top.space in_instances) i) ≡ Some b → Enters exporting n b
  exported_instance-does alone n i b e =
      let m = mapped-some (tree_maker names_by_place p).instance_of (slice_get (s.top.space in_instances) i) b e in
      let own : OwnsNothing m.0 = (all-get IsBare (s.top.space in_instances) i m.0 (alone.space in_instances) m.1).0 in
      subst (Enters exporting n) (sym (bare-instance names_by_place p m.0 own) ∙ m.2) (bare-does exporting n m.0 (all-get (Fine (Near s)) (s.top.space in_instances) i m.0 (top-fine.space in_instances) m.1))

  export-does : AreBare s.top → (n : Extern_name) (x : ComponentExternalKind) (i : ℕ) (b : Brought tree_reader) → option_map (exported_as (tree_maker names_by_place p) x) (slice_get (items_of s.top x) i) ≡ Some b → Does exporting p s (enters exporting n b)
  export-does alone n kind.Ty i b e =
      let m = mapped-some (exported_as (tree_maker names_by_place p) kind.Ty) (slice_get (s.top.space in_types) i) b e in
      subst (Enters exporting n) m.2
      (bare-does exporting n (again_brought (tree_maker names_by_place p) (referenced m.0)).entity (again-fine (Near s) names_by_place p (referenced m.0) (type-fine (Near s) s.top top-fine i (referenced m.0) (ap (option_map referenced) m.1))))
  export-does alone n kind.Func i b e = item-does n in_funcs i b e
  export-does alone n kind.Value i b e = item-does n in_values i b e
  export-does alone n kind.Instance i b e = exported_instance-does alone n i b e
  export-does alone n kind.Component i b e = item-does n in_components i b e
  export-does alone n kind.Module i b e =
      let m = mapped-some (bare tree_reader) (slice_get (s.top.core core_modules) i) b e in
      subst (Enters exporting n) m.2 (bare-does exporting n m.0 (all-get (Fine (Near s)) (s.top.core core_modules) i m.0 (top-fine.core core_modules) m.1))

  -- an item, with what is written beside it
  pub exported-does : AreBare s.top → (n : Extern_name) (e : ComponentExport) (o : Option ComponentTypeRef) (b : Brought tree_reader) → exported_by (tree_maker names_by_place p) s.top e o ≡ Some b → Does exporting p s (enters exporting n b)
  exported-does alone n e None b q = export-does alone n e.kind e.index b q
  exported-does alone n e (Some r) b q =
      let m = then-some (λ (x : Type_tree). written (tree_maker names_by_place p) s.top r) (exported_at s.top e) b q in
      written-does exporting n r b m.2
