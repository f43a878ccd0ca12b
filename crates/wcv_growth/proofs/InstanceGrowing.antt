-- What an instance does to the context of a component: what is new in it is defined, and what else is free in it was listed.
use Rattle.std.proofs.Common.{◌≡◌, ℕ, zero, List, [], ◌∷◌, ◌++◌, map, Bool, true, false, cond, refl, sym, ◌∙◌, subst, Some, None, ◌⊎◌, inl, inr}
use Rattle.std.specs.Prelude.{All, not}
use Rattle.std.specs.List.{list_all}
use Rattle.std.specs.Option.{option_map, option_and_then}
use Rattle.std.proofs.lemmas.Bool.{false≢true}
use Rattle.std.proofs.lemmas.List.Elements.{All-nil, All-cons, All-head, All-tail, All-weaker}
use Rattle.wcv_core.specs.Names.{Name, Place, base, at}
use Rattle.wcv_syntax.specs.Model.{Instance_form, instantiate, bag}
use Rattle.wcv_syntax.specs.declared.instance.ComponentInstantiationArg.{ComponentInstantiationArg}
use Rattle.wcv_syntax.specs.declared.name.ComponentExport.{ComponentExport}
use Rattle.wcv_types.specs.Identity.{Identity}
use Rattle.wcv_types.specs.Replacing.{Replacement, replaced}
use Rattle.wcv_types.specs.Resources.{Free, FreeIn}
use Rattle.wcv_types.specs.Tree.{Text, Extern_name, nothing, primitive, resource, defined, func, instance, component, type_entity, core_module, core_instance, core_type, core_item, export, node, none, entries, head, exports}
use Rattle.wcv_types.proofs.Lists.{some-inj}
use Rattle.wcv_matching.specs.GivenTypes.{given_for}
use Rattle.wcv_matching.specs.Matching.{named_imports}
use Rattle.wcv_matching.specs.OnePass.{made_paths}
use Rattle.wcv_remap.specs.Hygiene.{Hygienic}
use Rattle.wcv_lower.specs.Checks.{is_none}
use Rattle.wcv_lower.specs.Context.{in_instances, in_components, exporting, is_concrete, unknown}
use Rattle.wcv_lower.specs.Instances.{component_at, argument_at, arguments, if_opened, opened, listed, bag_made, instance_of_component, instance_of_items, instance_made, instance_joins, instance_values, instance_step}
use Rattle.wcv_lower.specs.Instantiated.{opening}
use Rattle.wcv_lower.specs.Mapped.{map_entries}
use Rattle.wcv_lower.specs.Marks.{uses_each}
use Rattle.wcv_lower.specs.Names.{names_by_place}
use Rattle.wcv_lower.specs.Owned.{OwnsNot, OwnApart, AllEntries}
use Rattle.wcv_lower.specs.Readers.{New_node, instance_node}
use Rattle.wcv_lower.specs.Step.{introduces, appends, Step, Brought, bare}
use Rattle.wcv_lower.specs.Trees.{Type_tree, Entries, Tree_stack, tree_reader, node_tree, tree_maker}
use Rattle.wcv_lower.proofs.SidesKept.{bag_differs}
use Rattle.wcv_lower.proofs.Bringing.{brings_one, brings_more}
use Rattle.wcv_lower.proofs.Instantiating.{arguments_have, listed_have}
use Rattle.wcv_lower.proofs.Owning.{apart_outside}
use Rattle.wcv_growth.proofs.Bare.{IsBare, AreBare}
use Rattle.wcv_growth.proofs.BareGiven.{given_for-each, looked-up}
use Rattle.wcv_growth.proofs.CoreGrowing.{if-some}
use Rattle.wcv_growth.proofs.Growing.{Ready, AreNew, Does, nothing-new}
use Rattle.wcv_growth.proofs.Having.{Has, has-right, has-beside, has-beside_back, Once, once-beside}
use Rattle.wcv_growth.proofs.Known.{mapped-some, then-some, all-get, Fine, node-within, Any}
use Rattle.wcv_growth.proofs.Marked.{uses-does}
use Rattle.wcv_growth.proofs.MayMake.{opening-hygienic}
use Rattle.wcv_growth.proofs.Near.{Near, near-listed, After, near-apply}
use Rattle.wcv_growth.proofs.Opened.{FreeAmong, free-instantiated}
use Rattle.wcv_growth.proofs.Sound.{IsSoundNode, IsSound, entries-sound, exports-sound, replaced-sound}
use Rattle.wcv_growth.proofs.Tidy.{Known, TidyEntry, tidy-bare}

-- what is free in entries
within-entries : (P : Name → Type 0) (es : Entries) → All (λ e. Fine P e.1) es → (r : Name) → FreeIn r (entries export es none) → P r
within-entries P [] a r x = absurd x
within-entries P (e ∷ es) a r (inl x) = (All-head (λ (e : Extern_name × Type_tree). Fine P e.1) e es a).0 r x
within-entries P (e ∷ es) a r (inr x) = within-entries P es (All-tail (λ (e : Extern_name × Type_tree). Fine P e.1) e es a) r x

-- arguments that open a component
pub opened-pair : (args : List (Text × Type_tree)) (t : Type_tree) (y : List (Text × Type_tree) × Type_tree) (b : Bool) → cond b (Some (args, t)) None ≡ Some y → (b ≡ true) × ((args, t) ≡ y)
opened-pair args t y true e = (refl, some-inj e)
opened-pair args t y false e = cc

module _ (p : Place) (s : Tree_stack) (h : Ready p s) (c : is_concrete s.top.kind ≡ true) where
  abbrev top-fine : AllEntries (Fine (Near s)) s.top
  top-fine = h.fine.0.entries

  -- an instance whose resources are new
  joined-does : (b : Brought tree_reader) → Fine (After (instance_joins b) s) b.entity → AreNew p b.resources → Does exporting p s (instance_joins b)
  joined-does b w new = record {
    brings = brings_more (Fine (After (instance_joins b) s)) Any (introduces exporting b.resources) (appends in_instances b.entity ∷ []) (λ k x l. tt) (brings_one (Fine (After (instance_joins b) s)) Any (appends in_instances b.entity) w);
    leads = h.leads;
    led = λ k. absurd (false≢true (sym k ∙ c));
    adds = record {
      more = unknown b.resources;
      new = record { placed = λ r w. new.placed r (has-beside_back (λ x. None) b.resources r w); once = once-beside (λ x. None) b.resources new.once };
      imported = refl;
      defined = refl;
    };
  }

  -- ## One that lists items

  abbrev listing : List ComponentExport → New_node tree_reader
  listing es = instance_node [] (listed s.top es)

  abbrev instance_listed : List ComponentExport → Brought tree_reader
  instance_listed es = bare tree_reader (node_tree (base p) (listing es))

  listed-inside : (es : List ComponentExport) (r : Name) → FreeIn r (entries export (listed s.top es) none) → After (instance_joins (instance_listed es)) s r
  listed-inside es r x = near-apply (instance_joins (instance_listed es)) s r (within-entries (Near s) (listed s.top es) (listed_have (Fine (Near s)) s.top top-fine es) r x)

  listed-sound : (es : List ComponentExport) → IsSound (instance_listed es).entity
  listed-sound es =
      ((tt, All-nil _), entries-sound export (listed s.top es) none (All-weaker (λ (e : Extern_name × Type_tree). Fine (Near s) e.1) (λ (e : Extern_name × Type_tree). IsSound e.1) (λ e w. w.1) (listed s.top es) (listed_have (Fine (Near s)) s.top top-fine es)) tt)

  listed-fine : (es : List ComponentExport) → Fine (After (instance_joins (instance_listed es)) s) (instance_listed es).entity
  listed-fine es = (node-within (After (instance_joins (instance_listed es)) s) (instance (base p) []) (entries export (listed s.top es) none) (λ r x. x) (listed-inside es), listed-sound es)

  bag-does : (es : List ComponentExport) (x : Step tree_reader) → option_map instance_joins (instance_made (tree_maker names_by_place p) s (bag es)) ≡ Some x → Does exporting p s x
  bag-does es x e =
      let m = mapped-some instance_joins (instance_made (tree_maker names_by_place p) s (bag es)) x e in
      let o = mapped-some (instance_of_items (tree_maker names_by_place p)) (bag_made s.top es) m.0 m.1 in
      let n = bag_differs s.top es o.0 o.1 in
      subst (Does exporting p s) m.2
      (subst (λ (b : Brought tree_reader). Does exporting p s (instance_joins b)) o.2
      (subst (λ (k : New_node tree_reader). Does exporting p s (instance_joins (instance_of_items (tree_maker names_by_place p) k))) (sym n.0) (joined-does (instance_listed es) (listed-fine es) (nothing-new p))))

  -- ## One of a component

  module _ (args : List (Text × Type_tree)) (t : Type_tree) where
    abbrev instance_of : Brought tree_reader
    instance_of = (tree_maker names_by_place p).instantiate args t

    made-new : (rs : List (Name × List ℕ)) → Once rs → AreNew p (map (λ (r : Name × List ℕ). (at p r.0, r.1)) rs)
    made-new rs o = record { placed = λ r w. inr (back rs r w); once = once rs o }
      where
        back : (xs : List (Name × List ℕ)) (r : Name) → Has (map (λ (x : Name × List ℕ). (at p x.0, x.1)) xs) r → (x : Name) × (r ≡ at p x)
        back [] r w = absurd w
        back (x ∷ xs) r (inl e) = (x.0, e)
        back (x ∷ xs) r (inr w) = back xs r w

        old : (xs : List (Name × List ℕ)) (q : Name) → Has (map (λ (x : Name × List ℕ). (at p x.0, x.1)) xs) (at p q) → Has xs q
        old [] q w = absurd w
        old (x ∷ xs) q (inl e) = let f : q ≡ x.0 = cc in inl f
        old (x ∷ xs) q (inr w) = inr (old xs q w)

        once : (xs : List (Name × List ℕ)) → Once xs → Once (map (λ (x : Name × List ℕ). (at p x.0, x.1)) xs)
        once [] o = tt
        once (x ∷ xs) o = ((λ w. o.0 (old xs x.0 w)), once xs o.1)

    made-once : (u : Type_tree) → IsSound u → Once (made_paths (head u))
    made-once (node (component i ins outs) ps) w = w.0.0
    made-once (node nothing ps) w = tt
    made-once (node (primitive q) ps) w = tt
    made-once (node (resource q x) ps) w = tt
    made-once (node (defined i k) ps) w = tt
    made-once (node (func i b) ps) w = tt
    made-once (node (instance i own) ps) w = tt
    made-once (node type_entity ps) w = tt
    made-once (node (core_module i n) ps) w = tt
    made-once (node (core_instance i n) ps) w = tt
    made-once (node (core_type i) ps) w = tt
    made-once (node (core_item x) ps) w = tt

    -- where what is free in it is listed
    component-does : IsSound t → ((r : Name) → Free r instance_of.entity → After (instance_joins instance_of) s r) → IsSound instance_of.entity → Does exporting p s (instance_joins instance_of)
    component-does w inside sound = joined-does instance_of (inside, sound) (made-new (made_paths (head t)) (made-once t w))

    -- nothing that a type in it owns is replaced, nor is a type given there that mentions it
    replaced-each : (m : Replacement) → ((i : Identity) (u : Type_tree) → m.nodes i ≡ Some u → IsSound u) → (es : Entries) → All (λ e. Hygienic m e.1) es → All (λ e. IsSound e.1) es → All (λ e. IsSound e.1) (map_entries (replaced m) es)
    replaced-each m gives [] y w = All-nil (λ (e : Extern_name × Type_tree). IsSound e.1)
    replaced-each m gives (e ∷ es) y w =
        All-cons (λ (x : Extern_name × Type_tree). IsSound x.1) (e.0, replaced m e.1) (map_entries (replaced m) es)
        (replaced-sound m gives e.1 (All-head (λ (x : Extern_name × Type_tree). Hygienic m x.1) e es y) (All-head (λ (x : Extern_name × Type_tree). IsSound x.1) e es w))
        (replaced-each m gives es (All-tail (λ (x : Extern_name × Type_tree). Hygienic m x.1) e es y) (All-tail (λ (x : Extern_name × Type_tree). IsSound x.1) e es w))

    opened-sound : All (λ (e : Text × Type_tree). IsSound e.1) args → IsSound t → All (λ (e : Extern_name × Type_tree). Hygienic (opening names_by_place p args t) e.1) (exports t) → IsSound instance_of.entity
    opened-sound a w y =
        ((tt, All-nil _), entries-sound export (map_entries (replaced m) (exports t)) none (replaced-each m gives (exports t) y (exports-sound t w)) tt)
      where
        m : Replacement
        m = opening names_by_place p args t

        gives : (i : Identity) (u : Type_tree) → m.nodes i ≡ Some u → IsSound u
        gives i u e = looked-up (λ (x : Identity × Type_tree). IsSound x.1) i (given_for args (named_imports t)) u (given_for-each IsSoundNode (tt, tt) args (named_imports t) a) e

  among-in : (args : List (Text × Type_tree)) (r : Name) → All (λ (e : Text × Type_tree). Fine (Near s) e.1) args → FreeAmong r args → Near s r
  among-in [] r a f = absurd f
  among-in (e ∷ es) r a (inl f) = (All-head (λ (e : Text × Type_tree). Fine (Near s) e.1) e es a).0 r f
  among-in (e ∷ es) r a (inr f) = among-in es r (All-tail (λ (e : Text × Type_tree). Fine (Near s) e.1) e es a) f

  -- what is free in an instance that is opened is free in the component or in an argument, or new
  opened-inside : (args : List (Text × Type_tree)) (t : Type_tree) → All (λ (e : Text × Type_tree). Fine (Near s) e.1) args → Fine (Near s) t → All (λ (e : Text × Type_tree). IsBare e.1) args → IsBare t → tree_reader.opens s.groups args t ≡ true →
      (r : Name) → Free r (instance_of args t).entity → After (instance_joins (instance_of args t)) s r
  opened-inside args t a w b u o r f = go (free-instantiated s.groups p args b t u w.1 o r f)
    where
      go : Free r t ⊎ (FreeAmong r args ⊎ Has (instance_of args t).resources r) → After (instance_joins (instance_of args t)) s r
      go (inl x) = near-apply (instance_joins (instance_of args t)) s r (w.0 r x)
      go (inr (inl x)) = near-apply (instance_joins (instance_of args t)) s r (among-in args r a x)
      go (inr (inr x)) = inl (inr (has-right s.top.defined (unknown (instance_of args t).resources) r (has-beside (λ x. None) (instance_of args t).resources r x)))

  module _ (g : Known) (y : AllEntries (TidyEntry g) s.top) where
    are-bare : AreBare s.top
    are-bare = tidy-bare g s.top y

    -- no type owns what is free in a component, and it owns apart
    opened-hygienic : (i : ℕ) (t : Type_tree) → component_at s.top i ≡ Some t → Fine (Near s) t → (args : List (Text × Type_tree)) → All (λ (e : Extern_name × Type_tree). Hygienic (opening names_by_place p args t) e.1) (exports t)
    opened-hygienic i t e w args =
        opening-hygienic g p t args (all-get (TidyEntry g) (s.top.space in_components) i t (y.space in_components) e)
        (apart_outside t (all-get OwnApart (s.top.space in_components) i t ((h.apart zero s.top refl).space in_components) e))
        (λ r x. all-get (OwnsNot r) (s.top.space in_components) i t ((h.spared r (near-listed s r (w.0 r x)) zero s.top refl).space in_components) e)

    instantiate-does : (i : ℕ) (given : List ComponentInstantiationArg) (x : Step tree_reader) → option_map instance_joins (instance_made (tree_maker names_by_place p) s (instantiate i given)) ≡ Some x → Does exporting p s x
    instantiate-does i given x e =
        let args : List (Text × Type_tree) = arguments s.top given in
        let m = mapped-some instance_joins (instance_made (tree_maker names_by_place p) s (instantiate i given)) x e in
        let o = mapped-some (instance_of_component (tree_maker names_by_place p)) (opened s i given) m.0 m.1 in
        let n = if-some (list_all (λ (a : ComponentInstantiationArg). not (is_none (argument_at s.top a))) given) (option_and_then (if_opened tree_reader s.groups args) (component_at s.top i)) o.0 o.1 in
        let t = then-some (if_opened tree_reader s.groups args) (component_at s.top i) o.0 n in
        let q = opened-pair args t.0 o.0 (tree_reader.opens s.groups args t.0) t.2 in
        let w : Fine (Near s) t.0 = all-get (Fine (Near s)) (s.top.space in_components) i t.0 (top-fine.space in_components) t.1 in
        let v : IsBare t.0 = all-get IsBare (s.top.space in_components) i t.0 (are-bare.space in_components) t.1 in
        let a : All (λ (e : Text × Type_tree). Fine (Near s) e.1) args = arguments_have (Fine (Near s)) s.top top-fine given in
        let sound : IsSound (instance_of args t.0).entity =
        opened-sound args t.0 (All-weaker (λ (e : Text × Type_tree). Fine (Near s) e.1) (λ (e : Text × Type_tree). IsSound e.1) (λ e w. w.1) args a) w.1 (opened-hygienic i t.0 t.1 w args) in
        subst (Does exporting p s) m.2
        (subst (λ (b : Brought tree_reader). Does exporting p s (instance_joins b)) o.2
        (subst (λ (y : List (Text × Type_tree) × Type_tree). Does exporting p s (instance_joins (instance_of_component (tree_maker names_by_place p) y))) q.1
        (component-does args t.0 w.1 (opened-inside args t.0 a w (arguments_have IsBare s.top are-bare given) v q.0) sound)))

    joined : (i : Instance_form) (x : Step tree_reader) → option_map instance_joins (instance_made (tree_maker names_by_place p) s i) ≡ Some x → Does exporting p s x
    joined (bag es) x e = bag-does es x e
    joined (instantiate i given) x e = instantiate-does i given x e

    pub instance-does : (i : Instance_form) (x : Step tree_reader) → instance_step (tree_maker names_by_place p) s i ≡ Some x → Does exporting p s x
    instance-does i x e =
        let m = mapped-some (λ (z : Step tree_reader). uses_each (instance_values i) ++ z) (option_map instance_joins (instance_made (tree_maker names_by_place p) s i)) x e in
        subst (Does exporting p s) m.2 (uses-does exporting p s (instance_values i) m.0 (joined i m.0 m.1))
