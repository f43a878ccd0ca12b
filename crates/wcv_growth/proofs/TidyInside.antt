-- Declared types, and so items: the stack settles and stays tidy declaration by declaration, and the node of a type joins the types of the
-- context around it.
use Rattle.std.proofs.Common.{◌≡◌, ℕ, zero, suc, List, map, Bool, true, false, cond, refl, sym, ◌∙◌, ap, subst, Some, None}
use Rattle.std.specs.Option.{option_map}
use Rattle.std.proofs.lemmas.Bool.{false≢true}
use Rattle.wcv_core.specs.Names.{Name, Place, base, deeper, member}
use Rattle.wcv_core.specs.declared.features.WasmFeatures.{WasmFeatures}
use Rattle.wcv_syntax.specs.Model.{Form, component_item, Items, no_items, next_item, core_type_item, type_item, import_item, alias_item, Type_form, defined_type, func_type, component_type, instance_type, resource_type, Decl, core_type_decl, type_decl, alias_decl, export_decl, import_decl, Decls, no_decls, declare}
use Rattle.wcv_types.specs.Led.{Led}
use Rattle.wcv_types.specs.Tree.{import, export, instance, component, node, none, entries, firsts, is_instance}
use Rattle.wcv_types.specs.Unfold.{Type_tree}
use Rattle.wcv_types.proofs.Lists.{some-inj}
use Rattle.wcv_lower.specs.Checks.{IsFree}
use Rattle.wcv_lower.specs.Context.{Kind, concrete, in_components, declares_instance, declares_component, Side, importing, exporting, is_concrete}
use Rattle.wcv_lower.specs.Declared.{inside, closed_as, ended, read_type, read_decl, read_decls, declared_checks, decl_checks, decls_checks}
use Rattle.wcv_lower.specs.Ending.{any_free, kept, component_of, component_made, instance_made, declared_made, declared_end_checks}
use Rattle.wcv_lower.specs.Growth.{grow, call_checks}
use Rattle.wcv_lower.specs.Items.{read_item, read_items}
use Rattle.wcv_lower.specs.Names.{names_by_place}
use Rattle.wcv_lower.specs.Owned.{AllEntries, Everywhere}
use Rattle.wcv_lower.specs.Readers.{New_node}
use Rattle.wcv_lower.specs.SideNames.{SidesDiffer, AllSidesDiffer}
use Rattle.wcv_lower.specs.Step.{appends, apply}
use Rattle.wcv_lower.specs.Trees.{Entries, Tree_context, Tree_stack, tree_reader, tree_maker, node_tree}
use Rattle.wcv_lower.proofs.Bringing.{brings_one}
use Rattle.wcv_lower.proofs.Calm.{inside_has, around_has}
use Rattle.wcv_lower.proofs.Given.{not_so}
use Rattle.wcv_lower.proofs.SidesKept.{inside_differ, decl_differ, item_differ}
use Rattle.wcv_growth.proofs.Bare.{OwnsNothing}
use Rattle.wcv_growth.proofs.Charged.{AllCharged, all_themselves, all_twice}
use Rattle.wcv_growth.proofs.Closed.{IsClosed, firsts-has, instance-closed, component-closed}
use Rattle.wcv_growth.proofs.Growing.{Ready, Grows}
use Rattle.wcv_growth.proofs.Inside.{closes-grow, decl_side, no-imports}
use Rattle.wcv_growth.proofs.Items.{side_of, MayStand, stands-in-component, grow-grows, declared-grows}
use Rattle.wcv_growth.proofs.Kept.{kept-old}
use Rattle.wcv_growth.proofs.Known.{mapped-some, then-some, Any}
use Rattle.wcv_growth.proofs.Looking.{sorted-fine}
use Rattle.wcv_growth.proofs.Near.{Near}
use Rattle.wcv_growth.proofs.Outer.{ends}
use Rattle.wcv_growth.proofs.Settled.{Settles, inside-settles, settles-ready, settles-more}
use Rattle.wcv_growth.proofs.Sound.{IsSound}
use Rattle.wcv_growth.proofs.Tidy.{Known, TidyEntry, NoneKnown, NoneAt, knows-both, BringsTidy, TidyBehind, apply-tidy, Tidy, first-tidy, tidy-ready, tidy-here, tidy-knows, tidy-next}
use Rattle.wcv_growth.proofs.TidyEntering.{LeadsIn}
use Rattle.wcv_growth.proofs.TidyItems.{added-tidy, grow-tidy, declared-tidy}
use Rattle.wcv_growth.proofs.Uncaused.{type-free, decls-free, decls-end, type_item-free, plain-free}
use Rattle.wcv_growth.proofs.ValidRead.{valid_reads}
use Rattle.wcv_growth.specs.Valid.{ValidFrom, ValidItem}
use Rattle.wcv_growth.proofs.TidyTypes.{with_node, knows-node, exports-alone, sides-alone, exports-named, sides-named, entries-tidy, NodeTidy, node-tidy}

-- paths lead to what instance types own
sound-led : (t : Type_tree) → IsSound t → Led t
sound-led (node h ps) w = w.0.1

pub ready-leads : (p : Place) (s : Tree_stack) → Ready p s → LeadsIn s.top
ready-leads p s h k t e = sound-led t (sorted-fine (Near s) s.top h.fine.0.entries is_instance k t e).1

-- ## The end

-- a node joins the types, or the components
closed-tidy : (k : Kind) (p : Place) (g : Known) → NoneAt p g → (n : New_node tree_reader) → NodeTidy p g n → (is_concrete k ≡ true → OwnsNothing (node_tree (base p) n)) → BringsTidy p g (closed_as k (tree_maker names_by_place p) n)
closed-tidy concrete p g unknown n w alone =
    let t : Type_tree = node_tree (base p) n in
    record { known = with_node p g t; more = knows-node p g unknown t; brings = brings_one (TidyEntry (with_node p g t)) Any (appends in_components t) (alone refl, w) }
closed-tidy declares_instance p g unknown n w alone = added-tidy p g unknown n w
closed-tidy declares_component p g unknown n w alone = added-tidy p g unknown n w

module _ (p : Place) (n : ℕ) (g : Known) (unknown : NoneKnown p g) (u : Tree_stack) (y : Tidy p n g u) where
  abbrev c : Tree_context
  c = u.top

  abbrev ins : Entries
  ins = c.side importing

  abbrev outs : Entries
  outs = c.side exporting

  abbrev here : AllEntries (TidyEntry y.known) c
  here = y.tidy zero c refl

  abbrev names : SidesDiffer c
  names = y.differ zero c refl

  instance-node : NodeTidy p y.known (instance_made c)
  instance-node =
      node-tidy p y.known (tidy-here p n g u unknown y) (instance (base p) (map (λ d. d.0) c.defined)) (entries export outs none) refl tt (exports-alone outs) tt (exports-named outs (names exporting))
      (entries-tidy y.known export outs none (here.side exporting) (tt, tt))

  component-node : Settles p n u → (m : New_node tree_reader) → component_made c ≡ Some m → NodeTidy p y.known m
  component-node h m e = go (any_free tree_reader c.defined ins) e
    where
      apart : (ks : List (Name × List ℕ)) → kept tree_reader c.defined outs ≡ Some ks → (r : Name) → member r (firsts ks) ≡ true → member r (firsts c.imported) ≡ false
      apart ks q r x = not_so (member r (firsts c.imported)) (λ z. h.none_twice r (firsts-has c.imported r z) (kept-old outs c.defined ks r q (firsts-has ks r x)))

      of_kept : (ks : List (Name × List ℕ)) → kept tree_reader c.defined outs ≡ Some ks → NodeTidy p y.known (component_of c ks)
      of_kept ks q =
          node-tidy p y.known (tidy-here p n g u unknown y) (component (base p) c.imported ks) (entries import ins (entries export outs none)) refl (apart ks q) (sides-alone ins outs) tt
          (sides-named ins outs (names importing) (names exporting)) (entries-tidy y.known import ins (entries export outs none) (here.side importing) (entries-tidy y.known export outs none (here.side exporting) (tt, tt)))

      go : (b : Bool) → cond b None (option_map (component_of c) (kept tree_reader c.defined outs)) ≡ Some m → NodeTidy p y.known m
      go true w = cc
      go false w =
          let k = mapped-some (component_of c) (kept tree_reader c.defined outs) m w in
          subst (NodeTidy p y.known) k.2 (of_kept k.0 k.1)

  -- the type of a component owns nothing
  component-alone : (m : New_node tree_reader) → component_made c ≡ Some m → OwnsNothing (node_tree (base p) m)
  component-alone m e = go (any_free tree_reader c.defined ins) e
    where
      go : (b : Bool) → cond b None (option_map (component_of c) (kept tree_reader c.defined outs)) ≡ Some m → OwnsNothing (node_tree (base p) m)
      go true w = cc
      go false w =
          let k = mapped-some (component_of c) (kept tree_reader c.defined outs) m w in
          subst (λ (x : New_node tree_reader). OwnsNothing (node_tree (base p) x)) k.2 refl

  -- the contexts around are tidy behind it, and its node joins the nearest
  closes-tidy : (fs : WasmFeatures) (k : Kind) (v : Tree_stack) → ended k (tree_maker names_by_place p) u ≡ Some v → ((m : New_node tree_reader) → declared_made k c ≡ Some m → NodeTidy p y.known m) →
      ((m : New_node tree_reader) → declared_made k c ≡ Some m → is_concrete k ≡ true → OwnsNothing (node_tree (base p) m)) → TidyBehind p g v
  closes-tidy fs k v e made alone =
      let w = ends fs (tree_maker names_by_place) k p u v e in
      let x : TidyBehind p y.known (apply (closed_as k (tree_maker names_by_place p) w.node) w.stack) =
      apply-tidy p y.known (closed_as k (tree_maker names_by_place p) w.node) w.stack (around_has u w.stack w.stood (TidyEntry y.known) y.tidy)
      (closed-tidy k p y.known (tidy-here p n g u unknown y) w.node (made w.node w.made) (alone w.node w.made)) in
      subst (TidyBehind p g) w.joined (record { known = x.known; more = knows-both p g y.known x.known (tidy-knows p n g u y) x.more; tidy = x.tidy })

-- ## Declarations

-- what an item or a declaration at the place does
abbrev pub Behind : Side → Place → Known → Tree_stack → Tree_stack → Type 0
Behind e p g s v = Grows e p s v × TidyBehind p g v

-- what holds behind declarations
pub record Read (p : Place) (g : Known) (ds : Decls) (s u : Tree_stack) : Type 0 where
  pub count : ℕ
  pub settles : Settles p count u
  pub tidy : Tidy p count g u
  pub outer : AllCharged s.outer u.outer
  pub kind : u.top.kind ≡ s.top.kind

-- what holds behind the items of a component
pub record ItemsRead (w : Place) (g : Known) (s u : Tree_stack) : Type 0 where
  pub count : ℕ
  pub settles : Settles w count u
  pub tidy : Tidy w count g u
  pub outer : AllCharged s.outer u.outer
  pub kind : u.top.kind ≡ s.top.kind

-- before the first
pub begins-tidy : (p : Place) (k : Kind) (g : Known) (s : Tree_stack) → Everywhere (TidyEntry g) s → AllSidesDiffer s → Tidy p 0 g (inside k s)
begins-tidy p k g s y d = first-tidy p g (inside k s) (inside_has k s (TidyEntry g) y) (inside_differ k s d)

module _ (fs : WasmFeatures) where
  -- the ends of declared types
  component-behind : (p : Place) (g : Known) (s u v : Tree_stack) (ds : Decls) → NoneKnown p g → Ready p s → Read p g ds (inside declares_component s) u → ended declares_component (tree_maker names_by_place p) u ≡ Some v → Behind exporting p g s v
  component-behind p g s u v ds n h r e = (
    closes-grow fs declares_component p r.count s u v r.settles r.outer e h (λ m q. component-closed p r.count (base p) u r.settles m q),
    closes-tidy p r.count g n u r.tidy fs declares_component v e (component-node p r.count g n u r.tidy r.settles) (λ m q z. absurd (false≢true z)),
  )

  instance-behind : (p : Place) (g : Known) (s u v : Tree_stack) (ds : Decls) → IsFree (declared_end_checks declares_instance u.top) → NoneKnown p g → Ready p s → Read p g ds (inside declares_instance s) u → ended declares_instance (tree_maker names_by_place p) u ≡ Some v → Behind exporting p g s v
  instance-behind p g s u v ds free n h r e = (
    closes-grow fs declares_instance p r.count s u v r.settles r.outer e h
        (λ m q. subst (λ (x : New_node tree_reader). IsClosed u (node_tree (base p) x)) (some-inj q) (instance-closed p r.count (base p) u r.settles (ap is_concrete r.kind) (no-imports u.top r.settles.leads free))),
    closes-tidy p r.count g n u r.tidy fs declares_instance v e (λ m q. subst (NodeTidy p r.tidy.known) (some-inj q) (instance-node p r.count g n u r.tidy)) (λ m q z. absurd (false≢true z)),
  )

  -- what is read in one step
  form-behind : (p : Place) (g : Known) (s u : Tree_stack) (f : Form) → MayStand f s.top → IsFree (call_checks fs (tree_maker names_by_place p) s f) → grow fs (tree_maker names_by_place p) s f ≡ Some u → NoneKnown p g → Ready p s → Everywhere (TidyEntry g) s → Behind (side_of f) p g s u
  form-behind p g s u f may free e n h y = (grow-grows p s h g y fs f u may free e, grow-tidy p s (ready-leads p s h) g y n fs f u e)

  mutual
    type-behind : (p : Place) (g : Known) (s v : Tree_stack) (t : Type_form) → IsFree (declared_checks true fs (tree_maker names_by_place) p s t) → read_type fs (tree_maker names_by_place) p s t ≡ Some v → NoneKnown p g → Ready p s →
        Everywhere (TidyEntry g) s → AllSidesDiffer s → Behind exporting p g s v
    type-behind p g s v (component_type ds) free e n h y d =
        let m = then-some (ended declares_component (tree_maker names_by_place p)) (read_decls fs (tree_maker names_by_place) p 0 (inside declares_component s) ds) v e in
        component-behind p g s m.0 v ds n h
        (decls-behind declares_component p 0 g (inside declares_component s) m.0 ds (type-free fs names_by_place declares_component p s ds free) m.1 n (inside-settles p declares_component s (λ k. absurd (false≢true k)) h) (begins-tidy p declares_component g s y d)) m.2
    type-behind p g s v (instance_type ds) free e n h y d =
        let m = then-some (ended declares_instance (tree_maker names_by_place p)) (read_decls fs (tree_maker names_by_place) p 0 (inside declares_instance s) ds) v e in
        instance-behind p g s m.0 v ds (decls-end fs names_by_place declares_instance p 0 (inside declares_instance s) m.0 ds (type-free fs names_by_place declares_instance p s ds free) m.1) n h
        (decls-behind declares_instance p 0 g (inside declares_instance s) m.0 ds (type-free fs names_by_place declares_instance p s ds free) m.1 n (inside-settles p declares_instance s (λ k. absurd (false≢true k)) h) (begins-tidy p declares_instance g s y d)) m.2
    type-behind p g s v (defined_type t) free e n h y d = form-behind p g s v (type_item (defined_type t)) tt free e n h y
    type-behind p g s v (func_type t) free e n h y d = form-behind p g s v (type_item (func_type t)) tt free e n h y
    type-behind p g s v (resource_type rep dtor) free e n h y d = form-behind p g s v (type_item (resource_type rep dtor)) tt free e n h y

    decl-behind : (p : Place) (g : Known) (s u : Tree_stack) (d : Decl) → IsFree (decl_checks fs (tree_maker names_by_place) p s d) → read_decl fs (tree_maker names_by_place) p s d ≡ Some u → NoneKnown p g → Ready p s →
        Everywhere (TidyEntry g) s → AllSidesDiffer s → Behind (decl_side d) p g s u
    decl-behind p g s u (core_type_decl t) free e n h y d = form-behind p g s u (core_type_item t) tt free e n h y
    decl-behind p g s u (type_decl t) free e n h y d = type-behind p g s u t free e n h y d
    decl-behind p g s u (alias_decl a) free e n h y d = form-behind p g s u (alias_item a) tt free e n h y
    decl-behind p g s u (export_decl x r) free e n h y d = (declared-grows p s h x r u e, declared-tidy p s (ready-leads p s h) g y n x r u e)
    decl-behind p g s u (import_decl i) free e n h y d = form-behind p g s u (import_item i) tt free e n h y

    decls-behind : (k : Kind) (p : Place) (n : ℕ) (g : Known) (s u : Tree_stack) (ds : Decls) → IsFree (decls_checks fs (tree_maker names_by_place) p n k s ds) → read_decls fs (tree_maker names_by_place) p n s ds ≡ Some u → NoneKnown p g →
        Settles p n s → Tidy p n g s → Read p g ds s u
    decls-behind k p n g s u no_decls free e unknown h y =
        subst (Read p g no_decls s) (some-inj e) (record { count = n; settles = h; tidy = y; outer = all_themselves s.outer; kind = refl })
    decls-behind k p n g s u (declare d ds) free e unknown h y =
        let m = then-some (λ (t : Tree_stack). read_decls fs (tree_maker names_by_place) p (suc n) t ds) (read_decl fs (tree_maker names_by_place) (deeper p n) s d) u e in
        let f = decls-free fs names_by_place k p n s m.0 d ds m.1 free in
        let x : Behind (decl_side d) (deeper p n) y.known s m.0 = decl-behind (deeper p n) y.known s m.0 d f.0 m.1 (tidy-ready p n g s unknown y) (settles-ready p n s h) y.tidy y.differ in
        let z : AllSidesDiffer m.0 = decl_differ fs (tree_maker names_by_place) (deeper p n) s m.0 d y.differ m.1 in
        let w : Read p g ds m.0 u = decls-behind k p (suc n) g m.0 u ds f.1 m.2 unknown (settles-more p n s m.0 h (decl_side d) x.0) (tidy-next p n g s m.0 y x.1 z) in
        record { count = w.count; settles = w.settles; tidy = w.tidy; outer = all_twice s.outer m.0.outer u.outer x.0.outer w.outer; kind = w.kind ∙ x.0.kind }

  -- ## Items of a component

  component-ends : (p : Place) (g : Known) (s u v : Tree_stack) → NoneKnown p g → Ready p s → ItemsRead p g (inside concrete s) u → ended concrete (tree_maker names_by_place p) u ≡ Some v → Behind exporting p g s v
  component-ends p g s u v n h r e = (
    closes-grow fs concrete p r.count s u v r.settles r.outer e h (λ m q. component-closed p r.count (base p) u r.settles m q),
    closes-tidy p r.count g n u r.tidy fs concrete v e (component-node p r.count g n u r.tidy r.settles) (λ m q z. component-alone p r.count g n u r.tidy m q),
  )

  mutual
    pub item-behind : (p : Place) (g : Known) (s u : Tree_stack) (f : Form) → is_concrete s.top.kind ≡ true → ValidItem fs names_by_place p s f → read_item fs (tree_maker names_by_place) p s f ≡ Some u → NoneKnown p g → Ready p s →
        Everywhere (TidyEntry g) s → AllSidesDiffer s → Behind (side_of f) p g s u
    item-behind p g s u (type_item t) c v e n h y d = type-behind p g s u t (type_item-free fs names_by_place p s t v.0) e n h y d
    item-behind p g s u (component_item is end) c v e n h y d =
        let m = then-some (ended concrete (tree_maker names_by_place p)) (read_items fs (tree_maker names_by_place) p 0 (inside concrete s) is) u e in
        let same : v.1.0 ≡ m.0 = some-inj (sym (valid_reads fs names_by_place p 0 (inside concrete s) is v.1.0 v.1.1) ∙ m.1) in
        let r : ItemsRead p g (inside concrete s) v.1.0 =
        items-behind p 0 g (inside concrete s) v.1.0 is refl v.1.1 n (inside-settles p concrete s (λ k. c) h) (begins-tidy p concrete g s y d) in
        component-ends p g s m.0 u n h (subst (ItemsRead p g (inside concrete s)) same r) m.2
    item-behind p g s u f c v e n h y d =
        form-behind p g s u f (stands-in-component f s.top c) (plain-free fs names_by_place p s f v.0) e n h y

    pub items-behind : (w : Place) (k : ℕ) (g : Known) (s u : Tree_stack) (is : Items) → is_concrete s.top.kind ≡ true → ValidFrom fs names_by_place w k s is u → NoneKnown w g → Settles w k s → Tidy w k g s → ItemsRead w g s u
    items-behind w k g s u no_items c v n h y = subst (ItemsRead w g s) v (record { count = k; settles = h; tidy = y; outer = all_themselves s.outer; kind = refl })
    items-behind w k g s u (next_item at f is) c v n h y =
        let t : Tree_stack = v.1.0 in
        let x : Behind (side_of f) (deeper w k) y.known s t = item-behind (deeper w k) y.known s t f c v.0 v.1.1 (tidy-ready w k g s n y) (settles-ready w k s h) y.tidy y.differ in
        let z : AllSidesDiffer t = item_differ fs (tree_maker names_by_place) (deeper w k) s t f y.differ v.1.1 in
        let r : ItemsRead w g t u = items-behind w (suc k) g t u is (ap is_concrete x.0.kind ∙ c) v.1.2 n (settles-more w k s t h (side_of f) x.0) (tidy-next w k g s t y x.1 z) in
        record { count = r.count; settles = r.settles; tidy = r.tidy; outer = all_twice s.outer t.outer u.outer x.0.outer r.outer; kind = r.kind ∙ x.0.kind }
