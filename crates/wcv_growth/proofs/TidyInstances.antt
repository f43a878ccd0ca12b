-- Instances are tidy: one of an instance type, one that lists items, and one of a component.
use Rattle.std.proofs.Common.{◌≡◌, ◌<◌, ℕ, zero, suc, List, [], ◌∷◌, ◌++◌, ◌||◌, ◌&&◌, Bool, true, false, cond, bytes_eq, refl, sym, ◌∙◌, ap, subst, Option, Some, None, arith}
use Rattle.std.specs.Prelude.{All, not, slice_get}
use Rattle.std.specs.List.{IsDistinct, list_all}
use Rattle.std.specs.Map.{keys_of}
use Rattle.std.specs.Option.{option_map, option_and_then}
use Rattle.std.proofs.lemmas.Bool.{false≢true}
use Rattle.std.proofs.lemmas.List.Elements.{All-nil, All-cons, All-head, All-tail, All-weaker}
use Rattle.wcv_core.specs.Names.{Name, Place, number, stamp, base, at, stamped, aside, same_place, same, member}
use Rattle.wcv_core.proofs.Names.{same-refl, same-true}
use Rattle.wcv_syntax.specs.Model.{Instance_form, instantiate, bag}
use Rattle.wcv_syntax.specs.declared.instance.ComponentInstantiationArg.{ComponentInstantiationArg}
use Rattle.wcv_syntax.specs.declared.name.ComponentExport.{ComponentExport}
use Rattle.wcv_types.specs.ByName.{NamesDiffer}
use Rattle.wcv_types.specs.Identity.{Identity, of_node, identity_at}
use Rattle.wcv_types.specs.Led.{HasPath, Led}
use Rattle.wcv_types.specs.Paths.{PathLeadsTo}
use Rattle.wcv_types.specs.Replacing.{Replacement, given_elsewhere, moved, moves, changed, changed_in, new_head, replaced, replaced_in}
use Rattle.wcv_types.specs.Resources.{RefersTo}
use Rattle.wcv_types.specs.Tree.{Text, Extern_name, Head, here, label, import, export, core_import, core_export, nothing, resource, instance, node, Parts, none, part, head, sort, is_instance, referenced, exports_in, exports, instance_type}
use Rattle.wcv_types.specs.Unfold.{Type_tree}
use Rattle.wcv_types.proofs.Lists.{some-inj}
use Rattle.wcv_types.proofs.Replacing.{none-given, idle-stays}
use Rattle.wcv_matching.specs.AtomTests.{id_tests}
use Rattle.wcv_matching.specs.GivenTypes.{given_for}
use Rattle.wcv_matching.specs.Matching.{named, named_imports}
use Rattle.wcv_matching.specs.OnePass.{opens_pass}
use Rattle.wcv_matching.specs.Orderly.{EachNode, height, heights}
use Rattle.wcv_lower.specs.Checks.{is_none, same_sort}
use Rattle.wcv_lower.specs.Context.{in_instances, in_components, exporting}
use Rattle.wcv_lower.specs.Instances.{component_at, argument_at, arguments, if_opened, opened, listed, bag_made, instance_of_component, instance_of_items, instance_made, instance_joins, instance_values, instance_step}
use Rattle.wcv_lower.specs.Instantiated.{opening, instantiated}
use Rattle.wcv_lower.specs.Mapped.{map_entries}
use Rattle.wcv_lower.specs.Names.{names_by_place}
use Rattle.wcv_lower.specs.NewTypes.{owned_anew, instance_tree}
use Rattle.wcv_lower.specs.Owned.{AllEntries}
use Rattle.wcv_lower.specs.Readers.{New_node, instance_node}
use Rattle.wcv_lower.specs.Marks.{uses_each}
use Rattle.wcv_lower.specs.Step.{introduces, appends, Step, Brought}
use Rattle.wcv_lower.specs.Trees.{Entries, Tree_stack, tree_reader, tree_maker}
use Rattle.wcv_lower.proofs.Bringing.{brings_one, brings_more}
use Rattle.wcv_lower.proofs.Given.{or_left, or_right}
use Rattle.wcv_lower.proofs.Instantiating.{arguments_have, listed_have}
use Rattle.wcv_lower.proofs.SidesKept.{no_names, bag_differs}
use Rattle.wcv_growth.proofs.Alike.{IsOf, SameKind, stands}
use Rattle.wcv_growth.proofs.Bare.{EntriesOwnNothing}
use Rattle.wcv_growth.proofs.BareGiven.{entries-own, given_for-each, looked-up, opening-kinds}
use Rattle.wcv_growth.proofs.CoreGrowing.{if-some}
use Rattle.wcv_growth.proofs.InstanceGrowing.{opened-pair}
use Rattle.wcv_growth.proofs.Known.{mapped-some, then-some, all-get, Any}
use Rattle.wcv_growth.proofs.Marked.{uses-tidy}
use Rattle.wcv_growth.proofs.Tidy.{Known, IsTidy, TidyType, TidyIn, TidyEntry, KnownMore, KnowsMore, NoneKnown, tidy-known, entry-more, known_at, known-base, known-again, knows-here, BringsTidy}
use Rattle.wcv_growth.proofs.TidyReplaced.{exports-again, named-again, stands_for, tidy-of, replaced-entry, replaced_in-tidy}
use Rattle.wcv_growth.proofs.TidyTypes.{exports-alone, exports-named, entries-tidy, tidy-before}

-- ## One that lists entries

abbrev AllTidy : Known → Entries → Type 0
AllTidy g es = All (λ e. TidyEntry g e.1) es

abbrev Tidies : Known → Extern_name × Type_tree → Type 0
Tidies g e = TidyEntry g e.1

all-more : (g f : Known) → KnownMore g f → (es : Entries) → AllTidy g es → AllTidy f es
all-more g f m es a = All-weaker (Tidies g) (Tidies f) (λ e w. entry-more g f m e.1 w) es a

-- the instance of that identity, once it is known
listing-tidy : (g : Known) (i : Name) (es : Entries) → g i ≡ Some (instance_type i [] es) → NamesDiffer (named es) → AllTidy g es → TidyEntry g (instance_type i [] es)
listing-tidy g i es e d a =
    let w = entries-tidy g export es none a (tt, tt) in
    (refl, (record { alike = tt; bare = w.1; values = tt; apart = tt; plain = tt; formed = λ l. exports-alone es; named = exports-named es d; one = λ j d. one j d }, w.0))
  where
    one : (j : Name) → Some (of_node i) ≡ Some (of_node j) → g j ≡ Some (instance_type i [] es)
    one j d = let k : i ≡ j = cc in subst (λ (x : Name). g x ≡ Some (instance_type i [] es)) k e

-- what a tidy type exports is tidy
exports-tidy_in : (g : Known) (ps : Parts Name Name) → EntriesOwnNothing ps → TidyIn g ps → AllTidy g (exports_in ps)
exports-tidy_in g none w a = All-nil (Tidies g)
exports-tidy_in g (part (export n) t ps) w a = All-cons (Tidies g) (n, t) (exports_in ps) (w.0, a.0) (exports-tidy_in g ps w.1 a.1)
exports-tidy_in g (part (import n) t ps) w a = exports-tidy_in g ps w.1 a.1
exports-tidy_in g (part here t ps) w a = exports-tidy_in g ps w a.1
exports-tidy_in g (part (label l) t ps) w a = exports-tidy_in g ps w a.1
exports-tidy_in g (part (core_import m n) t ps) w a = exports-tidy_in g ps w a.1
exports-tidy_in g (part (core_export n) t ps) w a = exports-tidy_in g ps w a.1

pub exports-tidy : (g : Known) (t : Type_tree) → TidyType g t → AllTidy g (exports t)
exports-tidy g (node h ps) w = exports-tidy_in g ps w.0.bare w.1

-- with the names that it has
exports-differ : (g : Known) (t : Type_tree) → TidyType g t → NamesDiffer (named (exports t))
exports-differ g (node h ps) w = w.0.named.1

keys-mapped : (r : Type_tree → Type_tree) (es : Entries) → keys_of (named (map_entries r es)) ≡ keys_of (named es)
keys-mapped r [] = refl
keys-mapped r (e ∷ es) = ap (λ (ks : List Text). e.0.name ∷ ks) (keys-mapped r es)

mapped-differ : (r : Type_tree → Type_tree) (es : Entries) → NamesDiffer (named es) → NamesDiffer (named (map_entries r es))
mapped-differ r es d = subst (IsDistinct bytes_eq) (sym (keys-mapped r es)) d

mapped-tidy : (g f : Known) (r : Type_tree → Type_tree) → ((t : Type_tree) → TidyEntry g t → TidyEntry f (r t)) → (es : Entries) → AllTidy g es → AllTidy f (map_entries r es)
mapped-tidy g f r h [] a = All-nil (Tidies f)
mapped-tidy g f r h (e ∷ es) a = All-cons (Tidies f) (e.0, r e.1) (map_entries r es) (h e.1 (All-head (Tidies g) e es a)) (mapped-tidy g f r h es (All-tail (Tidies g) e es a))

-- ## Steps

module _ (p : Place) (s : Tree_stack) (g : Known) (h : AllEntries (TidyEntry g) s.top) (fresh : NoneKnown p g) where
  -- what is known once a node was made there, and others again
  joined-tidy : (made : Type_tree) (remade : Name → Option Type_tree) (b : Brought tree_reader) → TidyEntry (known_at p (Some made) remade g) b.entity → BringsTidy p g (instance_joins b)
  joined-tidy made remade b w =
      let f : Known = known_at p (Some made) remade g in
      record {
        known = f;
        more = knows-here p (Some made) remade g fresh;
        brings = brings_more (TidyEntry f) Any (introduces exporting b.resources) (appends in_instances b.entity ∷ []) (λ k x l. tt) (brings_one (TidyEntry f) Any (appends in_instances b.entity) w);
      }

  -- ### Items that are listed

  listing-brings : (es : Entries) → NamesDiffer (named es) → AllTidy g es → BringsTidy p g (instance_joins (instance_of_items (tree_maker names_by_place p) (instance_node [] es)))
  listing-brings es d a =
      let i : Name = base p in
      let made : Type_tree = instance_type i [] es in
      let remade : Name → Option Type_tree = λ x. None in
      joined-tidy made remade (instance_of_items (tree_maker names_by_place p) (instance_node [] es))
      (listing-tidy (known_at p (Some made) remade g) i es (known-base p (Some made) remade g) d (all-more g (known_at p (Some made) remade g) (knows-here p (Some made) remade g fresh).more es a))

  bag-tidy : (es : List ComponentExport) (x : Step tree_reader) → option_map instance_joins (instance_made (tree_maker names_by_place p) s (bag es)) ≡ Some x → BringsTidy p g x
  bag-tidy es x e =
      let m = mapped-some instance_joins (instance_made (tree_maker names_by_place p) s (bag es)) x e in
      let o = mapped-some (instance_of_items (tree_maker names_by_place p)) (bag_made s.top es) m.0 m.1 in
      let n = bag_differs s.top es o.0 o.1 in
      subst (BringsTidy p g) m.2
      (subst (λ (b : Brought tree_reader). BringsTidy p g (instance_joins b)) o.2
      (subst (λ (k : New_node tree_reader). BringsTidy p g (instance_joins (instance_of_items (tree_maker names_by_place p) k))) (sym n.0)
      (listing-brings (listed s.top es) n.1 (listed_have (TidyEntry g) s.top h es))))

  -- ### A component that is opened

  opened-brings : (args : List (Text × Type_tree)) (t : Type_tree) → All (λ (e : Text × Type_tree). TidyEntry g e.1) args → TidyType g t → opens_pass (id_tests s.groups) args t ≡ true →
      BringsTidy p g (instance_joins (instance_of_component (tree_maker names_by_place p) (args, t)))
  opened-brings args t a w opens =
      joined-tidy made remade (instance_of_component (tree_maker names_by_place p) (args, t))
      (listing-tidy f (base p) (map_entries (replaced m) (exports t)) (known-base p (Some made) remade g) (mapped-differ (replaced m) (exports t) (exports-differ g t w))
      (mapped-tidy g f (replaced m) (λ u v. replaced-entry g f m (knows-here p (Some made) remade g fresh).more gives kinds (λ i x e n c. again i x e) u v) (exports t) (exports-tidy g t w)))
    where
      m : Replacement
      m = opening names_by_place p args t

      made : Type_tree
      made = instantiated names_by_place p args t

      remade : Name → Option Type_tree
      remade x = option_map (replaced m) (g x)

      f : Known
      f = known_at p (Some made) remade g

      kinds : (i : Identity) (u : Type_tree) → m.nodes i ≡ Some u → SameKind u (stands (stands_for g) i)
      kinds =
          opening-kinds s.groups (stands_for g) p args t
          (All-weaker (λ (e : Text × Type_tree). TidyEntry g e.1) (λ (e : Text × Type_tree). EachNode (IsOf (stands_for g)) e.1) (λ e v. tidy-of g e.1 v.1) args a) (tidy-of g t w) opens

      left-out : (i : Name) → identity_at nothing ≡ Some (of_node i) → g i ≡ Some (node nothing none)
      left-out i e = absurd (cc)

      gives : (i : Identity) (u : Type_tree) → m.nodes i ≡ Some u → TidyType g u
      gives i u e =
          looked-up (λ (x : Identity × Type_tree). TidyType g x.1) i (given_for args (named_imports t)) u
          (given_for-each (IsTidy g) (record { alike = tt; bare = tt; values = tt; apart = tt; plain = tt; formed = λ l. tt; named = (no_names, no_names); one = left-out }) args (named_imports t)
          (All-weaker (λ (e : Text × Type_tree). TidyEntry g e.1) (λ (e : Text × Type_tree). TidyType g e.1) (λ e v. v.1) args a)) e

      again : (i : Name) (u : Type_tree) → g i ≡ Some u → f (at p i) ≡ Some (replaced m u)
      again i u e = known-again p (Some made) remade g i ∙ ap (option_map (replaced m)) e

  instantiate-tidy : (i : ℕ) (given : List ComponentInstantiationArg) (x : Step tree_reader) → option_map instance_joins (instance_made (tree_maker names_by_place p) s (instantiate i given)) ≡ Some x → BringsTidy p g x
  instantiate-tidy i given x e =
      let args : List (Text × Type_tree) = arguments s.top given in
      let m = mapped-some instance_joins (instance_made (tree_maker names_by_place p) s (instantiate i given)) x e in
      let o = mapped-some (instance_of_component (tree_maker names_by_place p)) (opened s i given) m.0 m.1 in
      let n = if-some (list_all (λ (a : ComponentInstantiationArg). not (is_none (argument_at s.top a))) given) (option_and_then (if_opened tree_reader s.groups args) (component_at s.top i)) o.0 o.1 in
      let t = then-some (if_opened tree_reader s.groups args) (component_at s.top i) o.0 n in
      let q = opened-pair args t.0 o.0 (tree_reader.opens s.groups args t.0) t.2 in
      let w : TidyEntry g t.0 = all-get (TidyEntry g) (s.top.space in_components) i t.0 (h.space in_components) t.1 in
      subst (BringsTidy p g) m.2
      (subst (λ (b : Brought tree_reader). BringsTidy p g (instance_joins b)) o.2
      (subst (λ (y : List (Text × Type_tree) × Type_tree). BringsTidy p g (instance_joins (instance_of_component (tree_maker names_by_place p) y))) q.1
      (opened-brings args t.0 (arguments_have (TidyEntry g) s.top h given) w.1 q.0)))

joins-tidy : (p : Place) (s : Tree_stack) (g : Known) → AllEntries (TidyEntry g) s.top → NoneKnown p g → (i : Instance_form) (x : Step tree_reader) →
    option_map instance_joins (instance_made (tree_maker names_by_place p) s i) ≡ Some x → BringsTidy p g x
joins-tidy p s g h n (bag es) x e = bag-tidy p s g h n es x e
joins-tidy p s g h n (instantiate i args) x e = instantiate-tidy p s g h n i args x e

pub instance-tidy : (p : Place) (s : Tree_stack) (g : Known) → AllEntries (TidyEntry g) s.top → NoneKnown p g → (i : Instance_form) (x : Step tree_reader) → instance_step (tree_maker names_by_place p) s i ≡ Some x → BringsTidy p g x
instance-tidy p s g h n i x e =
    let m = mapped-some (λ (y : Step tree_reader). uses_each (instance_values i) ++ y) (option_map instance_joins (instance_made (tree_maker names_by_place p) s i)) x e in
    subst (BringsTidy p g) m.2 (uses-tidy p g (instance_values i) m.0 (joins-tidy p s g h n i m.0 m.1))

-- ## One of an instance type

-- a name that is given from an older one is another
again-differs : (p : Place) (x : Name) → same x (at p x) ≡ false
again-differs p (at q y) = go (same_place q p) (again-differs q y)
  where
    go : (b : Bool) → same y (at q y) ≡ false → (b && same y (at q y)) ≡ false
    go true e = e
    go false e = refl
again-differs p (number k) = refl
again-differs p (stamp k) = refl
again-differs p (base q) = refl
again-differs p (stamped q) = refl
again-differs p (aside x) = refl

none-some : (o : Option Type_tree) (u : Type_tree) → o ≡ None → o ≡ Some u → ⊥
none-some None u d e = cc
none-some (Some x) u d e = cc

-- where no node is given
module _ (m : Replacement) (plain : (i : Identity) → m.nodes i ≡ None) where
  abbrev whole : Head Name Name → Parts Name Name → Option Type_tree → Bool
  whole h ps o = given_elsewhere o h (moves m h || changed_in m ps)

  -- a type changes in which a path leads to what is replaced
  module _ (r q : Name) (to : m.resources r ≡ Some q) (other : same r q ≡ false) where
    head-moves : (h : Head Name Name) → RefersTo r h → moves m h ≡ true
    head-moves (resource x s) e = ap (λ (y : Name). moved y (m.resources y)) (sym e) ∙ ap (moved r) to ∙ ap not other
    head-moves h e = absurd e

    reference-changes : (t : Type_tree) → RefersTo r (head t) → changed m t ≡ true
    reference-changes (node h ps) e = ap (whole h ps) (none-given m plain h) ∙ or_left (moves m h) (changed_in m ps) (head-moves h e)

    inside-changes : (h : Head Name Name) (ps : Parts Name Name) → changed_in m ps ≡ true → changed m (node h ps) ≡ true
    inside-changes h ps e = ap (whole h ps) (none-given m plain h) ∙ or_right (moves m h) (changed_in m ps) e

    type-changes : (t : Type_tree) → RefersTo r (head (referenced t)) → changed m t ≡ true
    type-changes (node h none) e = absurd e
    type-changes (node h (part k t none)) e = absurd e
    type-changes (node h (part k t (part l u ps))) e =
        inside-changes h (part k t (part l u ps)) (or_right (changed m t) (changed m u || changed_in m ps) (or_left (changed m u) (changed_in m ps) (reference-changes u e)))

    -- one of the exports
    found-changes : (ps : Parts Name Name) (k : ℕ) (e : Extern_name × Type_tree) → slice_get (exports_in ps) k ≡ Some e → changed m e.1 ≡ true → changed_in m ps ≡ true
    found-changes none k e g c = cc
    found-changes (part (export n) t ps) zero e g c = or_left (changed m t) (changed_in m ps) (subst (λ (x : Extern_name × Type_tree). changed m x.1 ≡ true) (sym (some-inj g)) c)
    found-changes (part (export n) t ps) (suc k) e g c = or_right (changed m t) (changed_in m ps) (found-changes ps k e g c)
    found-changes (part (import n) t ps) k e g c = or_right (changed m t) (changed_in m ps) (found-changes ps k e g c)
    found-changes (part here t ps) k e g c = or_right (changed m t) (changed_in m ps) (found-changes ps k e g c)
    found-changes (part (label l) t ps) k e g c = or_right (changed m t) (changed_in m ps) (found-changes ps k e g c)
    found-changes (part (core_import a n) t ps) k e g c = or_right (changed m t) (changed_in m ps) (found-changes ps k e g c)
    found-changes (part (core_export n) t ps) k e g c = or_right (changed m t) (changed_in m ps) (found-changes ps k e g c)

    path-changes : (path : List ℕ) (ps : Parts Name Name) → PathLeadsTo path r (exports_in ps) → changed_in m ps ≡ true
    path-changes [] ps w = absurd w
    path-changes (k ∷ []) ps w = found-changes ps k w.0 w.1 (type-changes w.0.1 w.2.1)
    path-changes (k ∷ j ∷ path) ps w = found-changes ps k w.0 w.1 (on (path-changes (j ∷ path)) w.0.1 w.3)
      where
        on : ((qs : Parts Name Name) → PathLeadsTo (j ∷ path) r (exports_in qs) → changed_in m qs ≡ true) → (t : Type_tree) → PathLeadsTo (j ∷ path) r (exports t) → changed m t ≡ true
        on further (node h qs) v = inside-changes h qs (further qs v)

-- what no identity is known for
abbrev without : Name → Known → Known
without i g j = cond (same j i) None (g j)

module _ (i : Name) (g : Known) where
  less-known : (j : Name) (u : Type_tree) → without i g j ≡ Some u → (same j i ≡ false) × (g j ≡ Some u)
  less-known j u = go (same j i)
    where
      go : (b : Bool) → cond b None (g j) ≡ Some u → (b ≡ false) × (g j ≡ Some u)
      go true e = absurd (cc)
      go false e = (refl, e)

  -- a type that is lower than the one that the identity stands for has no node of it
  module _ (t : Type_tree) (top : g i ≡ Some t) where
    lower-known : (j : Name) (u : Type_tree) → height u < height t → g j ≡ Some u → without i g j ≡ Some u
    lower-known j u l e = go (same j i) refl
      where
        go : (b : Bool) → same j i ≡ b → cond b None (g j) ≡ Some u
        go true d =
            let k : t ≡ u = some-inj (sym top ∙ ap g (sym (same-true j i d)) ∙ e) in
            let n : height t ≡ height u = ap height k in
            absurd (omega arith)
        go false d = e

    mutual
      lower-tidy : (u : Type_tree) → height u < height t → TidyType g u → TidyType (without i g) u
      lower-tidy (node h ps) l w =
          (tidy-known g (without i g) h ps w.0 (λ j e. lower-known j (node h ps) l e), lower-tidy_in ps (omega arith) w.1)

      lower-tidy_in : (ps : Parts Name Name) → heights ps < height t → TidyIn g ps → TidyIn (without i g) ps
      lower-tidy_in none l w = tt
      lower-tidy_in (part k u ps) l w = (lower-tidy u (omega arith) w.0, lower-tidy_in ps (omega arith) w.1)

module _ (p : Place) (g : Known) (fresh : NoneKnown p g) (i : Name) where
  -- one that owns nothing stays as it is
  owning-nothing : (ps : Parts Name Name) → TidyType g (node (instance i []) ps) → (f : Known) × KnowsMore p g f × TidyEntry f (instance_tree names_by_place p (node (instance i []) ps))
  owning-nothing ps w = tidy-before p g (instance_tree names_by_place p (node (instance i []) ps)) (subst (TidyEntry g) (sym stays) (refl, w))
    where
      stays : instance_tree names_by_place p (node (instance i []) ps) ≡ node (instance i []) ps
      stays = idle-stays (owned_anew names_by_place p []) (λ j. refl) (λ r. refl) (node (instance i []) ps)

  -- another is made again
  made-anew : (own : List Name) (ps : Parts Name Name) → TidyType g (node (instance i own) ps) → changed_in (owned_anew names_by_place p own) ps ≡ true →
      (f : Known) × KnowsMore p g f × TidyEntry f (instance_tree names_by_place p (node (instance i own) ps))
  made-anew own ps w c = (f, more, subst (TidyEntry f) (λ j. node (new_head m (sym c j) (instance i [])) (replaced_in m ps)) made-tidy)
    where
      m : Replacement
      m = owned_anew names_by_place p own

      made : Type_tree
      made = node (instance (at p i) []) (replaced_in m ps)

      remade : Name → Option Type_tree
      remade x = cond (same x i) (Some made) (option_map (replaced m) (g x))

      f : Known
      f = known_at p None remade g

      more : KnowsMore p g f
      more = knows-here p None remade g fresh

      less : TidyIn (without i g) ps
      less = lower-tidy_in i g (node (instance i own) ps) (w.0.one i refl) ps (omega arith) w.1

      again : (x : Name) (u : Type_tree) → without i g x ≡ Some u → f (at p x) ≡ Some (replaced m u)
      again x u e =
          let l = less-known i g x u e in
          known-again p None remade g x ∙ ap (λ (b : Bool). cond b (Some made) (option_map (replaced m) (g x))) l.0 ∙ ap (option_map (replaced m)) l.1

      known : f (at p i) ≡ Some made
      known = known-again p None remade g i ∙ ap (λ (b : Bool). cond b (Some made) (option_map (replaced m) (g i))) (same-refl i)

      nothing-comes : (P : Type_tree → Type 0) (j : Identity) (u : Type_tree) → m.nodes j ≡ Some u → P u
      nothing-comes P j u e = absurd (none-some None u refl e)

      one : (j : Name) → Some (of_node (at p i)) ≡ Some (of_node j) → f j ≡ Some made
      one j e = let k : at p i ≡ j = cc in subst (λ (x : Name). f x ≡ Some made) k known

      entries-bare : EntriesOwnNothing (replaced_in m ps)
      entries-bare = entries-own (stands_for g) m (λ j u e. nothing-comes (λ u. SameKind u (stands (stands_for g) j)) j u e) ps (tidy-of g (node (instance i own) ps) w).1 w.0.bare

      inside : TidyIn f (replaced_in m ps)
      inside =
          replaced_in-tidy (without i g) f m (λ j u e. more.more j u (less-known i g j u e).1) (λ j u e. nothing-comes (TidyType (without i g)) j u e)
          (λ j u e. nothing-comes (λ u. SameKind u (stands (stands_for (without i g)) j)) j u e) (λ j u e n c. again j u e) ps less

      made-tidy : TidyEntry f made
      made-tidy = (refl, (record { alike = tt; bare = entries-bare; values = tt; apart = tt; plain = tt; formed = λ l. exports-again m ps (w.0.formed tt); named = named-again m ps w.0.named; one = one }, inside))

pub instance_of-tidy : (p : Place) (g : Known) (t : Type_tree) → same_sort is_instance (sort t) ≡ true → Led t → TidyType g t → NoneKnown p g → (f : Known) × KnowsMore p g f × TidyEntry f (instance_tree names_by_place p t)
instance_of-tidy p g (node (instance i []) ps) e s w n = owning-nothing p g n i ps w
instance_of-tidy p g (node (instance i (r ∷ own)) ps) e s w n =
    let m : Replacement = owned_anew names_by_place p (r ∷ own) in
    let to : m.resources r ≡ Some (at p r) = ap (λ (b : Bool). cond {A = Option Name} b (Some (at p r)) None) (or_left (same r r) (member r own) (same-refl r)) in
    let path = All-head (HasPath (exports_in ps)) r own s in
    made-anew p g n i (r ∷ own) ps w (path-changes m (λ j. refl) r (at p r) to (again-differs p r) path.0 ps path.1)
instance_of-tidy p g (node h ps) e s w n = absurd (false≢true e)
