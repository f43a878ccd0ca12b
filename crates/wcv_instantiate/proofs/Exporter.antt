-- What is read of a component, and what its map sends.
use Rattle.std.proofs.Common.{◌≡◌, ℕ, suc, ◌+◌, ◌<◌, ◌≤◌, List, [], ◌∷◌, ◌++◌, length, map, refl, sym, ◌∙◌, ap, subst, arith, Bool, true, false, ◌||◌, cond, Some, None, All, ⊎_elim}
use Rattle.std.specs.Prelude.{Option, Contains, option_map, slice_get}
use Rattle.std.specs.List.{IsDistinct}
use Rattle.std.specs.Map.{keys_of, lookup}
use Rattle.std.proofs.lemmas.Bool.{false≢true}
use Rattle.std.proofs.lemmas.List.Elements.{All-contains, All-contains_itself, All-weaker, All-nil, All-cons, All-head, All-tail, Contains-append_cases}
use Rattle.wcv_core.specs.Names.{Name, number, stamp, base, at, stamped, aside, member}
use Rattle.wcv_types.proofs.Grown.{stands_more}
use Rattle.wcv_types.specs.Arena.{Arena}
use Rattle.wcv_types.specs.ComponentTrees.{resource_path}
use Rattle.wcv_types.specs.Entities.{entity_tree, entry_trees}
use Rattle.wcv_types.specs.Given.{GaveResource, GaveIdentity}
use Rattle.wcv_types.specs.Identity.{Identity, identity_at}
use Rattle.wcv_types.specs.Rename.{EachName, HeadNames}
use Rattle.wcv_types.specs.Replacing.{Replacement, given_at, moved}
use Rattle.wcv_types.specs.Resources.{owns}
use Rattle.wcv_types.specs.Sets.{same_resource}
use Rattle.wcv_types.specs.Standing.{Extends, identity_of}
use Rattle.wcv_types.specs.Tree.{Extern_name, Head, nothing, primitive, resource, defined, func, instance, component, type_entity, core_module, core_instance, core_type, core_item, here, label, import, export, core_import, core_export, node, Parts, none, part, parts, exports, exports_in, firsts, head, imported_at}
use Rattle.wcv_types.specs.Unfold.{Type_tree, tree_at, trees}
use Rattle.wcv_types.specs.declared.ids.ComponentTypeId.{ComponentTypeId}
use Rattle.wcv_types.specs.declared.ids.Part.{Part}
use Rattle.wcv_types.specs.declared.ids.Part.TheVariants as p
use Rattle.wcv_types.specs.declared.ids.ResourceId.{ResourceId}
use Rattle.wcv_types.specs.declared.shapes.ComponentEntityType.{ComponentEntityType}
use Rattle.wcv_types.specs.Tree.{Text}
use Rattle.wcv_matching.specs.GivenTypes.{given_for}
use Rattle.wcv_matching.specs.Matching.{named_imports}
use Rattle.wcv_matching.specs.OnePass.{argument_for, made_paths}
use Rattle.wcv_matching.specs.SameTypes.{made_at}
use Rattle.wcv_lower.specs.Owned.{OwnsApart, OwnsNot, OwnsNotIn}
use Rattle.wcv_remap.proofs.Given.{sound_given}
use Rattle.wcv_remap.specs.Entities.{EntityHygienic}
use Rattle.wcv_remap.specs.Hygiene.{Apart, ApartIn, Hygienic, HygienicIn}
use Rattle.wcv_remap.specs.Map.{Sent, Map, resource_to, resources_by, same_part}
use Rattle.wcv_subtype.specs.Openings.{IsOpening, named_args}
use Rattle.wcv_remap.specs.Remap.{NotGiven, Serves, Sends, Sound}
use Rattle.wcv_types.proofs.EntryParts.{component_exports}
use Rattle.wcv_types.proofs.Knowing.{parts_in-append}
use Rattle.wcv_types.proofs.Unfolding.{all_right, head_in}
use Rattle.wcv_types.specs.ByName.{NamesDiffer}
use Rattle.wcv_types.specs.Entities.{entity_slot, EntryStands}
use Rattle.wcv_types.specs.Standing.{StandsBefore, Unfolds}
use Rattle.wcv_types.specs.Unfold.{Slots, entry_slots, head_of, parts_in, slot_parts, slots_if}
use Rattle.wcv_types.specs.declared.arena.Node.TheVariants as n
use Rattle.wcv_types.specs.declared.component_type.ComponentType.{ComponentType}
use Rattle.wcv_instantiate.proofs.ExportsAnew.{Item, slot_more}
use Rattle.wcv_instantiate.proofs.OpenedType.{entries_before, entries_stand}
use Rattle.wcv_instantiate.proofs.MadeAnew.{is_member, sent_owned, to_each}
use Rattle.wcv_instantiate.proofs.NewNames.{cases}
use Rattle.wcv_instantiate.proofs.NewResources.{With_path, Sent_resources, behind_resources, first_resources, resource_at}
use Rattle.wcv_instantiate.specs.Instantiations.{IsExporter, MayInstantiate, given_alone}
use Rattle.wcv_instantiate.specs.Opening.{Items, Paths, Replaced, entry_rank, names_of_resources, to_numbers}
use Rattle.wcv_instantiate.specs.declared.instances.Opened.{Opened}

-- ## Own resources

pub made_firsts : (h : Head Name Name) → firsts (made_paths h) ≡ made_at h
made_firsts (component i ins outs) = refl
made_firsts nothing = refl
made_firsts (primitive q) = refl
made_firsts (resource r s) = refl
made_firsts (defined i f) = refl
made_firsts (func i b) = refl
made_firsts (instance i own) = refl
made_firsts type_entity = refl
made_firsts (core_module i n) = refl
made_firsts (core_instance i n) = refl
made_firsts (core_type i) = refl
made_firsts (core_item x) = refl

pub path_names : (es : Paths) → firsts (map resource_path es) ≡ names_of_resources es
path_names [] = refl
path_names (e ∷ es) = ap (λ (ns : List Name). number e.0.index ∷ ns) (path_names es)

or_first : (a b : Bool) → a ≡ true → (a || b) ≡ true
or_first a b h = grind arith

or_second : (a b : Bool) → b ≡ true → (a || b) ≡ true
or_second a b h = grind arith

imported_owned : (h : Head Name Name) (r : Name) → member r (imported_at h) ≡ true → owns h r ≡ true
imported_owned (component i ins outs) r e = or_first (member r (firsts ins)) (member r (firsts outs)) e
imported_owned nothing r e = absurd (false≢true e)
imported_owned (primitive q) r e = absurd (false≢true e)
imported_owned (resource q s) r e = absurd (false≢true e)
imported_owned (defined i f) r e = absurd (false≢true e)
imported_owned (func i b) r e = absurd (false≢true e)
imported_owned (instance i own) r e = absurd (false≢true e)
imported_owned type_entity r e = absurd (false≢true e)
imported_owned (core_module i n) r e = absurd (false≢true e)
imported_owned (core_instance i n) r e = absurd (false≢true e)
imported_owned (core_type i) r e = absurd (false≢true e)
imported_owned (core_item x) r e = absurd (false≢true e)

made_owned : (h : Head Name Name) (r : Name) → member r (made_at h) ≡ true → owns h r ≡ true
made_owned (component i ins outs) r e = or_second (member r (firsts ins)) (member r (firsts outs)) e
made_owned nothing r e = absurd (false≢true e)
made_owned (primitive q) r e = absurd (false≢true e)
made_owned (resource q s) r e = absurd (false≢true e)
made_owned (defined i f) r e = absurd (false≢true e)
made_owned (func i b) r e = absurd (false≢true e)
made_owned (instance i own) r e = absurd (false≢true e)
made_owned type_entity r e = absurd (false≢true e)
made_owned (core_module i n) r e = absurd (false≢true e)
made_owned (core_instance i n) r e = absurd (false≢true e)
made_owned (core_type i) r e = absurd (false≢true e)
made_owned (core_item x) r e = absurd (false≢true e)

pub made_gave : (a : Arena) (h : Head Name Name) → HeadNames (GaveResource a) (GaveIdentity a) h → All (λ (x : Name × List ℕ). GaveResource a x.0) (made_paths h)
made_gave a (component i ins outs) w = w.2
made_gave a nothing w = All-nil _
made_gave a (primitive q) w = All-nil _
made_gave a (resource q s) w = All-nil _
made_gave a (defined i f) w = All-nil _
made_gave a (func i b) w = All-nil _
made_gave a (instance i own) w = All-nil _
made_gave a type_entity w = All-nil _
made_gave a (core_module i n) w = All-nil _
made_gave a (core_instance i n) w = All-nil _
made_gave a (core_type i) w = All-nil _
made_gave a (core_item x) w = All-nil _

pub head_names : (a : Arena) (t : Type_tree) → EachName (GaveResource a) (GaveIdentity a) t → HeadNames (GaveResource a) (GaveIdentity a) (head t)
head_names a (node h ps) w = w.0

pub each_given : (a : Arena) (es : Paths) → All (λ (x : Name × List ℕ). GaveResource a x.0) (map resource_path es) → (e : With_path) → Contains es e → e.0.index < a.resources
each_given a [] h e c = absurd (omega (arith, c.1))
each_given a (x ∷ xs) h e c =
    cases (e.0.index < a.resources) x xs e c (λ f. subst (λ (y : With_path). y.0.index < a.resources) f (All-head (λ (y : Name × List ℕ). GaveResource a y.0) (resource_path x) (map resource_path xs) h))
    (λ d. each_given a xs (All-tail (λ (y : Name × List ℕ). GaveResource a y.0) (resource_path x) (map resource_path xs) h) e d)

outside_apart : (t : Type_tree) → OwnsApart t → (r : Name) → owns (head t) r ≡ true → OwnsNotIn r (parts t)
outside_apart (node h ps) w r e = w r e

exports_unowned : (r : Name) (ps : Parts Name Name) → OwnsNotIn r ps → All (λ (e : Extern_name × Type_tree). OwnsNot r e.1) (exports_in ps)
exports_unowned r none w = All-nil _
exports_unowned r (part (export n) t ps) w = All-cons (λ (e : Extern_name × Type_tree). OwnsNot r e.1) (n, t) (exports_in ps) w.0 (exports_unowned r ps w.1)
exports_unowned r (part here t ps) w = exports_unowned r ps w.1
exports_unowned r (part (label l) t ps) w = exports_unowned r ps w.1
exports_unowned r (part (import n) t ps) w = exports_unowned r ps w.1
exports_unowned r (part (core_import m n) t ps) w = exports_unowned r ps w.1
exports_unowned r (part (core_export n) t ps) w = exports_unowned r ps w.1

-- what holds of each tree of entries
pub entry_holds : (P : Type_tree → Type 0) (ts : List Type_tree) (es : Items) (e : Item) → All (λ (x : Extern_name × Type_tree). P x.1) (entry_trees ts es) → Contains es e → P (entity_tree ts e.1.ty)
entry_holds P ts [] e h c = absurd (omega (arith, c.1))
entry_holds P ts (x ∷ xs) e h c =
    cases (P (entity_tree ts e.1.ty)) x xs e c (λ f. subst (λ (y : Item). P (entity_tree ts y.1.ty)) f (All-head (λ (y : Extern_name × Type_tree). P y.1) _ (entry_trees ts xs) h))
    (λ d. entry_holds P ts xs e (All-tail (λ (y : Extern_name × Type_tree). P y.1) _ (entry_trees ts xs) h) d)

pub opened_stand : (a b : Arena) (i : ComponentTypeId) (o : Opened) → IsExporter a i o → Extends a b → All (EntryStands b) o.exports
opened_stand a b i o w g = All-weaker (EntryStands a) (EntryStands b) (λ e h. slot_more a b (entity_slot e.1.ty) g h) o.exports w.stand

-- ## What is read

pub exporter_is : (a : Arena) (i : ComponentTypeId) (s : ComponentType) (o : Opened) → slice_get a.nodes i.index ≡ Some (n.Component s) → Unfolds a (p.Component i) → o.owned ≡ s.defined_resources → IsDistinct same_resource (keys_of o.owned) → o.exports ≡ s.exports → NamesDiffer s.exports →
    IsExporter a i o
exporter_is a i s o g u w d x apart =
    let ts : List Type_tree = trees a.nodes in
    let slots : slots_if (slice_get a.nodes i.index) ≡ entry_slots import s.imports ++ entry_slots export s.exports = ap slots_if g in
    let ins : List Part = parts_in (entry_slots import s.imports) in
    let here : tree_at a (p.Component i) ≡ node (head_of i.index (n.Component s)) (slot_parts ts (entry_slots import s.imports ++ entry_slots export s.exports)) =
    u.tree ∙ ap (λ (h : Head Name Name). node h (slot_parts ts (slots_if (slice_get a.nodes i.index)))) (head_in a.nodes i.index (n.Component s) g) ∙ ap (λ (ss : Slots). node (head_of i.index (n.Component s)) (slot_parts ts ss)) slots in
    let before : All (StandsBefore a (suc i.index)) (parts_in (entry_slots export s.exports)) =
    all_right (StandsBefore a (suc i.index)) ins (parts_in (entry_slots export s.exports))
    (subst (All (StandsBefore a (suc i.index))) (parts_in-append (entry_slots import s.imports) (entry_slots export s.exports)) (subst (λ (ss : Slots). All (StandsBefore a (suc i.index)) (parts_in ss)) slots u.before)) in
    record {
      made = ap (λ (t : Type_tree). made_paths (head t)) here ∙ ap (map resource_path) (sym w);
      exports = ap exports here ∙ component_exports ts s.imports s.exports ∙ ap (entry_trees ts) (sym x);
      stand = subst (λ (xs : Items). All (EntryStands a) xs) (sym x) (entries_stand a (suc i.index) s.exports before);
      apart = subst (λ (xs : Items). NamesDiffer xs) (sym x) apart;
      before = subst (λ (xs : Items). All (λ (e : Item). entry_rank e < suc i.index) xs) (sym x) (entries_before a i.index s.exports before);
      distinct = d;
    }

-- ## A replacement that gives no more than another

module _ (m n : Replacement) (less : (i : Identity) → n.nodes i ≡ None → m.nodes i ≡ None) where
  given_less : (h : Head Name Name) → given_at n h ≡ None → given_at m h ≡ None
  given_less h e = go (identity_at h) e
    where
      go : (o : Option Identity) → elim o as (λ (x : Option Identity). Option Type_tree) [ None ↦ None | Some i ↦ n.nodes i ] ≡ None → elim o as (λ (x : Option Identity). Option Type_tree) [ None ↦ None | Some i ↦ m.nodes i ] ≡ None
      go None f = refl
      go (Some i) f = less i f

  mutual
    apart_less : (r : Name) (t : Type_tree) → Apart n r t → Apart m r t
    apart_less r (node h ps) w = (λ f. given_less h (w.0 f), apart_less_in r ps w.1)

    apart_less_in : (r : Name) (ps : Parts Name Name) → ApartIn n r ps → ApartIn m r ps
    apart_less_in r none w = tt
    apart_less_in r (part k t ps) w = (apart_less r t w.0, apart_less_in r ps w.1)

  rests : (r : Name) (o : Option Name) → ((s : Name) → o ≡ Some s → ⊥) → moved r o ≡ false
  rests r None f = refl
  rests r (Some s) f = absurd (f s refl)

  mutual
    -- where what it moves is not owned inside
    pub hygienic_less : (t : Type_tree) → ((r s : Name) → m.resources r ≡ Some s → OwnsNot r t) → Hygienic n t → Hygienic m t
    hygienic_less (node h ps) f w =
        (λ r o. (rests r (m.resources r) (λ s e. false≢true (sym (f r s e).0 ∙ o)), apart_less_in r ps (w.0 r o).1), hygienic_less_in ps (λ r s e. (f r s e).1) w.1)

    hygienic_less_in : (ps : Parts Name Name) → ((r s : Name) → m.resources r ≡ Some s → OwnsNotIn r ps) → HygienicIn n ps → HygienicIn m ps
    hygienic_less_in none f w = tt
    hygienic_less_in (part k t ps) f w = (hygienic_less t (λ r s e. (f r s e).0) w.0, hygienic_less_in ps (λ r s e. (f r s e).1) w.1)

-- ## The map

-- one list of resources behind another
abbrev by_list : Sent_resources → Name → Option Name
by_list rs r = resources_by (record { resources = rs; types = [] }) r

pub first_sent : (xs ys : Sent_resources) (r s : Name) → by_list xs r ≡ Some s → by_list (xs ++ ys) r ≡ Some s
first_sent xs ys (number k) s e = go (lookup (same_resource (resource_at k)) xs) refl e
  where
    go : (o : Option ResourceId) → lookup (same_resource (resource_at k)) xs ≡ o → option_map (λ (q : ResourceId). number q.index) o ≡ Some s → by_list (xs ++ ys) (number k) ≡ Some s
    go None f g = absurd (cc)
    go (Some q) f g = ap (option_map (λ (q : ResourceId). number q.index)) (first_resources (same_resource (resource_at k)) xs ys q f) ∙ g
first_sent xs ys (stamp k) s e = absurd (cc)
first_sent xs ys (base q) s e = absurd (cc)
first_sent xs ys (at q x) s e = absurd (cc)
first_sent xs ys (stamped q) s e = absurd (cc)
first_sent xs ys (aside x) s e = absurd (cc)

pub then_sent : (xs ys : Sent_resources) (r : Name) → by_list xs r ≡ None → by_list (xs ++ ys) r ≡ by_list ys r
then_sent xs ys (number k) e = go (lookup (same_resource (resource_at k)) xs) refl e
  where
    go : (o : Option ResourceId) → lookup (same_resource (resource_at k)) xs ≡ o → option_map (λ (q : ResourceId). number q.index) o ≡ None → by_list (xs ++ ys) (number k) ≡ by_list ys (number k)
    go None f g = ap (option_map (λ (q : ResourceId). number q.index)) (behind_resources (same_resource (resource_at k)) xs ys f)
    go (Some q) f g = absurd (cc)
then_sent xs ys (stamp k) e = refl
then_sent xs ys (base q) e = refl
then_sent xs ys (at q x) e = refl
then_sent xs ys (stamped q) e = refl
then_sent xs ys (aside x) e = refl

pub of_list : (m : Map) (rs : Sent_resources) (r : Name) → m.resources ≡ rs → resources_by m r ≡ by_list rs r
of_list m rs (number k) e = ap (λ (xs : Sent_resources). by_list xs (number k)) e
of_list m rs (stamp k) e = refl
of_list m rs (base q) e = refl
of_list m rs (at q x) e = refl
of_list m rs (stamped q) e = refl
of_list m rs (aside x) e = refl

none_of : (o : Option ResourceId) → option_map (λ (q : ResourceId). number q.index) o ≡ None → o ≡ None
none_of None e = refl
none_of (Some q) e = absurd (cc)

module _ (a b : Arena) (i : ComponentTypeId) (args : List (Text × ComponentEntityType)) (o : Opened) (m0 m1 : Map) (ps : Paths) (w : IsExporter a i o) (may : MayInstantiate (named_args a args) (tree_at a (p.Component i))) (opens : IsOpening a args i m0) where
  abbrev comp : Type_tree
  comp = tree_at a (p.Component i)

  pub made_names : made_at (head comp) ≡ names_of_resources o.owned
  made_names = sym (made_firsts (head comp)) ∙ ap firsts w.made ∙ path_names o.owned

  pub is_made_one : (e : With_path) → Contains o.owned e → member (number e.0.index) (made_at (head comp)) ≡ true
  is_made_one e c = ap (member (number e.0.index)) made_names ∙ is_member o.owned e c

  -- what it defines goes nowhere yet
  pub all_absent : All (λ (e : With_path). resource_to m0 e.0 ≡ None) o.owned
  all_absent = All-weaker (Contains o.owned) (λ (e : With_path). resource_to m0 e.0 ≡ None) (λ e c. absent e c) o.owned (All-contains_itself o.owned)
    where
      absent : (e : With_path) → Contains o.owned e → resource_to m0 e.0 ≡ None
      absent e c =
          let n : Name = number e.0.index in
          none_of (resource_to m0 e.0)
          (opens.resources n ∙ ap (λ (y : Bool). cond {A = Option Name} y (Some (argument_for (named_args a args) comp n)) None) (may.apart n (is_made_one e c)))

  module _ (r : Replaced a b m0 m1 o.owned ps) (g : Extends a b) where
    pub grown_by : b.resources ≡ a.resources + length o.owned
    grown_by = ap (λ (c : Arena). c.resources) r.arena

    same_nodes : trees b.nodes ≡ trees a.nodes
    same_nodes = ap (λ (c : Arena). trees c.nodes) r.arena

    types_in : (q : Part) (s : Sent) → Contains m1.types (q, s) → Contains m0.types (q, s)
    types_in q s c = subst (λ (es : List (Part × Sent)). Contains es (q, s)) r.types c

    sends : (q : Part) (s : Sent) → Contains m1.types (q, s) → (s.given ≡ true) × Sends b q s.to
    sends q s c =
        let x = opens.given.each q s (types_in q s c) in
        (x.given, record { stands = stands_more a b q g x.stands; goes = stands_more a b s.to g x.goes; of_sort = opens.of_sort may.args_alike may.imports_alike q s (types_in q s c); inside = x.inside })

    goes_within : (x y : ResourceId) → Contains m1.resources (x, y) → y.index < b.resources
    goes_within x y c =
        ⊎_elim (λ (d : Contains m0.resources (x, y)). let z : y.index < a.resources = opens.within x y d in omega (arith, z, grown_by)) (λ (d : Contains (to_numbers a.resources o.owned) (x, y)). to_each b.resources a.resources o.owned x y (omega (arith, grown_by)) d)
        (Contains-append_cases m0.resources (to_numbers a.resources o.owned) (x, y) (subst (λ (rs : Sent_resources). Contains rs (x, y)) r.resources c))

    pub sound_opened : Sound b m1
    sound_opened = sound_given b m1 sends (subst (λ (es : List (Part × Sent)). IsDistinct same_part (keys_of es)) (sym r.types) opens.distinct) goes_within

    -- what the map sends elsewhere is imported or defined
    pub sent_own : (n s : Name) → resources_by m1 n ≡ Some s → owns (head comp) n ≡ true
    sent_own n s e = go (member n (imported_at (head comp))) refl
      where
        go : (y : Bool) → member n (imported_at (head comp)) ≡ y → owns (head comp) n ≡ true
        go true f = imported_owned (head comp) n f
        go false f =
            let nowhere : by_list m0.resources n ≡ None = sym (of_list m0 m0.resources n refl) ∙ opens.resources n ∙ ap (λ (y : Bool). cond {A = Option Name} y (Some (argument_for (named_args a args) comp n)) None) f in
            let there : by_list (to_numbers a.resources o.owned) n ≡ Some s = sym (then_sent m0.resources (to_numbers a.resources o.owned) n nowhere) ∙ sym (of_list m1 _ n r.resources) ∙ e in
            made_owned (head comp) n (ap (member n) made_names ∙ sent_owned a.resources o.owned (record { resources = to_numbers a.resources o.owned; types = [] }) n s refl there)

    nothing_more : (m : Replacement) → Serves b m1 m → (x : Identity) → (given_alone (given_for (named_args a args) (named_imports comp))).nodes x ≡ None → m.nodes x ≡ None
    nothing_more m s x e = s.others x (λ q t c k f. no (ap (λ (y : Identity). (given_alone (given_for (named_args a args) (named_imports comp))).nodes y) f ∙ e) (opens.given.each q t (types_in q t c)).tree)
      where
        no : {y : Option Type_tree} {u : Type_tree} → y ≡ None → y ≡ Some u → ⊥
        no d f = cc

    export_hygienic : (e : Item) → Contains o.exports e → EntityHygienic b m1 e.1.ty
    export_hygienic e c m s =
        let t : Type_tree = entity_tree (trees a.nodes) e.1.ty in
        let n : Replacement = given_alone (given_for (named_args a args) (named_imports comp)) in
        let clean : Hygienic n t = entry_holds (Hygienic n) (trees a.nodes) o.exports e (subst (All (λ (x : Extern_name × Type_tree). Hygienic n x.1)) w.exports may.given) c in
        let spared : (x y : Name) → m.resources x ≡ Some y → OwnsNot x t = λ x y f.
        entry_holds (OwnsNot x) (trees a.nodes) o.exports e
        (subst (All (λ (z : Extern_name × Type_tree). OwnsNot x z.1)) w.exports (exports_unowned x (parts comp) (outside_apart comp may.owned x (sent_own x y (sym (s.resources x) ∙ f))))) c in
        subst (λ (ts : List Type_tree). Hygienic m (entity_tree ts e.1.ty)) (sym same_nodes) (hygienic_less m n (nothing_more m s) t spared clean)

    pub opened_hygienic : All (λ (e : Item). EntityHygienic b m1 e.1.ty) o.exports
    opened_hygienic = All-weaker (Contains o.exports) (λ (e : Item). EntityHygienic b m1 e.1.ty) (λ e c. export_hygienic e c) o.exports (All-contains_itself o.exports)
