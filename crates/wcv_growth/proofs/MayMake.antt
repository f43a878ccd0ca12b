-- An instance may be made of a component that stands in a tidy context: no type that an argument gives is mentioned where a type in the
-- exports owns what is free in it.
use Rattle.std.proofs.Common.{◌≡◌, ℕ, List, [], ◌++◌, Bool, true, false, refl, sym, ◌∙◌, ap, subst, Some, None, ◌⊎◌, inl, inr, bytes_eq, get_or}
use Rattle.std.specs.Prelude.{Option, All, option_to_list}
use Rattle.std.specs.Map.{lookup}
use Rattle.std.specs.Option.{option_map, option_map_or}
use Rattle.std.proofs.lemmas.Bool.{false≢true}
use Rattle.std.proofs.lemmas.List.Elements.{All-nil, All-cons, All-append, All-head, All-tail, All-weaker}
use Rattle.wcv_core.specs.Names.{Name, Place, member}
use Rattle.wcv_syntax.specs.declared.instance.ComponentInstantiationArg.{ComponentInstantiationArg}
use Rattle.wcv_types.specs.Identity.{Identity, of_node, of_reference, identity_at, same_identity}
use Rattle.wcv_types.specs.Replacing.{Replacement, moved, SparesOwn, SparesOwnIn}
use Rattle.wcv_types.specs.Resources.{owns, Free, FreeIn}
use Rattle.wcv_types.specs.Tree as tree
use Rattle.wcv_types.specs.Tree.{Text, Extern_name, Head, here, label, import, export, core_import, core_export, nothing, primitive, resource, defined, func, instance, component, type_entity, core_module, core_instance, core_type, core_item, node, Parts, none, part, head, first_part, rest_parts, sort, resource_type, imported_at, exports_in, exports}
use Rattle.wcv_types.specs.Unfold.{Type_tree}
use Rattle.wcv_types.proofs.Lists.{some-inj}
use Rattle.wcv_matching.specs.GivenTypes.{given_by, given_in, given_for}
use Rattle.wcv_matching.specs.Matching.{named, named_imports, named_imports_in}
use Rattle.wcv_matching.specs.Orderly.{EachNode, EachNodeIn, EntitiesAlike}
use Rattle.wcv_matching.specs.SameTypes.{made_at}
use Rattle.wcv_remap.specs.Hygiene.{Apart, ApartIn, Hygienic, HygienicIn}
use Rattle.wcv_lower.specs.Instances.{component_at, arguments}
use Rattle.wcv_lower.specs.Instantiated.{opening}
use Rattle.wcv_lower.specs.Names.{names_by_place}
use Rattle.wcv_lower.specs.Owned.{OwnsNot, OwnsNotIn, OwnsApart, OwnApart, AllEntries, IsOwn}
use Rattle.wcv_lower.specs.Trees.{Tree_context, Tree_stack}
use Rattle.wcv_lower.proofs.Bringing.{of_some}
use Rattle.wcv_lower.proofs.EvenTypes.{each_weaker}
use Rattle.wcv_lower.proofs.InstancesBring.{opening_spares}
use Rattle.wcv_lower.proofs.Instantiating.{arguments_have, component_has}
use Rattle.wcv_lower.proofs.Members.{member_left, member_right}
use Rattle.wcv_growth.proofs.Alike.{IsAlike}
use Rattle.wcv_growth.proofs.Bare.{EntriesOwnNothing, IsBare, imports-each}
use Rattle.wcv_growth.proofs.BareGiven.{looked-up}
use Rattle.wcv_growth.proofs.Having.{names_in, has-member}
use Rattle.wcv_growth.proofs.Known.{first-free, Within, entries-weaker, In}
use Rattle.wcv_growth.proofs.Tidy.{Known, HeadApart, IsPlain, IsTidy, TidyType, TidyEntry, entry-bare}

-- ## What is known by an identity

-- what stands for the identity, if something does: of a reference, the reference
abbrev standing : Known → Identity → Option Type_tree
standing g (of_node i) = g i
standing g (of_reference r s) = Some (resource_type r s)

-- a node stands for its identity
abbrev IsStanding : (Identity → Option Type_tree) → Head Name Name → Parts Name Name → Type 0
IsStanding f h ps = (i : Identity) → identity_at h ≡ Some i → f i ≡ Some (node h ps)

reference-stands : (h : Head Name Name) (ps : Parts Name Name) (r s : Name) → IsPlain h ps → identity_at h ≡ Some (of_reference r s) → Some (resource_type r s) ≡ Some (node h ps)
reference-stands (resource q x) ps r s a e = cc
reference-stands _ ps r s a e = cc

node-stands : (g : Known) (h : Head Name Name) (ps : Parts Name Name) → IsTidy g h ps → IsStanding (standing g) h ps
node-stands g h ps w (of_node i) e = w.one i e
node-stands g h ps w (of_reference r s) e = reference-stands h ps r s w.plain e

each-stands : (g : Known) (t : Type_tree) → TidyType g t → EachNode (IsStanding (standing g)) t
each-stands g t w = each_weaker (IsTidy g) (IsStanding (standing g)) (node-stands g) t w

-- ## What is given

module _ (f : Identity → Option Type_tree) where
  abbrev Stand : Parts Name Name → Type 0
  Stand ps = EachNodeIn (IsStanding f) ps

  -- it is given in the place of a type in which all that is free has the property
  abbrev StandsFor : (Name → Type 0) → Identity × Type_tree → Type 0
  StandsFor P x = (z : Type_tree) × (f x.0 ≡ Some z) × ((r : Name) → Free r z → P r)

  stand-weaker : (P Q : Name → Type 0) → ((r : Name) → P r → Q r) → (xs : List (Identity × Type_tree)) → All (StandsFor P) xs → All (StandsFor Q) xs
  stand-weaker P Q q xs a = All-weaker (StandsFor P) (StandsFor Q) (λ x c. (c.0, c.1, λ r y. q r (c.2 r y))) xs a

  one-stands : (P : Name → Type 0) (o : Option Identity) (u z : Type_tree) → ((i : Identity) → o ≡ Some i → f i ≡ Some z) → ((r : Name) → Free r z → P r) → All (StandsFor P) (option_to_list (option_map (λ i. (i, u)) o))
  one-stands P None u z k p = All-nil (StandsFor P)
  one-stands P (Some i) u z k p = All-cons (StandsFor P) (i, u) [] (z, k i refl, p) (All-nil (StandsFor P))

  first-stands : (ps : Parts Name Name) → Stand ps → (i : Identity) → identity_at (head (first_part ps)) ≡ Some i → f i ≡ Some (first_part ps)
  first-stands none w i e = cc
  first-stands (part k (node h qs) ps) w i e = w.0.0 i e

  found-stands : (P : Name → Type 0) (t : Type_tree) (o : Option Type_tree) → ((a : Type_tree) → All (StandsFor P) (given_by a t)) → All (StandsFor P) (option_map_or (λ a. given_by a t) o [])
  found-stands P t None k = All-nil (StandsFor P)
  found-stands P t (Some a) k = k a

  -- of the first of some entries, and those behind
  both-stand : (t : Type_tree) (ps : Parts Name Name) (o : Option Type_tree) (xs : List (Identity × Type_tree)) → ((a : Type_tree) → All (StandsFor (λ r. Free r t)) (given_by a t)) → All (StandsFor (λ r. FreeIn r ps)) xs →
      All (StandsFor (λ r. Free r t ⊎ FreeIn r ps)) (option_map_or (λ a. given_by a t) o [] ++ xs)
  both-stand t ps o xs h k =
      All-append (StandsFor (λ r. Free r t ⊎ FreeIn r ps)) (option_map_or (λ a. given_by a t) o []) xs
      (stand-weaker (λ r. Free r t) (λ r. Free r t ⊎ FreeIn r ps) (λ r x. inl x) (option_map_or (λ a. given_by a t) o []) (found-stands (λ r. Free r t) t o h))
      (stand-weaker (λ r. FreeIn r ps) (λ r. Free r t ⊎ FreeIn r ps) (λ r x. inr x) xs k)

  behind : (t : Type_tree) (ps : Parts Name Name) (xs : List (Identity × Type_tree)) → All (StandsFor (λ r. FreeIn r ps)) xs → All (StandsFor (λ r. Free r t ⊎ FreeIn r ps)) xs
  behind t ps xs k = stand-weaker (λ r. FreeIn r ps) (λ r. Free r t ⊎ FreeIn r ps) (λ r x. inr x) xs k

  mutual
    given_by-stands : (a t : Type_tree) → IsBare t → EachNode (IsStanding f) t → All (StandsFor (λ r. Free r t)) (given_by a t)
    given_by-stands a (node type_entity ps) b w = one-stands (λ r. Free r (node type_entity ps)) (identity_at (head (first_part ps))) (tree.created a) (first_part ps) (first-stands ps w.1) (λ r x. inr (refl, first-free r ps x))
    given_by-stands a (node (instance i own) ps) b w =
        stand-weaker (λ r. FreeIn r ps) (λ r. Free r (node (instance i own) ps)) (λ r x. inr (ap (λ (rs : List Name). member r rs) b.0, x)) (given_in (named (exports a)) ps) (given_in-stands (named (exports a)) ps b.1.0 b.1.1 w.1)
    given_by-stands a (node nothing ps) b w = All-nil (StandsFor (λ r. Free r (node nothing ps)))
    given_by-stands a (node (primitive p) ps) b w = All-nil (StandsFor (λ r. Free r (node (primitive p) ps)))
    given_by-stands a (node (resource q s) ps) b w = All-nil (StandsFor (λ r. Free r (node (resource q s) ps)))
    given_by-stands a (node (defined i k) ps) b w = All-nil (StandsFor (λ r. Free r (node (defined i k) ps)))
    given_by-stands a (node (func i k) ps) b w = All-nil (StandsFor (λ r. Free r (node (func i k) ps)))
    given_by-stands a (node (component i ins outs) ps) b w = All-nil (StandsFor (λ r. Free r (node (component i ins outs) ps)))
    given_by-stands a (node (core_module i n) ps) b w = All-nil (StandsFor (λ r. Free r (node (core_module i n) ps)))
    given_by-stands a (node (core_instance i n) ps) b w = All-nil (StandsFor (λ r. Free r (node (core_instance i n) ps)))
    given_by-stands a (node (core_type i) ps) b w = All-nil (StandsFor (λ r. Free r (node (core_type i) ps)))
    given_by-stands a (node (core_item x) ps) b w = All-nil (StandsFor (λ r. Free r (node (core_item x) ps)))

    given_in-stands : (es : List (Text × Type_tree)) (ps : Parts Name Name) → EntriesOwnNothing ps → EachNodeIn (λ h qs. EntriesOwnNothing qs) ps → Stand ps → All (StandsFor (λ r. FreeIn r ps)) (given_in es ps)
    given_in-stands es none b c w = All-nil (StandsFor (λ r. FreeIn {I = Name} r none))
    given_in-stands es (part (export n) t ps) b c w = both-stand t ps (lookup (bytes_eq n.name) es) (given_in es ps) (λ a. given_by-stands a t (b.0, c.0) w.0) (given_in-stands es ps b.1 c.1 w.1)
    given_in-stands es (part (import n) t ps) b c w = behind t ps (given_in es ps) (given_in-stands es ps b.1 c.1 w.1)
    given_in-stands es (part here t ps) b c w = behind t ps (given_in es ps) (given_in-stands es ps b c.1 w.1)
    given_in-stands es (part (label l) t ps) b c w = behind t ps (given_in es ps) (given_in-stands es ps b c.1 w.1)
    given_in-stands es (part (core_import m n) t ps) b c w = behind t ps (given_in es ps) (given_in-stands es ps b c.1 w.1)
    given_in-stands es (part (core_export n) t ps) b c w = behind t ps (given_in es ps) (given_in-stands es ps b c.1 w.1)

  -- of the imports among the parts
  given_for-stands : (args : List (Text × Type_tree)) (ps : Parts Name Name) → EntriesOwnNothing ps → EachNodeIn (λ h qs. EntriesOwnNothing qs) ps → Stand ps → All (StandsFor (λ r. FreeIn r ps)) (given_for args (named_imports_in ps))
  given_for-stands args none b c w = All-nil (StandsFor (λ r. FreeIn {I = Name} r none))
  given_for-stands args (part (import n) t ps) b c w = both-stand t ps (lookup (bytes_eq n.name) args) (given_for args (named_imports_in ps)) (λ a. given_by-stands a t (b.0, c.0) w.0) (given_for-stands args ps b.1 c.1 w.1)
  given_for-stands args (part (export n) t ps) b c w = behind t ps (given_for args (named_imports_in ps)) (given_for-stands args ps b.1 c.1 w.1)
  given_for-stands args (part here t ps) b c w = behind t ps (given_for args (named_imports_in ps)) (given_for-stands args ps b c.1 w.1)
  given_for-stands args (part (label l) t ps) b c w = behind t ps (given_for args (named_imports_in ps)) (given_for-stands args ps b c.1 w.1)
  given_for-stands args (part (core_import m n) t ps) b c w = behind t ps (given_for args (named_imports_in ps)) (given_for-stands args ps b c.1 w.1)
  given_for-stands args (part (core_export n) t ps) b c w = behind t ps (given_for args (named_imports_in ps)) (given_for-stands args ps b c.1 w.1)

-- ## Where it is given

-- the types of the list come in the places of others, and no resource in that of another
abbrev pub given_alone : List (Identity × Type_tree) → Replacement
given_alone gs = record { resources = λ r. None; nodes = λ i. lookup (same_identity i) gs; again = λ i. i }

-- so nothing that is owned becomes another
mutual
  nothing-moves : (gs : List (Identity × Type_tree)) (t : Type_tree) → SparesOwn (given_alone gs) t
  nothing-moves gs (node h ps) = (λ r o. refl, nothing-moves_in gs ps)

  nothing-moves_in : (gs : List (Identity × Type_tree)) (ps : Parts Name Name) → SparesOwnIn (given_alone gs) ps
  nothing-moves_in gs none = tt
  nothing-moves_in gs (part k t ps) = (nothing-moves gs t, nothing-moves_in gs ps)

module _ (f : Identity → Option Type_tree) (P : Name → Type 0) (gs : List (Identity × Type_tree)) (given : All (StandsFor f P) gs) (m : Replacement) (same : (i : Identity) → m.nodes i ≡ lookup (same_identity i) gs) where
  -- no node is given in the place of one in which a resource is free that has not the property
  none_given : (r : Name) → (P r → ⊥) → (t : Type_tree) (o : Option Identity) → ((i : Identity) → o ≡ Some i → f i ≡ Some t) → Free r t → elim o as (λ o. Option Type_tree) [ None ↦ None | Some i ↦ m.nodes i ] ≡ None
  none_given r n t None k x = refl
  none_given r n t (Some i) k x = same i ∙ go (lookup (same_identity i) gs) refl
    where
      go : (o : Option Type_tree) → lookup (same_identity i) gs ≡ o → lookup (same_identity i) gs ≡ None
      go None e = e
      go (Some u) e =
          let c : StandsFor f P (i, u) = looked-up (StandsFor f P) i gs u given e in
          absurd (n (c.2 r (subst (Free r) (some-inj (sym (k i refl) ∙ c.1)) x)))

  mutual
    apart : (r : Name) → (P r → ⊥) → (t : Type_tree) → EachNode (IsStanding f) t → Apart m r t
    apart r n (node h ps) w = (λ x. none_given r n (node h ps) (identity_at h) w.0 x, apart_in r n ps w.1)

    apart_in : (r : Name) → (P r → ⊥) → (ps : Parts Name Name) → EachNodeIn (IsStanding f) ps → ApartIn m r ps
    apart_in r n none w = tt
    apart_in r n (part k t ps) w = (apart r n t w.0, apart_in r n ps w.1)

  mutual
    hygienic : (t : Type_tree) → SparesOwn m t → EachNode (IsStanding f) t → ((r : Name) → P r → OwnsNot r t) → Hygienic m t
    hygienic (node h ps) s w n = (λ r o. (ap (moved r) (s.0 r o), apart_in r (λ x. false≢true (sym (n r x).0 ∙ o)) ps w.1), hygienic_in ps s.1 w.1 (λ r x. (n r x).1))

    hygienic_in : (ps : Parts Name Name) → SparesOwnIn m ps → EachNodeIn (IsStanding f) ps → ((r : Name) → P r → OwnsNotIn r ps) → HygienicIn m ps
    hygienic_in none s w n = tt
    hygienic_in (part k t ps) s w n = (hygienic t s.0 w.0 (λ r x. (n r x).0), hygienic_in ps s.1 w.1 (λ r x. (n r x).1))

  exports-hygienic : (ps : Parts Name Name) → All (λ e. SparesOwn m e.1) (exports_in ps) → EachNodeIn (IsStanding f) ps → ((r : Name) → P r → OwnsNotIn r ps) → All (λ e. Hygienic m e.1) (exports_in ps)
  exports-hygienic none s w n = All-nil (λ (e : Extern_name × Type_tree). Hygienic m e.1)
  exports-hygienic (part (export x) t ps) s w n =
      All-cons (λ (e : Extern_name × Type_tree). Hygienic m e.1) (x, t) (exports_in ps) (hygienic t (All-head (λ (e : Extern_name × Type_tree). SparesOwn m e.1) (x, t) (exports_in ps) s) w.0 (λ r y. (n r y).0))
      (exports-hygienic ps (All-tail (λ (e : Extern_name × Type_tree). SparesOwn m e.1) (x, t) (exports_in ps) s) w.1 (λ r y. (n r y).1))
  exports-hygienic (part (import x) t ps) s w n = exports-hygienic ps s w.1 (λ r y. (n r y).1)
  exports-hygienic (part here t ps) s w n = exports-hygienic ps s w.1 (λ r y. (n r y).1)
  exports-hygienic (part (label l) t ps) s w n = exports-hygienic ps s w.1 (λ r y. (n r y).1)
  exports-hygienic (part (core_import o x) t ps) s w n = exports-hygienic ps s w.1 (λ r y. (n r y).1)
  exports-hygienic (part (core_export x) t ps) s w n = exports-hygienic ps s w.1 (λ r y. (n r y).1)

-- what is free among the parts of a type, no part owns: the type owns it, or it is free in the type
spared : (h : Head Name Name) (ps : Parts Name Name) → OwnsApart (node h ps) → ((r : Name) → Free r (node h ps) → OwnsNot r (node h ps)) → (r : Name) → FreeIn r ps → OwnsNotIn r ps
spared h ps o n r x = go (owns h r) refl
  where
    go : (b : Bool) → owns h r ≡ b → OwnsNotIn r ps
    go true e = o r e
    go false e = (n r (inr (e, x))).1

-- ## Types

module _ (g : Known) where
  -- where nodes are given that arguments give, and no resource is replaced that is owned inside
  exports-opened : (m : Replacement) (t : Type_tree) (args : List (Text × Type_tree)) → ((i : Identity) → m.nodes i ≡ lookup (same_identity i) (given_for args (named_imports t))) → TidyEntry g t → OwnsApart t → ((r : Name) → Free r t → OwnsNot r t) →
      All (λ (e : Extern_name × Type_tree). SparesOwn m e.1) (exports t) → All (λ (e : Extern_name × Type_tree). Hygienic m e.1) (exports t)
  exports-opened m (node h ps) args same w o n s =
      let st : EachNode (IsStanding (standing g)) (node h ps) = each-stands g (node h ps) w.1 in
      let b : IsBare (node h ps) = entry-bare g (node h ps) w in
      exports-hygienic (standing g) (λ r. FreeIn r ps) (given_for args (named_imports_in ps)) (given_for-stands (standing g) args ps b.1.0 b.1.1 st.1) m same ps s st.1 (spared h ps o n)

  given-hygienic : (t : Type_tree) (args : List (Text × Type_tree)) → TidyEntry g t → OwnsApart t → ((r : Name) → Free r t → OwnsNot r t) →
      All (λ (e : Extern_name × Type_tree). Hygienic (given_alone (given_for args (named_imports t))) e.1) (exports t)
  given-hygienic t args w o n =
      let gs : List (Identity × Type_tree) = given_for args (named_imports t) in
      exports-opened (given_alone gs) t args (λ i. refl) w o n (λ k d l. nothing-moves gs (get_or (exports t) k d).1)

  -- so where an instance is made at a place
  pub opening-hygienic : (p : Place) (t : Type_tree) (args : List (Text × Type_tree)) → TidyEntry g t → OwnsApart t → ((r : Name) → Free r t → OwnsNot r t) →
      All (λ (e : Extern_name × Type_tree). Hygienic (opening names_by_place p args t) e.1) (exports t)
  opening-hygienic p t args w o n = exports-opened (opening names_by_place p args t) t args (λ i. refl) w o n (opening_spares names_by_place p args t o)

  -- both types of an entity are of one sort
  abbrev OfOneSort : Head Name Name → Parts Name Name → Type 0
  OfOneSort h ps = h ≡ type_entity → sort (first_part ps) ≡ sort (first_part (rest_parts ps))

  of_one_sort : (h : Head Name Name) (ps : Parts Name Name) → IsAlike h ps → OfOneSort h ps
  of_one_sort type_entity ps a e = a.0
  of_one_sort _ ps a e = cc

  entities-alike : (t : Type_tree) → TidyEntry g t → EntitiesAlike t
  entities-alike t w = each_weaker (IsTidy g) OfOneSort (λ h ps x. of_one_sort h ps x.alike) t w.1

  apart_at : (h : Head Name Name) → HeadApart h → (r : Name) → member r (made_at h) ≡ true → member r (imported_at h) ≡ false
  apart_at (component i ins outs) a = a
  apart_at _ a = λ r e. refl

  resources-apart : (t : Type_tree) → TidyEntry g t → (r : Name) → member r (made_at (head t)) ≡ true → member r (imported_at (head t)) ≡ false
  resources-apart (node h ps) w = apart_at h w.1.0.apart

-- ## In a context

-- an instance may be made of the component by those arguments
pub record MayMake (args : List (Text × Type_tree)) (t : Type_tree) : Type 0 where
  pub owned : OwnsApart t
  pub given : All (λ e. Hygienic (given_alone (given_for args (named_imports t))) e.1) (exports t)
  pub apart : (r : Name) → member r (made_at (head t)) ≡ true → member r (imported_at (head t)) ≡ false
  pub args_alike : All (λ e. EntitiesAlike e.1) args
  pub imports_alike : All (λ e. EntitiesAlike e.1) (named_imports t)

own_apart : (t : Type_tree) → OwnApart t → OwnsApart t
own_apart (node h ps) o = o.0

pub is_own : (c : Tree_context) (r : Name) → In c r → IsOwn c r
is_own c r (inl h) = member_left r (names_in c.imported) (names_in c.defined) (has-member c.imported r h)
is_own c r (inr h) = member_right r (names_in c.imported) (names_in c.defined) (has-member c.defined r h)

-- what is free in the entries of the context is listed there, and they own apart, and own nothing that is listed
pub record Owns (c : Tree_context) : Type 0 where
  pub listed : AllEntries (Within (In c)) c
  pub apart : AllEntries OwnApart c
  pub spared : (r : Name) → In c r → AllEntries (OwnsNot r) c

module _ (s : Tree_stack) (g : Known) (owns : Owns s.top) (tidy : AllEntries (TidyEntry g) s.top) (k : ℕ) (t : Type_tree) (e : component_at s.top k ≡ Some t) where
  has : (P : Type_tree → Type 0) → AllEntries P s.top → P t
  has P all = of_some P (component_at s.top k) t (component_has P s.top all k) e

  owns_not : (r : Name) → Free r t → OwnsNot r t
  owns_not r x = has (OwnsNot r) (owns.spared r (has (Within (In s.top)) owns.listed r x))

  pub may_make : (args : List ComponentInstantiationArg) → MayMake (arguments s.top args) t
  may_make args =
      let w : TidyEntry g t = has (TidyEntry g) tidy in
      let o : OwnsApart t = own_apart t (has OwnApart owns.apart) in
      record {
        owned = o;
        given = given-hygienic g t (arguments s.top args) w o owns_not;
        apart = resources-apart g t w;
        args_alike = arguments_have EntitiesAlike s.top (entries-weaker (TidyEntry g) EntitiesAlike s.top (entities-alike g) tidy) args;
        imports_alike = imports-each (OfOneSort g) t (entities-alike g t w);
      }
