-- What a type owns, inside and out, and what it becomes when it is made again: a property of trees that goes down to parts.
use Rattle.std.proofs.Common.{◌≡◌, suc, List, [], ◌∷◌, refl, sym, ◌∙◌, subst, Bool, true, false, ◌||◌, Some, None}
use Rattle.std.specs.Prelude.{Option, All}
use Rattle.std.proofs.lemmas.Bool.{false≢true}
use Rattle.std.proofs.lemmas.List.Elements.{All-head, All-tail}
use Rattle.wcv_core.specs.Names.{Name, Place, same, member}
use Rattle.wcv_core.proofs.Names.{same-refl}
use Rattle.wcv_core.specs.declared.core_types.EntityType.{EntityType}
use Rattle.wcv_syntax.specs.ModuleTypes.{Module_type}
use Rattle.wcv_types.specs.Identity.{Identity, identity_at}
use Rattle.wcv_types.specs.Measure.{size}
use Rattle.wcv_types.specs.Replacing.{Replacement, given_at, given_or, moves, changed_in, new_head, replaced, replaced_in}
use Rattle.wcv_types.specs.Resources.{owns}
use Rattle.wcv_types.specs.Tree as tree
use Rattle.wcv_types.specs.Tree.{Text, Extern_name, Role, Head, nothing, primitive, resource, defined, func, instance, component, type_entity, core_module, core_instance, core_type, core_item, here, export, import, node, Parts, none, part, first_part, rest_parts, parts, type_of, owned_at, entries, core_imports, core_exports}
use Rattle.wcv_types.specs.Unfold.{Type_tree, capped}
use Rattle.wcv_matching.specs.Orderly.{height}
use Rattle.wcv_lower.specs.Even.{IsLevel}
use Rattle.wcv_lower.specs.Names.{Names, introduced, stamp_at}
use Rattle.wcv_lower.specs.NewTypes.{type_entry, renewed_head, renewed, new_reference, owned_anew, instance_tree}
use Rattle.wcv_lower.specs.Owned.{OwnsNot, OwnsNotIn, OwnsApart, OwnApart, OwnApartIn, EachGiven, EachGivenIn, GivesApart, GivesApartIn, IsOnce, OwnsOnce, OwnsOnceIn}
use Rattle.wcv_lower.specs.Readers.{New_node, func_node, defined_node, module_node, core_instance_node, core_exports_node, instance_node, component_node}
use Rattle.wcv_lower.proofs.Given.{or_left}
use Rattle.wcv_lower.specs.Trees.{created, referenced, tree_parts, module_tree, node_tree, tree_reader}

-- A property of trees that their parts have, and trees whose nodes own the same, or nothing and are level.
pub record Inherited (P : Type_tree → Type 0) (In : Parts Name Name → Type 0) : Type 0 where
  pub none_in : In none
  pub part_in : (k : Role) (t : Type_tree) (ps : Parts Name Name) → P t → In ps → In (part k t ps)
  pub first : (k : Role) (t : Type_tree) (ps : Parts Name Name) → In (part k t ps) → P t
  pub rest : (k : Role) (t : Type_tree) (ps : Parts Name Name) → In (part k t ps) → In ps
  pub inner : (h : Head Name Name) (ps : Parts Name Name) → P (node h ps) → In ps
  pub bare : (h : Head Name Name) (ps : Parts Name Name) → ((r : Name) → owns h r ≡ false) → IsLevel h ps → In ps → P (node h ps)
  pub alike : (h g : Head Name Name) (ps : Parts Name Name) → ((r : Name) → owns g r ≡ owns h r) → owned_at g ≡ owned_at h → (IsLevel h ps → IsLevel g ps) → P (node h ps) → P (node g ps)
  pub again : (m : Replacement) → ((i : Identity) → m.nodes i ≡ None) → (t : Type_tree) → P t → P (replaced m t)

-- ## Where resources are replaced

pub head_owns : (m : Replacement) (b : Bool) (h : Head Name Name) (r : Name) → owns (new_head m b h) r ≡ owns h r
head_owns m b (resource q s) r = refl
head_owns m b nothing r = refl
head_owns m b (primitive p) r = refl
head_owns m b type_entity r = refl
head_owns m true (defined i k) r = refl
head_owns m true (func i k) r = refl
head_owns m true (instance i own) r = refl
head_owns m true (component i ins outs) r = refl
head_owns m true (core_module i k) r = refl
head_owns m true (core_instance i k) r = refl
head_owns m true (core_type i) r = refl
head_owns m true (core_item x) r = refl
head_owns m false (defined i k) r = refl
head_owns m false (func i k) r = refl
head_owns m false (instance i own) r = refl
head_owns m false (component i ins outs) r = refl
head_owns m false (core_module i k) r = refl
head_owns m false (core_instance i k) r = refl
head_owns m false (core_type i) r = refl
head_owns m false (core_item x) r = refl

head_owned : (m : Replacement) (b : Bool) (h : Head Name Name) → owned_at (new_head m b h) ≡ owned_at h
head_owned m b (resource q s) = refl
head_owned m b nothing = refl
head_owned m b (primitive p) = refl
head_owned m b type_entity = refl
head_owned m true (defined i k) = refl
head_owned m true (func i k) = refl
head_owned m true (instance i own) = refl
head_owned m true (component i ins outs) = refl
head_owned m true (core_module i k) = refl
head_owned m true (core_instance i k) = refl
head_owned m true (core_type i) = refl
head_owned m true (core_item x) = refl
head_owned m false (defined i k) = refl
head_owned m false (func i k) = refl
head_owned m false (instance i own) = refl
head_owned m false (component i ins outs) = refl
head_owned m false (core_module i k) = refl
head_owned m false (core_instance i k) = refl
head_owned m false (core_type i) = refl
head_owned m false (core_item x) = refl

module _ (m : Replacement) where
  -- the tree where no node is given in its place
  abbrev pub rebuilt : Head Name Name → Parts Name Name → Type_tree
  rebuilt h ps = node (new_head m (moves m h || changed_in m ps) h) (replaced_in m ps)

  rebuilt_owns : (h : Head Name Name) (ps : Parts Name Name) (r : Name) → owns (new_head m (moves m h || changed_in m ps) h) r ≡ owns h r
  rebuilt_owns h ps r = head_owns m (moves m h || changed_in m ps) h r

  pub given_has : (P : Type_tree → Type 0) (h : Head Name Name) (x : Type_tree) → ((u : Type_tree) → given_at m h ≡ Some u → P u) → P x → P (given_or (given_at m h) x)
  given_has P h x g w = go (given_at m h) refl
    where
      go : (o : Option Type_tree) → given_at m h ≡ o → P (given_or o x)
      go None e = w
      go (Some u) e = g u e

  mutual
    owns_not-replaced : (r : Name) (t : Type_tree) → EachGiven m (OwnsNot r) t → OwnsNot r t → OwnsNot r (replaced m t)
    owns_not-replaced r (node h ps) g w = given_has (OwnsNot r) h (rebuilt h ps) g.0 (rebuilt_owns h ps r ∙ w.0, owns_not_in-replaced r ps g.1 w.1)

    owns_not_in-replaced : (r : Name) (ps : Parts Name Name) → EachGivenIn m (OwnsNot r) ps → OwnsNotIn r ps → OwnsNotIn r (replaced_in m ps)
    owns_not_in-replaced r none g w = tt
    owns_not_in-replaced r (part k t ps) g w = (owns_not-replaced r t g.0 w.0, owns_not_in-replaced r ps g.1 w.1)

  mutual
    pub own_apart-replaced : (t : Type_tree) → GivesApart m t → EachGiven m OwnApart t → OwnApart t → OwnApart (replaced m t)
    own_apart-replaced (node h ps) a g w =
        given_has OwnApart h (rebuilt h ps) g.0 ((λ r e. let o : owns h r ≡ true = sym (rebuilt_owns h ps r) ∙ e in owns_not_in-replaced r ps (a.0 r o) (w.0 r o)), own_apart_in-replaced ps a.1 g.1 w.1)

    own_apart_in-replaced : (ps : Parts Name Name) → GivesApartIn m ps → EachGivenIn m OwnApart ps → OwnApartIn ps → OwnApartIn (replaced_in m ps)
    own_apart_in-replaced none a g w = tt
    own_apart_in-replaced (part k t ps) a g w = (own_apart-replaced t a.0 g.0 w.0, own_apart_in-replaced ps a.1 g.1 w.1)

  mutual
    owns_once-replaced : (t : Type_tree) → EachGiven m OwnsOnce t → OwnsOnce t → OwnsOnce (replaced m t)
    owns_once-replaced (node h ps) g w = given_has OwnsOnce h (rebuilt h ps) g.0 (subst IsOnce (sym (head_owned m (moves m h || changed_in m ps) h)) w.0, owns_once_in-replaced ps g.1 w.1)

    owns_once_in-replaced : (ps : Parts Name Name) → EachGivenIn m OwnsOnce ps → OwnsOnceIn ps → OwnsOnceIn (replaced_in m ps)
    owns_once_in-replaced none g w = tt
    owns_once_in-replaced (part k t ps) g w = (owns_once-replaced t g.0 w.0, owns_once_in-replaced ps g.1 w.1)

  -- ## What is given

  module _ (P : Type_tree → Type 0) (gives : (i : Identity) (u : Type_tree) → m.nodes i ≡ Some u → P u) where
    given_at_has : (h : Head Name Name) (u : Type_tree) → given_at m h ≡ Some u → P u
    given_at_has h u = go (identity_at h)
      where
        go : (o : Option Identity) → elim o as (λ o. Option Type_tree) [ None ↦ None | Some i ↦ m.nodes i ] ≡ Some u → P u
        go None e = cc
        go (Some i) e = gives i u e

    mutual
      pub each_given : (t : Type_tree) → EachGiven m P t
      each_given (node h ps) = (given_at_has h, each_given_in ps)

      each_given_in : (ps : Parts Name Name) → EachGivenIn m P ps
      each_given_in none = tt
      each_given_in (part k t ps) = (each_given t, each_given_in ps)

  module _ (plain : (i : Identity) → m.nodes i ≡ None) where
    none_given : (P : Type_tree → Type 0) (i : Identity) (u : Type_tree) → m.nodes i ≡ Some u → P u
    none_given P i u e = go (m.nodes i) (plain i) e
      where
        go : (o : Option Type_tree) → o ≡ None → o ≡ Some u → P u
        go None d e = cc
        go (Some x) d e = cc

    mutual
      gives_apart : (t : Type_tree) → GivesApart m t
      gives_apart (node h ps) = ((λ r e. each_given_in (OwnsNot r) (none_given (OwnsNot r)) ps), gives_apart_in ps)

      gives_apart_in : (ps : Parts Name Name) → GivesApartIn m ps
      gives_apart_in none = tt
      gives_apart_in (part k t ps) = (gives_apart t, gives_apart_in ps)

-- ## The properties

pub owns_not_inherited : (r : Name) → Inherited (OwnsNot r) (OwnsNotIn r)
owns_not_inherited r = record {
  none_in = tt;
  part_in = λ k t ps x y. (x, y);
  first = λ k t ps w. w.0;
  rest = λ k t ps w. w.1;
  inner = λ h ps w. w.1;
  bare = λ h ps e l w. (e r, w);
  alike = λ h g ps e f l w. (e r ∙ w.0, w.1);
  again = λ m plain t w. owns_not-replaced m r t (each_given m (OwnsNot r) (none_given m plain (OwnsNot r)) t) w;
}

pub own_apart_inherited : Inherited OwnApart OwnApartIn
own_apart_inherited = record {
  none_in = tt;
  part_in = λ k t ps x y. (x, y);
  first = λ k t ps w. w.0;
  rest = λ k t ps w. w.1;
  inner = λ h ps w. w.1;
  bare = λ h ps e l w. ((λ r o. absurd (false≢true (sym (e r) ∙ o))), w);
  alike = λ h g ps e f l w. ((λ r o. w.0 r (sym (e r) ∙ o)), w.1);
  again = λ m plain t w. own_apart-replaced m t (gives_apart m plain t) (each_given m OwnApart (none_given m plain OwnApart) t) w;
}

none_once : (h : Head Name Name) → ((r : Name) → owns h r ≡ false) → IsOnce (owned_at h)
none_once (instance i []) e = tt
none_once (instance i (x ∷ xs)) e = absurd (false≢true (sym (e x) ∙ or_left (same x x) (member x xs) (same-refl x)))
none_once (resource q s) e = tt
none_once nothing e = tt
none_once (primitive q) e = tt
none_once (defined i k) e = tt
none_once (func i b) e = tt
none_once (component i ins outs) e = tt
none_once type_entity e = tt
none_once (core_module i n) e = tt
none_once (core_instance i n) e = tt
none_once (core_type i) e = tt
none_once (core_item x) e = tt

pub owns_once_inherited : Inherited OwnsOnce OwnsOnceIn
owns_once_inherited = record {
  none_in = tt;
  part_in = λ k t ps x y. (x, y);
  first = λ k t ps w. w.0;
  rest = λ k t ps w. w.1;
  inner = λ h ps w. w.1;
  bare = λ h ps e l w. (none_once h e, w);
  alike = λ h g ps e f l w. (subst IsOnce (sym f) w.0, w.1);
  again = λ m plain t w. owns_once-replaced m t (each_given m OwnsOnce (none_given m plain OwnsOnce) t) w;
}

-- a property is kept where nodes are given that have it
abbrev pub KeptWhereGiven : (Type_tree → Type 0) → Type 0
KeptWhereGiven P = (m : Replacement) → ((i : Identity) (u : Type_tree) → m.nodes i ≡ Some u → P u) → (t : Type_tree) → P t → P (replaced m t)

pub owns_not_given : (r : Name) → KeptWhereGiven (OwnsNot r)
owns_not_given r m gives t w = owns_not-replaced m r t (each_given m (OwnsNot r) gives t) w

pub owns_once_given : KeptWhereGiven OwnsOnce
owns_once_given m gives t w = owns_once-replaced m t (each_given m OwnsOnce gives t) w

pub apart_outside : (t : Type_tree) → OwnApart t → OwnsApart t
apart_outside (node h ps) w = w.0

-- ## What is made of trees that have it

level_leaf : (h : Head Name Name) → IsLevel h none
level_leaf nothing = tt
level_leaf (primitive p) = tt
level_leaf (resource r s) = tt
level_leaf (defined i k) = tt
level_leaf (func i b) = tt
level_leaf (instance i own) = tt
level_leaf (component i ins outs) = tt
level_leaf type_entity = tt
level_leaf (core_module i n) = tt
level_leaf (core_instance i n) = tt
level_leaf (core_type i) = tt
level_leaf (core_item x) = tt

module _ {P : Type_tree → Type 0} {In : Parts Name Name → Type 0} (law : Inherited P In) where
  pub leaf_has : (h : Head Name Name) → ((r : Name) → owns h r ≡ false) → P (node h none)
  leaf_has h e = law.bare h none e (level_leaf h) law.none_in

  pub first_has : (ps : Parts Name Name) → In ps → P (first_part ps)
  first_has none w = leaf_has nothing (λ r. refl)
  first_has (part k t ps) w = law.first k t ps w

  rest_has : (ps : Parts Name Name) → In ps → In (rest_parts ps)
  rest_has none w = law.none_in
  rest_has (part k t ps) w = law.rest k t ps w

  pub entity_has : (t u : Type_tree) → height t ≡ height u → P t → P u → P (type_of t u)
  entity_has t u e x y = law.bare type_entity (part here t (part here u none)) (λ r. refl) e (law.part_in here t (part here u none) x (law.part_in here u none y law.none_in))

  pub entry_has : (t : Type_tree) → P t → P (type_entry t)
  entry_has t x = entity_has t t refl x x

  pub created_has : (t : Type_tree) → P t → P (created t)
  created_has (node type_entity ps) w = entry_has (first_part ps) (first_has ps (law.inner type_entity ps w))
  created_has (node nothing ps) w = w
  created_has (node (primitive p) ps) w = w
  created_has (node (resource q s) ps) w = w
  created_has (node (defined i k) ps) w = w
  created_has (node (func i b) ps) w = w
  created_has (node (instance i own) ps) w = w
  created_has (node (component i ins outs) ps) w = w
  created_has (node (core_module i n) ps) w = w
  created_has (node (core_instance i n) ps) w = w
  created_has (node (core_type i) ps) w = w
  created_has (node (core_item x) ps) w = w

  pub referenced_has : (t : Type_tree) → P t → P (referenced t)
  referenced_has (node type_entity ps) w = first_has (rest_parts ps) (rest_has ps (law.inner type_entity ps w))
  referenced_has (node nothing ps) w = w
  referenced_has (node (primitive p) ps) w = w
  referenced_has (node (resource q s) ps) w = w
  referenced_has (node (defined i k) ps) w = w
  referenced_has (node (func i b) ps) w = w
  referenced_has (node (instance i own) ps) w = w
  referenced_has (node (component i ins outs) ps) w = w
  referenced_has (node (core_module i n) ps) w = w
  referenced_has (node (core_instance i n) ps) w = w
  referenced_has (node (core_type i) ps) w = w
  referenced_has (node (core_item x) ps) w = w

  -- ## Under names of a place

  renewed_owns : (names : Names) (p : Place) (h : Head Name Name) (r : Name) → owns (renewed_head names p h) r ≡ owns h r
  renewed_owns names p (resource q s) r = refl
  renewed_owns names p nothing r = refl
  renewed_owns names p (primitive q) r = refl
  renewed_owns names p (defined i k) r = refl
  renewed_owns names p (func i b) r = refl
  renewed_owns names p (instance i own) r = refl
  renewed_owns names p (component i ins outs) r = refl
  renewed_owns names p type_entity r = refl
  renewed_owns names p (core_module i n) r = refl
  renewed_owns names p (core_instance i n) r = refl
  renewed_owns names p (core_type i) r = refl
  renewed_owns names p (core_item x) r = refl

  renewed_owned : (names : Names) (p : Place) (h : Head Name Name) → owned_at (renewed_head names p h) ≡ owned_at h
  renewed_owned names p (resource q s) = refl
  renewed_owned names p nothing = refl
  renewed_owned names p (primitive q) = refl
  renewed_owned names p (defined i k) = refl
  renewed_owned names p (func i b) = refl
  renewed_owned names p (instance i own) = refl
  renewed_owned names p (component i ins outs) = refl
  renewed_owned names p type_entity = refl
  renewed_owned names p (core_module i n) = refl
  renewed_owned names p (core_instance i n) = refl
  renewed_owned names p (core_type i) = refl
  renewed_owned names p (core_item x) = refl

  renewed_level : (names : Names) (p : Place) (h : Head Name Name) (ps : Parts Name Name) → IsLevel h ps → IsLevel (renewed_head names p h) ps
  renewed_level names p type_entity ps w = w
  renewed_level names p (resource q s) ps w = tt
  renewed_level names p nothing ps w = tt
  renewed_level names p (primitive q) ps w = tt
  renewed_level names p (defined i k) ps w = tt
  renewed_level names p (func i b) ps w = tt
  renewed_level names p (instance i own) ps w = tt
  renewed_level names p (component i ins outs) ps w = tt
  renewed_level names p (core_module i n) ps w = tt
  renewed_level names p (core_instance i n) ps w = tt
  renewed_level names p (core_type i) ps w = tt
  renewed_level names p (core_item x) ps w = tt

  renewed_high : (names : Names) (p : Place) (t : Type_tree) → height (renewed names p t) ≡ height t
  renewed_high names p (node h ps) = refl

  renewed_has : (names : Names) (p : Place) (t : Type_tree) → P t → P (renewed names p t)
  renewed_has names p (node h ps) w = law.alike h (renewed_head names p h) ps (renewed_owns names p h) (renewed_owned names p h) (renewed_level names p h ps) w

  pub again_has : (names : Names) (p : Place) (t : Type_tree) → P t → P (type_of (renewed names p t) t)
  again_has names p t w = entity_has (renewed names p t) t (renewed_high names p t) (renewed_has names p t w) w

  pub reference_has : (names : Names) (p : Place) → P (type_entry (new_reference names p))
  reference_has names p = entry_has (new_reference names p) (leaf_has (resource (names.resource (introduced p)) (names.identity (stamp_at p))) (λ r. refl))

  -- an instance owns nothing
  pub instance_has : (names : Names) (p : Place) (t : Type_tree) → P t → P (instance_tree names p t)
  instance_has names p (node (instance i own) ps) w =
      law.again (owned_anew names p own) (λ i. refl) (node (instance i []) ps) (law.bare (instance i []) ps (λ r. refl) tt (law.inner (instance i own) ps w))
  instance_has names p (node nothing ps) w = w
  instance_has names p (node (primitive q) ps) w = w
  instance_has names p (node (resource q s) ps) w = w
  instance_has names p (node (defined i k) ps) w = w
  instance_has names p (node (func i b) ps) w = w
  instance_has names p (node (component i ins outs) ps) w = w
  instance_has names p (node type_entity ps) w = w
  instance_has names p (node (core_module i n) ps) w = w
  instance_has names p (node (core_instance i n) ps) w = w
  instance_has names p (node (core_type i) ps) w = w
  instance_has names p (node (core_item x) ps) w = w

  -- ## Nodes

  parts_have : (ps : List (Role × Type_tree)) → All (λ p. P p.1) ps → In (tree_parts ps)
  parts_have [] w = law.none_in
  parts_have (p ∷ ps) w = law.part_in p.0 p.1 (tree_parts ps) (All-head (λ (p : Role × Type_tree). P p.1) p ps w) (parts_have ps (All-tail (λ (p : Role × Type_tree). P p.1) p ps w))

  pub entries_have : (role : Extern_name → Role) (es : List (Extern_name × Type_tree)) (ps : Parts Name Name) → All (λ e. P e.1) es → In ps → In (entries role es ps)
  entries_have role [] ps w x = x
  entries_have role (e ∷ es) ps w x =
      law.part_in (role e.0) e.1 (entries role es ps) (All-head (λ (e : Extern_name × Type_tree). P e.1) e es w) (entries_have role es ps (All-tail (λ (e : Extern_name × Type_tree). P e.1) e es w) x)

  item_has : (e : EntityType) → P (node (core_item e) none)
  item_has e = leaf_has (core_item e) (λ r. refl)

  core_exports_have : (es : List (Text × EntityType)) (ps : Parts Name Name) → In ps → In (core_exports es ps)
  core_exports_have [] ps w = w
  core_exports_have (e ∷ es) ps w = law.part_in (tree.core_export e.0) (node (core_item e.1) none) (core_exports es ps) (item_has e.1) (core_exports_have es ps w)

  core_imports_have : (es : List ((Text × Text) × EntityType)) (ps : Parts Name Name) → In ps → In (core_imports es ps)
  core_imports_have [] ps w = w
  core_imports_have (e ∷ es) ps w = law.part_in (tree.core_import e.0.0 e.0.1) (node (core_item e.1) none) (core_imports es ps) (item_has e.1) (core_imports_have es ps w)

  pub module_has : (i : Name) (m : Module_type) → P (module_tree i m)
  module_has i m = law.bare (core_module i (capped m.size)) (core_imports m.imports (core_exports m.exports none)) (λ r. refl) tt (core_imports_have m.imports (core_exports m.exports none) (core_exports_have m.exports none law.none_in))

  -- what it is made of has it, and it owns nothing
  abbrev pub MadeOf : New_node tree_reader → Type 0
  MadeOf (func_node b ps) = All (λ p. P p.1) ps
  MadeOf (defined_node k ps) = All (λ p. P p.1) ps
  MadeOf (module_node m) = Unit {0}
  MadeOf (core_instance_node n t) = P t
  MadeOf (core_exports_node n es) = Unit {0}
  MadeOf (instance_node [] es) = All (λ e. P e.1) es
  MadeOf (instance_node (r ∷ own) es) = ⊥
  MadeOf (component_node ins outs es es') = ⊥

  pub node_has : (i : Name) (n : New_node tree_reader) → MadeOf n → P (node_tree i n)
  node_has i (func_node b ps) w = law.bare (func i b) (tree_parts ps) (λ r. refl) tt (parts_have ps w)
  node_has i (defined_node k ps) w = law.bare (defined i k) (tree_parts ps) (λ r. refl) tt (parts_have ps w)
  node_has i (module_node m) w = module_has i m
  node_has i (core_instance_node n t) w = law.bare (core_instance i (capped n)) (part here t none) (λ r. refl) tt (law.part_in here t none w law.none_in)
  node_has i (core_exports_node n es) w = law.bare (core_instance i (capped n)) (core_exports es none) (λ r. refl) tt (core_exports_have es none law.none_in)
  node_has i (instance_node [] es) w = law.bare (instance i []) (entries export es none) (λ r. refl) tt (entries_have export es none w law.none_in)
  node_has i (instance_node (r ∷ own) es) w = absurd w
  node_has i (component_node ins outs es es') w = absurd w
