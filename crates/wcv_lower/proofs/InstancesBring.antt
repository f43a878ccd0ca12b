-- What instances of components and bags of exports bring, and what stays of the types in them: no resource that is replaced is owned inside.
use Rattle.std.proofs.Common.{◌≡◌, ℕ, List, [], ◌∷◌, ◌++◌, map, refl, sym, ◌∙◌, subst, Bool, true, false, cond, ◌||◌, Some, None, bytes_eq}
use Rattle.std.specs.Prelude.{Option, All, not, option_to_list}
use Rattle.std.specs.List.{list_all}
use Rattle.std.specs.Map.{lookup}
use Rattle.std.specs.Option.{option_map, option_map_or, option_and_then}
use Rattle.std.proofs.lemmas.Bool.{false≢true}
use Rattle.std.proofs.lemmas.List.Elements.{All-nil, All-cons, All-append, All-head, All-tail}
use Rattle.wcv_core.specs.Names.{Name, Place, member}
use Rattle.wcv_syntax.specs.Model.{Instance_form, instantiate, bag}
use Rattle.wcv_syntax.specs.declared.instance.ComponentInstantiationArg.{ComponentInstantiationArg}
use Rattle.wcv_syntax.specs.declared.name.ComponentExport.{ComponentExport}
use Rattle.wcv_types.specs.Identity.{Identity, identity_at, same_identity}
use Rattle.wcv_types.specs.Replacing.{Replacement, replaced, SparesOwn, SparesOwnIn}
use Rattle.wcv_types.specs.Resources.{owns}
use Rattle.wcv_types.specs.Tree as tree
use Rattle.wcv_types.specs.Tree.{Text, Extern_name, nothing, primitive, resource, defined, func, instance, component, type_entity, core_module, core_instance, core_type, core_item, here, label, import, export, core_import, core_export, node, Parts, none, part, head, firsts, exports_in, exports}
use Rattle.wcv_types.specs.Unfold.{Type_tree}
use Rattle.wcv_types.proofs.Lists.{some-inj}
use Rattle.wcv_matching.specs.Matching.{named, named_imports}
use Rattle.wcv_matching.specs.OnePass.{argument_for, made_paths}
use Rattle.wcv_lower.specs.Checks.{is_none}
use Rattle.wcv_lower.specs.Context.{exporting, in_instances}
use Rattle.wcv_lower.specs.Instances.{component_at, argument_at, arguments, if_opened, listed_at, listed, all_listed, may_list, bag_made, instance_of_component, instance_of_items, instance_made, instance_joins, instance_values, instance_step}
use Rattle.wcv_matching.specs.GivenTypes.{given_by, given_in, given_for}
use Rattle.wcv_lower.specs.Instantiated.{opened_resource, opening, instantiated}
use Rattle.wcv_lower.specs.Mapped.{map_entries}
use Rattle.wcv_lower.specs.Names.{Names, Origin, introduced, again}
use Rattle.wcv_lower.specs.Owned.{OwnsNot, OwnsNotIn, OwnsApart, AllEntries}
use Rattle.wcv_lower.specs.Readers.{New_node, instance_node}
use Rattle.wcv_lower.specs.Step.{Brought, introduces, appends}
use Rattle.wcv_lower.specs.Trees.{tree_reader, Tree_stack, tree_maker}
use Rattle.wcv_lower.proofs.Bringing.{OfAny, any_mapped, any_cond, any_if, AllBring, brings_one, brings_more, BroughtOf, using_brings}
use Rattle.wcv_lower.proofs.Instantiating.{arguments_have, listed_have, component_has}
use Rattle.wcv_lower.proofs.Owning.{Inherited, KeptWhereGiven, MadeOf, first_has, node_has}

abbrev items_of_bag : List (Extern_name × Type_tree) → New_node tree_reader
items_of_bag es = instance_node [] es

all_replaced : {P : Type_tree → Type 0} (m : Replacement) → ((t : Type_tree) → P t → P (replaced m t)) → (es : List (Extern_name × Type_tree)) → All (λ (e : Extern_name × Type_tree). P e.1) es → All (λ (e : Extern_name × Type_tree). P (replaced m e.1)) es
all_replaced {P} m h [] w = All-nil (λ (e : Extern_name × Type_tree). P (replaced m e.1))
all_replaced {P} m h (e ∷ es) w =
    All-cons (λ (e : Extern_name × Type_tree). P (replaced m e.1)) e es (h e.1 (All-head (λ (e : Extern_name × Type_tree). P e.1) e es w)) (all_replaced m h es (All-tail (λ (e : Extern_name × Type_tree). P e.1) e es w))

module _ {P : Type_tree → Type 0} {In : Parts Name Name → Type 0} (law : Inherited P In) where
  abbrev Of : Identity × Type_tree → Type 0
  Of x = P x.1

  abbrev Named_of : Text × Type_tree → Type 0
  Named_of e = P e.1

  abbrev Entry_of : Extern_name × Type_tree → Type 0
  Entry_of e = P e.1

  -- ## What is given

  parts_in : (t : Type_tree) → P t → In (tree.parts t)
  parts_in (node h ps) w = law.inner h ps w

  entries_in : (ps : Parts Name Name) → In ps → All Entry_of (exports_in ps)
  entries_in none w = All-nil Entry_of
  entries_in (part (export n) t ps) w = All-cons Entry_of (n, t) (exports_in ps) (law.first (export n) t ps w) (entries_in ps (law.rest (export n) t ps w))
  entries_in (part here t ps) w = entries_in ps (law.rest here t ps w)
  entries_in (part (label l) t ps) w = entries_in ps (law.rest (label l) t ps w)
  entries_in (part (import n) t ps) w = entries_in ps (law.rest (import n) t ps w)
  entries_in (part (core_import m n) t ps) w = entries_in ps (law.rest (core_import m n) t ps w)
  entries_in (part (core_export n) t ps) w = entries_in ps (law.rest (core_export n) t ps w)

  pub exports_have : (t : Type_tree) → P t → All Entry_of (exports t)
  exports_have (node h ps) w = entries_in ps (law.inner h ps w)

  named_have : (es : List (Extern_name × Type_tree)) → All Entry_of es → All Named_of (named es)
  named_have [] w = All-nil Named_of
  named_have (e ∷ es) w = All-cons Named_of (e.0.name, e.1) (named es) (All-head Entry_of e es w) (named_have es (All-tail Entry_of e es w))

  looked_up : (n : Text) (es : List (Text × Type_tree)) → All Named_of es → OfAny P (lookup (bytes_eq n) es)
  looked_up n [] w = tt
  looked_up n (e ∷ es) w = go (bytes_eq n e.0) (looked_up n es (All-tail Named_of e es w))
    where
      go : (b : Bool) → OfAny P (lookup (bytes_eq n) es) → OfAny P (cond b (Some e.1) (lookup (bytes_eq n) es))
      go true v = All-head Named_of e es w
      go false v = v

  -- what is given by the argument that was found, and by others behind it
  given_of : (h : Type_tree → List (Identity × Type_tree)) → ((a : Type_tree) → P a → All Of (h a)) → (o : Option Type_tree) → OfAny P o → (xs : List (Identity × Type_tree)) → All Of xs → All Of (option_map_or h o [] ++ xs)
  given_of h g None w xs v = v
  given_of h g (Some a) w xs v = All-append Of (h a) xs (g a w) v

  one_given : (o : Option Identity) (t : Type_tree) → P t → All Of (option_to_list (option_map (λ i. (i, t)) o))
  one_given None t w = All-nil Of
  one_given (Some i) t w = All-cons Of (i, t) [] w (All-nil Of)

  created_of : (a : Type_tree) → P a → P (tree.created a)
  created_of (node h ps) w = first_has law ps (law.inner h ps w)

  mutual
    given_by_have : (a t : Type_tree) → P a → All Of (given_by a t)
    given_by_have a (node type_entity ps) w = one_given (identity_at (head (tree.created (node type_entity ps)))) (tree.created a) (created_of a w)
    given_by_have a (node (instance i own) ps) w = given_in_have (named (exports a)) ps (named_have (exports a) (exports_have a w))
    given_by_have a (node nothing ps) w = All-nil Of
    given_by_have a (node (primitive p) ps) w = All-nil Of
    given_by_have a (node (resource r s) ps) w = All-nil Of
    given_by_have a (node (defined i k) ps) w = All-nil Of
    given_by_have a (node (func i b) ps) w = All-nil Of
    given_by_have a (node (component i ins outs) ps) w = All-nil Of
    given_by_have a (node (core_module i n) ps) w = All-nil Of
    given_by_have a (node (core_instance i n) ps) w = All-nil Of
    given_by_have a (node (core_type i) ps) w = All-nil Of
    given_by_have a (node (core_item x) ps) w = All-nil Of

    given_in_have : (es : List (Text × Type_tree)) (ps : Parts Name Name) → All Named_of es → All Of (given_in es ps)
    given_in_have es none w = All-nil Of
    given_in_have es (part (export n) t ps) w = given_of (λ a. given_by a t) (λ a v. given_by_have a t v) (lookup (bytes_eq n.name) es) (looked_up n.name es w) (given_in es ps) (given_in_have es ps w)
    given_in_have es (part here t ps) w = given_in_have es ps w
    given_in_have es (part (label l) t ps) w = given_in_have es ps w
    given_in_have es (part (import n) t ps) w = given_in_have es ps w
    given_in_have es (part (core_import m n) t ps) w = given_in_have es ps w
    given_in_have es (part (core_export n) t ps) w = given_in_have es ps w

  given_for_have : (args is : List (Text × Type_tree)) → All Named_of args → All Of (given_for args is)
  given_for_have args [] w = All-nil Of
  given_for_have args (i ∷ is) w = given_of (λ a. given_by a i.1) (λ a v. given_by_have a i.1 v) (lookup (bytes_eq i.0) args) (looked_up i.0 args w) (given_for args is) (given_for_have args is w)

  found_given : (i : Identity) (xs : List (Identity × Type_tree)) → All Of xs → (u : Type_tree) → lookup (same_identity i) xs ≡ Some u → P u
  found_given i [] w u e = cc
  found_given i (x ∷ xs) w u e = go (same_identity i x.0) (found_given i xs (All-tail Of x xs w) u) e
    where
      go : (b : Bool) → (lookup (same_identity i) xs ≡ Some u → P u) → cond b (Some x.1) (lookup (same_identity i) xs) ≡ Some u → P u
      go true v e = subst P (some-inj e) (All-head Of x xs w)
      go false v e = v e

  -- each node that arguments give has it
  pub opening_gives : (names : Names) (p : Place) (args : List (Text × Type_tree)) (c : Type_tree) → All Named_of args → (i : Identity) (u : Type_tree) → (opening names p args c).nodes i ≡ Some u → P u
  opening_gives names p args c w i u e = found_given i (given_for args (named_imports c)) (given_for_have args (named_imports c) w) u e

  -- ## What is made

  entries_kept : (m : Replacement) (es : List (Extern_name × Type_tree)) → All (λ (e : Extern_name × Type_tree). P (replaced m e.1)) es → All Entry_of (map_entries (replaced m) es)
  entries_kept m [] w = All-nil Entry_of
  entries_kept m (e ∷ es) w =
      All-cons Entry_of (e.0, replaced m e.1) (map_entries (replaced m) es) (All-head (λ (x : Extern_name × Type_tree). P (replaced m x.1)) e es w)
      (entries_kept m es (All-tail (λ (x : Extern_name × Type_tree). P (replaced m x.1)) e es w))

  -- an instance whose exports have it once they are replaced
  pub instantiated_has : (names : Names) (p : Place) (args : List (Text × Type_tree)) (c : Type_tree) → All (λ (e : Extern_name × Type_tree). P (replaced (opening names p args c) e.1)) (exports c) → P (instantiated names p args c)
  instantiated_has names p args c w = node_has law (names.identity (introduced p)) (instance_node [] (map_entries (replaced (opening names p args c)) (exports c))) (entries_kept (opening names p args c) (exports c) w)

  module _ (New : Name → Type 0) (names : Names) (p : Place) (fresh : (o : Origin) → New (names.resource o)) where
    made_new : (rs : List (Name × List ℕ)) → All (λ (x : Name × List ℕ). New x.0) (map (λ (r : Name × List ℕ). (names.resource (again p r.0), r.1)) rs)
    made_new [] = All-nil (λ (x : Name × List ℕ). New x.0)
    made_new (r ∷ rs) = All-cons (λ (x : Name × List ℕ). New x.0) (names.resource (again p r.0), r.1) (map (λ (r : Name × List ℕ). (names.resource (again p r.0), r.1)) rs) (fresh (again p r.0)) (made_new rs)

    joined : (b : Brought tree_reader) → BroughtOf law New b → AllBring P New (instance_joins b)
    joined b w = brings_more P New (introduces exporting b.resources) (appends in_instances b.entity ∷ []) w.1 (brings_one P New (appends in_instances b.entity) w.0)

    module _ (s : Tree_stack) (all : AllEntries P s.top) where
      -- what is kept of the exports of a component that is opened
      abbrev pub Keeps : Instance_form → Type 0
      Keeps (instantiate i args) = (c : Type_tree) → component_at s.top i ≡ Some c → P c → All (λ (e : Extern_name × Type_tree). P (replaced (opening names p (arguments s.top args) c) e.1)) (exports c)
      Keeps (bag es) = Unit {0}

      abbrev With : List (Text × Type_tree) → List (Text × Type_tree) × Type_tree → Type 0
      With args o = (o.0 ≡ args) × (i : ℕ) × (component_at s.top i ≡ Some o.1)

      brought_of : (i : Instance_form) → Keeps i → OfAny (BroughtOf law New) (instance_made (tree_maker names p) s i)
      brought_of (instantiate i args) keep = go (list_all (λ (a : ComponentInstantiationArg). not (is_none (argument_at s.top a))) args) (component_at s.top i) refl
        where
          es : List (Text × Type_tree)
          es = arguments s.top args

          made : (c : Type_tree) → component_at s.top i ≡ Some c → (b : Bool) → OfAny (BroughtOf law New) (option_map (instance_of_component (tree_maker names p)) (cond b (Some (arguments s.top args, c)) None))
          made c e true = (instantiated_has names p (arguments s.top args) c (keep c e (subst (OfAny P) e (component_has P s.top all i))), made_new (made_paths (head c)))
          made c e false = tt

          go : (b : Bool) (o : Option Type_tree) → component_at s.top i ≡ o →
              OfAny (BroughtOf law New) (option_map (instance_of_component (tree_maker names p)) (cond b (option_and_then (if_opened tree_reader s.groups (arguments s.top args)) o) None))
          go false o e = tt
          go true None e = tt
          go true (Some c) e = made c e (tree_reader.opens s.groups (arguments s.top args) c)
      brought_of (bag es) keep =
          any_mapped (MadeOf law) (BroughtOf law New) (instance_of_items (tree_maker names p)) (λ n w. (node_has law (names.identity (introduced p)) n w, All-nil (λ (x : Name × List ℕ). New x.0))) (bag_made s.top es)
          (any_if (MadeOf law) (may_list s.top es) (all_listed s.top es)
          (any_cond (MadeOf law) (list_all (λ (e : ComponentExport). not (is_none (listed_at s.top e))) es) (items_of_bag (listed s.top es)) (listed_have P s.top all es)))

      pub instances_bring : (i : Instance_form) → Keeps i → OfAny (AllBring P New) (instance_step (tree_maker names p) s i)
      instances_bring i keep =
          using_brings P New (instance_values i) (option_map instance_joins (instance_made (tree_maker names p) s i)) (any_mapped (BroughtOf law New) (AllBring P New) instance_joins joined (instance_made (tree_maker names p) s i) (brought_of i keep))

      -- where trees keep it in which nodes are given that have it
      pub keeps_by : KeptWhereGiven P → (i : Instance_form) → Keeps i
      keeps_by kept (instantiate i args) = λ c e w.
          all_replaced (opening names p (arguments s.top args) c) (kept (opening names p (arguments s.top args) c) (opening_gives names p (arguments s.top args) c (arguments_have P s.top all args))) (exports c) (exports_have c w)
      keeps_by kept (bag es) = tt

-- ## No resource that is replaced is owned inside

module _ (m : Replacement) (own : Name → Bool) (stays : (r : Name) → own r ≡ false → m.resources r ≡ None) where
  not_own : (r : Name) (b : Bool) → own r ≡ b → (own r ≡ true → ⊥) → own r ≡ false
  not_own r true e n = absurd (n e)
  not_own r false e n = e

  mutual
    spares : (t : Type_tree) → ((r : Name) → own r ≡ true → OwnsNot r t) → SparesOwn m t
    spares (node h ps) w = ((λ r e. stays r (not_own r (own r) refl (λ o. false≢true (sym (w r o).0 ∙ e)))), spares_in ps (λ r o. (w r o).1))

    spares_in : (ps : Parts Name Name) → ((r : Name) → own r ≡ true → OwnsNotIn r ps) → SparesOwnIn m ps
    spares_in none w = tt
    spares_in (part k t ps) w = (spares t (λ r o. (w r o).0), spares_in ps (λ r o. (w r o).1))

exports_spared : (m : Replacement) (ps : Parts Name Name) → SparesOwnIn m ps → All (λ (e : Extern_name × Type_tree). SparesOwn m e.1) (exports_in ps)
exports_spared m none w = All-nil (λ (e : Extern_name × Type_tree). SparesOwn m e.1)
exports_spared m (part (export n) t ps) w = All-cons (λ (e : Extern_name × Type_tree). SparesOwn m e.1) (n, t) (exports_in ps) w.0 (exports_spared m ps w.1)
exports_spared m (part here t ps) w = exports_spared m ps w.1
exports_spared m (part (label l) t ps) w = exports_spared m ps w.1
exports_spared m (part (import n) t ps) w = exports_spared m ps w.1
exports_spared m (part (core_import a n) t ps) w = exports_spared m ps w.1
exports_spared m (part (core_export n) t ps) w = exports_spared m ps w.1

-- a resource that the component does not own stays
others_stay : (names : Names) (p : Place) (args : List (Text × Type_tree)) (c : Type_tree) (r : Name) → owns (head c) r ≡ false → opened_resource names p args c r ≡ None
others_stay names p args (node (component i ins outs) ps) r e = go (member r (firsts ins)) (member r (firsts outs)) e
  where
    go : (a b : Bool) → (a || b) ≡ false → cond {A = Option Name} a (Some (argument_for args (node (component i ins outs) ps) r)) (cond b (Some (names.resource (again p r))) None) ≡ None
    go true b e = absurd (false≢true (sym e))
    go false true e = absurd (false≢true (sym e))
    go false false e = refl
others_stay names p args (node nothing ps) r e = refl
others_stay names p args (node (primitive q) ps) r e = refl
others_stay names p args (node (resource q x) ps) r e = refl
others_stay names p args (node (defined i k) ps) r e = refl
others_stay names p args (node (func i b) ps) r e = refl
others_stay names p args (node (instance i own) ps) r e = refl
others_stay names p args (node type_entity ps) r e = refl
others_stay names p args (node (core_module i n) ps) r e = refl
others_stay names p args (node (core_instance i n) ps) r e = refl
others_stay names p args (node (core_type i) ps) r e = refl
others_stay names p args (node (core_item x) ps) r e = refl

pub opening_spares : (names : Names) (p : Place) (args : List (Text × Type_tree)) (c : Type_tree) → OwnsApart c → All (λ (e : Extern_name × Type_tree). SparesOwn (opening names p args c) e.1) (exports c)
opening_spares names p args (node h ps) apart =
    exports_spared (opening names p args (node h ps)) ps (spares_in (opening names p args (node h ps)) (λ r. owns h r) (λ r e. others_stay names p args (node h ps) r e) ps apart)
