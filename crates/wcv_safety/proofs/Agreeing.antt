-- Lists of values that agree with contexts: appending, joining, and changes of one side that agreement does not see.
use Rattle.std.proofs.Common.{◌≡◌, ℕ, zero, suc, List, [], ◌∷◌, ◌++◌, Bool, true, Option, Some, refl, sym, ap, subst}
use Rattle.std.specs.Prelude.{Contains, map}
use Rattle.std.specs.Option.{option_map}
use Rattle.std.specs.List.{AllZip}
use Rattle.wcv_core.specs.CoreForm.{Group}
use Rattle.wcv_core.specs.Names.{Name, member}
use Rattle.wcv_core.specs.declared.core_types.ValType.{ValType}
use Rattle.wcv_types.specs.Tree.{Extern_name, Sort, is_nothing, is_value, is_resource, is_func, is_instance, is_component, is_type, is_module, is_core_instance, is_core_type, is_core_item}
use Rattle.wcv_types.specs.Unfold.{Type_tree}
use Rattle.wcv_lower.specs.Context.{Context, Space, in_types, in_funcs, in_values, in_instances, in_components, Core_space, core_types, core_modules, same_space, same_core_space, push, push_core}
use Rattle.wcv_lower.specs.Owned.{IsOwn}
use Rattle.wcv_lower.specs.Readers.{Reader}
use Rattle.wcv_lower.specs.Step.{Change, appends, lists, introduces, defines, creates, core_appends, interns, charges, types_slots, marks_value, uses_value, names_start, Step, change_at, change, apply, joins}
use Rattle.wcv_lower.specs.Trees.{Tree_context, Tree_stack, tree_reader}
use Rattle.wcv_growth.proofs.Known.{mapped-some}
use Rattle.wcv_world.specs.Growth.{Tokens}
use Rattle.wcv_world.specs.Reading.{Value_context, Value_stack, value_reader}
use Rattle.wcv_world.specs.Values.{Value}
use Rattle.wcv_safety.specs.Agreeing.{Agrees, AgreesAsType, AgreesNamed, AgreeContexts, AgreeAll, AgreeStacks, AgreeReadings}
use Rattle.wcv_safety.proofs.Lists.{zip-joined}
use Rattle.wcv_safety.proofs.Quiet.{SameTop, AllQuiet, quiet-top}

-- ## One more

module _ (gs : List Group) (ts : Tokens) (g : Name → Name) where
  pub push-agrees : (k : Space) (v : Value_context) (c : Tree_context) (x : Value) (t : Type_tree) → AgreeContexts gs ts g v c → Agrees gs g x t → AgreeContexts gs ts g (push k x v) (push k t c)
  push-agrees k v c x t a r = record {
    space = λ j. zip-joined (Agrees gs g) (same_space j k) (v.space j) (c.space j) x t (a.space j) (λ e. r);
    core = a.core;
    types = a.types;
    tokens = a.tokens;
    defined = a.defined;
  }

  -- among the core types both have to agree as types
  pub push_core-agrees : (k : Core_space) (v : Value_context) (c : Tree_context) (x : Value) (t : Type_tree) → AgreeContexts gs ts g v c → Agrees gs g x t → (same_core_space core_types k ≡ true → AgreesAsType gs g x t) →
      AgreeContexts gs ts g (push_core k x v) (push_core k t c)
  push_core-agrees k v c x t a r q = record {
    space = a.space;
    core = λ j. zip-joined (Agrees gs g) (same_core_space j k) (v.core j) (c.core j) x t (a.core j) (λ e. r);
    types = zip-joined (AgreesAsType gs g) (same_core_space core_types k) (v.core core_types) (c.core core_types) x t a.types q;
    tokens = a.tokens;
    defined = a.defined;
  }

module _ (ts : Tokens) (g : Name → Name) where
  pub appends-agree : (k : Space) (v : Value_stack) (s : Tree_stack) (x : Value) (t : Type_tree) → AgreeStacks ts g v s → Agrees v.groups g x t → AgreeStacks ts g (change (appends k x) v) (change (appends k t) s)
  appends-agree k v s x t a r = record { groups = a.groups; all = (push-agrees v.groups ts g k v.top s.top x t a.all.0 r, a.all.1) }

  pub core-appends-agree : (k : Core_space) (v : Value_stack) (s : Tree_stack) (x : Value) (t : Type_tree) → AgreeStacks ts g v s → Agrees v.groups g x t → (same_core_space core_types k ≡ true → AgreesAsType v.groups g x t) →
      AgreeStacks ts g (change (core_appends k x) v) (change (core_appends k t) s)
  core-appends-agree k v s x t a r q = record { groups = a.groups; all = (push_core-agrees v.groups ts g k v.top s.top x t a.all.0 r q, a.all.1) }

-- ## What agreement does not see

-- it changes no space, no list of resources and no table
abbrev pub Unseen : {X : Reader} → Change X → Type 0
Unseen (appends k x) = ⊥
Unseen (core_appends k x) = ⊥
Unseen (introduces d rs) = ⊥
Unseen (defines r v) = ⊥
Unseen (interns gs) = ⊥
Unseen _ = Unit {0}

abbrev pub AllUnseen : {X : Reader} → Step X → Type 0
AllUnseen [] = Unit {0}
AllUnseen (x ∷ xs) = Unseen x × AllUnseen xs

-- of two contexts the spaces and the lists of resources are the same
pub record SameLists {X : Reader} (d c : Context X) : Type 0 where
  pub space : (k : Space) → d.space k ≡ c.space k
  pub core : (k : Core_space) → d.core k ≡ c.core k
  pub imported : d.imported ≡ c.imported
  pub defined : d.defined ≡ c.defined

module _ (gs : List Group) (ts : Tokens) (g : Name → Name) where
  pub left-same : (v w : Value_context) (c : Tree_context) → SameLists w v → AgreeContexts gs ts g v c → AgreeContexts gs ts g w c
  left-same v w c h a = record {
    space = λ k. subst (λ (xs : List Value). AllZip (Agrees gs g) xs (c.space k)) (sym (h.space k)) (a.space k);
    core = λ k. subst (λ (xs : List Value). AllZip (Agrees gs g) xs (c.core k)) (sym (h.core k)) (a.core k);
    types = subst (λ (xs : List Value). AllZip (AgreesAsType gs g) xs (c.core core_types)) (sym (h.core core_types)) a.types;
    tokens = a.tokens;
    defined = a.defined;
  }

  -- what is changed further out, or on top
  left-at : (k : ℕ) (f : Value_context → Value_context) (vs : List Value_context) (cs : List Tree_context) → ((c : Value_context) → SameLists (f c) c) → AgreeAll gs ts g vs cs → AgreeAll gs ts g (change_at k f vs) cs
  left-at k f [] cs h w = w
  left-at k f (v ∷ vs) [] h w = absurd w
  left-at zero f (v ∷ vs) (c ∷ cs) h w = (left-same v (f v) c (h v) w.0, w.1)
  left-at (suc k) f (v ∷ vs) (c ∷ cs) h w = (w.0, left-at k f vs cs h w.1)

module _ (ts : Tokens) (g : Name → Name) where
  left-one : (x : Change value_reader) (v : Value_stack) (s : Tree_stack) → Unseen x → AgreeStacks ts g v s → AgreeStacks ts g (change x v) s
  left-one (appends k x) v s q a = absurd q
  left-one (lists d n x) v s q a = record { groups = a.groups; all = (left-same v.groups ts g v.top _ s.top (record { space = λ k. refl; core = λ k. refl; imported = refl; defined = refl }) a.all.0, a.all.1) }
  left-one (introduces d rs) v s q a = absurd q
  left-one (defines r x) v s q a = absurd q
  left-one (creates d is) v s q a = record { groups = a.groups; all = (left-same v.groups ts g v.top _ s.top (record { space = λ k. refl; core = λ k. refl; imported = refl; defined = refl }) a.all.0, a.all.1) }
  left-one (core_appends k x) v s q a = absurd q
  left-one (interns gs) v s q a = absurd q
  left-one (charges zero n) v s q a = record { groups = a.groups; all = (left-same v.groups ts g v.top _ s.top (record { space = λ k. refl; core = λ k. refl; imported = refl; defined = refl }) a.all.0, a.all.1) }
  left-one (charges (suc k) n) v s q a = record { groups = a.groups; all = (a.all.0, left-at v.groups ts g k _ v.outer s.outer (λ c. record { space = λ k. refl; core = λ k. refl; imported = refl; defined = refl }) a.all.1) }
  left-one (types_slots x) v s q a = record { groups = a.groups; all = (left-same v.groups ts g v.top _ s.top (record { space = λ k. refl; core = λ k. refl; imported = refl; defined = refl }) a.all.0, a.all.1) }
  left-one (marks_value b) v s q a = record { groups = a.groups; all = (left-same v.groups ts g v.top _ s.top (record { space = λ k. refl; core = λ k. refl; imported = refl; defined = refl }) a.all.0, a.all.1) }
  left-one (uses_value k) v s q a = record { groups = a.groups; all = (left-same v.groups ts g v.top _ s.top (record { space = λ k. refl; core = λ k. refl; imported = refl; defined = refl }) a.all.0, a.all.1) }
  left-one names_start v s q a = record { groups = a.groups; all = (left-same v.groups ts g v.top _ s.top (record { space = λ k. refl; core = λ k. refl; imported = refl; defined = refl }) a.all.0, a.all.1) }

  pub left-unseen : (p : Step value_reader) (v : Value_stack) (s : Tree_stack) → AllUnseen p → AgreeStacks ts g v s → AgreeStacks ts g (apply p v) s
  left-unseen [] v s q a = a
  left-unseen (x ∷ xs) v s q a = left-unseen xs (change x v) s q.1 (left-one x v s q.0 a)

module _ (gs : List Group) (ts : Tokens) (g : Name → Name) where
  pub right-same : (v : Value_context) (c d : Tree_context) → SameLists d c → AgreeContexts gs ts g v c → AgreeContexts gs ts g v d
  right-same v c d h a = record {
    space = λ k. subst (λ (xs : List Type_tree). AllZip (Agrees gs g) (v.space k) xs) (sym (h.space k)) (a.space k);
    core = λ k. subst (λ (xs : List Type_tree). AllZip (Agrees gs g) (v.core k) xs) (sym (h.core k)) (a.core k);
    types = subst (λ (xs : List Type_tree). AllZip (AgreesAsType gs g) (v.core core_types) xs) (sym (h.core core_types)) a.types;
    tokens = λ r e. a.tokens r (own r e);
    defined = λ r x e. a.defined r x (subst (λ (ds : List (Name × Option ValType)). Contains ds (r, Some x)) h.defined e);
  }
    where
      own : (r : Name) → IsOwn d r → IsOwn c r
      own r e = subst (λ (ds : List (Name × Option ValType)). member r (map (λ x. x.0) c.imported ++ map (λ x. x.0) ds) ≡ true) h.defined (subst (λ (is : List (Name × List ℕ)). member r (map (λ x. x.0) is ++ map (λ x. x.0) d.defined) ≡ true) h.imported e)

  right-at : (k : ℕ) (f : Tree_context → Tree_context) (vs : List Value_context) (cs : List Tree_context) → ((c : Tree_context) → SameLists (f c) c) → AgreeAll gs ts g vs cs → AgreeAll gs ts g vs (change_at k f cs)
  right-at k f [] [] h w = w
  right-at k f [] (c ∷ cs) h w = absurd w
  right-at k f (v ∷ vs) [] h w = absurd w
  right-at zero f (v ∷ vs) (c ∷ cs) h w = (right-same v c (f c) (h c) w.0, w.1)
  right-at (suc k) f (v ∷ vs) (c ∷ cs) h w = (w.0, right-at k f vs cs h w.1)

module _ (ts : Tokens) (g : Name → Name) where
  right-one : (x : Change tree_reader) (v : Value_stack) (s : Tree_stack) → Unseen x → AgreeStacks ts g v s → AgreeStacks ts g v (change x s)
  right-one (appends k x) v s q a = absurd q
  right-one (lists d n x) v s q a = record { groups = a.groups; all = (right-same v.groups ts g v.top s.top _ (record { space = λ k. refl; core = λ k. refl; imported = refl; defined = refl }) a.all.0, a.all.1) }
  right-one (introduces d rs) v s q a = absurd q
  right-one (defines r x) v s q a = absurd q
  right-one (creates d is) v s q a = record { groups = a.groups; all = (right-same v.groups ts g v.top s.top _ (record { space = λ k. refl; core = λ k. refl; imported = refl; defined = refl }) a.all.0, a.all.1) }
  right-one (core_appends k x) v s q a = absurd q
  right-one (interns gs) v s q a = absurd q
  right-one (charges zero n) v s q a = record { groups = a.groups; all = (right-same v.groups ts g v.top s.top _ (record { space = λ k. refl; core = λ k. refl; imported = refl; defined = refl }) a.all.0, a.all.1) }
  right-one (charges (suc k) n) v s q a = record { groups = a.groups; all = (a.all.0, right-at v.groups ts g k _ v.outer s.outer (λ c. record { space = λ k. refl; core = λ k. refl; imported = refl; defined = refl }) a.all.1) }
  right-one (types_slots x) v s q a = record { groups = a.groups; all = (right-same v.groups ts g v.top s.top _ (record { space = λ k. refl; core = λ k. refl; imported = refl; defined = refl }) a.all.0, a.all.1) }
  right-one (marks_value b) v s q a = record { groups = a.groups; all = (right-same v.groups ts g v.top s.top _ (record { space = λ k. refl; core = λ k. refl; imported = refl; defined = refl }) a.all.0, a.all.1) }
  right-one (uses_value k) v s q a = record { groups = a.groups; all = (right-same v.groups ts g v.top s.top _ (record { space = λ k. refl; core = λ k. refl; imported = refl; defined = refl }) a.all.0, a.all.1) }
  right-one names_start v s q a = record { groups = a.groups; all = (right-same v.groups ts g v.top s.top _ (record { space = λ k. refl; core = λ k. refl; imported = refl; defined = refl }) a.all.0, a.all.1) }

  pub right-unseen : (p : Step tree_reader) (v : Value_stack) (s : Tree_stack) → AllUnseen p → AgreeStacks ts g v s → AgreeStacks ts g v (apply p s)
  right-unseen [] v s q a = a
  right-unseen (x ∷ xs) v s q a = right-unseen xs v (change x s) q.1 (right-one x v s q.0 a)

  pub both-unseen : (p : Step value_reader) (q : Step tree_reader) (v : Value_stack) (s : Tree_stack) → AllUnseen p → AllUnseen q → AgreeStacks ts g v s → AgreeStacks ts g (apply p v) (apply q s)
  both-unseen p q v s h k a = right-unseen q (apply p v) s k (left-unseen ts g p v s h a)

-- ## Joining

module _ (ts : Tokens) (g : Name → Name) where
  -- an entity joins the space of its sort, of a type the created one
  pub joins-agree : (b d : Bool) (k : Sort) (v : Value_stack) (s : Tree_stack) (x : Value) (t : Type_tree) → AgreeStacks ts g v s → Agrees v.groups g x t → (k ≡ is_type → Agrees v.groups g (value_reader.created x) (tree_reader.created t)) →
      AgreeStacks ts g (apply (joins value_reader b k x) v) (apply (joins tree_reader d k t) s)
  joins-agree b d is_func v s x t a r q = appends-agree ts g in_funcs v s x t a r
  joins-agree b d is_value v s x t a r q =
      both-unseen ts g (marks_value b ∷ []) (marks_value d ∷ []) (change (appends in_values x) v) (change (appends in_values t) s) (tt, tt) (tt, tt) (appends-agree ts g in_values v s x t a r)
  joins-agree b d is_instance v s x t a r q = appends-agree ts g in_instances v s x t a r
  joins-agree b d is_component v s x t a r q = appends-agree ts g in_components v s x t a r
  joins-agree b d is_type v s x t a r q = appends-agree ts g in_types v s (value_reader.created x) (tree_reader.created t) a (q refl)
  joins-agree b d is_module v s x t a r q = core-appends-agree ts g core_modules v s x t a r (λ e. absurd (cc))
  joins-agree b d is_resource v s x t a r q = a
  joins-agree b d is_nothing v s x t a r q = a
  joins-agree b d is_core_instance v s x t a r q = a
  joins-agree b d is_core_type v s x t a r q = a
  joins-agree b d is_core_item v s x t a r q = a

-- ## Readings

module _ (g : Name → Name) where
  -- stacks agree, and what stood on the sides still does
  pub readings : (v w : Value_stack) (s u : Tree_stack) → SameTop w v → SameTop u s → AgreeReadings g v s → AgreeStacks v.top.defined g w u → AgreeReadings g w u
  readings v w s u p q a b = record {
    stacks = subst (λ (ts : Tokens). AgreeStacks ts g w u) (sym p.defined) b;
    sides = λ d.
        subst (λ (es : List (Extern_name × Type_tree)). AllZip (AgreesNamed w.groups g) (w.top.side d) es) (sym (q.side d))
        (subst (λ (xs : List (Extern_name × Value)). AllZip (AgreesNamed w.groups g) xs (s.top.side d)) (sym (p.side d))
        (subst (λ (gs : List Group). AllZip (AgreesNamed gs g) (v.top.side d) (s.top.side d)) (sym p.groups) (a.sides d)));
  }

  -- where steps of both agree, also under this substitution, so does what they lead to
  pub grown-follows : (v : Value_stack) (s u : Tree_stack) (o : Option (Step value_reader)) (p : Option (Step tree_reader)) →
      ((y : Step tree_reader) → p ≡ Some y → apply y s ≡ u → (x : Step value_reader) × (o ≡ Some x) × AgreeReadings g (apply x v) (apply y s)) → option_map (λ y. apply y s) p ≡ Some u →
      (w : Value_stack) × (option_map (λ x. apply x v) o ≡ Some w) × AgreeReadings g w u
  grown-follows v s u o p h e =
      let y = mapped-some (λ y. apply y s) p u e in
      let x = h y.0 y.1 y.2 in
      (apply x.0 v, ap (option_map (λ z. apply z v)) x.1, subst (λ (z : Tree_stack). AgreeReadings g (apply x.0 v) z) y.2 x.2)

  -- so where both steps are quiet
  pub quiet-follows : (v : Value_stack) (s : Tree_stack) (x : Step value_reader) (y : Step tree_reader) → AgreeReadings g v s → AllQuiet x → AllQuiet y → AgreeStacks v.top.defined g (apply x v) (apply y s) → AgreeReadings g (apply x v) (apply y s)
  quiet-follows v s x y a p q b = readings v (apply x v) s (apply y s) (quiet-top x v p) (quiet-top y s q) a b
