-- A resource that is defined is a token: under the substitution that reads it so, the lists agree with the context that has it.
use Rattle.std.proofs.Common.{◌≡◌, ℕ, List, [], ◌∷◌, ◌++◌, map, Bool, true, false, ◌&&◌, ◌||◌, cond, Option, Some, None, refl, sym, ap, subst, ◌⊎◌, inl, inr}
use Rattle.std.specs.Prelude.{All, Contains, is_some}
use Rattle.std.proofs.lemmas.List.Elements.{All-nil, All-cons, All-contains, All-weaker, Contains-push, Contains-push_cases}
use Rattle.wcv_core.specs.CoreForm.{Group}
use Rattle.wcv_core.specs.Names.{Name, same, member}
use Rattle.wcv_core.specs.declared.core_types.ValType.{ValType}
use Rattle.wcv_core.proofs.Names.{same-true, same-refl}
use Rattle.wcv_syntax.specs.declared.core_section.ExternalKind.TheVariants as kind
use Rattle.wcv_types.specs.Resources.{Free}
use Rattle.wcv_types.specs.Seen.{outer, seen}
use Rattle.wcv_types.specs.Tree.{Extern_name, resource, node, none, resource_type}
use Rattle.wcv_types.specs.Unfold.{Type_tree}
use Rattle.wcv_types.proofs.Lists.{some-inj}
use Rattle.wcv_matching.specs.Matching.{outside}
use Rattle.wcv_lower.specs.Context.{in_types, is_concrete, define}
use Rattle.wcv_lower.specs.CoreInstances.{space_of, core_item_at}
use Rattle.wcv_lower.specs.NewTypes.{type_entry}
use Rattle.wcv_lower.specs.Owned.{AllEntries, IsOwn}
use Rattle.wcv_lower.specs.Step.{Step, defines, change, apply, joins_types}
use Rattle.wcv_lower.specs.Trees.{Tree_context, Tree_stack, tree_reader}
use Rattle.wcv_lower.specs.Types.{dtor_stands}
use Rattle.wcv_lower.proofs.Members.{defined_own, defines_own}
use Rattle.wcv_world.specs.Growth.{Tokens}
use Rattle.wcv_world.specs.Reading.{Value_stack, value_reader}
use Rattle.wcv_world.specs.Values.{typed}
use Rattle.wcv_safety.specs.Agreeing.{IsToken, Agrees, AgreeContexts, AgreeReadings}
use Rattle.wcv_safety.specs.Standing.{IsNewTo, IsNewIn, with_token}
use Rattle.wcv_safety.proofs.Agreeing.{appends-agree}
use Rattle.wcv_safety.proofs.Lists.{zip-get}
use Rattle.wcv_safety.proofs.Rereading.{SameIn, SameAt, context-reread, contexts-reread, named-reread}
use Rattle.wcv_safety.proofs.Tests.{both-true, and-true}

-- ## What is new is read otherwise, and nothing else

module _ (g : Name → Name) (r token : Name) where
  pub new-read : with_token g r token r ≡ token
  new-read = ap (λ (b : Bool). cond b token (g r)) (same-refl r)

  old-read : (x : Name) → (x ≡ r → ⊥) → g x ≡ with_token g r token x
  old-read x n = go (same x r) refl
    where
      go : (b : Bool) → same x r ≡ b → g x ≡ cond b token (g x)
      go true e = absurd (n (same-true x r e))
      go false e = refl

  same-in : (t : Type_tree) → (Free r t → ⊥) → SameIn g (with_token g r token) t
  same-in t n x f = old-read x (λ e. n (subst (λ (y : Name). Free y t) e f))

  all-same : (ts : List Type_tree) → All (λ t. Free r t → ⊥) ts → All (SameIn g (with_token g r token)) ts
  all-same ts a = All-weaker (λ t. Free r t → ⊥) (SameIn g (with_token g r token)) same-in ts a

  entries-same : (c : Tree_context) → AllEntries (λ t. Free r t → ⊥) c → AllEntries (SameIn g (with_token g r token)) c
  entries-same c a = record {
    core = λ k. all-same (c.core k) (a.core k);
    space = λ k. all-same (c.space k) (a.space k);
    side = λ d. All-weaker (λ (e : Extern_name × Type_tree). Free r e.1 → ⊥) (λ (e : Extern_name × Type_tree). SameIn g (with_token g r token) e.1) (λ e n. same-in e.1 n) (c.side d) (a.side d);
  }

  listed : (ds : List (Name × Option ValType)) → All (λ (d : Name × Option ValType). member d.0 (map (λ x. x.0) ds) ≡ true) ds
  listed [] = All-nil (λ (d : Name × Option ValType). member d.0 [] ≡ true)
  listed (d ∷ ds) =
      All-cons (λ (e : Name × Option ValType). member e.0 (map (λ x. x.0) (d ∷ ds)) ≡ true) d ds (ap (λ (b : Bool). b || member d.0 (map (λ x. x.0) ds)) (same-refl d.0))
      (All-weaker (λ (e : Name × Option ValType). member e.0 (map (λ x. x.0) ds) ≡ true) (λ (e : Name × Option ValType). member e.0 (map (λ x. x.0) (d ∷ ds)) ≡ true) (λ e m. either (same e.0 d.0) (member e.0 (map (λ x. x.0) ds)) m) ds (listed ds))
    where
      either : (a b : Bool) → b ≡ true → (a || b) ≡ true
      either true b e = refl
      either false b e = e

  pub same-at : (gs : List Group) (c : Tree_context) → IsNewTo r c → SameAt gs g (with_token g r token) c
  same-at gs c n = record {
    entries = entries-same c n.entries;
    own = own;
    defined = λ x o k. own x (defined_own c x (All-contains (λ (d : Name × Option ValType). member d.0 (map (λ y. y.0) c.defined) ≡ true) c.defined (x, Some o) (listed c.defined) k));
  }
    where
      own : (x : Name) → IsOwn c x → g x ≡ with_token g r token x
      own x o = old-read x (λ e. n.own (subst (λ (y : Name). IsOwn c y) e o))

-- ## The step

module _ (g : Name → Name) (v : Value_stack) (s : Tree_stack) (a : AgreeReadings g v s) (r token stamp stamp' : Name) (n : IsNewIn s r) (rep : ValType) where
  abbrev h : Name → Name
  h = with_token g r token

  abbrev ts : Tokens
  ts = v.top.defined ++ (token, Some rep) ∷ []

  top-agrees : AgreeContexts v.groups ts h v.top s.top
  top-agrees = context-reread v.groups g h v.top.defined ((token, Some rep) ∷ []) v.top s.top (same-at g r token v.groups s.top n.top) a.stacks.all.0

  token-there : Contains ts (token, Some rep)
  token-there = Contains-push v.top.defined (token, Some rep)

  is-token : IsToken ts token
  is-token = (Some rep, token-there)

  defines-agree : AgreeContexts v.groups ts h (define token (Some rep) v.top) (define r (Some rep) s.top)
  defines-agree = record {
    space = top-agrees.space;
    core = top-agrees.core;
    types = top-agrees.types;
    tokens = λ x o. go x (defines_own (λ y. y ≡ r) s.top r (Some rep) refl x o);
    defined = λ x o k. known x o (Contains-push_cases s.top.defined (r, Some rep) (x, Some o) k);
  }
    where
      go : (x : Name) → IsOwn s.top x ⊎ (x ≡ r) → IsToken ts (h x)
      go x (inl o) = top-agrees.tokens x o
      go x (inr e) = subst (λ (y : Name). IsToken ts (h y)) (sym e) (subst (λ (y : Name). IsToken ts y) (sym (new-read g r token)) is-token)

      known : (x : Name) (o : ValType) → Contains s.top.defined (x, Some o) ⊎ ◌≡◌ {A = Name × Option ValType} (r, Some rep) (x, Some o) → Contains ts (h x, Some o)
      known x o (inl k) = top-agrees.defined x o k
      known x o (inr e) = subst (λ (y : Name × Option ValType). Contains ts (h y.0, y.1)) e (subst (λ (y : Name). Contains ts (y, Some rep)) (sym (new-read g r token)) token-there)

  -- both refer to what is new
  reference-seen : seen (outside (λ x. x)) (resource_type token stamp) ≡ seen (outside h) (resource_type r stamp')
  reference-seen = λ j. node (resource (outer (sym (new-read g r token) j)) tt) none

  reference-agrees : Agrees v.groups h (typed (type_entry (resource_type token stamp))) (type_entry (resource_type r stamp'))
  reference-agrees = (2, (refl, ((refl, reference-seen), (refl, sym reference-seen), λ x. refl)))

  defined-follows : AgreeReadings h (apply (defines token (Some rep) ∷ joins_types (typed (type_entry (resource_type token stamp)))) v) (apply (defines r (Some rep) ∷ joins_types (type_entry (resource_type r stamp'))) s)
  defined-follows = record {
    stacks =
        appends-agree ts h in_types (change (defines token (Some rep)) v) (change (defines r (Some rep)) s) (typed (type_entry (resource_type token stamp))) (type_entry (resource_type r stamp'))
        (record {
          groups = a.stacks.groups;
          all = (defines-agree, contexts-reread v.groups g h v.top.defined ((token, Some rep) ∷ []) v.outer s.outer (All-weaker (IsNewTo r) (SameAt v.groups g h) (same-at g r token v.groups) s.outer n.outer) a.stacks.all.1);
        }) reference-agrees;
    sides = λ d. named-reread v.groups g h (v.top.side d) (s.top.side d)
        (All-weaker (λ (e : Extern_name × Type_tree). Free r e.1 → ⊥) (λ (e : Extern_name × Type_tree). SameIn g h e.1) (λ e m. same-in g r token e.1 m) (s.top.side d) (n.top.entries.side d)) (a.sides d);
  }

  dtor-there : (o : Option ℕ) → dtor_stands s.top o ≡ true → dtor_stands v.top o ≡ true
  dtor-there None e = refl
  dtor-there (Some i) e = go (core_item_at s.top kind.Func i) refl e
    where
      go : (o : Option Type_tree) → core_item_at s.top kind.Func i ≡ o → is_some o ≡ true → is_some (core_item_at v.top kind.Func i) ≡ true
      go None q e = cc
      go (Some t) q e = ap is_some (zip-get (Agrees v.groups g) (v.top.core (space_of kind.Func)) (s.top.core (space_of kind.Func)) i t (a.stacks.all.0.core (space_of kind.Func)) q).1

  if-made : {B : Type 0} (b : Bool) (x y : B) → cond b (Some x) None ≡ Some y → (b ≡ true) × (x ≡ y)
  if-made true x y e = (refl, some-inj e)
  if-made false x y e = cc

  pub resource-follows : (o : Option ℕ) (y : Step tree_reader) → is_concrete v.top.kind ≡ true → cond (is_concrete s.top.kind && dtor_stands s.top o) (Some (defines r (Some rep) ∷ joins_types (type_entry (resource_type r stamp')))) None ≡ Some y →
      (x : Step value_reader) × (cond (is_concrete v.top.kind && dtor_stands v.top o) (Some (defines token (Some rep) ∷ joins_types (typed (type_entry (resource_type token stamp))))) None ≡ Some x) × AgreeReadings h (apply x v) (apply y s)
  resource-follows o y k e =
      let m = if-made (is_concrete s.top.kind && dtor_stands s.top o) (defines r (Some rep) ∷ joins_types (type_entry (resource_type r stamp'))) y e in
      let one : Step value_reader = defines token (Some rep) ∷ joins_types (typed (type_entry (resource_type token stamp))) in (
        one,
        ap (λ (b : Bool). cond b (Some one) None) (and-true (is_concrete v.top.kind) (dtor_stands v.top o) k (dtor-there o (both-true (is_concrete s.top.kind) (dtor_stands s.top o) m.0).1)),
        subst (λ (z : Step tree_reader). AgreeReadings h (apply one v) (apply z s)) m.1 defined-follows,
      )
