-- Outer aliases: what is looked up in the states is what the stack says, and what becomes of them is its step.
use Rattle.std.proofs.Common.{◌≡◌, ℕ, zero, suc, ◌+◌, ◌<◌, ◌-◌, List, [], ◌∷◌, ◌++◌, length, get_or, slice_set, map, refl, sym, ◌∙◌, ap, subst, arith, Bool, true, false, not, ◌&&◌, cond, Some, None}
use Rattle.std.specs.Prelude.{Option, reverse, slice_get, nat_le, nat_lt}
use Rattle.std.specs.Option.{option_map, option_and_then, unwrap_or}
use Rattle.std.proofs.lemmas.Bool.{false≢true}
use Rattle.std.proofs.lemmas.Bool.Decides.{nat_tests}
use Rattle.std.proofs.lemmas.List.{reverse-reverse}
use Rattle.std.proofs.lemmas.Option.{slice_get-map}
use Rattle.wcv_core.specs.Limits.{max_entries, max_size}
use Rattle.wcv_core.specs.declared.error.ErrorKind.TheVariants as error
use Rattle.wcv_core.specs.Names.{Place}
use Rattle.wcv_syntax.specs.Model.{alias_item}
use Rattle.wcv_syntax.specs.declared.instance.ComponentAlias.{ComponentAlias}
use Rattle.wcv_syntax.specs.declared.instance.ComponentAlias.TheVariants as alias
use Rattle.wcv_syntax.specs.declared.instance.ComponentOuterAliasKind.{ComponentOuterAliasKind}
use Rattle.wcv_syntax.specs.declared.instance.ComponentOuterAliasKind.TheVariants as kind
use Rattle.wcv_types.specs.Arena.{Arena}
use Rattle.wcv_types.specs.Unfold.{Type_tree, trees}
use Rattle.wcv_types.specs.declared.shapes.ComponentEntityType.TheVariants as entity
use Rattle.wcv_types.proofs.Lists.{some-inj}
use Rattle.wcv_lower.specs.Aliases.{outer_items, outer_at, outer_joins, is_charged, is_concrete_one, concrete_at, aliased_one, aliased_at, charged, escapes, outer_room, outer_admitted, outer_alias_checks, alias_step}
use Rattle.wcv_lower.specs.Checks.{Counts, IsFree, full, too_many, if_found, is_none}
use Rattle.wcv_lower.specs.Context.{core_types, core_modules, in_types, in_components, is_concrete, at_distance, counts, charge}
use Rattle.wcv_lower.specs.Declared.{applied}
use Rattle.wcv_lower.specs.Step.{Step, change_at, on_outer, charges, change, apply}
use Rattle.wcv_lower.specs.Trees.{Tree_context, Tree_stack, tree_reader}
use Rattle.wcv_state.specs.Aliasing.{outer_id, outer_in, aliased_tree, with_aliased, charge_of, boundary_checks, after_target, charge_in, outer_id_checks, OuterFinds, AliasedOn}
use Rattle.wcv_spaces.specs.Contents.{Contents, kind_of, id_tree, core_tree, context_of, stack_of, with_charge}
use Rattle.wcv_spaces.specs.Entering.{room_counts}
use Rattle.wcv_spaces.specs.Promises.{Grew}
use Rattle.wcv_state.specs.Stack.{stay, ChangesLast, uncharged, all_uncharged, contexts_around, stack_on}
use Rattle.wcv_state.specs.declared.outer_aliases.Aliased.{Aliased}
use Rattle.wcv_state.specs.declared.outer_aliases.Aliased.TheVariants as aliased
use Rattle.wcv_spaces.proofs.JoinedSides.{counts_same}
use Rattle.wcv_spaces.proofs.Keeping.{with_core_context, with_id_context}
use Rattle.wcv_state.proofs.Nearest.{changed_known, get_nearest, set_nearest, reverse-cons, reverse-last, map-reverse, map-change, map-same}

-- no room for one more
pub one_more : (n : ℕ) → too_many max_entries (n + 1) ≡ full max_entries n
one_more n = let e : nat_lt max_entries (n + 1) ≡ nat_le max_entries n = grind (arith, nat_tests) in λ j. (error.Limit, e j) ∷ []

mapped_twice : {A B C : Type 0} (f : B → C) (g : A → B) (o : Option A) → option_map f (option_map g o) ≡ option_map (λ x. f (g x)) o
mapped_twice f g None = refl
mapped_twice f g (Some x) = refl

none_mapped : {A B : Type 0} (f : A → B) (o : Option A) → is_none (option_map f o) ≡ is_none o
none_mapped f None = refl
none_mapped f (Some x) = refl

-- one step behind another
apply-both : (p q : Step tree_reader) (s : Tree_stack) → apply (p ++ q) s ≡ apply q (apply p s)
apply-both [] q s = refl
apply-both (x ∷ p) q s = apply-both p q (change x s)

-- what is so of each of an option's elements is so of the one that it has
found_so : {I : Type 0} (to : I → Aliased) (o : Option I) (x : Aliased) (P : Aliased → Type 0) → ((y : I) → P (to y)) → option_map to o ≡ Some x → P x
found_so to None x P f e = cc
found_so to (Some y) x P f e = subst P (some-inj e) (f y)

-- ## What is found

module _ (a : Arena) where
  abbrev ctx : Contents → Tree_context
  ctx = context_of a

  item_here : (w : ComponentOuterAliasKind) (t : Contents) (i : ℕ) → slice_get (outer_items w (ctx t)) i ≡ option_map (aliased_tree a) (outer_id w t.spaces i)
  item_here kind.CoreModule t i = slice_get-map (core_tree (trees a.nodes) core_modules) t.spaces.core_modules i ∙ sym (mapped_twice (aliased_tree a) (λ x. aliased.Entity (entity.Module x)) (slice_get t.spaces.core_modules i))
  item_here kind.CoreType t i = slice_get-map (core_tree (trees a.nodes) core_types) t.spaces.core_types i ∙ sym (mapped_twice (aliased_tree a) aliased.CoreType (slice_get t.spaces.core_types i))
  item_here kind.Ty t i = slice_get-map (id_tree (trees a.nodes) in_types) t.spaces.types i ∙ sym (mapped_twice (aliased_tree a) (λ x. aliased.Entity (entity.Ty x x)) (slice_get t.spaces.types i))
  item_here kind.Component t i = slice_get-map (id_tree (trees a.nodes) in_components) t.spaces.components i ∙ sym (mapped_twice (aliased_tree a) (λ x. aliased.Entity (entity.Component x)) (slice_get t.spaces.components i))

  module _ (outer : List Contents) (s : Contents) where
    abbrev whole : List Contents
    whole = outer ++ s ∷ []

    abbrev stack : Tree_stack
    stack = stack_on a outer s

    contexts_here : ctx s ∷ contexts_around a outer ≡ map ctx (reverse (outer ++ s ∷ []))
    contexts_here = ap (λ (cs : List Tree_context). ctx s ∷ cs) (sym (map-reverse ctx outer)) ∙ ap (map ctx) (sym (reverse-last outer s))

    distance_here : (n : ℕ) → at_distance n (stack_on a outer s) ≡ option_map ctx (slice_get (reverse (outer ++ s ∷ [])) n)
    distance_here n = ap (λ (cs : List Tree_context). slice_get cs n) contexts_here ∙ slice_get-map ctx (reverse (outer ++ s ∷ [])) n

    pub outer_here : (w : ComponentOuterAliasKind) (n i : ℕ) → outer_at (stack_on a outer s) w n i ≡ option_map (aliased_tree a) (outer_in (outer ++ s ∷ []) w n i)
    outer_here w n i = ap (option_and_then (λ (c : Tree_context). slice_get (outer_items w c) i)) (distance_here n) ∙ go (slice_get (reverse whole) n)
      where
        go : (o : Option Contents) → option_and_then (λ (c : Tree_context). slice_get (outer_items w c) i) (option_map ctx o) ≡ option_map (aliased_tree a) (option_and_then (λ (t : Contents). outer_id w t.spaces i) o)
        go None = refl
        go (Some t) = item_here w t i

    concrete_here : (n : ℕ) → concrete_at n (stack_on a outer s) ≡ is_concrete_one (option_map ctx (slice_get (reverse (outer ++ s ∷ [])) n))
    concrete_here n = ap is_concrete_one (distance_here n)

    aliased_here : (n : ℕ) → aliased_at n (stack_on a outer s) ≡ aliased_one (option_map ctx (slice_get (reverse (outer ++ s ∷ [])) n))
    aliased_here n = ap aliased_one (distance_here n)

    -- ## Causes

    -- the state right after the target is there
    before_there : {A : Type 0} (xs : List A) (n : ℕ) (x : A) → slice_get xs (suc n) ≡ Some x → (y : A) × (slice_get xs n ≡ Some y)
    before_there [] n x e = cc
    before_there (z ∷ xs) zero x e = (z, refl)
    before_there (z ∷ xs) (suc n) x e = before_there xs n x e

    target_there : (w : ComponentOuterAliasKind) (n i : ℕ) (x : Aliased) → outer_in (outer ++ s ∷ []) w n i ≡ Some x → (t : Contents) × (slice_get (reverse (outer ++ s ∷ [])) n ≡ Some t) × (outer_id w t.spaces i ≡ Some x)
    target_there w n i x e = go (slice_get (reverse whole) n) refl e
      where
        go : (o : Option Contents) → slice_get (reverse whole) n ≡ o → option_and_then (λ (t : Contents). outer_id w t.spaces i) o ≡ Some x → (t : Contents) × (slice_get (reverse whole) n ≡ Some t) × (outer_id w t.spaces i ≡ Some x)
        go None q f = cc
        go (Some t) q f = (t, q, f)

    pub boundary_there : (w : ComponentOuterAliasKind) (n i : ℕ) (x : Aliased) → outer_in (outer ++ s ∷ []) w (suc n) i ≡ Some x → (b : Contents) × (slice_get (reverse (outer ++ s ∷ [])) n ≡ Some b)
    boundary_there w n i x e = let t = target_there w (suc n) i x e in before_there (reverse whole) n t.0 t.1

    is_concrete_here : (n : ℕ) (b : Contents) → slice_get (reverse (outer ++ s ∷ [])) n ≡ Some b → concrete_at n (stack_on a outer s) ≡ is_concrete (kind_of b.kind)
    is_concrete_here n b e = concrete_here n ∙ ap (λ (o : Option Contents). is_concrete_one (option_map ctx o)) e

    is_aliased_here : (n : ℕ) (b : Contents) → slice_get (reverse (outer ++ s ∷ [])) n ≡ Some b → aliased_at n (stack_on a outer s) ≡ b.aliased
    is_aliased_here n b e = aliased_here n ∙ ap (λ (o : Option Contents). aliased_one (option_map ctx o)) e

    -- ## Causes

    escapes_here : (w : ComponentOuterAliasKind) (n i : ℕ) (x : Aliased) → outer_in (outer ++ s ∷ []) w n i ≡ Some x →
        escapes (stack_on a outer s) w n (aliased_tree a x) ≡ if_found (λ (t : Contents). boundary_checks w t (aliased_tree a x)) (after_target (outer ++ s ∷ []) n)
    escapes_here w zero i x e = refl
    escapes_here w (suc n) i x e =
        let b = boundary_there w n i x e in
        let t : Type_tree = aliased_tree a x in
        (λ j. (error.ResourceScope, is_charged w && (is_concrete_here n b.0 b.1 j && tree_reader.has_free t))
        ∷ (error.Limit, is_charged w && (is_concrete_here n b.0 b.1 j && nat_lt max_size (is_aliased_here n b.0 b.1 j + tree_reader.size t))) ∷ []) ∙
        ap (if_found (λ (t : Contents). boundary_checks w t (aliased_tree a x))) (sym b.1)

    room_here : (w : ComponentOuterAliasKind) → outer_room w (counts (ctx s)) ≡ outer_room w (room_counts s.spaces)
    room_here kind.CoreModule = ap (λ (c : Counts). outer_room kind.CoreModule c) (counts_same a s)
    room_here kind.CoreType = ap (λ (c : Counts). outer_room kind.CoreType c) (counts_same a s)
    room_here kind.Ty = ap (λ (c : Counts). outer_room kind.Ty c) (counts_same a s)
    room_here kind.Component = ap (λ (c : Counts). outer_room kind.Component c) (counts_same a s)

    -- the causes are those of the stack
    pub checks_here : (w : ComponentOuterAliasKind) (n i : ℕ) → outer_alias_checks (stack_on a outer s) w n i ≡ outer_id_checks a (outer ++ s ∷ []) s w n i
    checks_here w n i =
        let looked : is_none (outer_at stack w n i) ≡ is_none (outer_in whole w n i) = ap is_none (outer_here w n i) ∙ none_mapped (aliased_tree a) (outer_in whole w n i) in
        let found : if_found (escapes stack w n) (outer_at stack w n i) ≡ if_found (λ (x : Aliased). if_found (λ (t : Contents). boundary_checks w t (aliased_tree a x)) (after_target whole n)) (outer_in whole w n i) =
        ap (if_found (escapes stack w n)) (outer_here w n i) ∙ go (outer_in whole w n i) refl in
        λ j. (error.AliasKind, not (is_concrete (kind_of s.kind)) && not (outer_admitted w)) ∷ (error.OutOfBounds, looked j) ∷ (found j ++ room_here w j)
      where
        go : (o : Option Aliased) → outer_in whole w n i ≡ o → if_found (escapes stack w n) (option_map (aliased_tree a) o) ≡ if_found (λ (x : Aliased). if_found (λ (t : Contents). boundary_checks w t (aliased_tree a x)) (after_target whole n)) o
        go None e = refl
        go (Some x) e = escapes_here w n i x e

  -- ## What becomes of the states

  -- what is found joins its space
  joins_here : (w : ComponentOuterAliasKind) (t : Contents) (i : ℕ) (x : Aliased) → outer_id w t.spaces i ≡ Some x → (s : Contents) (cs : List Tree_context) →
      apply (outer_joins {X = tree_reader} w (aliased_tree a x)) (stack_of a s cs) ≡ stack_of a (with_aliased x s) cs
  joins_here kind.CoreModule t i x e s cs =
      found_so (λ y. aliased.Entity (entity.Module y)) (slice_get t.spaces.core_modules i) x (λ z. apply (outer_joins {X = tree_reader} kind.CoreModule (aliased_tree a z)) (stack_of a s cs) ≡ stack_of a (with_aliased z s) cs)
      (λ y j. record { top = sym (with_core_context a core_modules y s) j; outer = cs; groups = a.core }) e
  joins_here kind.CoreType t i x e s cs =
      found_so aliased.CoreType (slice_get t.spaces.core_types i) x (λ z. apply (outer_joins {X = tree_reader} kind.CoreType (aliased_tree a z)) (stack_of a s cs) ≡ stack_of a (with_aliased z s) cs)
      (λ y j. record { top = sym (with_core_context a core_types y s) j; outer = cs; groups = a.core }) e
  joins_here kind.Ty t i x e s cs =
      found_so (λ y. aliased.Entity (entity.Ty y y)) (slice_get t.spaces.types i) x (λ z. apply (outer_joins {X = tree_reader} kind.Ty (aliased_tree a z)) (stack_of a s cs) ≡ stack_of a (with_aliased z s) cs)
      (λ y j. record { top = sym (with_id_context a in_types y s) j; outer = cs; groups = a.core }) e
  joins_here kind.Component t i x e s cs =
      found_so (λ y. aliased.Entity (entity.Component y)) (slice_get t.spaces.components i) x (λ z. apply (outer_joins {X = tree_reader} kind.Component (aliased_tree a z)) (stack_of a s cs) ≡ stack_of a (with_aliased z s) cs)
      (λ y j. record { top = sym (with_id_context a in_components y s) j; outer = cs; groups = a.core }) e

  -- nothing is charged
  charge_none : (c : Tree_context) → charge {X = tree_reader} 0 c ≡ c
  charge_none c = let e : c.aliased + 0 ≡ c.aliased = omega arith in λ j. record c { aliased = e j }

  change_none : (cs : List Tree_context) (k : ℕ) → change_at k (charge {X = tree_reader} 0) cs ≡ cs
  change_none [] k = refl
  change_none (c ∷ cs) zero = ap (λ (d : Tree_context). d ∷ cs) (charge_none c)
  change_none (c ∷ cs) (suc k) = ap (λ (ds : List Tree_context). c ∷ ds) (change_none cs k)

  outer_none : (m : ℕ) (s : Tree_stack) → on_outer m (charge {X = tree_reader} 0) s ≡ s
  outer_none zero s = λ j. record s { top = charge_none s.top j }
  outer_none (suc k) s = λ j. record s { outer = change_none s.outer k j }

  -- what a charge makes of a stack
  charged_here : (m : ℕ) (z : ℕ) (c : Bool) (s : Tree_stack) → apply (cond {A = Step tree_reader} c (charges m z ∷ []) []) s ≡ on_outer m (charge (cond c z 0)) s
  charged_here m z true s = refl
  charged_here m z false s = sym (outer_none m s)

  -- so of states
  around_charged : (outer : List Contents) (k z : ℕ) → contexts_around a (reverse (change_at k (with_charge z) (reverse outer))) ≡ change_at k (charge {X = tree_reader} z) (contexts_around a outer)
  around_charged outer k z =
      let q : List Contents = change_at k (with_charge z) (reverse outer) in
      ap reverse (map-reverse ctx q) ∙ reverse-reverse (map ctx q) ∙ map-change ctx (with_charge z) (charge {X = tree_reader} z) (λ s. refl) (reverse outer) k ∙ ap (change_at k (charge {X = tree_reader} z)) (map-reverse ctx outer)

-- ## The states

-- those around the innermost, and the innermost, once that size was charged to the one so far out
abbrev pub outer_after : ℕ → ℕ → List Contents → List Contents
outer_after zero z outer = outer
outer_after (suc zero) z outer = outer
outer_after (suc (suc k)) z outer = reverse (change_at k (with_charge z) (reverse outer))

abbrev pub top_after : ℕ → ℕ → Contents → Contents
top_after zero z s = s
top_after (suc zero) z s = with_charge z s
top_after (suc (suc k)) z s = s

aliased_after : (x : Aliased) (n z : ℕ) (s : Contents) → with_aliased x (top_after n z s) ≡ top_after n z (with_aliased x s)
aliased_after (aliased.CoreType i) zero z s = refl
aliased_after (aliased.Entity x) zero z s = refl
aliased_after (aliased.CoreType i) (suc zero) z s = refl
aliased_after (aliased.Entity x) (suc zero) z s = refl
aliased_after (aliased.CoreType i) (suc (suc k)) z s = refl
aliased_after (aliased.Entity x) (suc (suc k)) z s = refl

module _ (a : Arena) (outer : List Contents) (s : Contents) (w : ComponentOuterAliasKind) (i : ℕ) (x : Aliased) where
  abbrev st : Tree_stack
  st = stack_on a outer s

  abbrev tr : Type_tree
  tr = aliased_tree a x

  -- the stack, once it was charged
  stack_charged : (n : ℕ) → outer_in (outer ++ s ∷ []) w n i ≡ Some x → (z : ℕ) → z ≡ charge_in a (outer ++ s ∷ []) w n x →
      apply (charged st w n tr) st ≡ stack_of a (top_after n z s) (contexts_around a (outer_after n z outer))
  stack_charged zero e z q = refl
  stack_charged (suc m) e z q =
      let b = boundary_there a outer s w m i x e in
      let c : concrete_at m st ≡ is_concrete (kind_of b.0.kind) = is_concrete_here a outer s m b.0 b.1 in
      let size : charge_of w b.0 tr ≡ z = sym (q ∙ ap (λ (o : Option Contents). unwrap_or (option_map (λ (t : Contents). charge_of w t tr) o) 0) b.1) in
      ap (λ (k : Bool). apply (cond {A = Step tree_reader} (is_charged w && k) (charges m (tree_reader.size tr) ∷ []) []) st) c ∙
      charged_here a m (tree_reader.size tr) (is_charged w && is_concrete (kind_of b.0.kind)) st ∙ ap (λ (k : ℕ). on_outer m (charge k) st) size ∙ go m
    where
      go : (m : ℕ) → on_outer m (charge {X = tree_reader} z) st ≡ stack_of a (top_after (suc m) z s) (contexts_around a (outer_after (suc m) z outer))
      go zero = refl
      go (suc k) = λ j. record st { outer = sym (around_charged a outer k z) j }

  pub outer_grows : (n : ℕ) → outer_in (outer ++ s ∷ []) w n i ≡ Some x → (z : ℕ) → z ≡ charge_in a (outer ++ s ∷ []) w n x →
      applied st (alias_step st (alias.Outer w n i)) ≡ Some (stack_of a (top_after n z (with_aliased x s)) (contexts_around a (outer_after n z outer)))
  outer_grows n e z q =
      let t = target_there a outer s w n i x e in
      let cs : List Tree_context = contexts_around a (outer_after n z outer) in
      ap (λ (o : Option Type_tree). applied st (option_map (λ y. charged st w n y ++ outer_joins w y) o)) (outer_here a outer s w n i ∙ ap (option_map (aliased_tree a)) e) ∙
      ap Some (apply-both (charged st w n tr) (outer_joins w tr) st ∙ ap (apply (outer_joins {X = tree_reader} w tr)) (stack_charged n e z q) ∙ joins_here a w t.0 i x t.2 (top_after n z s) cs ∙
      ap (λ (y : Contents). stack_of a y cs) (aliased_after x n z s))

  -- but for the sizes, those around stay
  pub outer_same : (n z : ℕ) → all_uncharged (outer_after n z outer) ≡ all_uncharged outer
  outer_same zero z = refl
  outer_same (suc zero) z = refl
  outer_same (suc (suc k)) z =
      map-reverse uncharged (change_at k (with_charge z) (reverse outer)) ∙ ap reverse (map-same uncharged (with_charge z) (λ t. refl) (reverse outer) k ∙ map-reverse uncharged outer) ∙ reverse-reverse (map uncharged outer)

-- the states, the nearest first
abbrev pub charged_states : ℕ → ℕ → List Contents → List Contents
charged_states zero z xs = xs
charged_states (suc m) z xs = change_at m (with_charge z) xs

pub after_states : (n z : ℕ) (outer : List Contents) (s : Contents) (xs : List Contents) → reverse xs ≡ charged_states n z (s ∷ reverse outer) → xs ≡ outer_after n z outer ++ top_after n z s ∷ []
after_states zero z outer s xs e = sym (reverse-reverse xs) ∙ ap reverse e ∙ reverse-cons s (reverse outer) ∙ ap (λ (ys : List Contents). ys ++ s ∷ []) (reverse-reverse outer)
after_states (suc zero) z outer s xs e = sym (reverse-reverse xs) ∙ ap reverse e ∙ reverse-cons (with_charge z s) (reverse outer) ∙ ap (λ (ys : List Contents). ys ++ with_charge z s ∷ []) (reverse-reverse outer)
after_states (suc (suc k)) z outer s xs e = sym (reverse-reverse xs) ∙ ap reverse e ∙ reverse-cons s (change_at k (with_charge z) (reverse outer))

-- the innermost became another
pub states_pushed : (ss outer : List Contents) (s y : Contents) → ss ≡ outer ++ s ∷ [] → 0 < length ss → reverse (slice_set ss (length ss - 1) y) ≡ y ∷ reverse outer
states_pushed ss outer s y e h =
    let k : length ss - 1 ≡ length ss - 1 - 0 = omega arith in
    ap (λ (j : ℕ). reverse (slice_set ss j y)) k ∙ set_nearest ss 0 y h ∙ ap (change_at 0 (λ z. y)) (ap reverse e ∙ reverse-last outer s)

-- and the one so far out was charged
pub states_charged : (xs : List Contents) (m z : ℕ) (u v : Contents) → m < length xs → u ≡ get_or xs (length xs - 1 - m) u → v ≡ with_charge z u → reverse (slice_set xs (length xs - 1 - m) v) ≡ change_at m (with_charge z) (reverse xs)
states_charged xs m z u v h e q = set_nearest xs m v h ∙ changed_known (with_charge z) (reverse xs) m u v (get_nearest xs m u h ∙ ap Some (sym e)) q

-- ## What the call promises

top_live : (x : Aliased) (n z : ℕ) (s : Contents) → (top_after n z (with_aliased x s)).spent ≡ s.spent
top_live (aliased.CoreType i) zero z s = refl
top_live (aliased.Entity x) zero z s = refl
top_live (aliased.CoreType i) (suc zero) z s = refl
top_live (aliased.Entity x) (suc zero) z s = refl
top_live (aliased.CoreType i) (suc (suc k)) z s = refl
top_live (aliased.Entity x) (suc (suc k)) z s = refl

-- an outer alias
pub outer_aliased : (a : Arena) (ss ss' outer : List Contents) (s : Contents) (w : ComponentOuterAliasKind) (n i : ℕ) (x : Aliased) (z : ℕ) → ss ≡ outer ++ s ∷ [] → OuterFinds a ss w n i x z → IsFree (outer_id_checks a ss s w n i) → s.spent ≡ false →
    reverse ss' ≡ charged_states n z (with_aliased x s ∷ reverse outer) → AliasedOn a a ss ss' (alias.Outer w n i)
outer_aliased a ss ss' outer s w n i x z e f free live r = record {
  outer = outer;
  outer' = outer_after n z outer;
  old = s;
  new = top_after n z (with_aliased x s);
  was = e;
  becomes = after_states n z outer (with_aliased x s) ss' r;
  same = outer_same a outer s w i x n z;
  grown = outer_grows a outer s w i x n (subst (λ (xs : List Contents). outer_in xs w n i ≡ Some x) e f.found) z (f.charge ∙ ap (λ (xs : List Contents). charge_in a xs w n x) e);
  free = subst IsFree (sym (checks_here a outer s w n i)) (subst (λ (xs : List Contents). IsFree (outer_id_checks a xs s w n i)) e free);
  live = top_live x n z s ∙ live;
}

-- an alias that looks at the innermost alone
pub inside_aliased : (a : Arena) (ss ss' : List Contents) (x : ComponentAlias) (w : ChangesLast stay ss ss') → ((p : Place) → Grew a a (contexts_around a w.outer) p w.old w.new (alias_item x)) → AliasedOn a a ss ss' x
inside_aliased a ss ss' x w g = record {
  outer = w.outer;
  outer' = w.outer;
  old = w.old;
  new = w.new;
  was = w.was;
  becomes = w.becomes;
  same = refl;
  grown = (g []).grown;
  free = (g []).free;
  live = (g []).live;
}

-- ## What crosses into a state

module _ (w : ComponentOuterAliasKind) (s : Contents) (t : Type_tree) where
  -- the size is
  pub crosses : (is_charged w && is_concrete (kind_of s.kind)) ≡ true → (tree_reader.size t ≡ charge_of w s t) × (boundary_checks w s t ≡ (error.ResourceScope, tree_reader.has_free t) ∷ (error.Limit, nat_lt max_size (s.aliased + tree_reader.size t)) ∷ [])
  crosses e = (
    sym (ap (λ (b : Bool). cond b (tree_reader.size t) 0) e),
    λ j. (error.ResourceScope, both (is_charged w) (is_concrete (kind_of s.kind)) (tree_reader.has_free t) e j) ∷ (error.Limit, both (is_charged w) (is_concrete (kind_of s.kind)) (nat_lt max_size (s.aliased + tree_reader.size t)) e j) ∷ [],
  )
    where
      both : (a b c : Bool) → (a && b) ≡ true → (a && (b && c)) ≡ c
      both true true c e = refl
      both true false c e = absurd (false≢true e)
      both false b c e = absurd (false≢true e)
