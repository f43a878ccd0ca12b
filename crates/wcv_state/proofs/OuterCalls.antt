-- What the calls for an outer alias look at, and what they make of the states.
use Rattle.std.proofs.Common.{◌≡◌, ◌≢◌, ℕ, zero, suc, ◌+◌, ◌<◌, ◌≤◌, ◌-◌, List, [], ◌∷◌, ◌++◌, length, get_or, slice_set, slice_index_or, refl, sym, ◌∙◌, ap, subst, arith, false, not, ◌&&◌, Some, None, All}
use Rattle.std.specs.Prelude.{Option, reverse, slice_get, option_to_list}
use Rattle.std.specs.Option.{option_map, option_and_then}
use Rattle.std.proofs.lemmas.List.{length-set, length-reverse}
use Rattle.std.proofs.lemmas.List.Elements.{All-nil, All-cons, All-head}
use Rattle.std.proofs.lemmas.Option.{slice_get_within, slice_get_past}
use Rattle.wcv_core.specs.declared.error.Error.{Error}
use Rattle.wcv_core.specs.declared.error.ErrorKind.TheVariants as error
use Rattle.wcv_core.specs.Names.{Place}
use Rattle.wcv_core.specs.Refusal.{error_kind}
use Rattle.wcv_syntax.specs.Model.{alias_item}
use Rattle.wcv_syntax.specs.declared.instance.ComponentAlias.{ComponentAlias}
use Rattle.wcv_syntax.specs.declared.instance.ComponentAlias.TheVariants as alias
use Rattle.wcv_syntax.specs.declared.instance.ComponentOuterAliasKind.{ComponentOuterAliasKind}
use Rattle.wcv_syntax.specs.declared.instance.ComponentOuterAliasKind.TheVariants as kind
use Rattle.wcv_types.specs.Arena.{Arena}
use Rattle.wcv_types.specs.declared.shapes.ComponentEntityType.TheVariants as entity
use Rattle.wcv_types.proofs.Lists.{some-inj}
use Rattle.wcv_lower.specs.Aliases.{outer_admitted, outer_room}
use Rattle.wcv_lower.specs.Checks.{Checks, IsFree, if_found, is_none, missing}
use Rattle.wcv_lower.specs.Context.{core_types, core_modules, in_types, in_components, is_concrete}
use Rattle.wcv_lower.specs.Growth.{call_checks}
use Rattle.wcv_lower.specs.Names.{Names}
use Rattle.wcv_lower.specs.Step.{change_at}
use Rattle.wcv_lower.specs.Trees.{Tree_context, tree_maker}
use Rattle.wcv_lower.proofs.Causes.{cause_left, cause_right, free_both}
use Rattle.wcv_state.specs.Aliasing.{outer_id, outer_in, aliased_tree, with_aliased, AliasedStands, boundary_checks, after_target, outer_id_checks, OuterFinds, AliasedOn}
use Rattle.wcv_spaces.specs.Contents.{Contents, kind_of, stack_of, with_charge, CoreIdStands, StateStands}
use Rattle.wcv_spaces.specs.Entering.{room_counts}
use Rattle.wcv_spaces.specs.Promises.{MemoryOrCausedBy, Keeps, Grew}
use Rattle.wcv_state.specs.Stack.{IsOpen, KeepsOn, innermost, around, contexts_around, stack_on}
use Rattle.wcv_state.specs.declared.outer_aliases.Aliased.{Aliased}
use Rattle.wcv_state.specs.declared.outer_aliases.Aliased.TheVariants as aliased
use Rattle.wcv_spaces.proofs.Calls.{caused_more}
use Rattle.wcv_state.proofs.ExportAliases.{entity_keeps}
use Rattle.wcv_spaces.proofs.Found.{stands_at}
use Rattle.wcv_spaces.proofs.Keeping.{all_at, keeps_charged, keeps_with_core}
use Rattle.wcv_state.proofs.Nearest.{get_nearest, reverse-last}
use Rattle.wcv_state.proofs.OuterAliases.{charged_states, after_states, states_pushed, states_charged, checks_here, outer_aliased, inside_aliased}
use Rattle.wcv_state.proofs.Stacks.{parted, indexed, kept_on, kept_both, kept_set}

-- ## What stands at an index

-- what is so of an element that an option has is so of the one that it gives
found_at : {I : Type 0} (to : I → Aliased) (o : Option I) (x : Aliased) (P : Aliased → Type 0) → ((y : I) → o ≡ Some y → P (to y)) → option_map to o ≡ Some x → P x
found_at to None x P f e = cc
found_at to (Some y) x P f e = subst P (some-inj e) (f y refl)

-- it stands
pub outer_stands : (a : Arena) (t : Contents) → StateStands a t → (w : ComponentOuterAliasKind) (i : ℕ) (x : Aliased) → outer_id w t.spaces i ≡ Some x → AliasedStands a x
outer_stands a t h kind.CoreModule i x e =
    found_at (λ y. aliased.Entity (entity.Module y)) (slice_get t.spaces.core_modules i) x (AliasedStands a) (λ y q. all_at (CoreIdStands a core_modules) t.spaces.core_modules i y (h.core core_modules) q) e
outer_stands a t h kind.CoreType i x e = found_at aliased.CoreType (slice_get t.spaces.core_types i) x (AliasedStands a) (λ y q. all_at (CoreIdStands a core_types) t.spaces.core_types i y (h.core core_types) q) e
outer_stands a t h kind.Ty i x e = found_at (λ y. aliased.Entity (entity.Ty y y)) (slice_get t.spaces.types i) x (AliasedStands a) (λ y q. stands_at a t h in_types i y q) e
outer_stands a t h kind.Component i x e = found_at (λ y. aliased.Entity (entity.Component y)) (slice_get t.spaces.components i) x (AliasedStands a) (λ y q. stands_at a t h in_components i y q) e

-- ## So far out

-- the state so far out
pub out_there : (ss : List Contents) (n : ℕ) (t : Contents) → n < length ss → t ≡ slice_index_or ss (length ss - 1 - n) t → slice_get (reverse ss) n ≡ Some t
out_there ss n t h e = get_nearest ss n t h ∙ ap Some (sym e)

-- the one right after it
pub after_there : (ss : List Contents) (n : ℕ) (t : Contents) → n ≢ 0 → n ≤ length ss → t ≡ slice_index_or ss (length ss - n) t → after_target ss n ≡ Some t
after_there ss zero t z h e = absurd (z refl)
after_there ss (suc m) t z h e =
    let k : length ss - suc m ≡ length ss - 1 - m = omega arith in
    out_there ss m t (omega (arith, h)) (e ∙ ap (λ (j : ℕ). slice_index_or ss j t) k)

module _ (ss : List Contents) (w : ComponentOuterAliasKind) (n i : ℕ) where
  -- what stands in it
  pub found_there : (t : Contents) → n < length ss → t ≡ slice_index_or ss (length ss - 1 - n) t → outer_in ss w n i ≡ outer_id w t.spaces i
  found_there t h e = ap (option_and_then (λ (s : Contents). outer_id w s.spaces i)) (out_there ss n t h e)

  -- there is none
  pub beyond : length ss ≤ n → outer_in ss w n i ≡ None
  beyond h = ap (option_and_then (λ (s : Contents). outer_id w s.spaces i)) (slice_get_past (reverse ss) n (omega (arith, length-reverse ss, h)))

  -- there is one
  pub reaches : (x : Aliased) → outer_in ss w n i ≡ Some x → n < length ss
  reaches x e = go (slice_get (reverse ss) n) refl e
    where
      go : (o : Option Contents) → slice_get (reverse ss) n ≡ o → option_and_then (λ (s : Contents). outer_id w s.spaces i) o ≡ Some x → n < length ss
      go None q f = cc
      go (Some t) q f = omega (arith, length-reverse ss, slice_get_within (reverse ss) n t q)

-- ## Causes

module _ (a : Arena) (ss : List Contents) (s : Contents) (w : ComponentOuterAliasKind) (n i : ℕ) where
  abbrev scope : Checks
  scope = (error.AliasKind, not (is_concrete (kind_of s.kind)) && not (outer_admitted w)) ∷ []

  abbrev crossing : Aliased → Checks
  crossing x = if_found (λ (t : Contents). boundary_checks w t (aliased_tree a x)) (after_target ss n)

  abbrev charged : Checks
  charged = if_found (λ (x : Aliased). if_found (λ (t : Contents). boundary_checks w t (aliased_tree a x)) (after_target ss n)) (outer_in ss w n i)

  abbrev room : Checks
  room = outer_room w (room_counts s.spaces)

  abbrev behind : Checks
  behind = missing (outer_in ss w n i) ++ (charged ++ room)

  pub out_free : (x : Aliased) → outer_in ss w n i ≡ Some x → IsFree scope → IsFree (crossing x) → IsFree room → IsFree (outer_id_checks a ss s w n i)
  out_free x e u c r = (u.0, (ap is_none e, free_both charged room (subst IsFree (ap (if_found crossing) (sym e)) c) r))

  module _ {M : Type 0} (offset : ℕ) (e : Error M) where
    pub scope_caused : MemoryOrCausedBy scope offset e → MemoryOrCausedBy (outer_id_checks a ss s w n i) offset e
    scope_caused t = caused_more scope (outer_id_checks a ss s w n i) offset e (cause_left scope behind (error_kind e)) t

    pub none_caused : (o : Option Aliased) → outer_in ss w n i ≡ o → MemoryOrCausedBy (missing o) offset e → MemoryOrCausedBy (outer_id_checks a ss s w n i) offset e
    none_caused o q t =
        caused_more (missing (outer_in ss w n i)) (outer_id_checks a ss s w n i) offset e (λ c. cause_right scope behind (error_kind e) (cause_left (missing (outer_in ss w n i)) (charged ++ room) (error_kind e) c))
        (subst (λ (y : Option Aliased). MemoryOrCausedBy (missing y) offset e) (sym q) t)

    pub crossing_caused : (x : Aliased) → outer_in ss w n i ≡ Some x → MemoryOrCausedBy (crossing x) offset e → MemoryOrCausedBy (outer_id_checks a ss s w n i) offset e
    crossing_caused x q t =
        caused_more charged (outer_id_checks a ss s w n i) offset e
        (λ c. cause_right scope behind (error_kind e) (cause_right (missing (outer_in ss w n i)) (charged ++ room) (error_kind e) (cause_left charged room (error_kind e) c)))
        (subst (λ (cs : Checks). MemoryOrCausedBy cs offset e) (ap (if_found crossing) (sym q)) t)

    pub room_caused : MemoryOrCausedBy room offset e → MemoryOrCausedBy (outer_id_checks a ss s w n i) offset e
    room_caused t =
        caused_more room (outer_id_checks a ss s w n i) offset e (λ c. cause_right scope behind (error_kind e) (cause_right (missing (outer_in ss w n i)) (charged ++ room) (error_kind e) (cause_right charged room (error_kind e) c))) t

-- ## What becomes of the states

-- what was aliased joins a state
pub aliased_keeps : (a : Arena) (s : Contents) → StateStands a s → (x : Aliased) → AliasedStands a x → Keeps a a s (with_aliased x s)
aliased_keeps a s h (aliased.CoreType i) p = keeps_with_core a core_types i s h p
aliased_keeps a s h (aliased.Entity x) p = entity_keeps a s h x p

aliased_same : (x : Aliased) (s : Contents) → (with_aliased x s).aliased ≡ s.aliased
aliased_same (aliased.CoreType i) s = refl
aliased_same (aliased.Entity x) s = refl

kept_stand : (a b : Arena) (ss ts : List Contents) → KeepsOn a b ss ts → All (StateStands b) ts
kept_stand a b [] [] h = All-nil (StateStands b)
kept_stand a b [] (t ∷ ts) h = elim h [ ]
kept_stand a b (s ∷ ss) [] h = elim h [ ]
kept_stand a b (s ∷ ss) (t ∷ ts) h = All-cons (StateStands b) t ts h.0.stands (kept_stand a b ss ts h.1)

-- the first of them became another, into which as much was aliased
same_charge : (outer : List Contents) (s y : Contents) (m : ℕ) (u : Contents) → y.aliased ≡ s.aliased → slice_get (y ∷ outer) m ≡ Some u → (v : Contents) × (slice_get (s ∷ outer) m ≡ Some v) × (u.aliased ≡ v.aliased)
same_charge outer s y zero u e q = (s, refl, ap (λ (z : Contents). z.aliased) (sym (some-inj q)) ∙ e)
same_charge outer s y (suc m) u e q = (u, q, refl)

module _ (a : Arena) (ss : List Contents) (w : ComponentOuterAliasKind) (n i : ℕ) (x : Aliased) (z k : ℕ) (s y : Contents) (some : 0 < length ss) (last : k ≡ length ss - 1) (at : s ≡ slice_index_or ss k s) (is : y ≡ with_aliased x s) (ready : All (IsOpen a) ss) (f : OuterFinds a ss w n i x z) where
  abbrev s₀ : Contents
  s₀ = innermost ss

  abbrev rest : List Contents
  rest = reverse (around ss)

  is_last : s ≡ innermost ss
  is_last = at ∙ indexed ss k s some last

  is_open : IsOpen a s
  is_open = subst (IsOpen a) (sym at) (ready k s (omega (arith, last, some)))

  now : y ≡ with_aliased x s₀
  now = is ∙ ap (with_aliased x) is_last

  live : s₀.spent ≡ false
  live = ap (λ (t : Contents). t.spent) (sym is_last) ∙ is_open.live

  pushed : reverse (slice_set ss k y) ≡ y ∷ reverse (around ss)
  pushed = ap (λ (j : ℕ). reverse (slice_set ss j y)) last ∙ states_pushed ss (around ss) s₀ y (parted ss some) some

  pub push_keeps : KeepsOn a a ss (slice_set ss k y)
  push_keeps = kept_on ss k s y last some at a a ready (subst (Keeps a a s) (sym is) (aliased_keeps a s is_open.stands x f.stands))

  -- in the innermost itself
  pub push_aliases : n ≡ 0 → IsFree (outer_id_checks a ss (innermost ss) w n i) → AliasedOn a a ss (slice_set ss k y) (alias.Outer w n i)
  push_aliases e free =
      outer_aliased a ss (slice_set ss k y) (around ss) s₀ w n i x z (parted ss some) f free live
      (pushed ∙ ap (λ (t : Contents). t ∷ rest) now ∙ ap (λ (m : ℕ). charged_states m z (with_aliased x s₀ ∷ rest)) (sym e))

  -- further out
  module _ (m j : ℕ) (u : Contents) (e : n ≡ suc m) (q : j ≡ k - m) (b : u ≡ slice_index_or (slice_set ss k y) j u) where
    abbrev xs : List Contents
    xs = slice_set ss k y

    within : m < length xs
    within = omega (arith, reaches ss w n i x f.found, length-set ss k y, e)

    place : j ≡ length xs - 1 - m
    place = omega (arith, q, last, length-set ss k y)

    known : u ≡ get_or xs (length xs - 1 - m) u
    known = b ∙ ap (λ (p : ℕ). get_or xs p u) place

    there : slice_get (y ∷ reverse (around ss)) m ≡ Some u
    there = ap (λ (ts : List Contents). slice_get ts m) (sym pushed) ∙ get_nearest xs m u within ∙ ap Some (sym known)

    pub charge_fits : 0 < z → u.aliased + z ≤ 4294967295
    charge_fits h =
        let v = same_charge (reverse (around ss)) s₀ y m u (ap (λ (t : Contents). t.aliased) now ∙ aliased_same x s₀) there in
        let found : after_target ss n ≡ Some v.0 = ap (after_target ss) e ∙ ap (λ (ts : List Contents). slice_get ts m) (ap reverse (parted ss some) ∙ reverse-last (around ss) s₀) ∙ v.1 in
        subst (λ (c : ℕ). c + z ≤ 4294967295) (sym v.2)
        (All-head (λ (t : Contents). t.aliased + z ≤ 4294967295) v.0 [] (subst (λ (o : Option Contents). All (λ (t : Contents). t.aliased + z ≤ 4294967295) (option_to_list o)) found (f.fits h)))

    module _ (v : Contents) (d : v ≡ with_charge z u) where
      pub charge_keeps : KeepsOn a a ss (slice_set (slice_set ss k y) j v)
      charge_keeps =
          let each : All (StateStands a) xs = kept_stand a a ss xs push_keeps in
          let stands : StateStands a u = subst (StateStands a) (sym b) (each j u (omega (arith, place, within))) in
          kept_both a a a ss xs (slice_set xs j v) push_keeps (kept_set a xs j u v each b (subst (Keeps a a u) (sym d) (keeps_charged a u z stands)))

      pub charge_aliases : IsFree (outer_id_checks a ss (innermost ss) w n i) → AliasedOn a a ss (slice_set (slice_set ss k y) j v) (alias.Outer w n i)
      charge_aliases free =
          outer_aliased a ss (slice_set xs j v) (around ss) s₀ w n i x z (parted ss some) f free live
          (ap (λ (p : ℕ). reverse (slice_set xs p v)) place ∙ states_charged xs m z u v within known d ∙ ap (change_at m (with_charge z)) (pushed ∙ ap (λ (t : Contents). t ∷ rest) now) ∙
          ap (λ (p : ℕ). charged_states p z (with_aliased x s₀ ∷ rest)) (sym e))

-- ## Aliases that look at the innermost alone

module _ (a : Arena) (ss : List Contents) (k : ℕ) (s : Contents) (some : 0 < length ss) (last : k ≡ length ss - 1) (at : s ≡ slice_index_or ss k s) (x : ComponentAlias) where
  inside_last : s ≡ innermost ss
  inside_last = at ∙ indexed ss k s some last

  pub inside_aliases : (s' : Contents) → ((outer : List Tree_context) (p : Place) → Grew a a outer p s s' (alias_item x)) → AliasedOn a a ss (slice_set ss k s') x
  inside_aliases s' g =
      let pushed : reverse (slice_set ss k s') ≡ s' ∷ reverse (around ss) = ap (λ (j : ℕ). reverse (slice_set ss j s')) last ∙ states_pushed ss (around ss) (innermost ss) s' (parted ss some) some in
      inside_aliased a ss (slice_set ss k s') x (record { outer = around ss; old = innermost ss; new = s'; was = parted ss some; becomes = after_states 0 0 (around ss) s' (slice_set ss k s') pushed })
      (λ p. subst (λ (z : Contents). Grew a a (contexts_around a (around ss)) p z s' (alias_item x)) inside_last (g (contexts_around a (around ss)) p))

  pub inside_refused : {M : Type 0} (offset : ℕ) (e : Error M) → ((outer : List Tree_context) (n : Names) (p : Place) → MemoryOrCausedBy (call_checks s.features (tree_maker n p) (stack_of a s outer) (alias_item x)) offset e) →
      (n : Names) (p : Place) → MemoryOrCausedBy (call_checks (innermost ss).features (tree_maker n p) (stack_on a (around ss) (innermost ss)) (alias_item x)) offset e
  inside_refused offset e h n p =
      subst (λ (z : Contents). MemoryOrCausedBy (call_checks z.features (tree_maker n p) (stack_on a (around ss) z) (alias_item x)) offset e) inside_last (h (contexts_around a (around ss)) n p)

-- so of an outer alias
pub outer_refused : {M : Type 0} (a : Arena) (ss : List Contents) (w : ComponentOuterAliasKind) (n i : ℕ) (x : ComponentAlias) (offset : ℕ) (e : Error M) → 0 < length ss → x ≡ alias.Outer w n i → MemoryOrCausedBy (outer_id_checks a ss (innermost ss) w n i) offset e →
    (ns : Names) (p : Place) → MemoryOrCausedBy (call_checks (innermost ss).features (tree_maker ns p) (stack_on a (around ss) (innermost ss)) (alias_item x)) offset e
outer_refused a ss w n i x offset e some is t ns p =
    subst (λ (y : ComponentAlias). MemoryOrCausedBy (call_checks (innermost ss).features (tree_maker ns p) (stack_on a (around ss) (innermost ss)) (alias_item y)) offset e) (sym is)
    (subst (λ (cs : Checks). MemoryOrCausedBy cs offset e) (ap (λ (ts : List Contents). outer_id_checks a ts (innermost ss) w n i) (parted ss some) ∙ sym (checks_here a (around ss) (innermost ss) w n i)) t)
