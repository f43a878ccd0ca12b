-- A stack stays calm where a declared type or a component ends: what the type owns its context had, so no other type owns it and no other
-- context has it.
use Rattle.std.proofs.Common.{◌≡◌, ℕ, zero, suc, List, [], ◌∷◌, map, refl, sym, subst, arith, suc-ne-zero, Bool, true, false, cond, ◌||◌, ◌⊎◌, inl, inr, Some, None}
use Rattle.std.specs.Prelude.{Option, All}
use Rattle.std.specs.Option.{option_map}
use Rattle.std.proofs.lemmas.Bool.{or_cases}
use Rattle.wcv_core.specs.Names.{Name, Place, number, same, member}
use Rattle.wcv_core.specs.declared.core_types.ValType.{ValType}
use Rattle.wcv_types.specs.Tree.{import, export, Parts, none, firsts, entries}
use Rattle.wcv_types.specs.Unfold.{Type_tree}
use Rattle.wcv_types.proofs.Lists.{some-inj}
use Rattle.wcv_matching.specs.Orderly.{height}
use Rattle.wcv_lower.specs.Context.{Kind, concrete, declares_instance, declares_component, importing, exporting, in_types, in_components}
use Rattle.wcv_lower.specs.Declared.{around, closed_as, ended}
use Rattle.wcv_lower.specs.Ending.{is_free_among, any_free, keep, kept, component_of, component_made, declared_made}
use Rattle.wcv_lower.specs.Even.{IsBalanced}
use Rattle.wcv_lower.specs.Given.{Numbers}
use Rattle.wcv_lower.specs.Names.{Names, introduced}
use Rattle.wcv_lower.specs.Owned.{OwnsNot, OwnApart, AllEntries, Everywhere, own_resources, IsOwn, IsGiven, IsCalm}
use Rattle.wcv_lower.specs.Readers.{Maker, Named, New_node, func_node, defined_node, module_node, core_instance_node, core_exports_node, instance_node, component_node}
use Rattle.wcv_lower.specs.Step.{appends, Step, apply}
use Rattle.wcv_lower.specs.Trees.{tree_reader, Tree_context, Tree_stack, tree_maker, node_tree, type_entry}
use Rattle.wcv_lower.proofs.Bringing.{OfAny, of_some, map-some, any_mapped, any_then, AllBring, brings_one}
use Rattle.wcv_lower.proofs.Calm.{IsLate, not_both, own_given, stood, around_has, calm_around, IsGentle, calm_applied}
use Rattle.wcv_lower.proofs.DeclaredLaws.{then-some}
use Rattle.wcv_lower.proofs.EvenOwners.{with_owner, owned_high, raised_has}
use Rattle.wcv_lower.proofs.EvenTypes.{balanced_inherited}
use Rattle.wcv_lower.proofs.Given.{or_left, or_right, not_so}
use Rattle.wcv_lower.proofs.Members.{firsts_map, imported_own, defined_own}
use Rattle.wcv_lower.proofs.Owning.{Inherited, owns_not_inherited, own_apart_inherited, entry_has, entries_have}

-- ## The node at an end

-- what it owns its context has, and its parts are the sides of that
abbrev Ends : Tree_context → New_node tree_reader → Type 0
Ends c (instance_node own es) = ((r : Name) → member r own ≡ true → IsOwn c r) × (es ≡ c.side exporting)
Ends c (component_node ins outs es es') = ((r : Name) → (member r (firsts ins) || member r (firsts outs)) ≡ true → IsOwn c r) × (es ≡ c.side importing) × (es' ≡ c.side exporting)
Ends c (func_node b ps) = ⊥
Ends c (defined_node k ps) = ⊥
Ends c (module_node m) = ⊥
Ends c (core_instance_node n t) = ⊥
Ends c (core_exports_node n es) = ⊥

-- the kept resources are some of the defined ones
abbrev AreSomeOf : List (Name × Option ValType) → List (Name × List ℕ) → Type 0
AreSomeOf ds ks = (r : Name) → member r (firsts ks) ≡ true → member r (map (λ d. d.0) ds) ≡ true

keep_some : (d : Name × Option ValType) (ds : List (Name × Option ValType)) (es : Named tree_reader) (ks : List (Name × List ℕ)) → AreSomeOf ds ks → OfAny (AreSomeOf (d ∷ ds)) (keep tree_reader d.0 es ks)
keep_some d ds es ks h = go (is_free_among tree_reader d.0 es) (tree_reader.first_path d.0 es)
  where
    go : (b : Bool) (o : Option (List ℕ)) → OfAny (AreSomeOf (d ∷ ds)) (cond b (option_map (λ p. (d.0, p) ∷ ks) o) (Some ks))
    go true None = tt
    go true (Some p) = λ r e. one r (or_cases (same r d.0) (member r (firsts ks)) e)
      where
        one : (r : Name) → (same r d.0 ≡ true) ⊎ (member r (firsts ks) ≡ true) → member r (map (λ d. d.0) (d ∷ ds)) ≡ true
        one r (inl x) = or_left (same r d.0) (member r (map (λ d. d.0) ds)) x
        one r (inr x) = or_right (same r d.0) (member r (map (λ d. d.0) ds)) (h r x)
    go false o = λ r e. or_right (same r d.0) (member r (map (λ d. d.0) ds)) (h r e)

kept_some : (ds : List (Name × Option ValType)) (es : Named tree_reader) → OfAny (AreSomeOf ds) (kept tree_reader ds es)
kept_some [] es = λ r e. e
kept_some (d ∷ ds) es = any_then (AreSomeOf ds) (AreSomeOf (d ∷ ds)) (keep tree_reader d.0 es) (keep_some d ds es) (kept tree_reader ds es) (kept_some ds es)

component_ends : (c : Tree_context) → OfAny (Ends c) (component_made c)
component_ends c = go (any_free tree_reader c.defined (c.side importing))
  where
    owned : (ds : List (Name × List ℕ)) → AreSomeOf c.defined ds → (r : Name) → (member r (firsts c.imported) || member r (firsts ds)) ≡ true → IsOwn c r
    owned ds h r e = one (or_cases (member r (firsts c.imported)) (member r (firsts ds)) e)
      where
        one : (member r (firsts c.imported) ≡ true) ⊎ (member r (firsts ds) ≡ true) → IsOwn c r
        one (inl x) = imported_own c r (subst (λ (rs : List Name). member r rs ≡ true) (firsts_map c.imported) x)
        one (inr x) = defined_own c r (h r x)

    go : (b : Bool) → OfAny (Ends c) (cond b None (option_map (component_of c) (kept tree_reader c.defined (c.side exporting))))
    go true = tt
    go false = any_mapped (AreSomeOf c.defined) (Ends c) (component_of c) (λ ds h. (owned ds h, refl, refl)) (kept tree_reader c.defined (c.side exporting)) (kept_some c.defined (c.side exporting))

node_ends : (k : Kind) (c : Tree_context) → OfAny (Ends c) (declared_made k c)
node_ends declares_instance c = ((λ r e. defined_own c r e), refl)
node_ends declares_component c = component_ends c
node_ends concrete c = component_ends c

-- ## What it owns

module _ {P : Type_tree → Type 0} {In : Parts Name Name → Type 0} (law : Inherited P In) (c : Tree_context) (all : AllEntries P c) where
  pub exports_in_it : (es : Named tree_reader) → es ≡ c.side exporting → In (entries export es none)
  exports_in_it es e = entries_have law export es none (subst (All (λ x. P x.1)) (sym e) (all.side exporting)) law.none_in

  pub sides_in_it : (es es' : Named tree_reader) → es ≡ c.side importing → es' ≡ c.side exporting → In (entries import es (entries export es' none))
  sides_in_it es es' e f = entries_have law import es (entries export es' none) (subst (All (λ x. P x.1)) (sym e) (all.side importing)) (exports_in_it es' f)

module _ (c : Tree_context) (i : Name) where
  -- none but its context's
  end_spares : (r : Name) → (IsOwn c r → ⊥) → AllEntries (OwnsNot r) c → (n : New_node tree_reader) → Ends c n → OwnsNot r (node_tree i n)
  end_spares r foreign all (instance_node own es) w = (not_so (member r own) (λ e. foreign (w.0 r e)), exports_in_it (owns_not_inherited r) c all es w.1)
  end_spares r foreign all (component_node ins outs es es') w = (not_so (member r (firsts ins) || member r (firsts outs)) (λ e. foreign (w.0 r e)), sides_in_it (owns_not_inherited r) c all es es' w.1 w.2)
  end_spares r foreign all (func_node b ps) w = absurd w
  end_spares r foreign all (defined_node k ps) w = absurd w
  end_spares r foreign all (module_node m) w = absurd w
  end_spares r foreign all (core_instance_node n t) w = absurd w
  end_spares r foreign all (core_exports_node n es) w = absurd w

  end_apart : ((r : Name) → IsOwn c r → AllEntries (OwnsNot r) c) → AllEntries OwnApart c → (n : New_node tree_reader) → Ends c n → OwnApart (node_tree i n)
  end_apart spared all (instance_node own es) w = ((λ r e. exports_in_it (owns_not_inherited r) c (spared r (w.0 r e)) es w.1), exports_in_it own_apart_inherited c all es w.1)
  end_apart spared all (component_node ins outs es es') w =
      ((λ r e. sides_in_it (owns_not_inherited r) c (spared r (w.0 r e)) es es' w.1 w.2), sides_in_it own_apart_inherited c all es es' w.1 w.2)
  end_apart spared all (func_node b ps) w = absurd w
  end_apart spared all (defined_node k ps) w = absurd w
  end_apart spared all (module_node m) w = absurd w
  end_apart spared all (core_instance_node n t) w = absurd w
  end_apart spared all (core_exports_node n es) w = absurd w

-- the node that is made is as high as goes with what it owns
end_balanced : (v : Name → ℕ) (c : Tree_context) (i : Name) (n : New_node tree_reader) → AllEntries (IsBalanced v) c → ((r : Name) → IsOwn c r → height (node_tree i n) ≡ v r) → Ends c n → IsBalanced v (node_tree i n)
end_balanced v c i (instance_node own es) all high w = ((tt, λ r o. high r (w.0 r o)), exports_in_it (balanced_inherited v) c all es w.1)
end_balanced v c i (component_node ins outs es es') all high w = ((tt, λ r o. high r (w.0 r o)), sides_in_it (balanced_inherited v) c all es es' w.1 w.2)
end_balanced v c i (func_node b ps) all high w = absurd w
end_balanced v c i (defined_node k ps) all high w = absurd w
end_balanced v c i (module_node m) all high w = absurd w
end_balanced v c i (core_instance_node n t) all high w = absurd w
end_balanced v c i (core_exports_node n es) all high w = absurd w

-- ## What joins

module _ {P : Type_tree → Type 0} {In : Parts Name Name → Type 0} (law : Inherited P In) (New : Name → Type 0) (n : New_node tree_reader) (names : Names) (p : Place) where
  -- the node, or the entity of its type
  pub closed_bring : (k : Kind) → P (node_tree (names.identity (introduced p)) n) → AllBring P New (closed_as k (tree_maker names p) n)
  closed_bring concrete w = brings_one P New (appends in_components (node_tree (names.identity (introduced p)) n)) w
  closed_bring declares_instance w = brings_one P New (appends in_types (type_entry (node_tree (names.identity (introduced p)) n))) (entry_has law (node_tree (names.identity (introduced p)) n) w)
  closed_bring declares_component w = brings_one P New (appends in_types (type_entry (node_tree (names.identity (introduced p)) n))) (entry_has law (node_tree (names.identity (introduced p)) n) w)

-- no resource
pub closed_own : (k : Kind) (mk : Maker tree_reader) (n : New_node tree_reader) (t : Tree_stack) → own_resources (apply (closed_as k mk n) t).top ≡ own_resources t.top
closed_own concrete mk n t = refl
closed_own declares_instance mk n t = refl
closed_own declares_component mk n t = refl

-- ## The end

module _ (a : Numbers) (k : Kind) (names : Names) (p : Place) (u t : Tree_stack) (h : IsCalm a u) (w : around u ≡ Some t) where
  abbrev made : New_node tree_reader → Type_tree
  made n = node_tree (names.identity (introduced p)) n

  abbrev closing : New_node tree_reader → Step tree_reader
  closing n = closed_as k (tree_maker names p) n

  -- what its context has is owned by the new node from then on
  abbrev raised : New_node tree_reader → Name → ℕ
  raised n = with_owner h.balanced.0 u.top (height (made n))

  raised_everywhere : (n : New_node tree_reader) → Everywhere (IsBalanced (raised n)) u
  raised_everywhere n = raised_has u h.balanced (λ r o. h.spared zero u.top r refl o) (height (made n))

  raised_node : (n : New_node tree_reader) → Ends u.top n → IsBalanced (raised n) (made n)
  raised_node n e = end_balanced (raised n) u.top (names.identity (introduced p)) n (raised_everywhere n zero u.top refl) (owned_high h.balanced.0 u.top (height (made n))) e

  ending : (n : New_node tree_reader) → Ends u.top n → IsGentle a t (closing n)
  ending n e = record {
    apart = closed_bring own_apart_inherited (IsLate a) n names p k (end_apart u.top (names.identity (introduced p)) (λ r o. h.spared zero u.top r refl o zero u.top refl) (h.apart zero u.top refl) n e);
    spared = λ j c r f o. closed_bring (owns_not_inherited r) (IsLate a) n names p k
        (end_spares u.top (names.identity (introduced p)) r (λ q. suc-ne-zero j (h.differ (suc j) zero c u.top r (stood u t w j c f) refl o q)) (h.spared (suc j) c r (stood u t w j c f) o zero u.top refl) n e);
    late = λ m l. closed_bring (owns_not_inherited (number m)) (IsLate a) n names p k
        (end_spares u.top (names.identity (introduced p)) (number m) (λ q. not_both a (number m) (own_given a u h zero u.top (number m) refl q) l) (h.late m l zero u.top refl) n e);
    balanced = (raised n, around_has u t w (IsBalanced (raised n)) (raised_everywhere n), closed_bring (balanced_inherited (raised n)) (IsLate a) n names p k (raised_node n e));
  }

  closed_calm : (n : New_node tree_reader) → Ends u.top n → IsCalm a (apply (closing n) t)
  closed_calm n e =
      let c = calm_around u t w a h in
      calm_applied a a t (closing n) (record { resources = omega arith; nodes = omega arith; stamps = omega arith }) c (ending n e)
      (subst (All (IsGiven a)) (sym (closed_own k (tree_maker names p) n t)) (c.given zero t.top refl))

-- of a declared type, and of a component
pub calm_ended : (a : Numbers) (k : Kind) (names : Names) (p : Place) (u v : Tree_stack) → IsCalm a u → ended k (tree_maker names p) u ≡ Some v → IsCalm a v
calm_ended a k names p u v h e =
    let t = then-some (λ t. option_map (λ n. apply (closed_as k (tree_maker names p) n) t) (declared_made k u.top)) (around u) v e in
    let n = map-some (λ n. apply (closed_as {X = tree_reader} k (tree_maker names p) n) t.0) (declared_made k u.top) v t.2 in
    subst (IsCalm a) (some-inj n.2) (closed_calm a k names p u t.0 h t.1 n.0 (of_some (Ends u.top) (declared_made k u.top) n.0 (node_ends k u.top) n.1))
