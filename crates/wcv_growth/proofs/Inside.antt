-- The end of a declared type whose declarations settle, or of a component whose items do: its node joins the stack around it.
use Rattle.std.proofs.Common.{◌≡◌, ℕ, zero, List, [], ◌∷◌, ◌++◌, true, false, not, refl, sym, ◌∙◌, ap, subst, Some, ◌⊎◌, inl, inr}
use Rattle.std.specs.Prelude.{All, slice_get}
use Rattle.std.proofs.lemmas.Bool.{false≢true}
use Rattle.std.proofs.lemmas.List.Elements.{All-head}
use Rattle.wcv_core.specs.Names.{Name, Place, base, member}
use Rattle.wcv_core.specs.declared.features.WasmFeatures.{WasmFeatures}
use Rattle.wcv_syntax.specs.Model.{Decl, import_decl}
use Rattle.wcv_types.specs.Paths.{PathLeadsTo}
use Rattle.wcv_types.specs.Tree.{Extern_name, Parts}
use Rattle.wcv_types.specs.Unfold.{Type_tree}
use Rattle.wcv_matching.specs.Orderly.{height}
use Rattle.wcv_lower.specs.Checks.{IsFree}
use Rattle.wcv_lower.specs.Context.{Kind, concrete, declares_instance, declares_component, in_components, Side, importing, exporting, is_concrete}
use Rattle.wcv_lower.specs.Declared.{closed_as, ended}
use Rattle.wcv_lower.specs.Defined.{is_empty}
use Rattle.wcv_lower.specs.Ending.{declared_made, declared_end_checks}
use Rattle.wcv_lower.specs.Even.{IsBalanced}
use Rattle.wcv_lower.specs.Names.{names_by_place}
use Rattle.wcv_lower.specs.Owned.{OwnsNot, OwnApart, Everywhere, IsOwn, IsLed}
use Rattle.wcv_lower.specs.Readers.{New_node}
use Rattle.wcv_lower.specs.Step.{appends, Step, apply}
use Rattle.wcv_lower.specs.Trees.{Entries, Tree_context, Tree_stack, tree_reader, node_tree, tree_maker}
use Rattle.wcv_lower.proofs.Bringing.{AllBring, brings_one}
use Rattle.wcv_lower.proofs.Calm.{around_has}
use Rattle.wcv_lower.proofs.CalmEnds.{closed_bring}
use Rattle.wcv_lower.proofs.EvenOwners.{with_owner, owned_high, raised_has}
use Rattle.wcv_lower.proofs.EvenTypes.{balanced_inherited}
use Rattle.wcv_lower.proofs.Members.{member_cases}
use Rattle.wcv_lower.proofs.Owning.{Inherited, owns_not_inherited, own_apart_inherited}
use Rattle.wcv_growth.proofs.Charged.{AllCharged, all_twice, all_back, AllAmong, everywhere-has, listed-charged}
use Rattle.wcv_growth.proofs.Closed.{Around, IsClosed}
use Rattle.wcv_growth.proofs.Growing.{Leads, Ready, Grows, Does, Owns, does-grow, same-does, node-does}
use Rattle.wcv_growth.proofs.Having.{names_in, member-has}
use Rattle.wcv_growth.proofs.Known.{Fine, In, ListedAmong, Listed, Any}
use Rattle.wcv_growth.proofs.MayMake.{is_own}
use Rattle.wcv_growth.proofs.Near.{NearAmong, Near, AreSorted, near-around, all-charged}
use Rattle.wcv_growth.proofs.Outer.{around-parts, ends}
use Rattle.wcv_growth.proofs.Placed.{PlacedAt, PlacedUnder, placed_here, in_list, not_in_list}
use Rattle.wcv_growth.proofs.Settled.{Settles}

-- ## What is counted as aliased

module _ (s t : Tree_stack) (c : AllCharged (s.top ∷ s.outer) (t.top ∷ t.outer)) where
  same-listed : (r : Name) → Listed t r → Listed s r
  same-listed r l = listed-charged t s (all_back (s.top ∷ s.outer) (t.top ∷ t.outer) c) r l

  charged-ready : (p : Place) → Ready p s → Ready p t
  charged-ready p h = record {
    fine = all-charged (s.top ∷ s.outer) (t.top ∷ t.outer) c h.fine;
    leads = subst Leads (sym c.0.1) h.leads;
    led = λ k. subst IsLed (sym c.0.1) (h.led (sym (ap (λ (x : Tree_context). is_concrete x.kind) c.0.1) ∙ k));
    unlisted = λ r u l. h.unlisted r u (same-listed r l);
    fresh = λ r u. everywhere-has (OwnsNot r) s t c (h.fresh r u);
    apart = everywhere-has OwnApart s t c h.apart;
    spared = λ r l. everywhere-has (OwnsNot r) s t c (h.spared r (same-listed r l));
    balanced = (h.balanced.0, everywhere-has (IsBalanced h.balanced.0) s t c h.balanced.1);
  }

  charged-grows : (p : Place) (v : Tree_stack) → Grows exporting p t v → Grows exporting p s v
  charged-grows p v g = record {
    kind = g.kind ∙ ap (λ (x : Tree_context). x.kind) c.0.1;
    outer = all_twice s.outer t.outer v.outer c.1 g.outer;
    fine = g.fine;
    leads = g.leads;
    led = g.led;
    adds = record {
      more = g.adds.more;
      new = g.adds.new;
      imported = g.adds.imported ∙ ap (λ (x : Tree_context). x.imported) c.0.1;
      defined = g.adds.defined ∙ ap (λ (x : Tree_context). x.defined ++ g.adds.more) c.0.1;
    };
    late = λ r n all. g.late r n (everywhere-has (OwnsNot r) s t c all);
    apart = g.apart;
    spared = g.spared;
    balanced = g.balanced;
  }

-- ## The end

-- what a context owns it lists
own-in : (c : Tree_context) (r : Name) → IsOwn c r → In c r
own-in c r o = go (member_cases r (names_in c.imported) (names_in c.defined) o)
  where
    go : (member r (names_in c.imported) ≡ true) ⊎ (member r (names_in c.defined) ≡ true) → In c r
    go (inl e) = inl (member-has c.imported r e)
    go (inr e) = inr (member-has c.defined r e)

-- its node joins the types, or the components
closed-sorted : (c : Kind) (p : Place) (n : New_node tree_reader) (t : Tree_stack) → AreSorted t.top → AreSorted (apply (closed_as {X = tree_reader} c (tree_maker names_by_place p) n) t).top
closed-sorted concrete p n t h = h
closed-sorted declares_instance p n t h = h
closed-sorted declares_component p n t h = h

closed-does : (c : Kind) (p : Place) (t : Tree_stack) → Ready p t → (n : New_node tree_reader) → Fine (Near t) (node_tree (base p) n) → Does exporting p t (closed_as c (tree_maker names_by_place p) n)
closed-does concrete p t ready n w =
    same-does p t ready (closed_as concrete (tree_maker names_by_place p) n) (brings_one (Fine (Near t)) Any (appends in_components (node_tree (base p) n)) w)
    (record { imported = refl; defined = refl; imports = refl; exports = refl })
closed-does declares_instance p t ready n w = node-does p t ready n w
closed-does declares_component p t ready n w = node-does p t ready n w

module _ (p : Place) (k : ℕ) (u t : Tree_stack) (h : Settles p k u) (around_it : u.outer ≡ t.top ∷ t.outer) (rest : (P : Type_tree → Type 0) → Everywhere P u → Everywhere P t) (ready : Ready p t) where
  -- of the stack around it
  further-out : (r : Name) → Listed t r → ListedAmong u.outer r
  further-out r l = subst (λ (cs : List Tree_context). ListedAmong cs r) (sym around_it) l

  back-in : (r : Name) → Around u r → Near t r
  back-in r l = near-around (is_concrete u.top.kind) t r (subst (λ (cs : List Tree_context). NearAmong (is_concrete u.top.kind) cs r) around_it l)

  -- what its context lists is given inside it
  listed-inside : (r : Name) → In u.top r → PlacedUnder p r
  listed-inside r (inl x) = in_list p k r (h.imported r x)
  listed-inside r (inr x) = in_list p k r (h.defined r x)

  not-here : (r : Name) → PlacedAt p r → In u.top r → ⊥
  not-here r q (inl x) = not_in_list p k r q (h.imported r x)
  not-here r q (inr x) = not_in_list p k r q (h.defined r x)

  module _ (c : Kind) (n : New_node tree_reader) (w : IsClosed u (node_tree (base p) n)) where
    abbrev made : Type_tree
    made = node_tree (base p) n

    abbrev joins : Step tree_reader
    joins = closed_as {X = tree_reader} c (tree_maker names_by_place p) n

    brings : {P : Type_tree → Type 0} {In : Parts Name Name → Type 0} (law : Inherited P In) → P made → AllBring P Any joins
    brings {P} law x = closed_bring law Any n names_by_place p c x

    abbrev high : Name → ℕ
    high = with_owner h.balanced.0 u.top (height made)

    spared : (r : Name) → Listed t r ⊎ PlacedAt p r → OwnsNot r made
    spared r (inl l) = w.owns r (λ x. ready.unlisted r (listed-inside r x) l) (h.spared r (inr (further-out r l)) zero u.top refl)
    spared r (inr q) = w.owns r (not-here r q) (h.late r (λ b. not_in_list p k r q b) (h.around r (placed_here p r q)))

    owns : Owns p t joins
    owns =
        let raised : Everywhere (IsBalanced high) u = raised_has u h.balanced (λ r o. h.spared r (inl (own-in u.top r o))) (height made) in
        record {
          late = λ r f all. brings (owns_not_inherited r) (w.owns r (λ x. f (listed-inside r x)) (h.late r (λ b. f (in_list p k r b)) (subst (AllAmong (OwnsNot r)) (sym around_it) all)));
          spared = λ r l. brings (owns_not_inherited r) (spared r l);
          apart = brings own_apart_inherited w.apart;
          balanced = (
            high,
            rest (IsBalanced high) raised,
            brings (balanced_inherited high) (w.balanced high (raised zero u.top refl) (λ r x. owned_high h.balanced.0 u.top (height made) r (is_own u.top r x))),
          );
        }

    node-joins : Grows exporting p t (apply joins t)
    node-joins = does-grow p t joins ready exporting owns (closed-sorted c p n t ready.fine.0.sorted) (closed-does c p t ready n ((λ r f. back-in r (w.within r f)), w.sound))

module _ (fs : WasmFeatures) where
  -- the end of what settles
  pub closes-grow : (k : Kind) (p : Place) (n : ℕ) (s u v : Tree_stack) → Settles p n u → AllCharged (s.top ∷ s.outer) u.outer → ended k (tree_maker names_by_place p) u ≡ Some v → Ready p s →
      ((m : New_node tree_reader) → declared_made k u.top ≡ Some m → IsClosed u (node_tree (base p) m)) → Grows exporting p s v
  closes-grow k p n s u v h around_it e ready closed =
      let w = ends fs (tree_maker names_by_place) k p u v e in
      let parts : u.outer ≡ w.stack.top ∷ w.stack.outer = around-parts u w.stack w.stood in
      let c : AllCharged (s.top ∷ s.outer) (w.stack.top ∷ w.stack.outer) = subst (AllCharged (s.top ∷ s.outer)) parts around_it in
      subst (λ (x : Tree_stack). Grows exporting p s x) w.joined
      (charged-grows s w.stack c p (apply (closed_as k (tree_maker names_by_place p) w.node) w.stack)
      (node-joins p n u w.stack h parts (around_has u w.stack w.stood) (charged-ready s w.stack c p ready) k w.node (closed w.node w.made)))

-- ## Declarations

-- the side whose resources a declaration adds to
abbrev pub decl_side : Decl → Side
decl_side (import_decl i) = importing
decl_side d = exporting

-- no path leads to a resource where nothing is imported
none-there : (es : Entries) (k : ℕ) (x : Extern_name × Type_tree) → es ≡ [] → slice_get es k ≡ Some x → ⊥
none-there [] k x q e = cc
none-there (y ∷ es) k x q e = cc

leads-nowhere : (p : List ℕ) (r : Name) → PathLeadsTo p r [] → ⊥
leads-nowhere [] r x = x
leads-nowhere (k ∷ []) r x = none-there [] k x.0 refl x.1
leads-nowhere (k ∷ j ∷ p) r x = none-there [] k x.0 refl x.1

none-lead : (rs : List (Name × List ℕ)) → All (λ p. PathLeadsTo p.1 p.0 []) rs → rs ≡ []
none-lead [] a = refl
none-lead (x ∷ rs) a = absurd (leads-nowhere x.1 x.0 (All-head (λ (p : Name × List ℕ). PathLeadsTo p.1 p.0 []) x rs a))

-- so an instance type imports no resource
pub no-imports : (c : Tree_context) → Leads c → IsFree (declared_end_checks declares_instance c) → c.imported ≡ []
no-imports c h free = none-lead c.imported (subst (λ (es : Entries). All (λ (p : Name × List ℕ). PathLeadsTo p.1 p.0 es) c.imported) (empty (c.side importing) free.0) h)
  where
    empty : (es : Entries) → not (is_empty es) ≡ false → es ≡ []
    empty [] q = refl
    empty (x ∷ es) q = absurd (false≢true (sym q))
