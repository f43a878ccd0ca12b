-- Contexts that differ in what is counted as aliased into them alone: what their entries have, and which resources they list.
use Rattle.std.proofs.Common.{◌≡◌, ℕ, zero, suc, ◌+◌, List, [], ◌∷◌, refl, sym, ◌∙◌, subst, Some, inl, inr}
use Rattle.std.specs.Prelude.{slice_get}
use Rattle.wcv_core.specs.Names.{Name}
use Rattle.wcv_types.specs.Unfold.{Type_tree}
use Rattle.wcv_types.proofs.Lists.{some-inj}
use Rattle.wcv_lower.specs.Context.{charge}
use Rattle.wcv_lower.specs.Owned.{AllEntries, Everywhere}
use Rattle.wcv_lower.specs.Step.{Change, charges, Step, change_at, change, apply}
use Rattle.wcv_lower.specs.Trees.{Tree_context, Tree_stack, tree_reader}
use Rattle.wcv_growth.proofs.Known.{In, ListedAmong, Listed}

-- the second context is the first, but for that count
abbrev pub Charged : Tree_context → Tree_context → Type 0
Charged c d = (n : ℕ) × (d ≡ record c { aliased = n })

-- so each
abbrev pub AllCharged : List Tree_context → List Tree_context → Type 0
AllCharged [] [] = Unit {0}
AllCharged (c ∷ cs) (d ∷ ds) = Charged c d × AllCharged cs ds
AllCharged _ _ = ⊥

charged_itself : (c : Tree_context) → Charged c c
charged_itself c = (c.aliased, refl)

charged_twice : (b c d : Tree_context) → Charged b c → Charged c d → Charged b d
charged_twice b c d h g = (g.0, g.1 ∙ (λ j. record (h.1 j) { aliased = g.0 }))

pub all_themselves : (cs : List Tree_context) → AllCharged cs cs
all_themselves [] = tt
all_themselves (c ∷ cs) = (charged_itself c, all_themselves cs)

pub all_twice : (bs cs ds : List Tree_context) → AllCharged bs cs → AllCharged cs ds → AllCharged bs ds
all_twice [] [] [] h g = tt
all_twice (b ∷ bs) (c ∷ cs) (d ∷ ds) h g = (charged_twice b c d h.0 g.0, all_twice bs cs ds h.1 g.1)
all_twice [] (c ∷ cs) ds h g = absurd h
all_twice (b ∷ bs) [] ds h g = absurd h
all_twice [] [] (d ∷ ds) h g = absurd g
all_twice (b ∷ bs) (c ∷ cs) [] h g = absurd g

charged_at : (k n : ℕ) (cs : List Tree_context) → AllCharged cs (change_at k (charge {X = tree_reader} n) cs)
charged_at k n [] = tt
charged_at zero n (c ∷ cs) = ((c.aliased + n, refl), all_themselves cs)
charged_at (suc k) n (c ∷ cs) = (charged_itself c, charged_at k n cs)

-- ## Steps

change-charges : (x : Change tree_reader) (s : Tree_stack) → AllCharged s.outer (change x s).outer
change-charges (charges zero n) s = all_themselves s.outer
change-charges (charges (suc k) n) s = charged_at k n s.outer
change-charges x s = all_themselves s.outer

pub apply-charges : (x : Step tree_reader) (s : Tree_stack) → AllCharged s.outer (apply x s).outer
apply-charges [] s = all_themselves s.outer
apply-charges (y ∷ x) s = all_twice s.outer (change y s).outer (apply x (change y s)).outer (change-charges y s) (apply-charges x (change y s))

-- ## What they have

charged_back : (c d : Tree_context) → Charged c d → Charged d c
charged_back c d h = (c.aliased, λ j. record (sym h.1 j) { aliased = c.aliased })

pub all_back : (cs ds : List Tree_context) → AllCharged cs ds → AllCharged ds cs
all_back [] [] h = tt
all_back (c ∷ cs) (d ∷ ds) h = (charged_back c d h.0, all_back cs ds h.1)
all_back [] (d ∷ ds) h = absurd h
all_back (c ∷ cs) [] h = absurd h

-- each entry of each context of the list
abbrev pub AllAmong : (Type_tree → Type 0) → List Tree_context → Type 0
AllAmong P cs = (j : ℕ) (c : Tree_context) → slice_get cs j ≡ Some c → AllEntries P c

module _ (P : Type_tree → Type 0) where
  charged-has : (c d : Tree_context) → Charged c d → AllEntries P c → AllEntries P d
  charged-has c d h all = subst (AllEntries P) (sym h.1) (record { core = all.core; space = all.space; side = all.side })

  pub among-has : (cs ds : List Tree_context) → AllCharged cs ds → AllAmong P cs → AllAmong P ds
  among-has [] [] h all j x e = all j x e
  among-has (c ∷ cs) (d ∷ ds) h all zero x e = subst (AllEntries P) (some-inj e) (charged-has c d h.0 (all zero c refl))
  among-has (c ∷ cs) (d ∷ ds) h all (suc j) x e = among-has cs ds h.1 (λ k y q. all (suc k) y q) j x e
  among-has [] (d ∷ ds) h all j x e = absurd h
  among-has (c ∷ cs) [] h all j x e = absurd h

  pub everywhere-has : (s t : Tree_stack) → AllCharged (s.top ∷ s.outer) (t.top ∷ t.outer) → Everywhere P s → Everywhere P t
  everywhere-has s t h all = among-has (s.top ∷ s.outer) (t.top ∷ t.outer) h all

  -- of the top, and of those further out
  pub everywhere-both : (s : Tree_stack) → AllEntries P s.top → AllAmong P s.outer → Everywhere P s
  everywhere-both s h all zero c e = subst (AllEntries P) (some-inj e) h
  everywhere-both s h all (suc j) c e = all j c e

pub among-listed : (cs ds : List Tree_context) → AllCharged cs ds → (r : Name) → ListedAmong cs r → ListedAmong ds r
among-listed [] [] h r x = x
among-listed (c ∷ cs) (d ∷ ds) h r (inl x) = inl (subst (λ (y : Tree_context). In y r) (sym h.0.1) x)
among-listed (c ∷ cs) (d ∷ ds) h r (inr x) = inr (among-listed cs ds h.1 r x)
among-listed [] (d ∷ ds) h r x = absurd h
among-listed (c ∷ cs) [] h r x = absurd h

pub listed-charged : (s t : Tree_stack) → AllCharged (s.top ∷ s.outer) (t.top ∷ t.outer) → (r : Name) → Listed s r → Listed t r
listed-charged s t h r x = among-listed (s.top ∷ s.outer) (t.top ∷ t.outer) h r x
