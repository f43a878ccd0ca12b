-- How far out a resource is listed that is free in an entry. In a component the component's own context lists it; in a declared type it
-- is listed there, or around it up to the nearest component.
use Rattle.std.proofs.Common.{◌≡◌, ℕ, zero, suc, List, [], ◌∷◌, Bool, true, false, refl, sym, ◌∙◌, ap, subst, Some, ◌⊎◌, inl, inr}
use Rattle.std.specs.Prelude.{All, slice_get}
use Rattle.wcv_core.specs.Names.{Name}
use Rattle.wcv_types.specs.Tree.{is_instance, is_module, sort}
use Rattle.wcv_types.proofs.Lists.{some-inj}
use Rattle.wcv_lower.specs.Context.{in_instances, core_types, core_modules, is_concrete, push, push_core, enlist, introduce, define, name_types, charge, type_slots, mark, name_start}
use Rattle.wcv_lower.specs.Owned.{AllEntries}
use Rattle.wcv_lower.specs.Step.{Change, appends, lists, introduces, defines, creates, core_appends, interns, charges, types_slots, marks_value, uses_value, names_start, Step, use_value, change, apply}
use Rattle.wcv_lower.specs.Trees.{Type_tree, Tree_context, Tree_stack, tree_reader}
use Rattle.wcv_lower.proofs.Applied.{applied_has}
use Rattle.wcv_lower.proofs.Bringing.{AllBring}
use Rattle.wcv_growth.proofs.Charged.{AllCharged, apply-charges, everywhere-both}
use Rattle.wcv_growth.proofs.Known.{Within, Fine, entries-weaker, In, ListedAmong, Listed, Any, in-apply, apply-kind}

-- a context of the list, up to the nearest component's, lists the resource; around a component none does
abbrev pub NearAmong : Bool → List Tree_context → Name → Type 0
NearAmong true cs r = ⊥
NearAmong false [] r = ⊥
NearAmong false (c ∷ cs) r = In c r ⊎ NearAmong (is_concrete c.kind) cs r

-- so the context, or one of those around it
abbrev pub NearIn : Tree_context → List Tree_context → Name → Type 0
NearIn c cs r = In c r ⊎ NearAmong (is_concrete c.kind) cs r

abbrev pub Near : Tree_stack → Name → Type 0
Near s r = NearIn s.top s.outer r

-- each entry of the instances is an instance, each of the core modules a core module, and nothing is free in a core type
abbrev pub AreSorted : Tree_context → Type 0
AreSorted c = All (λ t. sort t ≡ is_instance) (c.space in_instances) × All (λ t. sort t ≡ is_module) (c.core core_modules) × All (Within (λ r. ⊥)) (c.core core_types)

-- around a component's context stands another of a component
abbrev pub AreAround : List Tree_context → Bool → Type 0
AreAround [] b = Unit {0}
AreAround (c ∷ cs) b = b ≡ true → is_concrete c.kind ≡ true

-- what holds of a context, where those stand around it
pub record FineIn (c : Tree_context) (cs : List Tree_context) : Type 0 where
  -- each entry is sound, and what is free in it is near
  pub entries : AllEntries (Fine (NearIn c cs)) c
  pub sorted : AreSorted c
  pub around : AreAround cs (is_concrete c.kind)

-- so of each, with those further out
abbrev pub AllFine : List Tree_context → Type 0
AllFine [] = Unit {0}
AllFine (c ∷ cs) = FineIn c cs × AllFine cs

abbrev pub IsFine : Tree_stack → Type 0
IsFine s = AllFine (s.top ∷ s.outer)

-- ## What is near

-- what is near is listed
near-among : (b : Bool) (cs : List Tree_context) (r : Name) → NearAmong b cs r → ListedAmong cs r
near-among true cs r h = absurd h
near-among false [] r h = absurd h
near-among false (c ∷ cs) r (inl h) = inl h
near-among false (c ∷ cs) r (inr h) = inr (near-among (is_concrete c.kind) cs r h)

pub near-listed : (s : Tree_stack) (r : Name) → Near s r → Listed s r
near-listed s r (inl h) = inl h
near-listed s r (inr h) = inr (near-among (is_concrete s.top.kind) s.outer r h)

-- in a component by its own context
pub near-own : (s : Tree_stack) → is_concrete s.top.kind ≡ true → (r : Name) → Near s r → In s.top r
near-own s k r (inl h) = h
near-own s k r (inr h) = absurd (subst (λ (b : Bool). NearAmong b s.outer r) k h)

-- what is near in the context around is near in that of a declared type
pub near-further : (c d : Tree_context) (ds : List Tree_context) → is_concrete c.kind ≡ false → (r : Name) → NearIn d ds r → NearIn c (d ∷ ds) r
near-further c d ds k r h = inr (subst (λ (b : Bool). NearAmong b (d ∷ ds) r) (sym k) h)

-- what is near around a context is near in the stack around it
pub near-around : (b : Bool) (t : Tree_stack) (r : Name) → NearAmong b (t.top ∷ t.outer) r → Near t r
near-around true t r h = absurd h
near-around false t r h = h

-- what stands so far out is fine there
pub fine-at : (cs : List Tree_context) (n : ℕ) (c : Tree_context) → AllFine cs → slice_get cs n ≡ Some c → (ds : List Tree_context) × FineIn c ds
fine-at [] n c h e = cc
fine-at (d ∷ ds) zero c h e = (ds, subst (λ (x : Tree_context). FineIn x ds) (some-inj e) h.0)
fine-at (d ∷ ds) (suc n) c h e = fine-at ds n c h.1 e

-- ## What is counted as aliased

near-charged : (b : Bool) (cs ds : List Tree_context) → AllCharged cs ds → (r : Name) → NearAmong b cs r → NearAmong b ds r
near-charged true cs ds h r x = x
near-charged false [] ds h r x = absurd x
near-charged false (c ∷ cs) [] h r x = absurd h
near-charged false (c ∷ cs) (d ∷ ds) h r (inl x) = inl (subst (λ (y : Tree_context). In y r) (sym h.0.1) x)
near-charged false (c ∷ cs) (d ∷ ds) h r (inr x) = inr (subst (λ (y : Tree_context). NearAmong (is_concrete y.kind) ds r) (sym h.0.1) (near-charged (is_concrete c.kind) cs ds h.1 r x))

around-charged : (b : Bool) (cs ds : List Tree_context) → AllCharged cs ds → AreAround cs b → AreAround ds b
around-charged b [] [] h a = tt
around-charged b [] (d ∷ ds) h a = absurd h
around-charged b (c ∷ cs) [] h a = absurd h
around-charged b (c ∷ cs) (d ∷ ds) h a = λ k. ap (λ (y : Tree_context). is_concrete y.kind) h.0.1 ∙ a k

-- what was fine is fine
near-weaker : (c : Tree_context) (cs ds : List Tree_context) → AllCharged cs ds → (t : Type_tree) → Fine (NearIn c cs) t → Fine (NearIn c ds) t
near-weaker c cs ds h t w = ((λ r f. go r (w.0 r f)), w.1)
  where
    go : (r : Name) → NearIn c cs r → NearIn c ds r
    go r (inl x) = inl x
    go r (inr x) = inr (near-charged (is_concrete c.kind) cs ds h r x)

pub all-charged : (cs ds : List Tree_context) → AllCharged cs ds → AllFine cs → AllFine ds
all-charged [] [] h w = tt
all-charged [] (d ∷ ds) h w = absurd h
all-charged (c ∷ cs) [] h w = absurd h
all-charged (c ∷ cs) (d ∷ ds) h w =
    let e : AllEntries (Fine (NearIn c ds)) c = entries-weaker (Fine (NearIn c cs)) (Fine (NearIn c ds)) c (near-weaker c cs ds h.1) w.0.entries in
    (subst (λ (x : Tree_context). FineIn x ds) (sym h.0.1) (record { entries = record { core = e.core; space = e.space; side = e.side }; sorted = w.0.sorted; around = around-charged (is_concrete c.kind) cs ds h.1 w.0.around }), all-charged cs ds h.1 w.1)

-- ## Steps

-- what a step does to the top is of the top alone
change-top : (x : Change tree_reader) (s t : Tree_stack) → s.top ≡ t.top → (change x s).top ≡ (change x t).top
change-top (appends k a) s t e = ap (λ (c : Tree_context). push {X = tree_reader} k a c) e
change-top (lists d n a) s t e = ap (λ (c : Tree_context). enlist {X = tree_reader} d n a c) e
change-top (introduces d rs) s t e = ap (λ (c : Tree_context). introduce {X = tree_reader} d rs c) e
change-top (defines r v) s t e = ap (λ (c : Tree_context). define {X = tree_reader} r v c) e
change-top (creates d is) s t e = ap (λ (c : Tree_context). name_types {X = tree_reader} d is c) e
change-top (core_appends k a) s t e = ap (λ (c : Tree_context). push_core {X = tree_reader} k a c) e
change-top (interns gs) s t e = e
change-top (charges zero n) s t e = ap (λ (c : Tree_context). charge {X = tree_reader} n c) e
change-top (charges (suc k) n) s t e = e
change-top (types_slots v) s t e = ap (λ (c : Tree_context). type_slots {X = tree_reader} v c) e
change-top (marks_value b) s t e = ap (λ (c : Tree_context). mark {X = tree_reader} b c) e
change-top (uses_value k) s t e = ap (λ (c : Tree_context). use_value {X = tree_reader} k c) e
change-top names_start s t e = ap (λ (c : Tree_context). name_start {X = tree_reader} c) e

apply-top : (x : Step tree_reader) (s t : Tree_stack) → s.top ≡ t.top → (apply x s).top ≡ (apply x t).top
apply-top [] s t e = e
apply-top (y ∷ x) s t e = apply-top x (change y s) (change y t) (change-top y s t e)

-- each entry of the top behind it
top-has : (P : Type_tree → Type 0) (x : Step tree_reader) (s : Tree_stack) → AllEntries P s.top → AllBring P Any x → AllEntries P (apply x s).top
top-has P x s h w = subst (AllEntries P) (apply-top x alone s refl) (applied_has P Any x alone (everywhere-both P alone h (λ j c e. cc)) w zero (apply x alone).top refl)
  where
    alone : Tree_stack
    alone = record s { outer = [] }

-- what is near after a step
abbrev pub After : Step tree_reader → Tree_stack → Name → Type 0
After x s = Near (apply x s)

-- what was near is near
pub near-apply : (x : Step tree_reader) (s : Tree_stack) (r : Name) → Near s r → After x s r
near-apply x s r (inl h) = inl (in-apply x s r h)
near-apply x s r (inr h) =
    inr (near-charged (is_concrete (apply x s).top.kind) s.outer (apply x s).outer (apply-charges x s) r (subst (λ (b : Bool). NearAmong b s.outer r) (sym (λ j. is_concrete (apply-kind x s j))) h))

pub later-fine : (x : Step tree_reader) (s : Tree_stack) (t : Type_tree) → Fine (Near s) t → Fine (After x s) t
later-fine x s t w = ((λ r f. near-apply x s r (w.0 r f)), w.1)

pub grown-fine : (x : Step tree_reader) (s : Tree_stack) → AllBring (Fine (After x s)) Any x → AreSorted (apply x s).top → IsFine s → IsFine (apply x s)
grown-fine x s w sorted h =
    let c : AllCharged s.outer (apply x s).outer = apply-charges x s in (
      record {
        entries = top-has (Fine (After x s)) x s (entries-weaker (Fine (Near s)) (Fine (After x s)) s.top (later-fine x s) h.0.entries) w;
        sorted = sorted;
        around = around-charged (is_concrete (apply x s).top.kind) s.outer (apply x s).outer c (subst (AreAround s.outer) (sym (λ j. is_concrete (apply-kind x s j))) h.0.around);
      },
      all-charged s.outer (apply x s).outer c h.1,
    )
