-- What is valid is read, names that are the same at its places are as good, and so are renamed ones.
use Rattle.std.proofs.Common.{◌≡◌, ℕ, suc, sym, ◌∙◌, ap, subst, arith, Some, inl, inr}
use Rattle.std.specs.Option.{option_map, option_and_then}
use Rattle.wcv_core.specs.Names.{Place, deeper}
use Rattle.wcv_core.specs.declared.error.ErrorKind.{ErrorKind}
use Rattle.wcv_core.specs.declared.features.WasmFeatures.{WasmFeatures}
use Rattle.wcv_core.proofs.Places.{under-deeper}
use Rattle.wcv_syntax.specs.Model.{Form, component_item, Items, no_items, next_item}
use Rattle.wcv_lower.specs.Checks.{Checks, Cause, IsFree}
use Rattle.wcv_lower.specs.Context.{concrete}
use Rattle.wcv_lower.specs.Declared.{inside}
use Rattle.wcv_lower.specs.DeclaredCalls.{FromDecl}
use Rattle.wcv_lower.specs.Ending.{component_end_checks}
use Rattle.wcv_lower.specs.Items.{read_item, read_items, item_causes, EndsFree}
use Rattle.wcv_lower.specs.Mapped.{map_context, map_stack}
use Rattle.wcv_lower.specs.Names.{Names, Under, AreRenamed, SameNames, place_of}
use Rattle.wcv_lower.specs.Renamed.{Renaming, renaming}
use Rattle.wcv_lower.specs.Trees.{Tree_context, Tree_stack, tree_maker}
use Rattle.wcv_lower.proofs.EndingLaws.{component_end_checks-mapped}
use Rattle.wcv_lower.proofs.ItemLaws.{item_there, read_item-agrees, item_causes-agree, read_item-renamed, item_causes-renamed}
use Rattle.wcv_lower.proofs.Renamed.{renaming_commutes}
use Rattle.wcv_growth.specs.Valid.{ValidFrom, ValidInside, ValidItem, RefusedFrom, RefusedInside}

-- ## Reading

module _ (fs : WasmFeatures) (names : Names) where
  -- valid items are read
  pub valid_reads : (w : Place) (k : ℕ) (s : Tree_stack) (is : Items) (t : Tree_stack) → ValidFrom fs names w k s is t → read_items fs (tree_maker names) w k s is ≡ Some t
  valid_reads w k s no_items t v = ap Some v
  valid_reads w k s (next_item at f is) t v = ap (option_and_then (λ u. read_items fs (tree_maker names) w (suc k) u is)) v.1.1 ∙ valid_reads w (suc k) v.1.0 is t v.1.2

  ends_free : (p : Place) (s : Tree_stack) (f : Form) → ValidInside fs names p s f → EndsFree fs (tree_maker names) p s f
  ends_free p s (component_item is end) v = (v.0, valid_reads p 0 (inside concrete s) is v.0 v.1, v.2)
  ends_free p s f v = tt

  -- so is a valid item
  pub valid_there : (p : Place) (s : Tree_stack) (f : Form) → ValidItem fs names p s f → (u : Tree_stack) × (read_item fs (tree_maker names) p s f ≡ Some u)
  valid_there p s f v = item_there names p fs s f v.0 (ends_free p s f v.1)

-- ## The same names

module _ (fs : WasmFeatures) (names other : Names) where
  -- so at fewer places
  pub weaker : (P Q : Place → Type 0) → ((p : Place) → Q p → P p) → SameNames P names other → SameNames Q names other
  weaker P Q f h = record { resource = λ o u. h.resource o (f (place_of o) u); identity = λ o u. h.identity o (f (place_of o) u) }

  pub same_inside : (p : Place) → SameNames (Under p) names other → SameNames (FromDecl p 0) names other
  same_inside p h = weaker (Under p) (FromDecl p 0) (λ q x. under-deeper p x.0 q x.2) h

  pub same_first : (p : Place) (n : ℕ) → SameNames (FromDecl p n) names other → SameNames (Under (deeper p n)) names other
  same_first p n h = weaker (FromDecl p n) (Under (deeper p n)) (λ q u. (n, omega arith, u)) h

  pub same_rest : (p : Place) (n : ℕ) → SameNames (FromDecl p n) names other → SameNames (FromDecl p (suc n)) names other
  same_rest p n h = weaker (FromDecl p n) (FromDecl p (suc n)) (λ q x. let y = x.1 in (x.0, omega (arith, y), x.2)) h

  module _ (p : Place) (same : SameNames (Under p) names other) (s : Tree_stack) (f : Form) where
    free_too : IsFree (item_causes fs (tree_maker names) p s f) → IsFree (item_causes fs (tree_maker other) p s f)
    free_too free = subst IsFree (sym (item_causes-agree names other p same fs s f)) free

    cause_too : (kind : ErrorKind) → Cause (item_causes fs (tree_maker names) p s f) kind → Cause (item_causes fs (tree_maker other) p s f) kind
    cause_too kind c = subst (λ (cs : Checks). Cause cs kind) (sym (item_causes-agree names other p same fs s f)) c

    pub read_too : (u : Tree_stack) → read_item fs (tree_maker names) p s f ≡ Some u → read_item fs (tree_maker other) p s f ≡ Some u
    read_too u e = read_item-agrees names other p same fs s f ∙ e

  mutual
    valid_inside-agrees : (p : Place) (s : Tree_stack) (f : Form) → SameNames (Under p) names other → ValidInside fs names p s f → ValidInside fs other p s f
    valid_inside-agrees p s (component_item is end) h v = (v.0, valid_from-agrees p 0 (inside concrete s) is v.0 (same_inside p h) v.1, v.2)
    valid_inside-agrees p s f h v = tt

    pub valid_from-agrees : (w : Place) (k : ℕ) (s : Tree_stack) (is : Items) (t : Tree_stack) → SameNames (FromDecl w k) names other → ValidFrom fs names w k s is t → ValidFrom fs other w k s is t
    valid_from-agrees w k s no_items t h v = v
    valid_from-agrees w k s (next_item at f is) t h v =
        let here : SameNames (Under (deeper w k)) names other = same_first w k h in
        ((free_too (deeper w k) here s f v.0.0, valid_inside-agrees (deeper w k) s f here v.0.1), (v.1.0, read_too (deeper w k) here s f v.1.0 v.1.1, valid_from-agrees w (suc k) v.1.0 is t (same_rest w k h) v.1.2))

  pub valid_item-agrees : (p : Place) (s : Tree_stack) (f : Form) → SameNames (Under p) names other → ValidItem fs names p s f → ValidItem fs other p s f
  valid_item-agrees p s f h v = (free_too p h s f v.0, valid_inside-agrees p s f h v.1)

  mutual
    refused_inside-agrees : (p : Place) (s : Tree_stack) (f : Form) (kind : ErrorKind) (offset : ℕ) → SameNames (Under p) names other → RefusedInside fs names p s f kind offset → RefusedInside fs other p s f kind offset
    refused_inside-agrees p s (component_item is end) kind offset h x = refused_from-agrees p 0 (inside concrete s) is end kind offset (same_inside p h) x
    refused_inside-agrees p s f kind offset h x = absurd x

    pub refused_from-agrees : (w : Place) (k : ℕ) (s : Tree_stack) (is : Items) (end : ℕ) (kind : ErrorKind) (offset : ℕ) → SameNames (FromDecl w k) names other → RefusedFrom fs names w k s is end kind offset → RefusedFrom fs other w k s is end kind offset
    refused_from-agrees w k s no_items end kind offset h x = x
    refused_from-agrees w k s (next_item at f is) end kind offset h (inl (inl x)) = inl (inl (cause_too (deeper w k) (same_first w k h) s f kind x.0, x.1))
    refused_from-agrees w k s (next_item at f is) end kind offset h (inl (inr x)) =
        let here : SameNames (Under (deeper w k)) names other = same_first w k h in
        inl (inr (free_too (deeper w k) here s f x.0, refused_inside-agrees (deeper w k) s f kind offset here x.1))
    refused_from-agrees w k s (next_item at f is) end kind offset h (inr x) =
        let here : SameNames (Under (deeper w k)) names other = same_first w k h in
        inr (valid_item-agrees (deeper w k) s f here x.0, (x.1.0, read_too (deeper w k) here s f x.1.0 x.1.1, refused_from-agrees w (suc k) x.1.0 is end kind offset (same_rest w k h) x.1.2))

-- ## Renamed names

-- an end has the causes that it had
pub end-renamed : (w : Renaming) (c : Tree_context) → component_end_checks (map_context (renaming w) c) ≡ component_end_checks c
end-renamed w c = component_end_checks-mapped (renaming w) (renaming_commutes w) c

module _ (v : Renaming) (fs : WasmFeatures) (names other : Names) (renamed : (p : Place) → AreRenamed (Under p) v.resources.to v.identities.to names other) where
  abbrev to : Tree_stack → Tree_stack
  to s = map_stack (renaming v) s

  module _ (p : Place) (s : Tree_stack) (f : Form) where
    free_then : IsFree (item_causes fs (tree_maker names) p s f) → IsFree (item_causes fs (tree_maker other) p (to s) f)
    free_then free = subst IsFree (sym (item_causes-renamed v names other p (renamed p) fs s f)) free

    cause_then : (kind : ErrorKind) → Cause (item_causes fs (tree_maker names) p s f) kind → Cause (item_causes fs (tree_maker other) p (to s) f) kind
    cause_then kind c = subst (λ (cs : Checks). Cause cs kind) (sym (item_causes-renamed v names other p (renamed p) fs s f)) c

    read_then : (u : Tree_stack) → read_item fs (tree_maker names) p s f ≡ Some u → read_item fs (tree_maker other) p (to s) f ≡ Some (to u)
    read_then u e = read_item-renamed v names other p (renamed p) fs s f ∙ ap (option_map (map_stack (renaming v))) e

  mutual
    valid_inside-renamed : (p : Place) (s : Tree_stack) (f : Form) → ValidInside fs names p s f → ValidInside fs other p (to s) f
    valid_inside-renamed p s (component_item is end) x = (to x.0, valid_from-renamed p 0 (inside concrete s) is x.0 x.1, subst IsFree (sym (end-renamed v x.0.top)) x.2)
    valid_inside-renamed p s f x = tt

    pub valid_from-renamed : (w : Place) (k : ℕ) (s : Tree_stack) (is : Items) (t : Tree_stack) → ValidFrom fs names w k s is t → ValidFrom fs other w k (to s) is (to t)
    valid_from-renamed w k s no_items t x = ap (map_stack (renaming v)) x
    valid_from-renamed w k s (next_item at f is) t x =
        ((free_then (deeper w k) s f x.0.0, valid_inside-renamed (deeper w k) s f x.0.1), (to x.1.0, read_then (deeper w k) s f x.1.0 x.1.1, valid_from-renamed w (suc k) x.1.0 is t x.1.2))

  pub valid_item-renamed : (p : Place) (s : Tree_stack) (f : Form) → ValidItem fs names p s f → ValidItem fs other p (to s) f
  valid_item-renamed p s f x = (free_then p s f x.0, valid_inside-renamed p s f x.1)

  mutual
    refused_inside-renamed : (p : Place) (s : Tree_stack) (f : Form) (kind : ErrorKind) (offset : ℕ) → RefusedInside fs names p s f kind offset → RefusedInside fs other p (to s) f kind offset
    refused_inside-renamed p s (component_item is end) kind offset x = refused_from-renamed p 0 (inside concrete s) is end kind offset x
    refused_inside-renamed p s f kind offset x = absurd x

    pub refused_from-renamed : (w : Place) (k : ℕ) (s : Tree_stack) (is : Items) (end : ℕ) (kind : ErrorKind) (offset : ℕ) → RefusedFrom fs names w k s is end kind offset → RefusedFrom fs other w k (to s) is end kind offset
    refused_from-renamed w k s no_items end kind offset x = (subst (λ (cs : Checks). Cause cs kind) (sym (end-renamed v s.top)) x.0, x.1)
    refused_from-renamed w k s (next_item at f is) end kind offset (inl (inl x)) = inl (inl (cause_then (deeper w k) s f kind x.0, x.1))
    refused_from-renamed w k s (next_item at f is) end kind offset (inl (inr x)) = inl (inr (free_then (deeper w k) s f x.0, refused_inside-renamed (deeper w k) s f kind offset x.1))
    refused_from-renamed w k s (next_item at f is) end kind offset (inr x) =
        inr (valid_item-renamed (deeper w k) s f x.0, (to x.1.0, read_then (deeper w k) s f x.1.0 x.1.1, refused_from-renamed w (suc k) x.1.0 is end kind offset x.1.2))
