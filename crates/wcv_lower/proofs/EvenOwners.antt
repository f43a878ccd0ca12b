-- Other heights of owners, by which the types of a stack are balanced where a context ends.
use Rattle.std.proofs.Common.{◌≡◌, ℕ, List, sym, ap, Bool, false, true, cond, Some, None}
use Rattle.std.specs.Prelude.{Option, All, Contains}
use Rattle.std.proofs.lemmas.List.Elements.{All-weaker, All-contains, All-contains_itself}
use Rattle.wcv_core.specs.Names.{Name, member}
use Rattle.wcv_types.specs.Tree.{Extern_name}
use Rattle.wcv_types.specs.Unfold.{Type_tree}
use Rattle.wcv_lower.specs.Context.{at_distance}
use Rattle.wcv_lower.specs.Even.{IsBalanced}
use Rattle.wcv_lower.specs.Owned.{OwnsNot, AllEntries, Everywhere, AreBalanced, own_resources, IsOwn}
use Rattle.wcv_lower.specs.Trees.{Tree_context, Tree_stack}
use Rattle.wcv_lower.proofs.EvenTypes.{balanced_so}

-- ## Properties of entries that give another

all_so : {A I : Type 0} (P : I → A → Type 0) (R : A → Type 0) → ((x : A) → ((i : I) → P i x) → R x) → (xs : List A) → ((i : I) → All (P i) xs) → All R xs
all_so P R f xs h = All-weaker (Contains xs) R (λ x c. f x (λ i. All-contains (P i) xs x (h i) c)) xs (All-contains_itself xs)

pub entries_so : {I : Type 0} (P : I → Type_tree → Type 0) (R : Type_tree → Type 0) → ((t : Type_tree) → ((i : I) → P i t) → R t) → (c : Tree_context) → ((i : I) → AllEntries (P i) c) → AllEntries R c
entries_so P R f c h = record {
  core = λ k. all_so P R f (c.core k) (λ i. (h i).core k);
  space = λ k. all_so P R f (c.space k) (λ i. (h i).space k);
  side = λ d. all_so (λ i (e : Extern_name × Type_tree). P i e.1) (λ e. R e.1) (λ e. f e.1) (c.side d) (λ i. (h i).side d);
}

-- ## A context ends

-- the heights, where what the context has is now owned by a type that is so high
abbrev pub with_owner : (Name → ℕ) → Tree_context → ℕ → Name → ℕ
with_owner v c k r = cond (member r (own_resources c)) k (v r)

module _ (v : Name → ℕ) (c : Tree_context) (k : ℕ) where
  pub owned_high : (r : Name) → IsOwn c r → k ≡ with_owner v c k r
  owned_high r o = ap (λ (b : Bool). cond b k (v r)) (sym o)

  others_high : (r : Name) → member r (own_resources c) ≡ false → with_owner v c k r ≡ v r
  others_high r o = ap (λ (b : Bool). cond b k (v r)) o

-- types stay balanced, where none owns what the context has
module _ (u : Tree_stack) (b : AreBalanced u) (spared : (r : Name) → IsOwn u.top r → Everywhere (OwnsNot r) u) (k : ℕ) where
  abbrev raised : Name → ℕ
  raised = with_owner b.0 u.top k

  abbrev One : Type 0
  One = Option ((r : Name) × IsOwn u.top r)

  abbrev Each : One → Type_tree → Type 0
  Each None t = IsBalanced b.0 t
  Each (Some r) t = OwnsNot r.0 t

  each : (j : ℕ) (c : Tree_context) → at_distance j u ≡ Some c → (i : One) → AllEntries (Each i) c
  each j c e None = b.1 j c e
  each j c e (Some r) = spared r.0 r.1 j c e

  pub raised_has : Everywhere (IsBalanced raised) u
  raised_has j c e =
      entries_so Each (IsBalanced raised) (λ t w. balanced_so b.0 raised (λ r. member r (own_resources u.top)) (others_high b.0 u.top k) t (λ r o. w (Some (r, o))) (w None)) c (each j c e)
