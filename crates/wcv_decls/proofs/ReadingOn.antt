-- Declarations that are read one after another: what is read so far, and what that makes of the rest.
use Rattle.std.proofs.Common.{◌≡◌, ℕ, suc, ◌≤◌, ◌<◌, List, [], ◌∷◌, ◌++◌, length, refl, sym, ◌∙◌, ap, subst, arith, inl, inr}
use Rattle.std.specs.Prelude.{◌⊎◌}
use Rattle.wcv_core.specs.Names.{Place, deeper}
use Rattle.wcv_core.specs.Refusal.{error_kind, error_offset}
use Rattle.wcv_core.specs.declared.error.Error.{Error}
use Rattle.wcv_core.specs.declared.error.ErrorKind.{ErrorKind}
use Rattle.wcv_core.specs.declared.error.ErrorKind.TheVariants as kind
use Rattle.wcv_core.specs.declared.features.WasmFeatures.{WasmFeatures}
use Rattle.wcv_syntax.specs.Model.{Decl, Decls, no_decls, declare}
use Rattle.wcv_types.specs.Arena.{Arena}
use Rattle.wcv_types.specs.Standing.{Extends}
use Rattle.wcv_types.proofs.Grown.{extends_refl}
use Rattle.wcv_lower.specs.Checks.{Cause}
use Rattle.wcv_lower.specs.Context.{Kind}
use Rattle.wcv_lower.specs.Declared.{decl_checks}
use Rattle.wcv_lower.specs.DeclaredCalls.{DeclRead, DeclsRead, DeclsRefused}
use Rattle.wcv_lower.specs.Ending.{declared_end_checks}
use Rattle.wcv_lower.specs.Given.{names_of, Numbers, AtMost}
use Rattle.wcv_lower.specs.Trees.{Tree_stack, tree_maker}
use Rattle.wcv_spaces.specs.Contents.{Contents}
use Rattle.wcv_spaces.specs.Promises.{numbers_of, Keeps}
pub use Rattle.wcv_state.proofs.Stacks.{kept_both}
use Rattle.wcv_state.proofs.Stacks.{around_kept}
use Rattle.wcv_decls.specs.Declaring.{innermost, around, features_in, stack_in, AreReady, StayReady, MemoryOr, ReadsDecl, ReadsDecls, RefusesDecl, RefusesDecls}
use Rattle.wcv_decls.specs.Stack.{KeepsOn}

-- ## Numbers

pub most_same : (a : Numbers) → AtMost a a
most_same a = record { resources = omega arith; nodes = omega arith; stamps = omega arith }

pub most_both : (a b c : Numbers) → AtMost a b → AtMost b c → AtMost a c
most_both a b c x y =
    let xr = x.resources in
    let yr = y.resources in
    let xn = x.nodes in
    let yn = y.nodes in
    let xs = x.stamps in
    let ys = y.stamps in
    record { resources = omega (arith, xr, yr); nodes = omega (arith, xn, yn); stamps = omega (arith, xs, ys) }

pub grown_numbers : (a b : Arena) → Extends a b → AtMost (numbers_of a) (numbers_of b)
grown_numbers a b e = record {
  resources = e.resources;
  nodes = subst (λ (n : ℕ). length a.nodes ≤ n) (sym (ap length e.nodes)) (front a.nodes e.more);
  stamps = e.stamps;
}
  where
    front : {X : Type 0} (xs ys : List X) → length xs ≤ length (xs ++ ys)
    front [] ys = omega arith
    front (x ∷ xs) ys = omega (arith, front xs ys)

-- ## What is kept

pub extends_on : (a b : Arena) (ss ss' : List Contents) → 0 < length ss → KeepsOn a b ss ss' → Extends a b
extends_on a b [] ss' l h = absurd (omega (arith, l))
extends_on a b (s ∷ ss) [] l h = elim h [ ]
extends_on a b (s ∷ ss) (t ∷ ts) l h = h.0.arena

-- the innermost keeps what it had
pub innermost_kept : (a b : Arena) (ss ts : List Contents) → 0 < length ss → KeepsOn a b ss ts → Keeps a b (innermost ss) (innermost ts)
innermost_kept a b [] ts l h = absurd (omega (arith, l))
innermost_kept a b (s ∷ ss) [] l h = elim h [ ]
innermost_kept a b (s ∷ []) (t ∷ []) l h = h.0
innermost_kept a b (s ∷ []) (t ∷ u ∷ ts) l h = elim h.1 [ ]
innermost_kept a b (s ∷ r ∷ ss) (t ∷ []) l h = elim h.1 [ ]
innermost_kept a b (s ∷ r ∷ ss) (t ∷ u ∷ ts) l h = innermost_kept a b (r ∷ ss) (u ∷ ts) (omega arith) h.1

-- and so do those around it
pub around_of_kept : (a b : Arena) (ss ts : List Contents) → KeepsOn a b ss ts → KeepsOn a b (around ss) (around ts)
around_of_kept a b [] [] h = tt
around_of_kept a b [] (t ∷ ts) h = elim h [ ]
around_of_kept a b (s ∷ ss) [] h = elim h [ ]
around_of_kept a b (s ∷ []) (t ∷ []) h = tt
around_of_kept a b (s ∷ []) (t ∷ u ∷ ts) h = elim h.1 [ ]
around_of_kept a b (s ∷ r ∷ ss) (t ∷ []) h = elim h.1 [ ]
around_of_kept a b (s ∷ r ∷ ss) (t ∷ u ∷ ts) h = (h.0, around_of_kept a b (r ∷ ss) (u ∷ ts) h.1)

-- ## What was read so far

-- reading the rest, from position n on, where the stack is t, reads them all, and a refusal there refuses them
pub record ReadsOn (fs : WasmFeatures) (k : Kind) (s : Tree_stack) (ds : Decls) (a : Numbers) (n : ℕ) (t : Tree_stack) (left : Decls) (m : Numbers) : Type 0 where
  pub read : (p : Place) (u : Tree_stack) (b : Numbers) → AtMost m b → DeclsRead fs p n t left u m b → DeclsRead fs p 0 s ds u a b
  pub refused : (p : Place) (e : ErrorKind) (b : Numbers) → AtMost m b → DeclsRefused fs p n k t left e m b → DeclsRefused fs p 0 k s ds e a b

module _ (fs : WasmFeatures) (k : Kind) (s : Tree_stack) (ds : Decls) (a : Numbers) where
  pub reads_start : ReadsOn fs k s ds a 0 s ds a
  reads_start = record { read = λ p u b l r. r; refused = λ p e b l r. r }

  module _ (n : ℕ) (t : Tree_stack) (m : Numbers) where
    pub reads_next : (d : Decl) (left : Decls) (t' : Tree_stack) (m' : Numbers) → ReadsOn fs k s ds a n t (declare d left) m → AtMost m m' → ((p : Place) → DeclRead fs p t d t' m m') → ReadsOn fs k s ds a (suc n) t' left m'
    reads_next d left t' m' h l one = record {
      read = λ p u b l' r. h.read p u b (most_both m m' b l l') (t', m', l, l', one (deeper p n), r);
      refused = λ p e b l' r. h.refused p e b (most_both m m' b l l') (inr (t', m', l, l', one (deeper p n), r));
    }

    pub reads_all : (left : Decls) → left ≡ no_decls → ReadsOn fs k s ds a n t left m → (p : Place) → DeclsRead fs p 0 s ds t a m
    reads_all left z h p = h.read p t m (most_same m) (subst (λ (x : Decls). DeclsRead fs p n t x t m m) (sym z) (refl, most_same m))

-- a cause of the end, once all were read
pub end_refused : (fs : WasmFeatures) (p : Place) (n : ℕ) (k : Kind) (s u : Tree_stack) (ds : Decls) (e : ErrorKind) (a m b : Numbers) → AtMost m b → DeclsRead fs p n s ds u a m → Cause (declared_end_checks k u.top) e → DeclsRefused fs p n k s ds e a b
end_refused fs p n k s u no_decls e a m b l r c = subst (λ (t : Tree_stack). Cause (declared_end_checks k t.top) e) (sym r.0) c
end_refused fs p n k s u (declare d ds) e a m b l r c =
    inr (r.0, r.1, r.2, most_both r.1 m b r.3 l, r.4, end_refused fs p (suc n) k r.0 u ds e r.1 m b l r.5 c)

-- ## Over the states

-- what is so while declarations are read
pub record SoFar (k : Kind) (a : Arena) (ss : List Contents) (ds : Decls) (b : Arena) (ts : List Contents) (n : ℕ) (left : Decls) : Type 0 where
  pub ready : StayReady b ss ts
  pub reads : ReadsOn (features_in ss) k (stack_in a ss) ds (numbers_of a) n (stack_in b ts) left (numbers_of b)
  pub kept : KeepsOn a b ss ts

pub nothing_left : {X : Type 0} (xs : List X) → length xs ≡ 0 → xs ≡ []
nothing_left [] h = refl
nothing_left (x ∷ xs) h = absurd (omega (arith, h))

pub so_far_start : (k : Kind) (a : Arena) (ss : List Contents) (ds : Decls) → AreReady a ss → SoFar k a ss ds a ss 0 ds
so_far_start k a ss ds h = record {
  ready = record { ready = h; around = refl };
  reads = reads_start (features_in ss) k (stack_in a ss) ds (numbers_of a);
  kept = around_kept a a (extends_refl a) ss h.each;
}

module _ (k : Kind) (a : Arena) (ss : List Contents) (ds : Decls) (some : 0 < length ss) (b : Arena) (ts : List Contents) (n : ℕ) where
  features_same : KeepsOn a b ss ts → features_in ts ≡ features_in ss
  features_same h = (innermost_kept a b ss ts some h).features

  pub so_far_next : (d : Decl) (left : Decls) (c : Arena) (us : List Contents) → SoFar k a ss ds b ts n (declare d left) → ReadsDecl b c ts us d → StayReady c ts us → KeepsOn b c ts us → SoFar k a ss ds c us (suc n) left
  so_far_next d left c us h r w kept =
      let l : AtMost (numbers_of b) (numbers_of c) = grown_numbers b c (extends_on b c ts us h.ready.ready.some kept) in
      let one : (p : Place) → DeclRead (features_in ss) p (stack_in b ts) d (stack_in c us) (numbers_of b) (numbers_of c) =
      λ p. subst (λ (fs : WasmFeatures). DeclRead fs p (stack_in b ts) d (stack_in c us) (numbers_of b) (numbers_of c)) (features_same h.kept) (r p) in
      record {
        ready = record { ready = w.ready; around = w.around ∙ h.ready.around };
        reads = reads_next (features_in ss) k (stack_in a ss) ds (numbers_of a) n (stack_in b ts) (numbers_of b) d left (stack_in c us) (numbers_of c) h.reads l one;
        kept = kept_both a b c ss ts us h.kept kept;
      }

  pub so_far_all : (left : Decls) → left ≡ no_decls → SoFar k a ss ds b ts n left → ReadsDecls a b ss ts ds
  so_far_all left z h = reads_all (features_in ss) k (stack_in a ss) ds (numbers_of a) n (stack_in b ts) (numbers_of b) left z h.reads

  pub so_far_refused : {M : Type 0} (d : Decl) (left : Decls) (c : Arena) (us : List Contents) (offset : ℕ) (e : Error M) → SoFar k a ss ds b ts n (declare d left) → KeepsOn b c ts us → MemoryOr (RefusesDecl b c ts d) offset e → MemoryOr (RefusesDecls k a c ss ds) offset e
  so_far_refused d left c us offset e h kept r p = go (r (deeper p n))
    where
      l : AtMost (numbers_of b) (numbers_of c)
      l = grown_numbers b c (extends_on b c ts us h.ready.ready.some kept)

      fs : features_in ts ≡ features_in ss
      fs = features_same h.kept

      go : (error_kind e ≡ kind.OutOfMemory) ⊎ (RefusesDecl b c ts d (deeper p n) (error_kind e) × (error_offset e ≡ offset)) → (error_kind e ≡ kind.OutOfMemory) ⊎ (RefusesDecls k a c ss ds p (error_kind e) × (error_offset e ≡ offset))
      go (inl m) = inl m
      go (inr x) = inr (
        h.reads.refused p (error_kind e) (numbers_of c) l
            (inl (x.0.0, x.0.1, subst (λ (z : WasmFeatures). Cause (decl_checks z (tree_maker (names_of x.0.0)) (deeper p n) (stack_in b ts) d) (error_kind e)) fs x.0.2)),
        x.1,
      )

-- ## Another error of the same kind, at the same offset

pub refused_same : {M N : Type 0} (P : Place → ErrorKind → Type 0) (offset : ℕ) (e : Error M) (x : Error N) → error_kind x ≡ error_kind e → error_offset x ≡ error_offset e → MemoryOr P offset e → MemoryOr P offset x
refused_same P offset e x k o h p = go (h p)
  where
    go : (error_kind e ≡ kind.OutOfMemory) ⊎ (P p (error_kind e) × (error_offset e ≡ offset)) → (error_kind x ≡ kind.OutOfMemory) ⊎ (P p (error_kind x) × (error_offset x ≡ offset))
    go (inl m) = inl (k ∙ m)
    go (inr c) = inr (subst (P p) (sym k) c.0, o ∙ c.1)
