-- Items that are read one after another: what is read so far, and what that makes of the rest.
use Rattle.std.proofs.Common.{◌≡◌, ℕ, suc, List, [], ◌++◌, false, refl, sym, ◌∙◌, subst, append-nil, append_assoc, inl, inr}
use Rattle.std.specs.Prelude.{◌⊎◌}
use Rattle.wcv_core.specs.Names.{Place, deeper}
use Rattle.wcv_core.specs.Refusal.{error_kind, error_offset}
use Rattle.wcv_core.specs.declared.error.Error.{Error}
use Rattle.wcv_core.specs.declared.error.ErrorKind.{ErrorKind}
use Rattle.wcv_core.specs.declared.error.ErrorKind.TheVariants as kind
use Rattle.wcv_core.specs.declared.features.WasmFeatures.{WasmFeatures}
use Rattle.wcv_syntax.specs.Model.{Form, component_item, Items, no_items, next_item}
use Rattle.wcv_types.specs.Arena.{Arena}
use Rattle.wcv_types.proofs.Grown.{extends_refl, extends_trans}
use Rattle.wcv_lower.specs.Given.{names_of, Numbers, AtMost}
use Rattle.wcv_lower.specs.Names.{Names}
use Rattle.wcv_lower.specs.Trees.{Tree_stack}
use Rattle.wcv_spaces.specs.Contents.{Contents}
use Rattle.wcv_spaces.specs.Promises.{numbers_of}
use Rattle.wcv_decls.specs.Declaring.{features_in, stack_in}
use Rattle.wcv_decls.proofs.ReadingOn.{most_same, most_both, grown_numbers}
use Rattle.wcv_growth.specs.Nested.{Nested_types, nested_in}
use Rattle.wcv_link.specs.Reached.{IsReached}
use Rattle.wcv_link.specs.ItemCalls.{ItemTells, ItemsRead, ItemRefused, ItemsRefused}
use Rattle.wcv_link.specs.Progress.{looks_around, IsReady, GoesOn, AcceptsItem, RefusesItem, TellsItem, AcceptsItems, TellsItems, RefusesItems}
use Rattle.wcv_link.specs.Told.{Ended}
use Rattle.wcv_link.specs.declared.nesting.Nesting.{Nesting}
use Rattle.wcv_link.proofs.Reaching.{reached_behind}
use Rattle.wcv_link.proofs.Telling.{ended_both, ended_none, ended_inside}

-- reading the rest, from position k on, where the stack is t, reads them all, where components of those types ended before, and a refusal
-- there refuses them
pub record ReadsOn (fs : WasmFeatures) (s : Tree_stack) (is : Items) (a : Numbers) (k : ℕ) (t : Tree_stack) (left : Items) (m : Numbers) (nested : Place → Nested_types) : Type 0 where
  pub read : (w : Place) (u : Tree_stack) (b : Numbers) (xs : Nested_types) → AtMost m b → ItemsRead fs w k t left u m b xs → ItemsRead fs w 0 s is u a b (nested w ++ xs)
  pub refused : (w : Place) (end : ℕ) (e : ErrorKind) (at : ℕ) (b : Numbers) → AtMost m b → ItemsRefused fs w k t left end e at m b → ItemsRefused fs w 0 s is end e at a b

module _ (fs : WasmFeatures) (s : Tree_stack) (is : Items) (a : Numbers) where
  reads_start : ReadsOn fs s is a 0 s is a (λ w. [])
  reads_start = record { read = λ w u b xs l r. r; refused = λ w end e at b l r. r }

  module _ (k : ℕ) (t : Tree_stack) (m : Numbers) (nested : Place → Nested_types) where
    reads_next : (at : ℕ) (f : Form) (left : Items) (t' : Tree_stack) (m' : Numbers) (ys : Place → Nested_types) → ReadsOn fs s is a k t (next_item at f left) m nested → AtMost m m' → ((p : Place) → ItemTells fs p t f t' m m' (ys p)) →
        ReadsOn fs s is a (suc k) t' left m' (λ w. nested w ++ ys (deeper w k))
    reads_next at f left t' m' ys h l one = record {
      read = λ w u b xs l' r.
          subst (λ (zs : Nested_types). ItemsRead fs w 0 s is u a b zs) (sym (append_assoc (nested w) (ys (deeper w k)) xs))
          (h.read w u b (ys (deeper w k) ++ xs) (most_both m m' b l l') (t', m', l, l', ys (deeper w k), xs, one (deeper w k), r, refl));
      refused = λ w end e offset b l' r. h.refused w end e offset b (most_both m m' b l l') (inr (t', m', l, l', (one (deeper w k)).0, r));
    }

    reads_all : (left : Items) → left ≡ no_items → ReadsOn fs s is a k t left m nested → (w : Place) → ItemsRead fs w 0 s is t a m (nested w)
    reads_all left z h w =
        subst (λ (xs : Nested_types). ItemsRead fs w 0 s is t a m xs) (append-nil (nested w)) (h.read w t m [] (most_same m) (subst (λ (x : Items). ItemsRead fs w k t x t m m []) (sym z) (refl, most_same m, refl)))

-- ## Over the states

-- what is so while items are read
pub record ItemsSoFar (a : Arena) (ss : List Contents) (is : Items) (b : Arena) (ts : List Contents) (k : ℕ) (left : Items) (nested : Place → Nested_types) : Type 0 where
  pub going : GoesOn a b ss ts
  pub reads : ReadsOn (features_in ss) (stack_in a ss) is (numbers_of a) k (stack_in b ts) left (numbers_of b) nested
  pub reached : IsReached b ts

pub so_far_start : (a : Arena) (ss : List Contents) (is : Items) → IsReady a ss → IsReached a ss → ItemsSoFar a ss is a ss 0 is (λ w. [])
so_far_start a ss is h r = record {
  going = record { ready = h; around = refl; features = refl; arena = extends_refl a };
  reads = reads_start (features_in ss) (stack_in a ss) is (numbers_of a);
  reached = r;
}

module _ (a : Arena) (ss : List Contents) (is : Items) (b : Arena) (ts : List Contents) (k : ℕ) (nested : Place → Nested_types) where
  so_far_next : (at : ℕ) (f : Form) (left : Items) (c : Arena) (us : List Contents) (old new : Nesting) → ItemsSoFar a ss is b ts k (next_item at f left) nested → (r : TellsItem b c old new ts us f) →
      ItemsSoFar a ss is c us (suc k) left (λ w. nested w ++ r.nested (deeper w k))
  so_far_next at f left c us old new h r =
      let one : (p : Place) → ItemTells (features_in ss) p (stack_in b ts) f (stack_in c us) (numbers_of b) (numbers_of c) (r.nested p) =
      λ p. subst (λ (fs : WasmFeatures). ItemTells fs p (stack_in b ts) f (stack_in c us) (numbers_of b) (numbers_of c) (r.nested p)) h.going.features (r.reads p) in
      record {
        going = record {
          ready = r.goes_on.ready;
          around = r.goes_on.around ∙ h.going.around;
          features = r.goes_on.features ∙ h.going.features;
          arena = extends_trans a b c h.going.arena r.goes_on.arena;
        };
        reads = reads_next (features_in ss) (stack_in a ss) is (numbers_of a) k (stack_in b ts) (numbers_of b) nested at f left (stack_in c us) (numbers_of c) r.nested h.reads (grown_numbers b c r.goes_on.arena) one;
        reached = reached_behind b c ts us f h.reached r.goes_on.arena r.goes_on.features (r.reads (deeper h.reached.place h.reached.position)).0;
      }

  so_far_all : (left : Items) → left ≡ no_items → ItemsSoFar a ss is b ts k left nested → AcceptsItems a b ss ts is nested
  so_far_all left z h = record {
    reads = reads_all (features_in ss) (stack_in a ss) is (numbers_of a) k (stack_in b ts) (numbers_of b) nested left z h.reads;
    goes_on = h.going;
    reached = h.reached;
  }

  -- out of memory
  pub so_far_memory : {M : Type 0} (left : Items) (e : Error M) → ItemsSoFar a ss is b ts k left nested → error_kind e ≡ kind.OutOfMemory → RefusesItems a b ss is e
  so_far_memory left e h m = record { refused = λ w end. inl m; arena = h.going.arena }

  -- by an error of that kind and that offset
  pub so_far_refused : {M N : Type 0} (at : ℕ) (f : Form) (left : Items) (c : Arena) (e : Error M) (x : Error N) → ItemsSoFar a ss is b ts k (next_item at f left) nested → error_kind x ≡ error_kind e → error_offset x ≡ error_offset e →
      RefusesItem b c ts f at e → RefusesItems a c ss is x
  so_far_refused at f left c e x h same offset r = record { refused = λ w end. go w end (r.refused (deeper w k)); arena = extends_trans a b c h.going.arena r.arena }
    where
      Here : WasmFeatures → Place → ErrorKind → ℕ → Type 0
      Here fs w j i = ItemRefused fs (deeper w k) (stack_in b ts) at f j i (numbers_of b) (numbers_of c)

      go : (w : Place) (end : ℕ) → (error_kind e ≡ kind.OutOfMemory) ⊎ Here (features_in ts) w (error_kind e) (error_offset e) →
          (error_kind x ≡ kind.OutOfMemory) ⊎ ItemsRefused (features_in ss) w 0 (stack_in a ss) is end (error_kind x) (error_offset x) (numbers_of a) (numbers_of c)
      go w end (inl m) = inl (same ∙ m)
      go w end (inr y) =
          let z : Here (features_in ss) w (error_kind x) (error_offset x) =
          subst (λ (fs : WasmFeatures). Here fs w (error_kind x) (error_offset x)) h.going.features
          (subst (λ (j : ErrorKind). Here (features_in ts) w j (error_offset x)) (sym same) (subst (λ (i : ℕ). Here (features_in ts) w (error_kind e) i) (sym offset) y)) in
          inr (h.reads.refused w end (error_kind x) (error_offset x) (numbers_of c) (grown_numbers b c r.arena) (inl z))

-- ## Components inside others

-- none ends in an item that looks at no other
pub none_ends : (f : Form) → looks_around f ≡ false → (fs : WasmFeatures) (names : Names) (p : Place) (s : Tree_stack) → nested_in fs names p s f ≡ []
none_ends (component_item is end) e fs names p s = cc
none_ends f e fs names p s = refl

-- an item in which none ends
pub plain_tells : (a b : Arena) (n : Nesting) (ss ss' : List Contents) (f : Form) → ((fs : WasmFeatures) (names : Names) (p : Place) (s : Tree_stack) → nested_in fs names p s f ≡ []) → AcceptsItem a b ss ss' f → TellsItem a b n n ss ss' f
plain_tells a b n ss ss' f none w = record {
  nested = λ p. [];
  reads = λ p. (w.reads p, none (features_in ss) (names_of (w.reads p).0) p (stack_in a ss));
  goes_on = w.goes_on;
  ended = ended_none b n n refl refl;
}

-- so far they ended, and the place is that of the list
pub record ToldSoFar (a : Arena) (old : Nesting) (ss : List Contents) (is : Items) (b : Arena) (now : Nesting) (ts : List Contents) (k : ℕ) (left : Items) : Type 0 where
  pub nested : Place → Nested_types
  pub far : ItemsSoFar a ss is b ts k left nested
  pub ended : Ended b old now (nested old.place.items)

pub told_start : (a : Arena) (old : Nesting) (ss : List Contents) (is : Items) → IsReady a ss → IsReached a ss → ToldSoFar a old ss is a old ss 0 is
told_start a old ss is h r = record { nested = λ w. []; far = so_far_start a ss is h r; ended = ended_none a old old refl refl }

module _ (a : Arena) (old : Nesting) (ss : List Contents) (is : Items) (b : Arena) (now : Nesting) (ts : List Contents) (k : ℕ) where
  -- the next item was read at its place
  pub told_next : (at : ℕ) (f : Form) (left : Items) (c : Arena) (us : List Contents) (before after new : Nesting) → ToldSoFar a old ss is b now ts k (next_item at f left) → before.place.items ≡ deeper now.place.items k →
      before.ended.items ≡ now.ended.items → TellsItem b c before after ts us f → ((w : Place) (j : ℕ) → after.place.items ≡ deeper w j → new.place.items ≡ w) → new.ended.items ≡ after.ended.items → ToldSoFar a old ss is c new us (suc k) left
  told_next at f left c us before after new h place ended x leave same =
      let here : Ended c now new (x.nested (deeper now.place.items k)) = ended_inside c now new k before after x.nested place ended x.ended leave same in
      record {
        nested = λ w. h.nested w ++ x.nested (deeper w k);
        far = so_far_next a ss is b ts k h.nested at f left c us before after h.far x;
        ended = ended_both b c x.goes_on.arena old now new (h.nested old.place.items) (x.nested (deeper old.place.items k)) h.ended (subst (λ (w : Place). Ended c now new (x.nested (deeper w k))) h.ended.place here);
      }

  pub told_all : (left : Items) → left ≡ no_items → ToldSoFar a old ss is b now ts k left → TellsItems a b old now ss ts is
  told_all left z h = record { nested = h.nested; accepts = so_far_all a ss is b ts k h.nested left z h.far; ended = h.ended }
