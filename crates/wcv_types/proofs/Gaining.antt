-- Sets of resources, and what they gain.
use Rattle.std.proofs.Common.{◌≡◌, ℕ, ◌+◌, ◌≤◌, List, [], ◌∷◌, ◌++◌, length, take, take_all, refl, sym, ◌∙◌, ap, subst, add-one, append-nil, append_assoc, inl, inr, ⊎_elim, Bool, true, false, ◌||◌, cond, eqb, Some, None, Bor}
use Rattle.std.specs.Prelude.{◌⊎◌, map, slice_get, is_some, Option, option_copied}
use Rattle.std.specs.Map.{lookup}
use Rattle.std.proofs.lemmas.Bool.{false≢true}
use Rattle.std.proofs.lemmas.List.{map-append}
use Rattle.wcv_core.specs.Names.{Name, number, same, member}
use Rattle.wcv_core.proofs.Names.{same-true, same-equal}
use Rattle.wcv_types.specs.Gathering.{Continues, Gains}
use Rattle.wcv_types.specs.Sets.{same_resource, has_resource, with_resource, resource_names}
use Rattle.wcv_types.specs.Tree.{firsts}
use Rattle.wcv_types.specs.Unfold.{resource_path}
use Rattle.wcv_types.specs.declared.ids.ResourceId.{ResourceId}
use Rattle.wcv_types.proofs.Lists.{take-next}

-- ## Sets

or_false : (b : Bool) → (b || false) ≡ b
or_false true = refl
or_false false = refl

pub or_split : (b c : Bool) → (b || c) ≡ true → (b ≡ true) ⊎ (c ≡ true)
or_split true c e = inl refl
or_split false c e = inr e

pub or_left : (b c : Bool) → b ≡ true → (b || c) ≡ true
or_left true c e = refl
or_left false c e = absurd (false≢true e)

pub or_right : (b c : Bool) → c ≡ true → (b || c) ≡ true
or_right true c e = refl
or_right false c e = e

pub or_none : (b c : Bool) → (b || c) ≡ false → b ≡ false
or_none true c e = absurd (false≢true (sym e))
or_none false c e = refl

pub none_or : (b c : Bool) → (b || c) ≡ false → c ≡ false
none_or true c e = absurd (false≢true (sym e))
none_or false c e = e

or_assoc : (a b c : Bool) → (a || (b || c)) ≡ ((a || b) || c)
or_assoc true b c = refl
or_assoc false b c = refl

member-append : (r : Name) (xs ys : List Name) → member r (xs ++ ys) ≡ (member r xs || member r ys)
member-append r [] ys = refl
member-append r (x ∷ xs) ys = ap (λ (b : Bool). same r x || b) (member-append r xs ys) ∙ or_assoc (same r x) (member r xs) (member r ys)

-- a set has a resource where its names have its name
pub has-member : (rs : List ResourceId) (q : ResourceId) → has_resource rs q ≡ member (number q.index) (resource_names rs)
has-member [] q = refl
has-member (r ∷ rs) q = ap (λ (b : Bool). eqb q.index r.index || b) (has-member rs q)

names-append : (xs ys : List ResourceId) (r : Name) → member r (resource_names (xs ++ ys)) ≡ (member r (resource_names xs) || member r (resource_names ys))
names-append xs ys r = ap (member r) (map-append (λ (q : ResourceId). number q.index) xs ys) ∙ member-append r (resource_names xs) (resource_names ys)

pub kept : (old new : List ResourceId) (r : Name) → Continues old new → member r (resource_names old) ≡ true → member r (resource_names new) ≡ true
kept old new r c h =
    ap (λ (rs : List ResourceId). member r (resource_names rs)) c.1 ∙ names-append old c.0 r ∙ or_left (member r (resource_names old)) (member r (resource_names c.0)) h

pub continues_refl : (rs : List ResourceId) → Continues rs rs
continues_refl rs = ([], sym (append-nil rs))

pub continues_trans : (xs ys zs : List ResourceId) → Continues xs ys → Continues ys zs → Continues xs zs
continues_trans xs ys zs c d = (c.0 ++ d.0, d.1 ∙ ap (λ (rs : List ResourceId). rs ++ d.0) c.1 ∙ append_assoc xs c.0 d.0)

-- ## What a set gains

-- nothing, where it has all
pub gains_held : (P : Name → Type 0) (rs : List ResourceId) → ((r : Name) → P r → member r (resource_names rs) ≡ true) → Gains P rs rs
gains_held P rs h = record { keeps = continues_refl rs; all = h; only = λ r m. inl m }

-- one after another
pub gains_then : (P Q : Name → Type 0) (xs ys zs : List ResourceId) → Gains P xs ys → Gains Q ys zs → Gains (λ r. P r ⊎ Q r) xs zs
gains_then P Q xs ys zs g h = record {
  keeps = continues_trans xs ys zs g.keeps h.keeps;
  all = λ r w. ⊎_elim (λ (x : P r). kept ys zs r h.keeps (g.all r x)) (λ (y : Q r). h.all r y) w;
  only = λ r m. ⊎_elim (λ (x : member r (resource_names ys) ≡ true). ⊎_elim (λ (y : member r (resource_names xs) ≡ true). inl y) (λ (y : P r). inr (inl y)) (g.only r x)) (λ (y : Q r). inr (inr y)) (h.only r m);
}

-- the same, said in other words
pub gains_as : (P Q : Name → Type 0) (xs ys : List ResourceId) → ((r : Name) → P r → Q r) → ((r : Name) → Q r → P r) → Gains P xs ys → Gains Q xs ys
gains_as P Q xs ys to back g = record {
  keeps = g.keeps;
  all = λ r y. g.all r (back r y);
  only = λ r m. ⊎_elim (λ (x : member r (resource_names xs) ≡ true). inl x) (λ (x : P r). inr (to r x)) (g.only r m);
}

-- all of a set
pub gains_all : (P : Name → Type 0) (set xs ys : List ResourceId) → Gains P [] set → Gains (λ r. member r (resource_names set) ≡ true) xs ys → Gains P xs ys
gains_all P set xs ys g h = gains_as (λ r. member r (resource_names set) ≡ true) P xs ys (λ r m. found r (g.only r m)) (λ r x. g.all r x) h
  where
    found : (r : Name) → (member r (resource_names []) ≡ true) ⊎ P r → P r
    found r (inl x) = absurd (false≢true x)
    found r (inr x) = x

-- one behind the others
at_end : (rs : List ResourceId) (q : ResourceId) (r : Name) → member r (resource_names (rs ++ q ∷ [])) ≡ (member r (resource_names rs) || same r (number q.index))
at_end rs q r = names-append rs (q ∷ []) r ∙ ap (λ (b : Bool). member r (resource_names rs) || b) (or_false (same r (number q.index)))

-- one resource
pub gains_push : (rs : List ResourceId) (q : ResourceId) → Gains (λ r. r ≡ number q.index) rs (with_resource rs q)
gains_push rs q = go (has_resource rs q) refl
  where
    go : (b : Bool) → has_resource rs q ≡ b → Gains (λ r. r ≡ number q.index) rs (cond b rs (rs ++ q ∷ []))
    go true e = gains_held (λ r. r ≡ number q.index) rs (λ r i. ap (λ (x : Name). member x (resource_names rs)) i ∙ sym (has-member rs q) ∙ e)
    go false e = record {
      keeps = (q ∷ [], refl);
      all = λ r i. at_end rs q r ∙ or_right (member r (resource_names rs)) (same r (number q.index)) (same-equal r (number q.index) i);
      only = λ r m. ⊎_elim (λ (x : member r (resource_names rs) ≡ true). inl x) (λ (x : same r (number q.index) ≡ true). inr (same-true r (number q.index) x)) (or_split (member r (resource_names rs)) (same r (number q.index)) (sym (at_end rs q r) ∙ m));
    }

-- none, so far
pub gains_nothing : (P : Name → Type 0) (rs : List ResourceId) → ((r : Name) → P r → ⊥) → Gains P rs rs
gains_nothing P rs h = gains_held P rs (λ r x. absurd (h r x))

-- ## What is not owned

true_or_false : (b : Bool) → b ≡ true → b ≡ false → ⊥
true_or_false b e f = false≢true (sym f ∙ e)

-- a type owns a resource or not
module _ (owns : Name → Bool) where
  abbrev pub One : ResourceId → Name → Type 0
  One q r = (r ≡ number q.index) × (owns r ≡ false)

  pub unowned_held : (rs : List ResourceId) (q : ResourceId) → owns (number q.index) ≡ true → Gains (One q) rs rs
  unowned_held rs q e = gains_nothing (One q) rs (λ r w. true_or_false (owns r) (ap owns w.0 ∙ e) w.1)

  pub unowned_push : (xs ys : List ResourceId) (q : ResourceId) → owns (number q.index) ≡ false → ys ≡ with_resource xs q → Gains (One q) xs ys
  unowned_push xs ys q e w = gains_as (λ r. r ≡ number q.index) (One q) xs ys (λ r i. (i, ap owns i ∙ e)) (λ r i. i.0) (subst (Gains (λ r. r ≡ number q.index) xs) (sym w) (gains_push xs q))

  abbrev pub Outside : List ResourceId → Name → Type 0
  Outside inside r = (member r (resource_names inside) ≡ true) × (owns r ≡ false)

  -- one more of those that are inside
  pub outside_next : (inside : List ResourceId) (k : ℕ) (q : ResourceId) (xs ys zs : List ResourceId) → slice_get inside k ≡ Some q → Gains (Outside (take k inside)) xs ys → Gains (One q) ys zs → Gains (Outside (take (k + 1) inside)) xs zs
  outside_next inside k q xs ys zs e g h =
      let more : take (k + 1) inside ≡ take k inside ++ q ∷ [] = ap (λ (j : ℕ). take j inside) (add-one k) ∙ take-next inside k q e in
      subst (λ (rs : List ResourceId). Gains (Outside rs) xs zs) (sym more)
      (gains_as (λ r. Outside (take k inside) r ⊎ One q r) (Outside (take k inside ++ q ∷ [])) xs zs to back (gains_then (Outside (take k inside)) (One q) xs ys zs g h))
    where
      split : (r : Name) → member r (resource_names (take k inside ++ q ∷ [])) ≡ (member r (resource_names (take k inside)) || same r (number q.index))
      split r = at_end (take k inside) q r

      to : (r : Name) → Outside (take k inside) r ⊎ One q r → Outside (take k inside ++ q ∷ []) r
      to r (inl f) = (split r ∙ or_left (member r (resource_names (take k inside))) (same r (number q.index)) f.0, f.1)
      to r (inr f) = (split r ∙ or_right (member r (resource_names (take k inside))) (same r (number q.index)) (same-equal r (number q.index) f.0), f.1)

      back : (r : Name) → Outside (take k inside ++ q ∷ []) r → Outside (take k inside) r ⊎ One q r
      back r f =
          ⊎_elim (λ (x : member r (resource_names (take k inside)) ≡ true). inl (x, f.1)) (λ (x : same r (number q.index) ≡ true). inr (same-true r (number q.index) x, f.1))
          (or_split (member r (resource_names (take k inside))) (same r (number q.index)) (sym (split r) ∙ f.0))

-- ## All of a set

-- so where nothing is owned
pub joined_next : (set : List ResourceId) (k : ℕ) (q : ResourceId) (xs ys zs : List ResourceId) → slice_get set k ≡ Some q → Gains (Outside (λ r. false) (take k set)) xs ys → zs ≡ with_resource ys q → Gains (Outside (λ r. false) (take (k + 1) set)) xs zs
joined_next set k q xs ys zs e g w = outside_next (λ r. false) set k q xs ys zs e g (unowned_push (λ r. false) ys zs q refl w)

pub joined : (set : List ResourceId) (k : ℕ) (xs ys : List ResourceId) → length set ≤ k → Gains (Outside (λ r. false) (take k set)) xs ys → Gains (λ r. member r (resource_names set) ≡ true) xs ys
joined set k xs ys l g =
    gains_as (Outside (λ r. false) set) (λ r. member r (resource_names set) ≡ true) xs ys (λ r m. m.0) (λ r m. (m, refl))
    (subst (λ (rs : List ResourceId). Gains (Outside (λ r. false) rs) xs ys) (take_all k set l) g)

-- ## What a component owns

-- a resource that has a path stands first in one
path-member : (ps : List (ResourceId × List ℕ)) (q : ResourceId) → is_some (lookup (same_resource q) ps) ≡ member (number q.index) (firsts (map resource_path ps))
path-member [] q = refl
path-member (p ∷ ps) q = go (same_resource q p.0) (path-member ps q)
  where
    go : (b : Bool) → is_some (lookup (same_resource q) ps) ≡ member (number q.index) (firsts (map resource_path ps)) → is_some (cond b (Some p.1) (lookup (same_resource q) ps)) ≡ (b || member (number q.index) (firsts (map resource_path ps)))
    go true e = refl
    go false e = e

copied-some : {T : Type 0} (o : Option (Bor T)) → is_some o ≡ is_some (option_copied o)
copied-some None = refl
copied-some (Some x) = refl

pub path_owned : (ps : List (ResourceId × List ℕ)) (q : ResourceId) (o : Option (Bor (List ℕ))) → option_copied o ≡ lookup (same_resource q) ps → is_some o ≡ member (number q.index) (firsts (map resource_path ps))
path_owned ps q o e = copied-some o ∙ ap is_some e ∙ path-member ps q
