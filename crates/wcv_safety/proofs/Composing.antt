-- Composition: where a component matches another, what opens the other's imports opens its imports, and what opens its exports opens
-- the other's.
use Rattle.std.proofs.Common.{◌≡◌, ℕ, zero, suc, ◌+◌, List, refl, subst, arith}
use Rattle.wcv_core.specs.Names.{Name, member}
use Rattle.wcv_types.specs.Resources.{owns, Free}
use Rattle.wcv_types.specs.Seen.{Within, outer, inner}
use Rattle.wcv_types.specs.Tree.{Text, Head, head, Sort, is_component, sort, imported_at}
use Rattle.wcv_types.specs.Unfold.{Type_tree}
use Rattle.wcv_matching.specs.Matching.{Item_rule, Reading, Fresh, within, made, in_component, atoms, left, right, Entries, MatchBelow, MatchAs, named_imports, named_exports}
use Rattle.wcv_matching.proofs.MatchingKept.{MatchBelow-map}
use Rattle.wcv_matching.proofs.MatchingOrder.{Goes_on, EachFound-trans, MatchBelow-trans, MatchBelow-add}
use Rattle.wcv_matching.proofs.TreeParts.{two}
use Rattle.wcv_safety.specs.Fitting.{MatchesAs, in_all}

pub MatchesAs-trans : (C : Item_rule) → Goes_on C → {A : Type 0} (f g h : Reading A) (x y z : Type_tree) → MatchesAs C f g x y → MatchesAs C g h y z → MatchesAs C f h x z
MatchesAs-trans C on {A} f g h x y z p q = (
  q.0 + p.0,
  MatchBelow-trans C on (q.0 + p.0) A f g h x y z
      (MatchBelow-add C q.0 p.0 (q.0 + p.0) A f g x y refl p.1)
      (MatchBelow-add C p.0 q.0 (q.0 + p.0) A g h y z (omega arith) q.1),
)

pub MatchesAs-map : (C : Item_rule) → {A B : Type 0} (h : A → B) (f g : Reading A) (f' g' : Reading B) (x y : Type_tree) →
    ((r : Name) → Free r x → h (f r) ≡ f' r) → ((r : Name) → Free r y → h (g r) ≡ g' r) → MatchesAs C f g x y → MatchesAs C f' g' x y
MatchesAs-map C {A} {B} h f g f' g' x y p q m = (m.0, MatchBelow-map C m.0 A B h f g f' g' x y p q m.1)

-- what resources of outside and imported ones of the right component are read as
abbrev pub read_within : (Name → Name) → Within Name → Name
read_within s (outer o) = o
read_within s (inner r) = s r

-- and those that are made
abbrev pub read_fresh : (Name → Name) → (Name → Name) → Fresh Name → Name
read_fresh s u (within w) = read_within s w
read_fresh s u (made r) = u r

in_component-read : (h : Head Name Name) (s t : Reading (Fresh Name)) (f : Name → Name) (s' u' k u : Name → Name) →
    ((r : Name) → read_fresh k u (s r) ≡ s' r) → ((r : Name) → read_fresh k u (t r) ≡ u' r) →
    (r : Name) → read_fresh k u (in_component h s t f r) ≡ in_all h s' u' f r
in_component-read h s t f s' u' k u p q r =
    two (read_fresh k u) (owns h r) _ _ _ _ (two (read_fresh k u) (member r (imported_at h)) _ _ _ _ (p r) (q r)) refl

-- v matches c, whose resources are read by f
module _ (C : Item_rule) (on : Goes_on C) (f : Name → Name) (v c : Type_tree) (m : MatchesAs C {A = Name} (λ r. r) f v c) (is : sort v ≡ is_component) where
  abbrev pub Rule : ℕ → Type 0
  Rule d = MatchAs C (MatchBelow C d) is_component Name (λ r. r) f v c

  pub rule : (d : ℕ) × Rule d
  rule = go m.0 m.1
    where
      go : (d : ℕ) → MatchBelow C d Name (λ r. r) f v c → (d : ℕ) × Rule d
      go zero w = absurd w
      go (suc d) w = (d, subst (λ (s : Sort). MatchAs C (MatchBelow C d) s Name (λ r. r) f v c) is w.1)

  -- how the imported resources of v are read where those of c are read by s
  abbrev pub imported_as : (Name → Name) → Name → Name
  imported_as s r = read_within s (rule.1.0 r)

  -- how the defined resources of c are read where those of v are read by u
  abbrev pub defined_as : (Name → Name) → (Name → Name) → Name → Name
  defined_as s u r = read_fresh s u (rule.1.1 r)

  pub opens_imports : (s u : Name → Name) (args : List (Text × Type_tree)) → Entries (MatchesAs C {A = Name} (λ r. r) (in_all (head c) s u f)) args (named_imports c) →
      Entries (MatchesAs C {A = Name} (λ r. r) (in_all (head v) (imported_as s) u (λ r. r))) args (named_imports v)
  opens_imports s u args o =
      EachFound-trans args (named_imports c) (named_imports v)
      (λ x y z k l. MatchesAs-trans C on (λ r. r) (in_all (head c) s u f) (in_all (head v) (imported_as s) u (λ r. r)) x y z k
      (MatchesAs-map C (read_fresh s u) (right made f c) (left rule.1.0 (λ r. r) v) (in_all (head c) s u f) (in_all (head v) (imported_as s) u (λ r. r)) y z
      (λ r _. in_component-read (head c) atoms made f s u s u (λ r. refl) (λ r. refl) r)
      (λ r _. in_component-read (head v) (λ r. within (rule.1.0 r)) made (λ r. r) (imported_as s) u s u (λ r. refl) (λ r. refl) r) (rule.0, l)))
      o rule.1.2

  pub opens_exports : (s u : Name → Name) (es : List (Text × Type_tree)) → Entries (MatchesAs C {A = Name} (λ r. r) (in_all (head v) (imported_as s) u (λ r. r))) es (named_exports v) →
      Entries (MatchesAs C {A = Name} (λ r. r) (in_all (head c) s (defined_as s u) f)) es (named_exports c)
  opens_exports s u es o =
      EachFound-trans es (named_exports v) (named_exports c)
      (λ x y z k l. MatchesAs-trans C on (λ r. r) (in_all (head v) (imported_as s) u (λ r. r)) (in_all (head c) s (defined_as s u) f) x y z k
      (MatchesAs-map C (read_fresh s u) (left rule.1.0 (λ r. r) v) (right rule.1.1 f c) (in_all (head v) (imported_as s) u (λ r. r)) (in_all (head c) s (defined_as s u) f) y z
      (λ r _. in_component-read (head v) (λ r. within (rule.1.0 r)) made (λ r. r) (imported_as s) u s u (λ r. refl) (λ r. refl) r)
      (λ r _. in_component-read (head c) atoms rule.1.1 f s (defined_as s u) s u (λ r. refl) (λ r. refl) r) (rule.0, l)))
      o rule.1.3
