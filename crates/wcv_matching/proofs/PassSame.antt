-- The pass decides Same.
use Rattle.std.proofs.Common.{◌≡◌, ℕ, zero, suc, ◌<◌, List, [], ◌∷◌, Bool, true, false, cond, ◌&&◌, ◌||◌, eqb, eq-eqb, refl, ap, sym, subst, ◌∙◌, arith, inl, inr, ◌⊎◌, ⊎_elim}
use Rattle.std.specs.Prelude.{Contains, Option, Some, None, is_some, All}
use Rattle.std.specs.Bool.{Decides, one_answer}
use Rattle.std.specs.List.{list_all}
use Rattle.std.specs.Map.{lookup}
use Rattle.std.proofs.lemmas.Bool.{eqb-true}
use Rattle.std.proofs.lemmas.Bool.Decides.{Decides-and, Decides-like}
use Rattle.std.proofs.lemmas.List.Elements.{All-weaker, All-contains, All-contains_itself, All-head, All-tail}
use Rattle.std.proofs.lemmas.List.Sums.{AllPass-from_list_all, list_all-from_AllPass}
use Rattle.std.proofs.lemmas.Map.Views.{lookup-from_Contains}
use Rattle.std.proofs.Math.Path.{fun_ext}
use Rattle.wcv_core.specs.Names.{Name, member, same}
use Rattle.wcv_core.proofs.Names.{same-true, same-refl}
use Rattle.wcv_types.specs.ByName.{NamesDiffer}
use Rattle.wcv_types.specs.Paths.{PathLeadsTo}
use Rattle.wcv_types.specs.Tree as tree
use Rattle.wcv_types.specs.Tree.{Text, Extern_name, Head, nothing, primitive, resource, defined, func, instance, component, type_entity, core_module, core_instance, core_type, core_item, Tree, node, Sort, is_nothing, is_value, is_resource, is_func, is_instance, is_component, is_type, is_module, is_core_instance, is_core_type, is_core_item, sort, head, referenced, imported, imported_at, firsts}
use Rattle.wcv_types.specs.Resources.{owns}
use Rattle.wcv_types.specs.Seen.{Within, outer, inner, seen}
use Rattle.wcv_types.specs.Unfold.{Type_tree}
use Rattle.wcv_closed.proofs.ModuleMatching.{texts_equiv}
use Rattle.wcv_matching.specs.Matching.{Item_rule, Entries, Reading, outside, in_instance, Fresh, within, made, in_component, right, MatchBelow, named, named_exports, named_imports}
use Rattle.wcv_matching.specs.NamedPaths.{entry, follow}
use Rattle.wcv_matching.specs.OnePass.{Atom, given, owned_in, made_in, IsAbove, under_at, component_at, imported_paths, made_paths, counterpart, imported_in, defined_in, goes, first_to, one_to_one, own_pair_up, found_in, pairs_pass, same_members, sort_number, Pass, Tests, AreRight, same_as, same_below}
use Rattle.wcv_matching.specs.Orderly.{Orderly, AllPathsLead}
use Rattle.wcv_matching.specs.SameTypes.{made_at, defined_by, Pairs, Pairing, paired_imports, paired, SameAs, SameBelow}
use Rattle.wcv_matching.proofs.NamedLists.{entry-contains, some-inj}
use Rattle.wcv_matching.proofs.TreeParts.{two}
use Rattle.wcv_matching.proofs.SameTypes.{SameBelow-both, in_component-at, owned-defined, defined-owned}
use Rattle.wcv_matching.proofs.BothWays.{Leads, leads_named, orderly-export, orderly-import, orderly-referenced, exports-differ, imports-differ, export-differs, import-differs, path-met, read-imported, read-defined}
use Rattle.wcv_matching.proofs.MatchingOnce.{SameBelow-map}

-- ## Tests on lists

pub all-pass : {X : Type 0} (p : X → Bool) (xs : List X) → ((x : X) → Contains xs x → p x ≡ true) → list_all p xs ≡ true
all-pass p xs k = list_all-from_AllPass p xs (All-weaker (λ x. Contains xs x) (λ x. p x ≡ true) k xs (All-contains_itself xs))

pub passes : {X : Type 0} (p : X → Bool) (xs : List X) → list_all p xs ≡ true → (x : X) → Contains xs x → p x ≡ true
passes p xs h x c = All-contains (λ x. p x ≡ true) xs x (AllPass-from_list_all p xs h) c

pub and_left : (a b : Bool) → (a && b) ≡ true → a ≡ true
and_left true b h = refl
and_left false b h = h

pub and_right : (a b : Bool) → (a && b) ≡ true → b ≡ true
and_right true b h = h
and_right false b h = cc

pub and_both : (a b : Bool) → a ≡ true → b ≡ true → (a && b) ≡ true
and_both true b h k = k
and_both false b h k = h

or_left : (a b : Bool) → a ≡ true → (a || b) ≡ true
or_left true b h = refl
or_left false b h = cc

or_right : (a b : Bool) → b ≡ true → (a || b) ≡ true
or_right true b h = refl
or_right false b h = h

or_then : (a b : Bool) → (a || b) ≡ true → a ≡ false → b ≡ true
or_then true b h k = cc
or_then false b h k = h

or_cases : (a b : Bool) → (a || b) ≡ true → (a ≡ true) ⊎ (b ≡ true)
or_cases true b h = inl refl
or_cases false b h = inr h

or_when : (a b : Bool) → (a ≡ false → b ≡ true) → (a || b) ≡ true
or_when true b k = refl
or_when false b k = k refl

pub passes-member : (p : Name → Bool) (rs : List Name) → list_all p rs ≡ true → (r : Name) → member r rs ≡ true → p r ≡ true
passes-member p [] h r m = cc
passes-member p (q ∷ rs) h r m =
    ⊎_elim (λ (e : same r q ≡ true). ap p (same-true r q e) ∙ and_left (p q) _ h) (λ (e : member r rs ≡ true). passes-member p rs (and_right (p q) _ h) r e) (or_cases (same r q) (member r rs) m)

pub all-members : (p : Name → Bool) (rs : List Name) → ((r : Name) → member r rs ≡ true → p r ≡ true) → list_all p rs ≡ true
all-members p [] k = refl
all-members p (q ∷ rs) k =
    and_both (p q) _ (k q (or_left (same q q) _ (same-refl q))) (all-members p rs (λ r m. k r (or_right (same r q) _ m)))

pub same_members-decides : (xs ys : List Name) → Decides (same_members xs ys) ((r : Name) → member r xs ≡ member r ys)
same_members-decides xs ys = (
  λ h r. one_answer (member r xs) (member r ys)
      (passes-member (λ r. member r ys) xs (and_left _ (list_all (λ r. member r xs) ys) h) r, passes-member (λ r. member r xs) ys (and_right (list_all (λ r. member r ys) xs) _ h) r)
      (λ h. h, λ h. h),
  λ e. and_both _ _ (all-members (λ r. member r ys) xs (λ r m. sym (e r) ∙ m)) (all-members (λ r. member r xs) ys (λ r m. e r ∙ m)),
)

found-some : {X : Type 0} (o : Option X) → is_some o ≡ true → (x : X) × (o ≡ Some x)
found-some None h = cc
found-some (Some x) h = (x, refl)

along : {X : Type 0} (P : X → Type 0) (v x : X) → v ≡ x → P v → P x
along P v x e p = subst P e p

-- a test of pairs that is right on the entries is right on the lists
pub pairs-decide : {X : Type 0} (T : X → X → Bool) (R : X → X → Type 0) (xs ys : List (Text × X)) → NamesDiffer xs →
    ((n : Text) (x y : X) → Contains xs (n, x) → Contains ys (n, y) → Decides (T x y) (R x y)) → Decides (pairs_pass T xs ys) (Pairs R xs ys)
pairs-decide {X} T R xs ys i k = (to, from)
  where
    at : (o : Option X) (y : X) → (elim o as (λ _. Bool) [ None ↦ false | Some x ↦ T x y ]) ≡ true → (x : X) × (o ≡ Some x) × (T x y ≡ true)
    at None y h = cc
    at (Some x) y h = (x, refl, h)

    to : pairs_pass T xs ys ≡ true → Pairs R xs ys
    to h = (one, other)
      where
        one : Entries R xs ys
        one n y c =
            let w = at (entry n xs) y (passes (found_in T xs) ys (and_right (list_all (λ e. is_some (entry e.0 ys)) xs) _ h) (n, y) c) in
            (w.0, w.1, (k n w.0 y (entry-contains n xs w.0 w.1) c).0 w.2)

        other : Entries (λ y x. R x y) ys xs
        other n x c =
            let w = found-some (entry n ys) (passes (λ (e : Text × X). is_some (entry e.0 ys)) xs (and_left _ (list_all (found_in T xs) ys) h) (n, x) c) in
            let z = one n w.0 (entry-contains n ys w.0 w.1) in
            let e : z.0 ≡ x = some-inj (sym z.1 ∙ lookup-from_Contains texts_equiv n x xs i c) in
            (w.0, w.1, along (λ (v : X). R v w.0) z.0 x e z.2)

    from : Pairs R xs ys → pairs_pass T xs ys ≡ true
    from p = and_both _ _ (all-pass (λ (e : Text × X). is_some (entry e.0 ys)) xs names) (all-pass (found_in T xs) ys founds)
      where
        names : (e : Text × X) → Contains xs e → is_some (entry e.0 ys) ≡ true
        names e c = let w = p.1 e.0 e.1 c in ap (λ (o : Option X). is_some o) w.1

        founds : (e : Text × X) → Contains ys e → found_in T xs e ≡ true
        founds e c =
            let w = p.0 e.0 e.1 c in
            let t : T w.0 e.1 ≡ true = (k e.0 w.0 e.1 (entry-contains e.0 xs w.0 w.1) c).1 w.2 in
            ap (λ (o : Option X). elim o as (λ _. Bool) [ None ↦ false | Some x ↦ T x e.1 ]) w.1 ∙ t

sorts-true : (s t : Sort) → eqb (sort_number s) (sort_number t) ≡ true → s ≡ t
sorts-true is_nothing is_nothing h = refl
sorts-true is_value is_value h = refl
sorts-true is_resource is_resource h = refl
sorts-true is_func is_func h = refl
sorts-true is_instance is_instance h = refl
sorts-true is_component is_component h = refl
sorts-true is_type is_type h = refl
sorts-true is_module is_module h = refl
sorts-true is_core_instance is_core_instance h = refl
sorts-true is_core_type is_core_type h = refl
sorts-true is_core_item is_core_item h = refl
sorts-true _ _ h = cc

pub sorts-decide : (s t : Sort) → Decides (eqb (sort_number s) (sort_number t)) (s ≡ t)
sorts-decide s t = (sorts-true s t, λ e. eq-eqb _ _ (ap sort_number e))

-- ## The atoms of one type, and those that grow
pub eqb-same : (k : ℕ) → eqb k k ≡ true
eqb-same k = eq-eqb k k refl

pub eqb-below : (j k : ℕ) → j < k → eqb j k ≡ false
eqb-below j k h = go (eqb j k) refl
  where
    go : (b : Bool) → eqb j k ≡ b → eqb j k ≡ false
    go true e = let q : j ≡ k = eqb-true j k e in absurd (omega arith)
    go false e = e

abbrev pub to_within : ℕ → Within Atom → Atom
to_within k (outer w) = w
to_within k (inner r) = owned_in k r

abbrev pub from_within : ℕ → Atom → Within Atom
from_within k (given r) = outer (given r)
from_within k (owned_in j r) = cond (eqb j k) (inner r) (outer (owned_in j r))
from_within k (made_in j r) = outer (made_in j r)

from_within-above : (k : ℕ) (w : Atom) → IsAbove k w → from_within k w ≡ outer w
from_within-above k (given r) h = refl
from_within-above k (owned_in j r) h = rw (eqb-below j k h) refl
from_within-above k (made_in j r) h = refl

abbrev pub to_fresh : ℕ → Fresh Atom → Atom
to_fresh k (within w) = to_within k w
to_fresh k (made r) = made_in k r

abbrev pub from_fresh : ℕ → Atom → Fresh Atom
from_fresh k (given r) = within (outer (given r))
from_fresh k (owned_in j r) = cond (eqb j k) (within (inner r)) (within (outer (owned_in j r)))
from_fresh k (made_in j r) = cond (eqb j k) (made r) (within (outer (made_in j r)))

pub from_fresh-above : (k : ℕ) (w : Atom) → IsAbove k w → from_fresh k w ≡ within (outer w)
from_fresh-above k (given r) h = refl
from_fresh-above k (owned_in j r) h = rw (eqb-below j k h) refl
from_fresh-above k (made_in j r) h = rw (eqb-below j k h) refl

-- a reading in which no node at level k or inside is meant
abbrev pub ReadsAbove : ℕ → Reading Atom → Type 0
ReadsAbove k f = (r : Name) → IsAbove k (f r)

pub above-more : (k : ℕ) (w : Atom) → IsAbove k w → IsAbove (suc k) w
above-more k (given r) h = tt
above-more k (owned_in j r) h = omega arith
above-more k (made_in j r) h = omega arith

pub above-cond : (k : ℕ) (b : Bool) (v w : Atom) → IsAbove k v → IsAbove k w → IsAbove k (cond b v w)
above-cond k true v w h j = h
above-cond k false v w h j = j

pub under-above : (k : ℕ) (x : Head Name Name) (f : Reading Atom) → ReadsAbove k f → ReadsAbove (suc k) (under_at k x f)
under-above k x f h r = above-cond (suc k) (owns x r) (owned_in k r) (f r) (omega arith) (above-more k (f r) (h r))

pub component-above : (k : ℕ) (x : Head Name Name) (i o : Name → Name) (f : Reading Atom) → ReadsAbove k f → ReadsAbove (suc k) (component_at x (λ r. owned_in k (i r)) (λ r. made_in k (o r)) f)
component-above k x i o f h r =
    above-cond (suc k) (owns x r) _ (f r) (above-cond (suc k) (member r (imported_at x)) (owned_in k (i r)) (made_in k (o r)) (omega arith) (omega arith)) (above-more k (f r) (h r))

pub under-to : (k : ℕ) (a : Type_tree) (f : Reading Atom) (r : Name) → to_within k (in_instance a f r) ≡ under_at k (head a) f r
under-to k a f r = two (to_within k) (owns (head a) r) (inner r) (outer (f r)) (owned_in k r) (f r) refl refl

pub under-from : (k : ℕ) (a : Type_tree) (f : Reading Atom) → ReadsAbove k f → (r : Name) → from_within k (under_at k (head a) f r) ≡ in_instance a f r
under-from k a f h r = two (from_within k) (owns (head a) r) (owned_in k r) (f r) (inner r) (outer (f r)) (rw (eqb-same k) refl) (from_within-above k (f r) (h r))

component-to : (k : ℕ) (x : Head Name Name) (i o : Name → Name) (f : Reading Atom) (r : Name) →
    to_fresh k (in_component x (λ r. within (inner (i r))) (λ r. made (o r)) f r) ≡ component_at x (λ r. owned_in k (i r)) (λ r. made_in k (o r)) f r
component-to k x i o f r =
    two (to_fresh k) (owns x r) _ _ _ _ (two (to_fresh k) (member r (imported_at x)) (within (inner (i r))) (made (o r)) (owned_in k (i r)) (made_in k (o r)) refl refl) refl

component-from : (k : ℕ) (x : Head Name Name) (i o : Name → Name) (f : Reading Atom) → ReadsAbove k f → (r : Name) →
    from_fresh k (component_at x (λ r. owned_in k (i r)) (λ r. made_in k (o r)) f r) ≡ in_component x (λ r. within (inner (i r))) (λ r. made (o r)) f r
component-from k x i o f h r =
    two (from_fresh k) (owns x r) _ _ _ _
    (two (from_fresh k) (member r (imported_at x)) (owned_in k (i r)) (made_in k (o r)) (within (inner (i r))) (made (o r)) (rw (eqb-same k) refl) (rw (eqb-same k) refl))
    (from_fresh-above k (f r) (h r))

-- ## What the pass says of parts
module _ (C : Item_rule) where
  abbrev pub IsRight : ℕ → Pass → Type 0
  IsRight d S = (k : ℕ) (f g : Reading Atom) (a b : Type_tree) → Orderly a → Orderly b → ReadsAbove k f → ReadsAbove k g → Decides (S k f g a b) (SameBelow C d Atom f g a b)

module _ (C : Item_rule) where
  in-instance : (d : ℕ) (S : Pass) → IsRight C d S → (k : ℕ) (f g : Reading Atom) (a b x y : Type_tree) → Orderly x → Orderly y → ReadsAbove k f → ReadsAbove k g →
      Decides (S (suc k) (under_at k (head a) f) (under_at k (head b) g) x y) (SameBelow C d (Within Atom) (in_instance a f) (in_instance b g) x y)
  in-instance d S right_d k f g a b x y ox oy hf hg =
      Decides-like _
      (SameBelow-map C d Atom (Within Atom) (from_within k) _ _ (in_instance a f) (in_instance b g) x y ox oy (λ r _. under-from k a f hf r) (λ r _. under-from k b g hg r))
      (SameBelow-map C d (Within Atom) Atom (to_within k) (in_instance a f) (in_instance b g) _ _ x y ox oy (λ r _. under-to k a f r) (λ r _. under-to k b g r))
      (right_d (suc k) (under_at k (head a) f) (under_at k (head b) g) x y ox oy (under-above k (head a) f hf) (under-above k (head b) g hg))

module _ (C : Item_rule) where
  in-component : (d : ℕ) (S : Pass) → IsRight C d S → (k : ℕ) (f g : Reading Atom) (i o : Name → Name) (a b x y : Type_tree) → Orderly x → Orderly y → ReadsAbove k f → ReadsAbove k g →
      Decides (S (suc k) (component_at (head a) (λ r. owned_in k (i r)) (λ r. made_in k (o r)) f) (component_at (head b) (owned_in k) (made_in k) g) x y)
      (SameBelow C d (Fresh Atom) (paired i o f a) (right made g b) x y)
  in-component d S right_d k f g i o a b x y ox oy hf hg =
      Decides-like _
      (SameBelow-map C d Atom (Fresh Atom) (from_fresh k) _ _ (paired i o f a) (right made g b) x y ox oy (λ r _. component-from k (head a) i o f hf r) (λ r _. component-from k (head b) (λ z. z) (λ z. z) g hg r))
      (SameBelow-map C d (Fresh Atom) Atom (to_fresh k) (paired i o f a) (right made g b) _ _ x y ox oy (λ r _. component-to k (head a) i o f r) (λ r _. component-to k (head b) (λ z. z) (λ z. z) g r))
      (right_d (suc k) (component_at (head a) (λ r. owned_in k (i r)) (λ r. made_in k (o r)) f) (component_at (head b) (owned_in k) (made_in k) g) x y ox oy
      (component-above k (head a) i o f hf) (component-above k (head b) (λ z. z) (λ z. z) g hg))

-- ## Counterparts
abbrev LedBy : List (Name × List ℕ) → List (Extern_name × Type_tree) → Type 0
LedBy ps es = All (λ (p : Name × List ℕ). PathLeadsTo p.1 p.0 es) ps

recorded : (r : Name) (ps : List (Name × List ℕ)) (es : List (Extern_name × Type_tree)) → LedBy ps es → member r (firsts ps) ≡ true → (p : List ℕ) × (lookup (same r) ps ≡ Some p) × Leads p r (named es)
recorded r [] es l h = cc
recorded r (q ∷ ps) es l h = go (same r q.0) refl (λ e. recorded r ps es (All-tail (λ (p : Name × List ℕ). PathLeadsTo p.1 p.0 es) q ps l) (sym (ap (λ (b : Bool). b || member r (firsts ps)) e) ∙ h))
  where
    go : (b : Bool) → same r q.0 ≡ b → (same r q.0 ≡ false → (p : List ℕ) × (lookup (same r) ps ≡ Some p) × Leads p r (named es)) →
        (p : List ℕ) × (lookup (same r) (q ∷ ps) ≡ Some p) × Leads p r (named es)
    go true e k = (q.1, rw e refl, subst (λ (z : Name). Leads q.1 z (named es)) (sym (same-true r q.0 e)) (leads_named q.1 q.0 es (All-head (λ (p : Name × List ℕ). PathLeadsTo p.1 p.0 es) q ps l)))
    go false e k = let w = k e in (w.0, rw e w.1, w.2)

pub recorded-import : (a : Type_tree) → AllPathsLead a → (r : Name) → member r (imported_at (head a)) ≡ true →
    (p : List ℕ) × (lookup (same r) (imported_paths (head a)) ≡ Some p) × Leads p r (named_imports a)
recorded-import (node (component i ins outs) ps) l r h = recorded r ins (tree.imports_in ps) l.0.0 h
recorded-import (node nothing ps) l r h = cc
recorded-import (node (primitive p) ps) l r h = cc
recorded-import (node (resource q s) ps) l r h = cc
recorded-import (node (defined i k) ps) l r h = cc
recorded-import (node (func i b) ps) l r h = cc
recorded-import (node (instance i own) ps) l r h = cc
recorded-import (node type_entity ps) l r h = cc
recorded-import (node (core_module i w) ps) l r h = cc
recorded-import (node (core_instance i w) ps) l r h = cc
recorded-import (node (core_type i) ps) l r h = cc
recorded-import (node (core_item i) ps) l r h = cc

pub recorded-export : (a : Type_tree) → AllPathsLead a → (r : Name) → member r (made_at (head a)) ≡ true →
    (p : List ℕ) × (lookup (same r) (made_paths (head a)) ≡ Some p) × Leads p r (named_exports a)
recorded-export (node (component i ins outs) ps) l r h = recorded r outs (tree.exports_in ps) l.0.1 h
recorded-export (node nothing ps) l r h = cc
recorded-export (node (primitive p) ps) l r h = cc
recorded-export (node (resource q s) ps) l r h = cc
recorded-export (node (defined i k) ps) l r h = cc
recorded-export (node (func i b) ps) l r h = cc
recorded-export (node (instance i own) ps) l r h = cc
recorded-export (node type_entity ps) l r h = cc
recorded-export (node (core_module i w) ps) l r h = cc
recorded-export (node (core_instance i w) ps) l r h = cc
recorded-export (node (core_type i) ps) l r h = cc
recorded-export (node (core_item i) ps) l r h = cc

pub counterpart-some : (ps : List (Name × List ℕ)) (es xs : List (Text × Type_tree)) (r q : Name) (p : List ℕ) → lookup (same r) ps ≡ Some p → follow p es xs ≡ Some q → counterpart ps es xs r ≡ q
counterpart-some ps es xs r q p e e' = rw (e, e') refl

-- what reads as an imported resource is one, and what reads as a defined one
reads-inner : {A : Type 0} (x : Head Name Name) (i o : Name → Name) (f : Reading A) (q z : Name) → in_component x (λ r. within (inner (i r))) (λ r. made (o r)) f q ≡ within (inner z) →
    (member q (imported_at x) ≡ true) × (i q ≡ z)
reads-inner x i o f q z m = go (owns x q) refl (member q (imported_at x)) refl
  where
    go : (b : Bool) → owns x q ≡ b → (c : Bool) → member q (imported_at x) ≡ c → (member q (imported_at x) ≡ true) × (i q ≡ z)
    go true e true c = let m' : within (inner (i q)) ≡ within (inner z) = rw (e, c) at m in (c, cc)
    go true e false c = let m' : made (o q) ≡ within (inner z) = rw (e, c) at m in cc
    go false e c w = let m' : within (outer (f q)) ≡ within (inner z) = rw e at m in cc

reads-made : {A : Type 0} (x : Head Name Name) (i o : Name → Name) (f : Reading A) (q z : Name) → in_component x (λ r. within (inner (i r))) (λ r. made (o r)) f q ≡ made z →
    (owns x q ≡ true) × (member q (imported_at x) ≡ false) × (o q ≡ z)
reads-made x i o f q z m = go (owns x q) refl (member q (imported_at x)) refl
  where
    go : (b : Bool) → owns x q ≡ b → (c : Bool) → member q (imported_at x) ≡ c → (owns x q ≡ true) × (member q (imported_at x) ≡ false) × (o q ≡ z)
    go true e true c = let m' : within (inner (i q)) ≡ made z = rw (e, c) at m in cc
    go true e false c = let m' : made (o q) ≡ made z = rw (e, c) at m in (e, c, cc)
    go false e c w = let m' : within (outer (f q)) ≡ made z = rw e at m in cc

-- where the entries are the same under some pairing, the paths find that pairing
module _ (C : Item_rule) where
  module _ (d : ℕ) (A : Type 0) (f g : Reading A) (a b : Type_tree) (oa : Orderly a) (p : Pairing a) where
    abbrev one_way : (L : Reading (Fresh A)) (xs ys : List (Text × Type_tree)) → Pairs (SameBelow C d (Fresh A) L (right made g b)) xs ys → Entries (MatchBelow C d (Fresh A) L (right made g b)) xs ys
    one_way L xs ys m n y c = let w = m.0 n y c in (w.0, w.1, (SameBelow-both C d (Fresh A) L (right made g b) w.0 y w.2).0)

    abbrev other_way : (L : Reading (Fresh A)) (xs ys : List (Text × Type_tree)) → Pairs (SameBelow C d (Fresh A) L (right made g b)) xs ys → Entries (MatchBelow C d (Fresh A) (right made g b) L) ys xs
    other_way L xs ys m n x c = let w = m.1 n x c in (w.0, w.1, (SameBelow-both C d (Fresh A) L (right made g b) x w.0 w.2).1)

    module _ (m : Pairs (SameBelow C d (Fresh A) (paired_imports p.imported_to f a) (right made g b)) (named_imports a) (named_imports b)) where
      imported-found : (r : Name) → member r (imported_at (head a)) ≡ true → imported_in a b r ≡ p.imported_to r
      imported-found r c =
          let I : Reading (Fresh A) = paired_imports p.imported_to f a in
          let R : Reading (Fresh A) = right made g b in
          let l = recorded-import a oa.1 r c in
          let w = path-met C l.0 r d (Fresh A) (Fresh A) R I R I (named_imports b) (named_imports a) l.2 (imports-differ a oa.0) (import-differs a oa.0) (other_way I (named_imports a) (named_imports b) m) (one_way I (named_imports a) (named_imports b) m) in
          let e : R w.0 ≡ within (inner (p.imported_to r)) = w.2 ∙ read-imported (head a) (λ r. within (inner (p.imported_to r))) made f r c in
          let z = reads-inner (head b) (λ q. q) (λ q. q) g w.0 (p.imported_to r) e in
          counterpart-some (imported_paths (head a)) (named_imports a) (named_imports b) r w.0 l.0 l.1 w.1 ∙ z.1

    module _ (m : Pairs (SameBelow C d (Fresh A) (paired p.imported_to p.defined_to f a) (right made g b)) (named_exports a) (named_exports b)) where
      defined-found : (r : Name) → member r (imported_at (head a)) ≡ false → member r (made_at (head a)) ≡ true → defined_in a b r ≡ p.defined_to r
      defined-found r c e =
          let L : Reading (Fresh A) = paired p.imported_to p.defined_to f a in
          let R : Reading (Fresh A) = right made g b in
          let l = recorded-export a oa.1 r e in
          let w = path-met C l.0 r d (Fresh A) (Fresh A) R L R L (named_exports b) (named_exports a) l.2 (exports-differ a oa.0) (export-differs a oa.0) (other_way L (named_exports a) (named_exports b) m) (one_way L (named_exports a) (named_exports b) m) in
          let e' : R w.0 ≡ made (p.defined_to r) = w.2 ∙ read-defined (head a) (λ r. within (inner (p.imported_to r))) (λ r. made (p.defined_to r)) f r (defined-owned (head a) r e) c in
          let z = reads-made (head b) (λ q. q) (λ q. q) g w.0 (p.defined_to r) e' in
          counterpart-some (made_paths (head a)) (named_exports a) (named_exports b) r w.0 l.0 l.1 w.1 ∙ z.2

-- ## One to one
cond-goes : (skip : Name → Bool) (to : Name → Name) (q r : Name) → goes skip to q r ≡ true → (skip r ≡ false) × (to r ≡ q)
cond-goes skip to q r h = go (skip r) refl
  where
    go : (b : Bool) → skip r ≡ b → (skip r ≡ false) × (to r ≡ q)
    go true e = let z : false ≡ true = rw e at h in cc
    go false e = let z : same (to r) q ≡ true = rw e at h in (e, same-true (to r) q z)

goes-itself : (skip : Name → Bool) (to : Name → Name) (r : Name) → skip r ≡ false → goes skip to (to r) r ≡ true
goes-itself skip to r e = rw e (same-refl (to r))

pub first-finds : (skip : Name → Bool) (to : Name → Name) (r : Name) (rs : List Name) → skip r ≡ false → member r rs ≡ true →
    ((x : Name) → member x rs ≡ true → skip x ≡ false → to x ≡ to r → x ≡ r) → first_to skip to (to r) rs ≡ r
first-finds skip to r [] n m k = cc
first-finds skip to r (x ∷ rs) n m k =
    go (goes skip to (to r) x) refl (λ m'. first-finds skip to r rs n m' (λ y my. k y (or_right (same y x) (member y rs) my)))
  where
    go : (b : Bool) → goes skip to (to r) x ≡ b → (member r rs ≡ true → first_to skip to (to r) rs ≡ r) → cond (goes skip to (to r) x) x (first_to skip to (to r) rs) ≡ r
    go true e rest =
        let w = cond-goes skip to (to r) x e in
        rw e (k x (or_left (same x x) (member x rs) (same-refl x)) w.0 w.1)
    go false e rest = rw e (rest (⊎_elim here (λ (z : member r rs ≡ true). z) (or_cases (same r x) (member r rs) m)))
      where
        here : same r x ≡ true → member r rs ≡ true
        here q =
            let z : r ≡ x = same-true r x q in
            let w : goes skip to (to r) x ≡ true = subst (λ (y : Name). goes skip to (to r) y ≡ true) z (goes-itself skip to r n) in
            cc

pub one_to_one-from : (skip : Name → Bool) (to back : Name → Name) (rs : List Name) → ((r : Name) → skip r ≡ false → member r rs ≡ true → back (to r) ≡ r) → one_to_one skip to rs ≡ true
one_to_one-from skip to back rs k =
    all-members (λ r. skip r || same (first_to skip to (to r) rs) r) rs
    (λ r m. or_when (skip r) _ (λ n. same-eq _ r (first-finds skip to r rs n m (λ x mx nx e. sym (k x nx mx) ∙ ap back e ∙ k r n m))))
  where
    same-eq : (x y : Name) → x ≡ y → same x y ≡ true
    same-eq x y e = subst (λ (z : Name). same x z ≡ true) e (same-refl x)

pub one_to_one-to : (skip : Name → Bool) (to : Name → Name) (rs : List Name) → one_to_one skip to rs ≡ true → (r : Name) → skip r ≡ false → member r rs ≡ true → first_to skip to (to r) rs ≡ r
one_to_one-to skip to rs h r n m =
    same-true (first_to skip to (to r) rs) r
    (or_then (skip r) (same (first_to skip to (to r) rs) r) (passes-member (λ r. skip r || same (first_to skip to (to r) rs) r) rs h r m) n)

-- ## The pass decides
paired-same : {A : Type 0} (x : Head Name Name) (i i' o o' : Name → Name) (f : Reading A) → ((r : Name) → member r (imported_at x) ≡ true → i r ≡ i' r) →
    ((r : Name) → owns x r ≡ true → member r (imported_at x) ≡ false → o r ≡ o' r) →
    in_component x (λ r. within (inner (i r))) (λ r. made (o r)) f ≡ in_component x (λ r. within (inner (i' r))) (λ r. made (o' r)) f
paired-same x i i' o o' f p q =
    fun_ext (in_component-at (λ z. z) x (λ r. within (inner (i r))) (λ r. made (o r)) f (λ r. within (inner (i' r))) (λ r. made (o' r)) f
    (λ r c. ap (λ (z : Name). within (inner z)) (p r c)) (λ r e c. ap (λ (z : Name). made z) (q r e c)) (λ r. refl))

-- `test` decides whether trees are seen equal
module _ (C : Item_rule) where
  module _ (test : Tests) (tests : AreRight C test) where
    abbrev pub Decides_as : ℕ → Sort → Type 0
    Decides_as d s = (k : ℕ) (f g : Reading Atom) (a b : Type_tree) → sort a ≡ s → sort b ≡ s → Orderly a → Orderly b → ReadsAbove k f → ReadsAbove k g →
        Decides (same_as test (same_below test d) s k f g a b) (SameAs C (SameBelow C d) s Atom f g a b)

    abbrev imports_of : ℕ → ℕ → Reading Atom → Reading Atom → Type_tree → Type_tree → Bool
    imports_of d k f g a b = pairs_pass (same_below test d (suc k) (component_at (head a) (λ r. owned_in k (imported_in a b r)) (made_in k) f) (component_at (head b) (owned_in k) (made_in k) g)) (named_imports a) (named_imports b)

    abbrev exports_of : ℕ → ℕ → Reading Atom → Reading Atom → Type_tree → Type_tree → Bool
    exports_of d k f g a b = pairs_pass (same_below test d (suc k) (component_at (head a) (λ r. owned_in k (imported_in a b r)) (λ r. made_in k (defined_in a b r)) f) (component_at (head b) (owned_in k) (made_in k) g)) (named_exports a) (named_exports b)

    component-decides : (d : ℕ) → IsRight C d (same_below test d) → Decides_as d is_component
    component-decides d ih k f g a b ea eb oa ob hf hg = (to, from)
      where
        imports_decide : Decides (imports_of d k f g a b)
            (Pairs (SameBelow C d (Fresh Atom) (paired_imports (imported_in a b) f a) (right made g b)) (named_imports a) (named_imports b))
        imports_decide =
            pairs-decide _ _ (named_imports a) (named_imports b) (imports-differ a oa.0)
            (λ n x y cx cy. in-component C d (same_below test d) ih k f g (imported_in a b) (λ r. r) a b x y (orderly-import a oa n x cx) (orderly-import b ob n y cy) hf hg)

        exports_decide : Decides (exports_of d k f g a b)
            (Pairs (SameBelow C d (Fresh Atom) (paired (imported_in a b) (defined_in a b) f a) (right made g b)) (named_exports a) (named_exports b))
        exports_decide =
            pairs-decide _ _ (named_exports a) (named_exports b) (exports-differ a oa.0)
            (λ n x y cx cy. in-component C d (same_below test d) ih k f g (imported_in a b) (defined_in a b) a b x y (orderly-export a oa n x cx) (orderly-export b ob n y cy) hf hg)

        to : same_as test (same_below test d) is_component k f g a b ≡ true → SameAs C (SameBelow C d) is_component Atom f g a b
        to h =
            let own : own_pair_up a b ≡ true = and_left (own_pair_up a b) (imports_of d k f g a b && exports_of d k f g a b) h in
            let rest : (imports_of d k f g a b && exports_of d k f g a b) ≡ true = and_right (own_pair_up a b) (imports_of d k f g a b && exports_of d k f g a b) h in
            let ins : one_to_one (λ r. false) (imported_in a b) (imported a) ≡ true =
            and_left (one_to_one (λ r. false) (imported_in a b) (imported a)) (one_to_one (λ r. member r (imported a)) (defined_in a b) (defined_by a)) own in
            let outs : one_to_one (λ r. member r (imported a)) (defined_in a b) (defined_by a) ≡ true =
            and_right (one_to_one (λ r. false) (imported_in a b) (imported a)) (one_to_one (λ r. member r (imported a)) (defined_in a b) (defined_by a)) own in (
              record {
                imported_to = imported_in a b;
                imported_back = λ q. first_to (λ r. false) (imported_in a b) q (imported a);
                defined_to = defined_in a b;
                defined_back = λ q. first_to (λ r. member r (imported a)) (defined_in a b) q (defined_by a);
                imported_one = λ r c. one_to_one-to (λ r. false) (imported_in a b) (imported a) ins r refl c;
                defined_one = λ r c e. one_to_one-to (λ r. member r (imported a)) (defined_in a b) (defined_by a) outs r c e;
              },
              imports_decide.0 (and_left (imports_of d k f g a b) (exports_of d k f g a b) rest),
              exports_decide.0 (and_right (imports_of d k f g a b) (exports_of d k f g a b) rest),
            )

        from : SameAs C (SameBelow C d) is_component Atom f g a b → same_as test (same_below test d) is_component k f g a b ≡ true
        from m =
            let p = m.0 in
            let found = imported-found C d Atom f g a b oa p m.1 in
            let found_made = defined-found C d Atom f g a b oa p m.2 in
            let as_imports : paired_imports p.imported_to f a ≡ paired_imports (imported_in a b) f a =
            paired-same (head a) p.imported_to (imported_in a b) (λ r. r) (λ r. r) f (λ r c. sym (found r c)) (λ r _ _. refl) in
            let as_exports : paired p.imported_to p.defined_to f a ≡ paired (imported_in a b) (defined_in a b) f a =
            paired-same (head a) p.imported_to (imported_in a b) p.defined_to (defined_in a b) f (λ r c. sym (found r c)) (λ r e c. sym (found_made r c (owned-defined (head a) ea r e c))) in
            and_both (own_pair_up a b) _
            (and_both _ _
            (one_to_one-from (λ r. false) (imported_in a b) p.imported_back (imported a) (λ r _ c. ap (λ (q : Name). p.imported_back q) (found r c) ∙ p.imported_one r c))
            (one_to_one-from (λ r. member r (imported a)) (defined_in a b) p.defined_back (defined_by a) (λ r c e. ap (λ (q : Name). p.defined_back q) (found_made r c e) ∙ p.defined_one r c e)))
            (and_both _ _
            (imports_decide.1 (subst (λ (z : Reading (Fresh Atom)). Pairs (SameBelow C d (Fresh Atom) z (right made g b)) (named_imports a) (named_imports b)) as_imports m.1))
            (exports_decide.1 (subst (λ (z : Reading (Fresh Atom)). Pairs (SameBelow C d (Fresh Atom) z (right made g b)) (named_exports a) (named_exports b)) as_exports m.2)))

    same_as-decides : (d : ℕ) → IsRight C d (same_below test d) → (s : Sort) → Decides_as d s
    same_as-decides d ih is_instance k f g a b ea eb oa ob hf hg =
        pairs-decide _ _ (named_exports a) (named_exports b) (exports-differ a oa.0)
        (λ n x y cx cy. in-instance C d (same_below test d) ih k f g a b x y (orderly-export a oa n x cx) (orderly-export b ob n y cy) hf hg)
    same_as-decides d ih is_type k f g a b ea eb oa ob hf hg =
        Decides-and _ _ (ih k f g (referenced a) (referenced b) (orderly-referenced a oa) (orderly-referenced b ob) hf hg) (same_members-decides _ _)
    same_as-decides d ih is_component k f g a b ea eb oa ob hf hg = component-decides d ih k f g a b ea eb oa ob hf hg
    same_as-decides d ih is_module k f g a b ea eb oa ob hf hg = Decides-and _ _ (tests.modules a b) (tests.modules b a)
    same_as-decides d ih _ k f g a b ea eb oa ob hf hg = tests.same_seen (seen (outside f) a) (seen (outside g) b)

    -- the pass answers true exactly for types that are the same
    pub same_below-decides : (d : ℕ) → IsRight C d (same_below test d)
    same_below-decides zero k f g a b oa ob hf hg = (λ h. cc, λ m. absurd m)
    same_below-decides (suc d) k f g a b oa ob hf hg =
        let sorts = sorts-decide (sort a) (sort b) in
        let S : Bool = eqb (sort_number (sort a)) (sort_number (sort b)) in
        let T : Bool = same_as test (same_below test d) (sort a) k f g a b in (
          λ h.
              let e : sort a ≡ sort b = sorts.0 (and_left S T h) in
              (e, (same_as-decides d (same_below-decides d) (sort a) k f g a b refl (sym e) oa ob hf hg).0 (and_right S T h)),
          λ m. and_both S T (sorts.1 m.0) ((same_as-decides d (same_below-decides d) (sort a) k f g a b refl (sym m.0) oa ob hf hg).1 m.1),
        )
