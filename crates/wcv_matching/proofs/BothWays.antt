-- Types that match each other are the same.
use Rattle.std.proofs.Common.{◌≡◌, ℕ, zero, suc, List, [], ◌∷◌, Bool, true, false, cond, ◌||◌, refl, ap, sym, subst, ◌∙◌, bytes_eq}
use Rattle.std.specs.Prelude.{Contains, Option, Some, slice_get, All}
use Rattle.std.specs.List.{IsDistinct}
use Rattle.std.proofs.lemmas.List.Elements.{All-head, All-tail}
use Rattle.std.proofs.lemmas.Map.Views.{lookup-from_Contains}
use Rattle.wcv_core.specs.Names.{Name, base, member, same}
use Rattle.wcv_core.proofs.Names.{same-true}
use Rattle.wcv_types.specs.ByName.{NamesDiffer}
use Rattle.wcv_types.specs.Led.{HeadLed}
use Rattle.wcv_types.specs.Paths.{IsTypeOf, IsWayTo, PathLeadsTo}
use Rattle.wcv_types.specs.Tree as tree
use Rattle.wcv_types.specs.Tree.{Text, Extern_name, Head, nothing, primitive, resource, defined, func, instance, component, type_entity, core_module, core_instance, core_type, core_item, node, Parts, none, part, Sort, is_instance, is_component, is_type, is_resource, is_module, sort, head, referenced, first_part, rest_parts, imported_at, firsts}
use Rattle.wcv_types.specs.Resources.{owns, RefersTo}
use Rattle.wcv_types.specs.Seen.{Within, outer, inner, seen}
use Rattle.wcv_types.specs.Unfold.{Type_tree}
use Rattle.wcv_closed.proofs.ModuleMatching.{texts_equiv}
use Rattle.wcv_matching.specs.Matching.{Item_rule, Entries, Reading, outside, in_instance, Fresh, within, made, in_component, atoms, left, right, Matching, MatchAs, MatchBelow, named, named_exports, named_imports}
use Rattle.wcv_matching.specs.NamedPaths.{entry, and_then, resource_at, follow}
use Rattle.wcv_matching.specs.Orderly.{AreNamedApart, AllNamesDiffer, AllPathsLead, EachNodeIn, Orderly}
use Rattle.wcv_matching.specs.SameTypes.{made_at, Pairs, paired_imports, paired, SameAs, SameBelow}
use Rattle.wcv_matching.proofs.Entries.{among}
use Rattle.wcv_matching.proofs.NamedLists.{entry-contains, some-inj}
use Rattle.wcv_matching.proofs.TreeParts.{EachPart, at_export, at_import}
use Rattle.wcv_matching.proofs.MatchingKept.{MatchBelow-map}
use Rattle.wcv_matching.proofs.MatchingOrder.{open_inner, open_made}
use Rattle.wcv_matching.proofs.OneOpening.{named_get, rule, refers-sort, outside-read}
use Rattle.wcv_matching.proofs.SameTypes.{in_component-at, owned-defined, defined-owned}

-- ## Paths in lists by name

abbrev pub Leads : List ℕ → Name → List (Text × Type_tree) → Type 0
Leads [] r es = ⊥
Leads (k ∷ []) r es = (e : Text × Type_tree) × (slice_get es k ≡ Some e) × IsTypeOf r e.1
Leads (k ∷ j ∷ p) r es = (e : Text × Type_tree) × (slice_get es k ≡ Some e) × IsWayTo r e.1 × Leads (j ∷ p) r (named_exports e.1)

pub leads_named : (p : List ℕ) (r : Name) (es : List (Extern_name × Type_tree)) → PathLeadsTo p r es → Leads p r (named es)
leads_named [] r es l = absurd l
leads_named (k ∷ []) r es l = ((l.0.0.name, l.0.1), named_get es k l.0 l.1, l.2)
leads_named (k ∷ j ∷ p) r es l = ((l.0.0.name, l.0.1), named_get es k l.0 l.1, l.2, leads_named (j ∷ p) r (tree.exports l.0.1) l.3)

-- ## A path leads in both to resources that are read alike

pub outside-from : {A : Type 0} (x : Type_tree) (f : Reading A) (q : Name) (w : A) → in_instance x f q ≡ outer w → f q ≡ w
outside-from {A} x f q w = go (owns (head x) q)
  where
    go : (b : Bool) → cond b (inner q) (outer (f q)) ≡ outer w → f q ≡ w
    go true e = cc
    go false e = cc

-- what is found in xs at the place of r
abbrev pub Met : {A B : Type 0} → Reading A → Reading A → Reading B → Reading B → Option Name → Name → Type 0
Met f g f' g' o r = (q : Name) × (o ≡ Some q) × (f q ≡ g r) × (f' q ≡ g' r)

module _ (C : Item_rule) where
  pub reference-met : (d : ℕ) (A B : Type 0) (f g : Reading A) (f' g' : Reading B) (x t : Type_tree) (r : Name) → RefersTo r (head t) →
      MatchBelow C d A f g x t → MatchBelow C d B g' f' t x → Met f g f' g' (resource_at (head x)) r
  reference-met zero A B f g f' g' x t r e m n = absurd m
  reference-met (suc d) A B f g f' g' x t r e m n =
      let st : sort t ≡ is_resource = refers-sort t r e in
      let sx : sort x ≡ is_resource = m.0 ∙ st in
      go x t e sx (rule C d A f g x t is_resource st m) (rule C d B g' f' t x is_resource sx n)
    where
      go : (x t : Type_tree) → RefersTo r (head t) → sort x ≡ is_resource → seen (outside f) x ≡ seen (outside g) t → seen (outside g') t ≡ seen (outside f') x → Met f g f' g' (resource_at (head x)) r
      go (node (resource q s) ps) (node (resource r' s') ps') e sx p p' =
          let w : outer (f q) ≡ outer (g r') = cc in
          let w' : outer (g' r') ≡ outer (f' q) = cc in
          let z : f q ≡ g r' = cc in
          let z' : g' r' ≡ f' q = cc in
          (q, refl, z ∙ sym (ap g e), sym z' ∙ sym (ap g' e))
      go (node (resource q s) ps) (node nothing ps') e sx p p' = absurd e
      go (node (resource q s) ps) (node (primitive a) ps') e sx p p' = absurd e
      go (node (resource q s) ps) (node (defined i k) ps') e sx p p' = absurd e
      go (node (resource q s) ps) (node (func i b) ps') e sx p p' = absurd e
      go (node (resource q s) ps) (node (instance i own) ps') e sx p p' = absurd e
      go (node (resource q s) ps) (node (component i ins outs) ps') e sx p p' = absurd e
      go (node (resource q s) ps) (node type_entity ps') e sx p p' = absurd e
      go (node (resource q s) ps) (node (core_module i w) ps') e sx p p' = absurd e
      go (node (resource q s) ps) (node (core_instance i w) ps') e sx p p' = absurd e
      go (node (resource q s) ps) (node (core_type i) ps') e sx p p' = absurd e
      go (node (resource q s) ps) (node (core_item i) ps') e sx p p' = absurd e
      go (node nothing ps) t e sx p p' = cc
      go (node (primitive a) ps) t e sx p p' = cc
      go (node (defined i k) ps) t e sx p p' = cc
      go (node (func i b) ps) t e sx p p' = cc
      go (node (instance i own) ps) t e sx p p' = cc
      go (node (component i ins outs) ps) t e sx p p' = cc
      go (node type_entity ps) t e sx p p' = cc
      go (node (core_module i w) ps) t e sx p p' = cc
      go (node (core_instance i w) ps) t e sx p p' = cc
      go (node (core_type i) ps) t e sx p p' = cc
      go (node (core_item i) ps) t e sx p p' = cc

module _ (C : Item_rule) where
  type-met : (d : ℕ) (A B : Type 0) (f g : Reading A) (f' g' : Reading B) (x t : Type_tree) (r : Name) → IsTypeOf r t →
      MatchBelow C d A f g x t → MatchBelow C d B g' f' t x → Met f g f' g' (resource_at (head (referenced x))) r
  type-met zero A B f g f' g' x t r e m n = absurd m
  type-met (suc d) A B f g f' g' x t r e m n =
      reference-met C d A B f g f' g' (referenced x) (referenced t) r e.1 (rule C d A f g x t is_type e.0 m).0 (rule C d B g' f' t x is_type (m.0 ∙ e.0) n).0

each_named : (ps : Parts Name Name) → EachNodeIn (λ h qs. AreNamedApart qs) ps → EachPart AllNamesDiffer ps
each_named none p = tt
each_named (part k t ps) p = (p.0, each_named ps p.1)

pub exports-differ : (t : Type_tree) → AllNamesDiffer t → NamesDiffer (named_exports t)
exports-differ (node h ps) p = p.0.1

pub imports-differ : (t : Type_tree) → AllNamesDiffer t → NamesDiffer (named_imports t)
imports-differ (node h ps) p = p.0.0

pub export-differs : (t : Type_tree) → AllNamesDiffer t → (n : Text) (x : Type_tree) → Contains (named_exports t) (n, x) → AllNamesDiffer x
export-differs (node h ps) p = at_export AllNamesDiffer ps (each_named ps p.1)

pub import-differs : (t : Type_tree) → AllNamesDiffer t → (n : Text) (x : Type_tree) → Contains (named_imports t) (n, x) → AllNamesDiffer x
import-differs (node h ps) p = at_import AllNamesDiffer ps (each_named ps p.1)

pub then-then : {X Y : Type 0} (o : Option X) (x : X) (u : Option Y) (k : X → Option Y) → o ≡ Some x → k x ≡ u → and_then o k ≡ u
then-then o x u k e p = rw e p

module _ (C : Item_rule) where
  pub path-met : (p : List ℕ) (r : Name) (d : ℕ) (A B : Type 0) (f g : Reading A) (f' g' : Reading B) (xs es : List (Text × Type_tree)) → Leads p r es →
      NamesDiffer es → ((n : Text) (t : Type_tree) → Contains es (n, t) → AllNamesDiffer t) →
      Entries (MatchBelow C d A f g) xs es → Entries (MatchBelow C d B g' f') es xs → Met f g f' g' (follow p es xs) r
  path-met [] r d A B f g f' g' xs es l i each m n = absurd l
  path-met (k ∷ []) r d A B f g f' g' xs es l i each m n =
      let c : Contains es l.0 = among es k l.0 l.1 in
      let x = m l.0.0 l.0.1 c in
      let y = n l.0.0 x.0 (entry-contains l.0.0 xs x.0 x.1) in
      let e : y.0 ≡ l.0.1 = some-inj (sym y.1 ∙ lookup-from_Contains texts_equiv l.0.0 l.0.1 es i c) in
      let w = type-met C d A B f g f' g' x.0 l.0.1 r l.2 x.2 (subst (λ (z : Type_tree). MatchBelow C d B g' f' z x.0) e y.2) in
      (w.0, then-then (slice_get es k) l.0 (Some w.0) _ l.1 (then-then (entry l.0.0 xs) x.0 (Some w.0) _ x.1 w.1), w.2, w.3)
  path-met (k ∷ j ∷ p) r zero A B f g f' g' xs es l i each m n = absurd (m l.0.0 l.0.1 (among es k l.0 l.1)).2
  path-met (k ∷ j ∷ p) r (suc d) A B f g f' g' xs es l i each m n =
      let t : Type_tree = l.0.1 in
      let c : Contains es l.0 = among es k l.0 l.1 in
      let x = m l.0.0 t c in
      let y = n l.0.0 x.0 (entry-contains l.0.0 xs x.0 x.1) in
      let e : y.0 ≡ t = some-inj (sym y.1 ∙ lookup-from_Contains texts_equiv l.0.0 t es i c) in
      let m' = rule C d A f g x.0 t is_instance l.2.0 x.2 in
      let n' = rule C d B g' f' t x.0 is_instance (x.2.0 ∙ l.2.0) (subst (λ (z : Type_tree). MatchBelow C (suc d) B g' f' z x.0) e y.2) in
      let w = path-met (j ∷ p) r d (Within A) (Within B) (in_instance x.0 f) (in_instance t g) (in_instance x.0 f') (in_instance t g') (named_exports x.0) (named_exports t) l.3
      (exports-differ t (each l.0.0 t c)) (export-differs t (each l.0.0 t c)) m' n' in (
        w.0,
        then-then (slice_get es k) l.0 (Some w.0) _ l.1 (then-then (entry l.0.0 xs) x.0 (Some w.0) _ x.1 w.1),
        outside-from x.0 f w.0 (g r) (w.2 ∙ outside-read t g r l.2.1),
        outside-from x.0 f' w.0 (g' r) (w.3 ∙ outside-read t g' r l.2.1),
      )

-- ## Recorded paths
abbrev LedBy : List (Name × List ℕ) → List (Extern_name × Type_tree) → Type 0
LedBy ps es = All (λ (p : Name × List ℕ). PathLeadsTo p.1 p.0 es) ps

led : (r : Name) (ps : List (Name × List ℕ)) (es : List (Extern_name × Type_tree)) → LedBy ps es → member r (firsts ps) ≡ true → (p : List ℕ) × Leads p r (named es)
led r [] es l h = cc
led r (q ∷ ps) es l h = go (same r q.0) refl (λ e. led r ps es (All-tail (λ (p : Name × List ℕ). PathLeadsTo p.1 p.0 es) q ps l) (sym (ap (λ (b : Bool). b || member r (firsts ps)) e) ∙ h))
  where
    go : (b : Bool) → same r q.0 ≡ b → (same r q.0 ≡ false → (p : List ℕ) × Leads p r (named es)) → (p : List ℕ) × Leads p r (named es)
    go true e k = (q.1, subst (λ (z : Name). Leads q.1 z (named es)) (sym (same-true r q.0 e)) (leads_named q.1 q.0 es (All-head (λ (p : Name × List ℕ). PathLeadsTo p.1 p.0 es) q ps l)))
    go false e k = k e

led-import : (a : Type_tree) → AllPathsLead a → (r : Name) → member r (imported_at (head a)) ≡ true → (p : List ℕ) × Leads p r (named_imports a)
led-import (node (component i ins outs) ps) l r h = led r ins (tree.imports_in ps) l.0.0 h
led-import (node nothing ps) l r h = cc
led-import (node (primitive p) ps) l r h = cc
led-import (node (resource q s) ps) l r h = cc
led-import (node (defined i k) ps) l r h = cc
led-import (node (func i b) ps) l r h = cc
led-import (node (instance i own) ps) l r h = cc
led-import (node type_entity ps) l r h = cc
led-import (node (core_module i w) ps) l r h = cc
led-import (node (core_instance i w) ps) l r h = cc
led-import (node (core_type i) ps) l r h = cc
led-import (node (core_item i) ps) l r h = cc

led-export : (a : Type_tree) → AllPathsLead a → (r : Name) → member r (made_at (head a)) ≡ true → (p : List ℕ) × Leads p r (named_exports a)
led-export (node (component i ins outs) ps) l r h = led r outs (tree.exports_in ps) l.0.1 h
led-export (node nothing ps) l r h = cc
led-export (node (primitive p) ps) l r h = cc
led-export (node (resource q s) ps) l r h = cc
led-export (node (defined i k) ps) l r h = cc
led-export (node (func i b) ps) l r h = cc
led-export (node (instance i own) ps) l r h = cc
led-export (node type_entity ps) l r h = cc
led-export (node (core_module i w) ps) l r h = cc
led-export (node (core_instance i w) ps) l r h = cc
led-export (node (core_type i) ps) l r h = cc
led-export (node (core_item i) ps) l r h = cc

-- ## The own resources of two components
pub read-imported : {A : Type 0} (x : Head Name Name) (s t : Reading (Fresh A)) (f : Reading A) (r : Name) → member r (imported_at x) ≡ true → in_component x s t f r ≡ s r
read-imported (component i ins outs) s t f r h =
    let e : (member r (firsts ins) || member r (firsts outs)) ≡ true = ap (λ (b : Bool). b || member r (firsts outs)) h in
    rw (e, h) refl
read-imported nothing s t f r h = cc
read-imported (primitive p) s t f r h = cc
read-imported (resource q i) s t f r h = cc
read-imported (defined i k) s t f r h = cc
read-imported (func i b) s t f r h = cc
read-imported (instance i own) s t f r h = cc
read-imported type_entity s t f r h = cc
read-imported (core_module i w) s t f r h = cc
read-imported (core_instance i w) s t f r h = cc
read-imported (core_type i) s t f r h = cc
read-imported (core_item i) s t f r h = cc

pub read-defined : {A : Type 0} (x : Head Name Name) (s t : Reading (Fresh A)) (f : Reading A) (r : Name) → owns x r ≡ true → member r (imported_at x) ≡ false → in_component x s t f r ≡ t r
read-defined x s t f r o h = rw (o, h) refl

imported-from : {A : Type 0} (x : Head Name Name) (g : Reading A) (s' : Reading (Within A)) (w : Within A) (q r : Name) →
    in_component x atoms made g q ≡ within w → in_component x (λ z. within (s' z)) made g q ≡ within (inner r) → (member q (imported_at x) ≡ true) × (w ≡ inner q) × (s' q ≡ inner r)
imported-from x g s' w q r m n = go (owns x q) refl (member q (imported_at x)) refl
  where
    go : (b : Bool) → owns x q ≡ b → (c : Bool) → member q (imported_at x) ≡ c → (member q (imported_at x) ≡ true) × (w ≡ inner q) × (s' q ≡ inner r)
    go true e true i =
        let m' : within (inner q) ≡ within w = rw (e, i) at m in
        let n' : within (s' q) ≡ within (inner r) = rw (e, i) at n in
        (i, cc, cc)
    go true e false i =
        let n' : made q ≡ within (inner r) = rw (e, i) at n in
        cc
    go false e c i =
        let n' : within (outer (g q)) ≡ within (inner r) = rw e at n in
        cc

defined-from : {A : Type 0} (x : Head Name Name) (g : Reading A) (s' : Reading (Within A)) (t : Reading (Fresh A)) (w : Fresh A) (q r : Name) →
    in_component x (λ z. within (s' z)) made g q ≡ w → in_component x atoms t g q ≡ made r → (w ≡ made q) × (t q ≡ made r)
defined-from x g s' t w q r m n = go (owns x q) refl (member q (imported_at x)) refl
  where
    go : (b : Bool) → owns x q ≡ b → (c : Bool) → member q (imported_at x) ≡ c → (w ≡ made q) × (t q ≡ made r)
    go true e true i =
        let n' : within (inner q) ≡ made r = rw (e, i) at n in
        cc
    go true e false i =
        let m' : made q ≡ w = rw (e, i) at m in
        let n' : t q ≡ made r = rw (e, i) at n in
        (sym m', n')
    go false e c i =
        let n' : within (outer (g q)) ≡ made r = rw e at n in
        cc

module _ (C : Item_rule) where
  module _ (d : ℕ) (A : Type 0) (f g : Reading A) (a b : Type_tree) (s s' : Reading (Within A)) (ad : AllNamesDiffer a) (al : AllPathsLead a) where
    -- an imported resource of a and the one of b at the same path are read as each other
    pub imported-met : Entries (MatchBelow C d (Fresh A) (right made g b) (left s f a)) (named_imports b) (named_imports a) → Entries (MatchBelow C d (Fresh A) (right made f a) (left s' g b)) (named_imports a) (named_imports b) →
        (r : Name) (p : List ℕ) → Leads p r (named_imports a) → member r (imported_at (head a)) ≡ true →
        (q : Name) × (follow p (named_imports a) (named_imports b) ≡ Some q) × (member q (imported_at (head b)) ≡ true) × (s r ≡ inner q) × (s' q ≡ inner r)
    imported-met m n r p l i =
        let w = path-met C p r d (Fresh A) (Fresh A) (right made g b) (left s f a) (left s' g b) (right made f a) (named_imports b) (named_imports a) l (imports-differ a ad) (import-differs a ad) m n in
        let e : right made g b w.0 ≡ within (s r) = w.2 ∙ read-imported (head a) (λ z. within (s z)) made f r i in
        let e' : left s' g b w.0 ≡ within (inner r) = w.3 ∙ read-imported (head a) atoms made f r i in
        let z = imported-from (head b) g s' (s r) w.0 r e e' in
        (w.0, w.1, z.0, z.1, z.2)

    -- and a defined one
    pub defined-met : (t t' : Reading (Fresh A)) → Entries (MatchBelow C d (Fresh A) (left s f a) (right t g b)) (named_exports a) (named_exports b) → Entries (MatchBelow C d (Fresh A) (left s' g b) (right t' f a)) (named_exports b) (named_exports a) →
        (r : Name) (p : List ℕ) → Leads p r (named_exports a) → owns (head a) r ≡ true → member r (imported_at (head a)) ≡ false →
        (q : Name) × (follow p (named_exports a) (named_exports b) ≡ Some q) × (t' r ≡ made q) × (t q ≡ made r)
    defined-met t t' m n r p l o i =
        let w = path-met C p r d (Fresh A) (Fresh A) (left s' g b) (right t' f a) (right t g b) (left s f a) (named_exports b) (named_exports a) l (exports-differ a ad) (export-differs a ad) n m in
        let e : left s' g b w.0 ≡ t' r = w.2 ∙ read-defined (head a) atoms t' f r o i in
        let e' : right t g b w.0 ≡ made r = w.3 ∙ read-defined (head a) (λ z. within (s z)) made f r o i in
        let z = defined-from (head b) g s' t (t' r) w.0 r e e' in
        (w.0, w.1, z.0, z.1)

-- ## From both directions to Same
orderly-parts : (ps : Parts Name Name) → EachNodeIn (λ h qs. AreNamedApart qs) ps → EachNodeIn HeadLed ps → EachPart Orderly ps
orderly-parts none p l = tt
orderly-parts (part k t ps) p l = ((p.0, l.0), orderly-parts ps p.1 l.1)

pub orderly-export : (t : Type_tree) → Orderly t → (n : Text) (x : Type_tree) → Contains (named_exports t) (n, x) → Orderly x
orderly-export (node h ps) o = at_export Orderly ps (orderly-parts ps o.0.1 o.1.1)

pub orderly-import : (t : Type_tree) → Orderly t → (n : Text) (x : Type_tree) → Contains (named_imports t) (n, x) → Orderly x
orderly-import (node h ps) o = at_import Orderly ps (orderly-parts ps o.0.1 o.1.1)

no-names : IsDistinct bytes_eq []
unfolding IsDistinct
no-names = tt

orderly-nothing : Orderly (node nothing none)
orderly-nothing = (((no-names, no-names), tt), (tt, tt))

pub orderly-referenced : (t : Type_tree) → Orderly t → Orderly (referenced t)
orderly-referenced (node h ps) o = go ps (orderly-parts ps o.0.1 o.1.1)
  where
    go : (ps : Parts Name Name) → EachPart Orderly ps → Orderly (first_part (rest_parts ps))
    go none e = orderly-nothing
    go (part k t none) e = orderly-nothing
    go (part k t (part k' t' ps)) e = e.1.0

pair-up : {X : Type 0} (R R' S : X → X → Type 0) (xs ys : List (Text × X)) → NamesDiffer xs → NamesDiffer ys →
    ((n : Text) (x y : X) → Contains xs (n, x) → Contains ys (n, y) → R x y → R' y x → S x y) → Entries R xs ys → Entries R' ys xs → Pairs S xs ys
pair-up {X} R R' S xs ys i j k m m' = (one, other)
  where
    one : Entries S xs ys
    one n y c =
        let x = m n y c in
        let cx : Contains xs (n, x.0) = entry-contains n xs x.0 x.1 in
        let z = m' n x.0 cx in
        let e : z.0 ≡ y = some-inj (sym z.1 ∙ lookup-from_Contains texts_equiv n y ys j c) in
        (x.0, x.1, k n x.0 y cx c x.2 (subst (λ (w : X). R' w x.0) e z.2))

    other : Entries (λ y x. S x y) ys xs
    other n x c =
        let y = m' n x c in
        let cy : Contains ys (n, y.0) = entry-contains n ys y.0 y.1 in
        let z = m n y.0 cy in
        let e : z.0 ≡ x = some-inj (sym z.1 ∙ lookup-from_Contains texts_equiv n x xs i c) in
        (y.0, y.1, k n x y.0 c cy (subst (λ (w : X). R w y.0) e z.2) y.2)

abbrev pub un_inner : {A : Type 0} → Within A → Name
un_inner (outer a) = base []
un_inner (inner r) = r

abbrev pub un_made : {A : Type 0} → Fresh A → Name
un_made (within w) = base []
un_made (made r) = r

-- what the proof says of M and of S
abbrev pub TakesBoth : Matching → Matching → Type 1
TakesBoth M S = (A : Type 0) (f g : Reading A) (a b : Type_tree) → Orderly a → Orderly b → M A f g a b → M A g f b a → S A f g a b

module _ (C : Item_rule) where
  SameAs-from : (d : ℕ) → TakesBoth (MatchBelow C d) (SameBelow C d) → (s : Sort) (A : Type 0) (f g : Reading A) (a b : Type_tree) → sort a ≡ s → sort b ≡ s → Orderly a → Orderly b →
      MatchAs C (MatchBelow C d) s A f g a b → MatchAs C (MatchBelow C d) s A g f b a → SameAs C (SameBelow C d) s A f g a b
  SameAs-from d ih is_instance A f g a b ea eb oa ob m m' =
      pair-up (MatchBelow C d (Within A) (in_instance a f) (in_instance b g)) (MatchBelow C d (Within A) (in_instance b g) (in_instance a f)) (SameBelow C d (Within A) (in_instance a f) (in_instance b g))
      (named_exports a) (named_exports b) (exports-differ a oa.0) (exports-differ b ob.0)
      (λ n x y cx cy. ih (Within A) (in_instance a f) (in_instance b g) x y (orderly-export a oa n x cx) (orderly-export b ob n y cy)) m m'
  SameAs-from d ih is_type A f g a b ea eb oa ob m m' =
      (ih A f g (referenced a) (referenced b) (orderly-referenced a oa) (orderly-referenced b ob) m.0 m.1, m.2)
  SameAs-from d ih is_component A f g a b ea eb oa ob m m' =
      let s = m.0 in
      let t = m.1 in
      let s' = m'.0 in
      let t' = m'.1 in
      let i : Name → Name = λ r. un_inner (s r) in
      let i' : Name → Name = λ q. un_inner (s' q) in
      let o : Name → Name = λ r. un_made (t' r) in
      let o' : Name → Name = λ q. un_made (t q) in
      let I : Reading (Fresh A) = paired_imports i f a in
      let L : Reading (Fresh A) = paired i o f a in
      let R : Reading (Fresh A) = right made g b in
      let h₁ : Fresh A → Fresh A = open_made (λ r. made (o r)) in
      let h₂ : Fresh A → Fresh A = open_inner (λ r. inner (i r)) in
      let meet = imported-met C d A f g a b s s' oa.0 oa.1 m.2 m'.2 in
      let meet' = imported-met C d A g f b a s' s ob.0 ob.1 m'.2 m.2 in
      let meet_made = defined-met C d A f g a b s s' oa.0 oa.1 t t' m.3 m'.3 in
      let meet_made' = defined-met C d A g f b a s' s ob.0 ob.1 t' t m'.3 m.3 in
      let as_inner : (r : Name) → member r (imported_at (head a)) ≡ true → s r ≡ inner (i r) =
      λ r c. let p = led-import a oa.1 r c in let w = meet r p.0 p.1 c in w.3 ∙ ap (λ (z : Within A). inner (un_inner z)) (sym w.3) in
      let back_a : (r : Name) → member r (imported_at (head a)) ≡ true → i' (i r) ≡ r =
      λ r c. let p = led-import a oa.1 r c in let w = meet r p.0 p.1 c in ap (λ (z : Within A). i' (un_inner z)) w.3 ∙ ap (λ (z : Within A). un_inner z) w.4 in
      let back_b : (q : Name) → member q (imported_at (head b)) ≡ true → h₂ (within (s' q)) ≡ atoms q =
      λ q c. let p = led-import b ob.1 q c in let w = meet' q p.0 p.1 c in
      ap (λ (z : Within A). h₂ (within z)) w.3 ∙ ap (λ (z : Within A). within (inner (un_inner z))) w.4 in
      let as_made : (r : Name) → owns (head a) r ≡ true → member r (imported_at (head a)) ≡ false → h₂ (t' r) ≡ made (o r) =
      λ r e c. let p = led-export a oa.1 r (owned-defined (head a) ea r e c) in let w = meet_made r p.0 p.1 e c in
      ap h₂ w.2 ∙ ap (λ (z : Fresh A). made (un_made z)) (sym w.2) in
      let made_back : (r : Name) → member r (imported_at (head a)) ≡ false → member r (made_at (head a)) ≡ true → o' (o r) ≡ r =
      λ r c e. let p = led-export a oa.1 r e in let w = meet_made r p.0 p.1 (defined-owned (head a) r e) c in
      ap (λ (z : Fresh A). o' (un_made z)) w.2 ∙ ap (λ (z : Fresh A). un_made z) w.3 in
      let made_right : (q : Name) → owns (head b) q ≡ true → member q (imported_at (head b)) ≡ false → h₁ (t q) ≡ made q =
      λ q e c. let p = led-export b ob.1 q (owned-defined (head b) eb q e c) in let w = meet_made' q p.0 p.1 e c in
      ap h₁ w.2 ∙ ap (λ (z : Fresh A). made (un_made z)) w.3 in (
        record { imported_to = i; imported_back = i'; defined_to = o; defined_back = o'; imported_one = back_a; defined_one = made_back },
        pair-up (MatchBelow C d (Fresh A) (right made f a) (left s' g b)) (MatchBelow C d (Fresh A) (right made g b) (left s f a)) (SameBelow C d (Fresh A) I R)
            (named_imports a) (named_imports b) (imports-differ a oa.0) (imports-differ b ob.0)
            (λ n x y cx cy w w'. ih (Fresh A) I R x y (orderly-import a oa n x cx) (orderly-import b ob n y cy)
            (MatchBelow-map C d (Fresh A) (Fresh A) h₂ (right made f a) (left s' g b) I R x y
            (λ r _. in_component-at h₂ (head a) atoms made f (λ r. within (inner (i r))) made f (λ r _. refl) (λ r _ _. refl) (λ r. refl) r)
            (λ r _. in_component-at h₂ (head b) (λ r. within (s' r)) made g atoms made g back_b (λ r _ _. refl) (λ r. refl) r) w)
            (MatchBelow-map C d (Fresh A) (Fresh A) (λ z. z) (right made g b) (left s f a) R I y x
            (λ r _. refl)
            (λ r _. in_component-at (λ z. z) (head a) (λ r. within (s r)) made f (λ r. within (inner (i r))) made f (λ r c. ap (λ (z : Within A). within z) (as_inner r c)) (λ r _ _. refl) (λ r. refl) r) w'))
            m'.2 m.2,
        pair-up (MatchBelow C d (Fresh A) (left s f a) (right t g b)) (MatchBelow C d (Fresh A) (left s' g b) (right t' f a)) (SameBelow C d (Fresh A) L R)
            (named_exports a) (named_exports b) (exports-differ a oa.0) (exports-differ b ob.0)
            (λ n x y cx cy w w'. ih (Fresh A) L R x y (orderly-export a oa n x cx) (orderly-export b ob n y cy)
            (MatchBelow-map C d (Fresh A) (Fresh A) h₁ (left s f a) (right t g b) L R x y
            (λ r _. in_component-at h₁ (head a) (λ r. within (s r)) made f (λ r. within (inner (i r))) (λ r. made (o r)) f (λ r c. ap (λ (z : Within A). h₁ (within z)) (as_inner r c)) (λ r _ _. refl) (λ r. refl) r)
            (λ r _. in_component-at h₁ (head b) atoms t g atoms made g (λ r _. refl) made_right (λ r. refl) r) w)
            (MatchBelow-map C d (Fresh A) (Fresh A) h₂ (left s' g b) (right t' f a) R L y x
            (λ r _. in_component-at h₂ (head b) (λ r. within (s' r)) made g atoms made g back_b (λ r _ _. refl) (λ r. refl) r)
            (λ r _. in_component-at h₂ (head a) atoms t' f (λ r. within (inner (i r))) (λ r. made (o r)) f (λ r _. refl) as_made (λ r. refl) r) w'))
            m.3 m'.3,
      )
  SameAs-from d ih is_module A f g a b ea eb oa ob m m' = (m, m')
  SameAs-from d ih _ A f g a b ea eb oa ob m m' = m

-- trees that match each other are the same
module _ (C : Item_rule) where
  pub SameBelow-from : (d : ℕ) → TakesBoth (MatchBelow C d) (SameBelow C d)
  SameBelow-from zero A f g a b oa ob m m' = absurd m
  SameBelow-from (suc d) A f g a b oa ob m m' =
      (m.0, SameAs-from C d (SameBelow-from d) (sort a) A f g a b refl (sym m.0) oa ob m.1 (subst (λ (s : Sort). MatchAs C (MatchBelow C d) s A g f b a) (sym m.0) m'.1))
