-- The first path leads to its resource, and there is one where any path leads there.
use Rattle.std.proofs.Common.{◌≡◌, ℕ, zero, suc, ◌+◌, List, [], ◌∷◌, map, refl, sym, ◌∙◌, ap, subst, Bool, true, false, cond, Some, None, arith}
use Rattle.std.specs.Prelude.{Option, slice_get}
use Rattle.std.specs.Option.{option_map}
use Rattle.std.proofs.lemmas.Bool.{false≢true}
use Rattle.wcv_core.specs.Names.{Name, member}
use Rattle.wcv_core.proofs.Names.{same-true, same-equal}
use Rattle.wcv_types.specs.Tree.{Extern_name, Head, nothing, primitive, resource, defined, func, instance, component, type_entity, core_module, core_instance, core_type, core_item, here, label, import, export, core_import, core_export, Tree, node, Parts, none, part, head, first_part, rest_parts, exports, exports_in}
use Rattle.wcv_types.specs.Resources.{RefersTo, refers}
use Rattle.wcv_types.specs.Paths.{IsTypeOf, IsWayTo, PathLeadsTo}
use Rattle.wcv_types.specs.FirstPath.{or_else, path_at, path_in, path_from, first_path}
use Rattle.wcv_types.specs.Rename.{rename, rename_head, rename_parts, HeadNames, EachName, EachNameIn}
use Rattle.wcv_types.proofs.Commute.{owns-renamed}
use Rattle.wcv_types.proofs.Identity.{same_under}
use Rattle.wcv_types.proofs.Lists.{some-inj}

abbrev Entry : Type 0
Entry = Extern_name × Tree Name Name

-- the path leads on within what an entry holds
abbrev pub Reaches : Name → List ℕ → Tree Name Name → Type 0
Reaches r [] t = IsTypeOf r t
Reaches r (k ∷ p) t = IsWayTo r t × PathLeadsTo (k ∷ p) r (exports t)

-- the path begins at the j-th entry
abbrev pub Begins : Name → ℕ → List Entry → List ℕ → Type 0
Begins r k es p = (j : ℕ) × (q : List ℕ) × (e : Entry) × (p ≡ (k + j) ∷ q) × (slice_get es j ≡ Some e) × Reaches r q e.1

leads-entry : (r : Name) (es : List Entry) (j : ℕ) (q : List ℕ) (e : Entry) → slice_get es j ≡ Some e → Reaches r q e.1 → PathLeadsTo (j ∷ q) r es
leads-entry r es j [] e s w = (e, s, w)
leads-entry r es j (k ∷ q) e s w = (e, s, w.0, w.1)

pub leads-begins : (r : Name) (es : List Entry) (j : ℕ) (q : List ℕ) → PathLeadsTo (j ∷ q) r es → (e : Entry) × (slice_get es j ≡ Some e) × Reaches r q e.1
leads-begins r es j [] w = (w.0, w.1, w.2)
leads-begins r es j (k ∷ q) w = (w.0, w.1, (w.2, w.3))

begins-leads : (r : Name) (es : List Entry) (p : List ℕ) → Begins r 0 es p → PathLeadsTo p r es
begins-leads r es p b =
    let z : 0 + b.0 ≡ b.0 = omega arith in
    subst (λ (x : List ℕ). PathLeadsTo x r es) (ap (λ (j : ℕ). j ∷ b.1) (sym z) ∙ sym b.3) (leads-entry r es b.0 b.1 b.2 b.4 b.5)

-- the first entry, or a later one
begins-here : (r : Name) (k : ℕ) (e : Entry) (es : List Entry) (q p : List ℕ) → k ∷ q ≡ p → Reaches r q e.1 → Begins r k (e ∷ es) p
begins-here r k e es q p h w =
    let z : k ≡ k + 0 = omega arith in
    (0, q, e, sym h ∙ ap (λ (j : ℕ). j ∷ q) z, refl, w)

begins-later : (r : Name) (k : ℕ) (e : Entry) (es : List Entry) (p : List ℕ) → Begins r (suc k) es p → Begins r k (e ∷ es) p
begins-later r k e es p b =
    let z : suc k + b.0 ≡ k + suc b.0 = omega arith in
    (suc b.0, b.1, b.2, b.3 ∙ ap (λ (j : ℕ). j ∷ b.1) z, b.4, b.5)

step : (r : Name) (k : ℕ) (e : Entry) (es : List Entry) (o : Option (List ℕ)) (p : List ℕ) → ((q : List ℕ) → path_at r e.1 ≡ Some q → Reaches r q e.1) → (o ≡ Some p → Begins r (suc k) es p) →
    or_else (option_map (λ q. k ∷ q) (path_at r e.1)) o ≡ Some p → Begins r k (e ∷ es) p
step r k e es o p first later h = go (path_at r e.1) refl h
  where
    go : (x : Option (List ℕ)) → path_at r e.1 ≡ x → or_else (option_map (λ q. k ∷ q) x) o ≡ Some p → Begins r k (e ∷ es) p
    go None g w = begins-later r k e es p (later w)
    go (Some q) g w = begins-here r k e es q p (some-inj w) (first q g)

pub refers-to : (r : Name) (h : Head Name Name) → refers r h ≡ true → RefersTo r h
refers-to r (resource q s) e = same-true r q e
refers-to r nothing e = absurd (false≢true e)
refers-to r (primitive p) e = absurd (false≢true e)
refers-to r (defined i x) e = absurd (false≢true e)
refers-to r (func i b) e = absurd (false≢true e)
refers-to r (instance i own) e = absurd (false≢true e)
refers-to r (component i ins outs) e = absurd (false≢true e)
refers-to r type_entity e = absurd (false≢true e)
refers-to r (core_module i n) e = absurd (false≢true e)
refers-to r (core_instance i n) e = absurd (false≢true e)
refers-to r (core_type k) e = absurd (false≢true e)
refers-to r (core_item x) e = absurd (false≢true e)

pub to-refers : (r : Name) (h : Head Name Name) → RefersTo r h → refers r h ≡ true
to-refers r (resource q s) e = same-equal r q e
to-refers r nothing e = absurd e
to-refers r (primitive p) e = absurd e
to-refers r (defined i x) e = absurd e
to-refers r (func i b) e = absurd e
to-refers r (instance i own) e = absurd e
to-refers r (component i ins outs) e = absurd e
to-refers r type_entity e = absurd e
to-refers r (core_module i n) e = absurd e
to-refers r (core_instance i n) e = absurd e
to-refers r (core_type k) e = absurd e
to-refers r (core_item x) e = absurd e

pub no_path : {x : List ℕ} → None ≡ Some x → ⊥
no_path w = cc

type-reaches : (r : Name) (ps : Parts Name Name) (q : List ℕ) → path_at r (node type_entity ps) ≡ Some q → Reaches r q (node type_entity ps)
type-reaches r ps q h = go (refers r (head (first_part (rest_parts ps)))) refl h
  where
    go : (b : Bool) → refers r (head (first_part (rest_parts ps))) ≡ b → cond b (Some []) None ≡ Some q → Reaches r q (node type_entity ps)
    go true e w = subst (λ (x : List ℕ). Reaches r x (node type_entity ps)) (some-inj w) (refl, refers-to r (head (first_part (rest_parts ps))) e)
    go false e w = absurd (no_path w)

instance-reaches : (r i : Name) (own : List Name) (ps : Parts Name Name) (q : List ℕ) → (path_in r 0 ps ≡ Some q → Begins r 0 (exports_in ps) q) →
    path_at r (node (instance i own) ps) ≡ Some q → Reaches r q (node (instance i own) ps)
instance-reaches r i own ps q inside h = go (member r own) refl h
  where
    go : (b : Bool) → member r own ≡ b → cond b None (path_in r 0 ps) ≡ Some q → Reaches r q (node (instance i own) ps)
    go true e w = absurd (no_path w)
    go false e w =
        let b = inside w in
        subst (λ (x : List ℕ). Reaches r x (node (instance i own) ps)) (sym b.3) ((refl, e), subst (λ (x : List ℕ). PathLeadsTo x r (exports_in ps)) b.3 (begins-leads r (exports_in ps) q b))

mutual
  pub path_at-reaches : (r : Name) (t : Tree Name Name) (q : List ℕ) → path_at r t ≡ Some q → Reaches r q t
  path_at-reaches r (node type_entity ps) q h = type-reaches r ps q h
  path_at-reaches r (node (core_type k) ps) q h = cc
  path_at-reaches r (node (core_item x) ps) q h = cc
  path_at-reaches r (node (instance i own) ps) q h = instance-reaches r i own ps q (λ w. path_in-begins r 0 ps q w) h
  path_at-reaches r (node nothing ps) q h = cc
  path_at-reaches r (node (primitive p) ps) q h = cc
  path_at-reaches r (node (resource x s) ps) q h = cc
  path_at-reaches r (node (defined i x) ps) q h = cc
  path_at-reaches r (node (func i b) ps) q h = cc
  path_at-reaches r (node (core_module i n) ps) q h = cc
  path_at-reaches r (node (core_instance i n) ps) q h = cc
  path_at-reaches r (node (component i ins outs) ps) q h = cc

  pub path_in-begins : (r : Name) (k : ℕ) (ps : Parts Name Name) (p : List ℕ) → path_in r k ps ≡ Some p → Begins r k (exports_in ps) p
  path_in-begins r k none p h = cc
  path_in-begins r k (part (export n) t ps) p h = step r k (n, t) (exports_in ps) (path_in r (suc k) ps) p (λ q g. path_at-reaches r t q g) (λ w. path_in-begins r (suc k) ps p w) h
  path_in-begins r k (part (import n) t ps) p h = path_in-begins r k ps p h
  path_in-begins r k (part (label n) t ps) p h = path_in-begins r k ps p h
  path_in-begins r k (part here t ps) p h = path_in-begins r k ps p h
  path_in-begins r k (part (core_import m n) t ps) p h = path_in-begins r k ps p h
  path_in-begins r k (part (core_export m) t ps) p h = path_in-begins r k ps p h

path_from-begins : (r : Name) (k : ℕ) (es : List Entry) (p : List ℕ) → path_from r k es ≡ Some p → Begins r k es p
path_from-begins r k [] p h = cc
path_from-begins r k (e ∷ es) p h = step r k e es (path_from r (suc k) es) p (λ q g. path_at-reaches r e.1 q g) (λ w. path_from-begins r (suc k) es p w) h

-- the first path leads to its resource
pub first_path-leads : (r : Name) (es : List Entry) (p : List ℕ) → first_path r es ≡ Some p → PathLeadsTo p r es
first_path-leads r es p h = begins-leads r es p (path_from-begins r 0 es p h)

-- ## Where there is none

pub no_first : (x y : Option (List ℕ)) (k : ℕ) → or_else (option_map (λ q. k ∷ q) x) y ≡ None → x ≡ None
no_first None y k h = refl
no_first (Some q) y k h = cc

pub no_later : (x y : Option (List ℕ)) (k : ℕ) → or_else (option_map (λ q. k ∷ q) x) y ≡ None → y ≡ None
no_later None y k h = h
no_later (Some q) y k h = cc

-- no path begins at an entry
abbrev None_begins : Name → List Entry → Type 0
None_begins r es = (j : ℕ) (q : List ℕ) (e : Entry) → slice_get es j ≡ Some e → Reaches r q e.1 → ⊥

none_of_none : (r : Name) → None_begins r []
none_of_none r j q e s w = cc

none_of_more : (r : Name) (e : Entry) (es : List Entry) → ((q : List ℕ) → Reaches r q e.1 → ⊥) → None_begins r es → None_begins r (e ∷ es)
none_of_more r e es first later zero q x s w = first q (subst (λ (y : Entry). Reaches r q y.1) (sym (some-inj s)) w)
none_of_more r e es first later (suc j) q x s w = later j q x s w

abbrev ends_here : Bool → Option (List ℕ)
ends_here b = cond b (Some []) None

no-type : (r : Name) (ps : Parts Name Name) (q : List ℕ) → path_at r (node type_entity ps) ≡ None → Reaches r q (node type_entity ps) → ⊥
no-type r ps [] h w =
    let e : refers r (head (first_part (rest_parts ps))) ≡ true = to-refers r (head (first_part (rest_parts ps))) w.1 in
    let f : ends_here true ≡ None = ap ends_here (sym e) ∙ h in
    cc
no-type r ps (k ∷ q) h w = let e = w.0.0 in cc

no-instance : (r i : Name) (own : List Name) (ps : Parts Name Name) (q : List ℕ) → (path_in r 0 ps ≡ None → None_begins r (exports_in ps)) → path_at r (node (instance i own) ps) ≡ None →
    Reaches r q (node (instance i own) ps) → ⊥
no-instance r i own ps [] inside h w = let e = w.0 in cc
no-instance r i own ps (k ∷ q) inside h w =
    let o : member r own ≡ false = w.0.1 in
    let e : path_in r 0 ps ≡ None = ap (λ (b : Bool). cond b None (path_in r 0 ps)) (sym o) ∙ h in
    let b = leads-begins r (exports_in ps) k q w.1 in
    inside e k q b.0 b.1 b.2

not_reached : (r : Name) (t : Tree Name Name) (q : List ℕ) → (IsTypeOf r t → ⊥) → (IsWayTo r t → ⊥) → Reaches r q t → ⊥
not_reached r t [] x y w = x w
not_reached r t (k ∷ q) x y w = y w.0

mutual
  pub path_at-none : (r : Name) (t : Tree Name Name) → path_at r t ≡ None → (q : List ℕ) → Reaches r q t → ⊥
  path_at-none r (node type_entity ps) h q w = no-type r ps q h w
  path_at-none r (node (core_type k) ps) h q w = not_reached r (node (core_type k) ps) q (λ y. let e = y.0 in cc) (λ y. let e = y.0 in cc) w
  path_at-none r (node (core_item x) ps) h q w = not_reached r (node (core_item x) ps) q (λ y. let e = y.0 in cc) (λ y. let e = y.0 in cc) w
  path_at-none r (node (instance i own) ps) h q w = no-instance r i own ps q (λ e. path_in-none r 0 ps e) h w
  path_at-none r (node nothing ps) h q w = not_reached r (node nothing ps) q (λ x. let e = x.0 in cc) (λ x. let e = x.0 in cc) w
  path_at-none r (node (primitive p) ps) h q w = not_reached r (node (primitive p) ps) q (λ x. let e = x.0 in cc) (λ x. let e = x.0 in cc) w
  path_at-none r (node (resource y s) ps) h q w = not_reached r (node (resource y s) ps) q (λ x. let e = x.0 in cc) (λ x. let e = x.0 in cc) w
  path_at-none r (node (defined i y) ps) h q w = not_reached r (node (defined i y) ps) q (λ x. let e = x.0 in cc) (λ x. let e = x.0 in cc) w
  path_at-none r (node (func i b) ps) h q w = not_reached r (node (func i b) ps) q (λ x. let e = x.0 in cc) (λ x. let e = x.0 in cc) w
  path_at-none r (node (core_module i n) ps) h q w = not_reached r (node (core_module i n) ps) q (λ x. let e = x.0 in cc) (λ x. let e = x.0 in cc) w
  path_at-none r (node (core_instance i n) ps) h q w = not_reached r (node (core_instance i n) ps) q (λ x. let e = x.0 in cc) (λ x. let e = x.0 in cc) w
  path_at-none r (node (component i ins outs) ps) h q w = not_reached r (node (component i ins outs) ps) q (λ x. let e = x.0 in cc) (λ x. let e = x.0 in cc) w

  pub path_in-none : (r : Name) (k : ℕ) (ps : Parts Name Name) → path_in r k ps ≡ None → (j : ℕ) (q : List ℕ) (e : Extern_name × Tree Name Name) → slice_get (exports_in ps) j ≡ Some e → Reaches r q e.1 → ⊥
  path_in-none r k none h j q e s w = none_of_none r j q e s w
  path_in-none r k (part (export n) t ps) h j q e s w =
      none_of_more r (n, t) (exports_in ps) (λ x y. path_at-none r t (no_first (path_at r t) (path_in r (suc k) ps) k h) x y)
      (λ a b c d x. path_in-none r (suc k) ps (no_later (path_at r t) (path_in r (suc k) ps) k h) a b c d x) j q e s w
  path_in-none r k (part (import n) t ps) h j q e s w = path_in-none r k ps h j q e s w
  path_in-none r k (part (label n) t ps) h j q e s w = path_in-none r k ps h j q e s w
  path_in-none r k (part here t ps) h j q e s w = path_in-none r k ps h j q e s w
  path_in-none r k (part (core_import m n) t ps) h j q e s w = path_in-none r k ps h j q e s w
  path_in-none r k (part (core_export m) t ps) h j q e s w = path_in-none r k ps h j q e s w

path_from-none : (r : Name) (k : ℕ) (es : List Entry) → path_from r k es ≡ None → None_begins r es
path_from-none r k [] h = none_of_none r
path_from-none r k (e ∷ es) h =
    none_of_more r e es (λ x y. path_at-none r e.1 (no_first (path_at r e.1) (path_from r (suc k) es) k h) x y) (path_from-none r (suc k) es (no_later (path_at r e.1) (path_from r (suc k) es) k h))

-- where there is no first path, no path leads to the resource
pub first_path-none : (r : Name) (es : List Entry) → first_path r es ≡ None → (p : List ℕ) → PathLeadsTo p r es → ⊥
first_path-none r es h [] w = w
first_path-none r es h (k ∷ p) w = let b = leads-begins r es k p w in path_from-none r 0 es h k p b.0 b.1 b.2

-- ## Under a renaming that has a way back

module _ (f back g : Name → Name) (Q : Name → Type 0) where
  pub refers-renamed : (r : Name) (h : Head Name Name) → back (f r) ≡ r → HeadNames (λ q. back (f q) ≡ q) Q h → refers (f r) (rename_head f g h) ≡ refers r h
  refers-renamed r (resource q s) e n = same_under f back r q e n.0
  refers-renamed r nothing e n = refl
  refers-renamed r (primitive p) e n = refl
  refers-renamed r (defined i x) e n = refl
  refers-renamed r (func i b) e n = refl
  refers-renamed r (instance i own) e n = refl
  refers-renamed r (component i ins outs) e n = refl
  refers-renamed r type_entity e n = refl
  refers-renamed r (core_module i k) e n = refl
  refers-renamed r (core_instance i k) e n = refl
  refers-renamed r (core_type k) e n = refl
  refers-renamed r (core_item x) e n = refl

  second-renamed : (r : Name) (ps : Parts Name Name) → back (f r) ≡ r → EachNameIn (λ q. back (f q) ≡ q) Q ps →
      refers (f r) (head (first_part (rest_parts (rename_parts f g ps)))) ≡ refers r (head (first_part (rest_parts ps)))
  second-renamed r none e n = refl
  second-renamed r (part k t none) e n = refl
  second-renamed r (part k t (part k' (node h qs) ps)) e n = refers-renamed r h e n.1.0.0

  mutual
    pub path_at-renamed : (r : Name) (t : Tree Name Name) → back (f r) ≡ r → EachName (λ q. back (f q) ≡ q) Q t → path_at (f r) (rename f g t) ≡ path_at r t
    path_at-renamed r (node type_entity ps) e n = ap ends_here (second-renamed r ps e n.1)
    path_at-renamed r (node (core_type k) ps) e n = refl
    path_at-renamed r (node (core_item x) ps) e n = refl
    path_at-renamed r (node (instance i own) ps) e n =
        let a : member (f r) (map f own) ≡ member r own = owns-renamed f back g Q (instance i own) r n.0 e in
        let b : path_in (f r) 0 (rename_parts f g ps) ≡ path_in r 0 ps = path_in-renamed r 0 ps e n.1 in
        λ j. cond (a j) None (b j)
    path_at-renamed r (node nothing ps) e n = refl
    path_at-renamed r (node (primitive p) ps) e n = refl
    path_at-renamed r (node (resource q s) ps) e n = refl
    path_at-renamed r (node (defined i x) ps) e n = refl
    path_at-renamed r (node (func i b) ps) e n = refl
    path_at-renamed r (node (core_module i k) ps) e n = refl
    path_at-renamed r (node (core_instance i k) ps) e n = refl
    path_at-renamed r (node (component i ins outs) ps) e n = refl

    pub path_in-renamed : (r : Name) (k : ℕ) (ps : Parts Name Name) → back (f r) ≡ r → EachNameIn (λ q. back (f q) ≡ q) Q ps → path_in (f r) k (rename_parts f g ps) ≡ path_in r k ps
    path_in-renamed r k none e n = refl
    path_in-renamed r k (part (export m) t ps) e n =
        let a : path_at (f r) (rename f g t) ≡ path_at r t = path_at-renamed r t e n.0 in
        let b : path_in (f r) (suc k) (rename_parts f g ps) ≡ path_in r (suc k) ps = path_in-renamed r (suc k) ps e n.1 in
        λ j. or_else (option_map (λ p. k ∷ p) (a j)) (b j)
    path_in-renamed r k (part (import m) t ps) e n = path_in-renamed r k ps e n.1
    path_in-renamed r k (part (label m) t ps) e n = path_in-renamed r k ps e n.1
    path_in-renamed r k (part here t ps) e n = path_in-renamed r k ps e n.1
    path_in-renamed r k (part (core_import m l) t ps) e n = path_in-renamed r k ps e n.1
    path_in-renamed r k (part (core_export m) t ps) e n = path_in-renamed r k ps e n.1

  -- so among entries
  pub path_from-renamed : (r : Name) (k : ℕ) (es : List Entry) → back (f r) ≡ r → ((e : Entry) → EachName (λ q. back (f q) ≡ q) Q e.1) →
      path_from (f r) k (map (λ (e : Entry). (e.0, rename f g e.1)) es) ≡ path_from r k es
  path_from-renamed r k [] e n = refl
  path_from-renamed r k (x ∷ es) e n =
      let a : path_at (f r) (rename f g x.1) ≡ path_at r x.1 = path_at-renamed r x.1 e (n x) in
      let b : path_from (f r) (suc k) (map (λ (y : Entry). (y.0, rename f g y.1)) es) ≡ path_from r (suc k) es = path_from-renamed r (suc k) es e n in
      λ j. or_else (option_map (λ p. k ∷ p) (a j)) (b j)
