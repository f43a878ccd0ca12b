-- The first path comes before all others that lead to its resource.
use Rattle.std.proofs.Common.{◌≡◌, ℕ, zero, suc, ◌+◌, ◌<◌, List, [], ◌∷◌, refl, sym, ◌∙◌, ap, subst, Bool, true, false, cond, Some, None, arith, inl, inr, ⊎_elim}
use Rattle.std.specs.Prelude.{◌⊎◌, Option, slice_get}
use Rattle.std.specs.Option.{option_map}
use Rattle.wcv_core.specs.Names.{Name, member}
use Rattle.wcv_types.specs.FirstPath.{or_else, path_at, path_in, path_from, first_path}
use Rattle.wcv_types.specs.Paths.{PathLeadsTo, ComesBefore, IsFirstPath}
use Rattle.wcv_types.specs.Resources.{refers}
use Rattle.wcv_types.specs.Tree.{Extern_name, nothing, primitive, resource, defined, func, instance, component, type_entity, core_module, core_instance, core_type, core_item, here, label, import, export, core_import, core_export, Tree, node, Parts, none, part, head, first_part, rest_parts, exports_in}
use Rattle.wcv_types.proofs.FirstPath.{Reaches, leads-begins, no_path, path_at-none, first_path-leads, first_path-none}
use Rattle.wcv_types.proofs.Lists.{some-inj}

abbrev Entry : Type 0
Entry = Extern_name × Tree Name Name

-- no path that leads there within what an entry holds comes before it
abbrev NoneAhead : Name → Tree Name Name → List ℕ → Type 0
NoneAhead r t p = (q : List ℕ) → Reaches r q t → ComesBefore q p → ⊥

-- none that begins at one of the entries does, of which the first has position k
abbrev NoneBegins : Name → ℕ → List Entry → List ℕ → Type 0
NoneBegins r k es p = (j : ℕ) (q : List ℕ) (e : Entry) → slice_get es j ≡ Some e → Reaches r q e.1 → ComesBefore ((k + j) ∷ q) p → ⊥

-- ## Entries

-- the path goes through the first entry
ahead_here : (r : Name) (k : ℕ) (e : Entry) (es : List Entry) (x : List ℕ) → NoneAhead r e.1 x → NoneBegins r k (e ∷ es) (k ∷ x)
ahead_here r k e es x h zero q d s w b =
    ⊎_elim (λ (i : (k + 0) < k). absurd (omega (arith, i))) (λ (i : ((k + 0) ≡ k) × ComesBefore q x). h q (subst (λ (y : Entry). Reaches r q y.1) (sym (some-inj s)) w) i.1) b
ahead_here r k e es x h (suc j) q d s w b =
    ⊎_elim (λ (i : (k + suc j) < k). absurd (omega (arith, i))) (λ (i : ((k + suc j) ≡ k) × ComesBefore q x). absurd (omega (arith, i.0))) b

-- or through a later one
ahead_later : (r : Name) (k : ℕ) (e : Entry) (es : List Entry) (p : List ℕ) → ((q : List ℕ) → Reaches r q e.1 → ⊥) → NoneBegins r (suc k) es p → NoneBegins r k (e ∷ es) p
ahead_later r k e es p h later zero q d s w b = h q (subst (λ (y : Entry). Reaches r q y.1) (sym (some-inj s)) w)
ahead_later r k e es p h later (suc j) q d s w b =
    let z : k + suc j ≡ suc k + j = omega arith in
    later j q d s w (subst (λ (i : ℕ). ComesBefore (i ∷ q) p) z b)

ahead : (r : Name) (k : ℕ) (e : Entry) (es : List Entry) (o : Option (List ℕ)) (p : List ℕ) → ((x : List ℕ) → path_at r e.1 ≡ Some x → NoneAhead r e.1 x) → (o ≡ Some p → NoneBegins r (suc k) es p) →
    or_else (option_map (λ q. k ∷ q) (path_at r e.1)) o ≡ Some p → NoneBegins r k (e ∷ es) p
ahead r k e es o p first later h = go (path_at r e.1) refl h
  where
    go : (x : Option (List ℕ)) → path_at r e.1 ≡ x → or_else (option_map (λ q. k ∷ q) x) o ≡ Some p → NoneBegins r k (e ∷ es) p
    go None g w = ahead_later r k e es p (path_at-none r e.1 g) (later w)
    go (Some x) g w = subst (NoneBegins r k (e ∷ es)) (some-inj w) (ahead_here r k e es x (first x g))

none_of_none : (r : Name) (k : ℕ) (p : List ℕ) → NoneBegins r k [] p
none_of_none r k p j q e s w b = cc

-- ## Trees

type_ahead : (r : Name) (ps : Parts Name Name) (p : List ℕ) → path_at r (node type_entity ps) ≡ Some p → NoneAhead r (node type_entity ps) p
type_ahead r ps p h q w b = go (refers r (head (first_part (rest_parts ps)))) h
  where
    go : (c : Bool) → cond c (Some []) None ≡ Some p → ⊥
    go true e = subst (λ (x : List ℕ). ComesBefore q x) (sym (some-inj e)) b
    go false e = no_path e

instance_ahead : (r i : Name) (own : List Name) (ps : Parts Name Name) (p : List ℕ) → (path_in r 0 ps ≡ Some p → NoneBegins r 0 (exports_in ps) p) → path_at r (node (instance i own) ps) ≡ Some p →
    NoneAhead r (node (instance i own) ps) p
instance_ahead r i own ps p inside h [] w b = let e = w.0 in cc
instance_ahead r i own ps p inside h (k ∷ q) w b =
    let o : member r own ≡ false = w.0.1 in
    let e : path_in r 0 ps ≡ Some p = ap (λ (c : Bool). cond c None (path_in r 0 ps)) (sym o) ∙ h in
    let d = leads-begins r (exports_in ps) k q w.1 in
    let z : k ≡ 0 + k = omega arith in
    inside e k q d.0 d.1 d.2 (subst (λ (j : ℕ). ComesBefore (j ∷ q) p) z b)

mutual
  path_at-first : (r : Name) (t : Tree Name Name) (p : List ℕ) → path_at r t ≡ Some p → NoneAhead r t p
  path_at-first r (node type_entity ps) p h = type_ahead r ps p h
  path_at-first r (node (instance i own) ps) p h = instance_ahead r i own ps p (λ e. path_in-first r 0 ps p e) h
  path_at-first r (node (core_type k) ps) p h = absurd (no_path h)
  path_at-first r (node (core_item x) ps) p h = absurd (no_path h)
  path_at-first r (node nothing ps) p h = absurd (no_path h)
  path_at-first r (node (primitive x) ps) p h = absurd (no_path h)
  path_at-first r (node (resource x s) ps) p h = absurd (no_path h)
  path_at-first r (node (defined i x) ps) p h = absurd (no_path h)
  path_at-first r (node (func i x) ps) p h = absurd (no_path h)
  path_at-first r (node (core_module i n) ps) p h = absurd (no_path h)
  path_at-first r (node (core_instance i n) ps) p h = absurd (no_path h)
  path_at-first r (node (component i ins outs) ps) p h = absurd (no_path h)

  path_in-first : (r : Name) (k : ℕ) (ps : Parts Name Name) (p : List ℕ) → path_in r k ps ≡ Some p → (j : ℕ) (q : List ℕ) (e : Extern_name × Tree Name Name) → slice_get (exports_in ps) j ≡ Some e → Reaches r q e.1 → ComesBefore ((k + j) ∷ q) p → ⊥
  path_in-first r k none p h j q e s w b = cc
  path_in-first r k (part (export n) t ps) p h j q e s w b = ahead r k (n, t) (exports_in ps) (path_in r (suc k) ps) p (λ x g. path_at-first r t x g) (λ g. path_in-first r (suc k) ps p g) h j q e s w b
  path_in-first r k (part (import n) t ps) p h j q e s w b = path_in-first r k ps p h j q e s w b
  path_in-first r k (part (label n) t ps) p h j q e s w b = path_in-first r k ps p h j q e s w b
  path_in-first r k (part here t ps) p h j q e s w b = path_in-first r k ps p h j q e s w b
  path_in-first r k (part (core_import m n) t ps) p h j q e s w b = path_in-first r k ps p h j q e s w b
  path_in-first r k (part (core_export m) t ps) p h j q e s w b = path_in-first r k ps p h j q e s w b

path_from-first : (r : Name) (k : ℕ) (es : List Entry) (p : List ℕ) → path_from r k es ≡ Some p → NoneBegins r k es p
path_from-first r k [] p h = none_of_none r k p
path_from-first r k (e ∷ es) p h = ahead r k e es (path_from r (suc k) es) p (path_at-first r e.1) (path_from-first r (suc k) es p) h

-- ## The first

none_ahead : (r : Name) (es : List Entry) (p q : List ℕ) → first_path r es ≡ Some p → PathLeadsTo q r es → ComesBefore q p → ⊥
none_ahead r es p [] h w b = w
none_ahead r es p (k ∷ q) h w b =
    let d = leads-begins r es k q w in
    let z : k ≡ 0 + k = omega arith in
    path_from-first r 0 es p h k q d.0 d.1 d.2 (subst (λ (j : ℕ). ComesBefore (j ∷ q) p) z b)

pub first_comes_first : (r : Name) (es : List Entry) (p : List ℕ) → first_path r es ≡ Some p → IsFirstPath p r es
first_comes_first r es p h = (first_path-leads r es p h, λ q w b. none_ahead r es p q h w b)

-- ## No other

numbers : (k j : ℕ) → (k ≡ j) ⊎ ((k < j) ⊎ (j < k))
numbers zero zero = inl refl
numbers zero (suc j) = inr (inl (omega arith))
numbers (suc k) zero = inr (inr (omega arith))
numbers (suc k) (suc j) =
    ⊎_elim (λ (e : k ≡ j). inl (ap suc e))
    (λ (o : (k < j) ⊎ (j < k)). ⊎_elim (λ (w : k < j). inr (inl (omega (arith, w)))) (λ (w : j < k). inr (inr (omega (arith, w)))) o) (numbers k j)

-- of two paths that differ one comes before the other
in_order : (p q : List ℕ) → (p ≡ q) ⊎ (ComesBefore p q ⊎ ComesBefore q p)
in_order [] [] = inl refl
in_order [] (j ∷ q) = inr (inl tt)
in_order (k ∷ p) [] = inr (inr tt)
in_order (k ∷ p) (j ∷ q) =
    ⊎_elim
    (λ (e : k ≡ j). ⊎_elim (λ (f : p ≡ q). inl (λ i. e i ∷ f i))
    (λ (o : ComesBefore p q ⊎ ComesBefore q p). ⊎_elim (λ (b : ComesBefore p q). inr (inl (inr (e, b)))) (λ (b : ComesBefore q p). inr (inr (inr (sym e, b)))) o) (in_order p q))
    (λ (o : (k < j) ⊎ (j < k)). ⊎_elim (λ (w : k < j). inr (inl (inl w))) (λ (w : j < k). inr (inr (inl w))) o) (numbers k j)

pub one_comes_first : (r : Name) (es : List Entry) (p : List ℕ) → IsFirstPath p r es → first_path r es ≡ Some p
one_comes_first r es p w = go (first_path r es) refl
  where
    go : (o : Option (List ℕ)) → first_path r es ≡ o → first_path r es ≡ Some p
    go None h = absurd (first_path-none r es h p w.0)
    go (Some q) h =
        let f = first_comes_first r es q h in
        h ∙
        ⊎_elim (λ (e : q ≡ p). ap Some e)
        (λ (o : ComesBefore q p ⊎ ComesBefore p q). ⊎_elim (λ (b : ComesBefore q p). absurd (w.1 q f.0 b)) (λ (b : ComesBefore p q). absurd (f.1 p w.0 b)) o) (in_order q p)
