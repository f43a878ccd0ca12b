-- What is seen of a renamed tree, where the renaming has a way back: trees look alike before it and after it.
use Rattle.std.proofs.Common.{◌≡◌, ℕ, List, Bool, true, false, cond, refl, ap, sym, ◌∙◌}
use Rattle.std.proofs.lemmas.Bool.Decides.{same_from_decides}
use Rattle.wcv_core.specs.Names.{Name}
use Rattle.wcv_types.specs.Alike.{Alike}
use Rattle.wcv_types.specs.Rename.{rename_paths, rename_head, rename, rename_parts}
use Rattle.wcv_types.specs.Resources.{owns}
use Rattle.wcv_types.specs.Seen.{Within, outer, inner, under, seen_defined, seen_head, seen, seen_parts}
use Rattle.wcv_types.specs.Tree.{Former, named, Head, nothing, primitive, resource, defined, func, instance, component, type_entity, core_module, core_instance, core_type, core_item, Tree, node, Parts, none, part}
use Rattle.wcv_types.specs.Unfold.{Type_tree}
use Rattle.wcv_types.proofs.Commute.{owns-renamed}
use Rattle.wcv_types.proofs.Lists.{map-map}
use Rattle.wcv_types.proofs.Renaming.{each-always, rename-id, rename-twice}
use Rattle.wcv_types.specs.SameSeen.{alike}
use Rattle.wcv_types.proofs.SameSeen.{alike-decides}

-- resources renamed, whether they are seen from outside or inside their owner
abbrev within : (Name → Name) → Within Name → Within Name
within f (outer r) = outer (f r)
within f (inner r) = inner (f r)

defined-seen : (f : Name → Name) (k : Former) → seen_defined k ≡ rename_head (within f) (λ i. i) (seen_defined k)
defined-seen f (named p) = refl
defined-seen f _ = refl

paths-seen : (f : Name → Name) (ps : List (Name × List ℕ)) → rename_paths inner (rename_paths f ps) ≡ rename_paths (within f) (rename_paths inner ps)
paths-seen f ps =
    map-map (λ (p : Name × List ℕ). (inner p.0, p.1)) (λ (p : Name × List ℕ). (f p.0, p.1)) ps ∙
    sym (map-map (λ (p : Within Name × List ℕ). (within f p.0, p.1)) (λ (p : Name × List ℕ). (inner p.0, p.1)) ps)

module _ (f back : Name → Name) (g : Name → Name) (is_back : (r : Name) → back (f r) ≡ r) where
  -- ## What is seen

  -- v reads the renamed resources as u reads them before
  abbrev Reads : (u v : Name → Within Name) → Type 0
  Reads u v = (r : Name) → v (f r) ≡ within f (u r)

  head-seen : (u v : Name → Within Name) → Reads u v → (h : Head Name Name) → seen_head v (rename_head f g h) ≡ rename_head (within f) (λ i. i) (seen_head u h)
  head-seen u v p nothing = refl
  head-seen u v p (primitive q) = refl
  head-seen u v p (resource r s) = ap (λ (a : Within Name). resource a tt) (p r)
  head-seen u v p (defined i k) = defined-seen f k
  head-seen u v p (func i b) = refl
  head-seen u v p (instance i own) = ap (λ (rs : List (Within Name)). instance tt rs) (map-map (λ (r : Name). inner r) f own ∙ sym (map-map (within f) (λ (r : Name). inner r) own))
  head-seen u v p (component i ins outs) =
      let e : rename_paths inner (rename_paths f ins) ≡ rename_paths (within f) (rename_paths inner ins) = paths-seen f ins in
      let e' : rename_paths inner (rename_paths f outs) ≡ rename_paths (within f) (rename_paths inner outs) = paths-seen f outs in
      λ j. component tt (e j) (e' j)
  head-seen u v p type_entity = refl
  head-seen u v p (core_module i n) = refl
  head-seen u v p (core_instance i n) = refl
  head-seen u v p (core_type k) = refl
  head-seen u v p (core_item e) = refl

  owns-same : (h : Head Name Name) (r : Name) → owns (rename_head f g h) (f r) ≡ owns h r
  owns-same h r = owns-renamed f back g (λ i. Unit {0}) h r (each-always (λ (q : Name). back (f q) ≡ q) (λ (i : Name). Unit {0}) is_back (λ i. tt) (node h none)).0 (is_back r)

  under-seen : (u v : Name → Within Name) → Reads u v → (h : Head Name Name) → Reads (under h u) (under (rename_head f g h) v)
  under-seen u v p h r = ap (λ (b : Bool). cond b (inner (f r)) (v (f r))) (owns-same h r) ∙ go (owns h r)
    where
      go : (b : Bool) → cond b (inner (f r)) (v (f r)) ≡ within f (cond b (inner r) (u r))
      go true = refl
      go false = p r

  mutual
    tree-seen : (u v : Name → Within Name) → Reads u v → (t : Type_tree) → seen v (rename f g t) ≡ rename (within f) (λ i. i) (seen u t)
    tree-seen u v p (node h ps) =
        let e : seen_head v (rename_head f g h) ≡ rename_head (within f) (λ i. i) (seen_head u h) = head-seen u v p h in
        let e' : seen_parts (under (rename_head f g h) v) (rename_parts f g ps) ≡ rename_parts (within f) (λ i. i) (seen_parts (under h u) ps) =
        parts-seen (under h u) (under (rename_head f g h) v) (under-seen u v p h) ps in
        λ j. node (e j) (e' j)

    parts-seen : (u v : Name → Within Name) → Reads u v → (ps : Parts Name Name) → seen_parts v (rename_parts f g ps) ≡ rename_parts (within f) (λ i. i) (seen_parts u ps)
    parts-seen u v p none = refl
    parts-seen u v p (part k t ps) =
        let e : seen v (rename f g t) ≡ rename (within f) (λ i. i) (seen u t) = tree-seen u v p t in
        let e' : seen_parts v (rename_parts f g ps) ≡ rename_parts (within f) (λ i. i) (seen_parts u ps) = parts-seen u v p ps in
        λ j. part k (e j) (e' j)

  -- a renamed tree is seen as the tree, renamed
  seen-renamed : (t : Type_tree) → seen outer (rename f g t) ≡ rename (within f) (λ i. i) (seen outer t)
  seen-renamed t = tree-seen (λ r. outer r) (λ r. outer r) (λ r. refl) t

  -- ## What looks alike

  within-back : (r : Within Name) → within back (within f r) ≡ r
  within-back (outer r) = ap (λ (q : Name). outer q) (is_back r)
  within-back (inner r) = ap (λ (q : Name). inner q) (is_back r)

  back-seen : (t : Tree (Within Name) (Unit {0})) → rename (within back) (λ i. i) (rename (within f) (λ i. i) t) ≡ t
  back-seen t =
      let e : (λ (r : Within Name). within back (within f r)) ≡ (λ (r : Within Name). r) = λ j. λ r. within-back r j in
      rename-twice (within f) (within back) (λ (i : Unit {0}). i) (λ (i : Unit {0}). i) t ∙ ap (λ (m : Within Name → Within Name). rename m (λ (i : Unit {0}). i) t) e ∙ rename-id t

  kept : (s t : Type_tree) → Alike s t → Alike (rename f g s) (rename f g t)
  kept s t e = seen-renamed s ∙ ap (rename (within f) (λ (i : Unit {0}). i)) e ∙ sym (seen-renamed t)

  kept_back : (s t : Type_tree) → Alike (rename f g s) (rename f g t) → Alike s t
  kept_back s t e =
      let e' : rename (within f) (λ (i : Unit {0}). i) (seen outer s) ≡ rename (within f) (λ (i : Unit {0}). i) (seen outer t) = sym (seen-renamed s) ∙ e ∙ seen-renamed t in
      sym (back-seen (seen outer s)) ∙ ap (rename (within back) (λ (i : Unit {0}). i)) e' ∙ back-seen (seen outer t)

  pub alike-renamed : (s t : Type_tree) → alike (rename f g s) (rename f g t) ≡ alike s t
  alike-renamed s t =
      let d = alike-decides (rename f g s) (rename f g t) in
      same_from_decides (alike (rename f g s) (rename f g t)) (alike s t) (λ h. kept_back s t (d.0 h), λ e. d.1 (kept s t e)) (alike-decides s t)
