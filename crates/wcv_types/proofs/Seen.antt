-- What is seen looks at no identity.
use Rattle.std.proofs.Common.{◌≡◌, ℕ, List, map, Bool, cond, ◌||◌, refl, ap, ◌∙◌}
use Rattle.wcv_core.specs.Names.{Name, member}
use Rattle.wcv_types.specs.Tree.{Head, nothing, primitive, resource, defined, func, instance, component, type_entity, core_module, core_instance, core_type, core_item, Tree, node, Parts, none, part, firsts}
use Rattle.wcv_types.specs.Rename.{rename_paths, without_identities}
use Rattle.wcv_types.specs.Resources.{owns}
use Rattle.wcv_types.specs.Seen.{Within, inner, under, seen_head, seen, seen_parts}
use Rattle.wcv_types.proofs.Lists.{map-id}
use Rattle.wcv_types.proofs.Replacing.{aside, aside_head}

paths-id : (ps : List (Name × List ℕ)) → rename_paths (λ r. r) ps ≡ ps
paths-id ps = map-id ps

module _ {I : Type 0} where
  owns-aside : (h : Head Name I) → owns (aside_head h) ≡ owns h
  owns-aside (instance i own) = ap (λ (rs : List Name). λ r. member r rs) (map-id own)
  owns-aside (component i ins outs) =
      let e : rename_paths (λ r. r) ins ≡ ins = paths-id ins in
      let e' : rename_paths (λ r. r) outs ≡ outs = paths-id outs in
      λ j. λ r. member r (firsts (e j)) || member r (firsts (e' j))
  owns-aside nothing = refl
  owns-aside x = refl

module _ {I A : Type 0} where
  head-aside : (f : Name → Within A) (h : Head Name I) → seen_head f (aside_head h) ≡ seen_head f h
  head-aside f nothing = refl
  head-aside f (primitive p) = refl
  head-aside f (resource q s) = refl
  head-aside f (defined i k) = refl
  head-aside f (func i b) = refl
  head-aside f (instance i own) = ap (λ (rs : List Name). instance tt (map (λ r. inner r) rs)) (map-id own)
  head-aside f (component i ins outs) =
      let e : rename_paths (λ r. r) ins ≡ ins = paths-id ins in
      let e' : rename_paths (λ r. r) outs ≡ outs = paths-id outs in
      λ j. component tt (rename_paths (λ r. inner r) (e j)) (rename_paths (λ r. inner r) (e' j))
  head-aside f type_entity = refl
  head-aside f (core_module i n) = refl
  head-aside f (core_instance i n) = refl
  head-aside f (core_type k) = refl
  head-aside f (core_item x) = refl

  mutual
    pub seen-aside : (f : Name → Within A) (t : Tree Name I) → seen f (without_identities t) ≡ seen f t
    seen-aside f (node h ps) =
        let e : seen_head f (aside_head h) ≡ seen_head f h = head-aside f h in
        let o : owns (aside_head h) ≡ owns h = owns-aside h in
        let e' : seen_parts (under (aside_head h) f) (aside ps) ≡ seen_parts (under h f) ps =
        ap (λ (w : Name → Bool). seen_parts (λ r. cond (w r) (inner r) (f r)) (aside ps)) o ∙ seen_parts-aside (under h f) ps in
        λ j. node (e j) (e' j)

    pub seen_parts-aside : (f : Name → Within A) (ps : Parts Name I) → seen_parts f (aside ps) ≡ seen_parts f ps
    seen_parts-aside f none = refl
    seen_parts-aside f (part k t ps) =
        let e : seen f (without_identities t) ≡ seen f t = seen-aside f t in
        let e' : seen_parts f (aside ps) ≡ seen_parts f ps = seen_parts-aside f ps in
        λ j. part k (e j) (e' j)
