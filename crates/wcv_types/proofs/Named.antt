-- Whether types are named is the same under a renaming that has a way back.
use Rattle.std.proofs.Common.{◌≡◌, List, map, refl, ap, ◌∙◌, ◌&&◌, Some, None}
use Rattle.std.specs.Prelude.{Option}
use Rattle.std.specs.Option.{option_map}
use Rattle.wcv_core.specs.Names.{Name}
use Rattle.wcv_types.specs.Tree.{nothing, resource, defined, func, instance, type_entity, Tree, node, Parts, none, part}
use Rattle.wcv_types.specs.Identity.{Identity, of_node, of_reference, identity_at, same_identity, rename_identity}
use Rattle.wcv_types.specs.Rename.{rename, rename_parts, EachName, EachNameIn}
use Rattle.wcv_types.specs.Named.{is_in, named_by_itself, is_named, are_named, with_identity, with_created, passes, all_pass, created_passes}
use Rattle.wcv_types.proofs.Each.{Each, there_under}
use Rattle.wcv_types.proofs.Identity.{IdentityKept, KnownKept, same_kept, kept_identity, identity-same}

module _ (f back : Name → Name) (g g_back : Name → Name) where
  abbrev R : Name → Type 0
  R r = back (f r) ≡ r

  abbrev I : Name → Type 0
  I i = g_back (g i) ≡ i

  abbrev Kept : Identity → Type 0
  Kept i = IdentityKept f back g g_back i

  abbrev to : Identity → Identity
  to i = rename_identity f g i

  pub is_in-same : (ids : List Identity) (i : Identity) → Each (IdentityKept f back g g_back) ids → IdentityKept f back g g_back i → is_in (map (rename_identity f g) ids) (rename_identity f g i) ≡ is_in ids i
  is_in-same ids i k e = there_under same_identity Kept to (same_kept f back g g_back) i e ids k

  mutual
    pub is_named-same : (ids : List Identity) (t : Tree Name Name) → Each (IdentityKept f back g g_back) ids → EachName (λ r. back (f r) ≡ r) (λ i. g_back (g i) ≡ i) t →
        is_named (map (rename_identity f g) ids) (rename f g t) ≡ is_named ids t
    is_named-same ids (node (resource r s) ps) k e = is_in-same ids (of_reference r s) k e.0
    is_named-same ids (node (defined i x) ps) k e =
        let a : is_in (map to ids) (of_node (g i)) ≡ is_in ids (of_node i) = is_in-same ids (of_node i) k e.0 in
        let b : are_named (map to ids) (rename_parts f g ps) ≡ are_named ids ps = are_named-same ids ps k e.1 in
        λ j. named_by_itself x (a j) (b j)
    is_named-same ids (node nothing ps) k e = refl
    is_named-same ids (node h ps) k e = refl

    pub are_named-same : (ids : List Identity) (ps : Parts Name Name) → Each (IdentityKept f back g g_back) ids → EachNameIn (λ r. back (f r) ≡ r) (λ i. g_back (g i) ≡ i) ps →
        are_named (map (rename_identity f g) ids) (rename_parts f g ps) ≡ are_named ids ps
    are_named-same ids none k e = refl
    are_named-same ids (part l t ps) k e =
        let a : is_named (map to ids) (rename f g t) ≡ is_named ids t = is_named-same ids t k e.0 in
        let b : are_named (map to ids) (rename_parts f g ps) ≡ are_named ids ps = are_named-same ids ps k e.1 in
        λ j. a j && b j

  -- ## What a type entity creates

  with_identity-same : (ids : List Identity) (o : Option Identity) → with_identity (option_map to o) (map to ids) ≡ map to (with_identity o ids)
  with_identity-same ids None = refl
  with_identity-same ids (Some i) = refl

  with_identity-kept : (ids : List Identity) (o : Option Identity) → Each Kept ids → KnownKept f back g g_back o → Each Kept (with_identity o ids)
  with_identity-kept ids None k e = k
  with_identity-kept ids (Some i) k e = (e, k)

  pub with_created-same : (ids : List Identity) (t : Tree Name Name) → with_created (map (rename_identity f g) ids) (rename f g t) ≡ map (rename_identity f g) (with_created ids t)
  with_created-same ids (node type_entity (part l (node h qs) ps)) = ap (λ (o : Option Identity). with_identity o (map to ids)) (identity-same f g h) ∙ with_identity-same ids (identity_at h)
  with_created-same ids x = refl

  pub with_created-kept : (ids : List Identity) (t : Tree Name Name) → Each (IdentityKept f back g g_back) ids → EachName (λ r. back (f r) ≡ r) (λ i. g_back (g i) ≡ i) t →
      Each (IdentityKept f back g g_back) (with_created ids t)
  with_created-kept ids (node type_entity (part l (node h qs) ps)) k e = with_identity-kept ids (identity_at h) k (kept_identity f back g g_back h e.1.0.0)
  with_created-kept ids x k e = k

  -- ## Exports that pass

  mutual
    pub passes-same : (ids : List Identity) (t : Tree Name Name) → Each (IdentityKept f back g g_back) ids → EachName (λ r. back (f r) ≡ r) (λ i. g_back (g i) ≡ i) t →
        passes (map (rename_identity f g) ids) (rename f g t) ≡ passes ids t
    passes-same ids (node type_entity ps) k e = created_passes-same ids ps k e.1
    passes-same ids (node (func i b) ps) k e = are_named-same ids ps k e.1
    passes-same ids (node (defined i x) ps) k e = are_named-same ids ps k e.1
    passes-same ids (node (instance i own) ps) k e = all_pass-same ids ps k e.1
    passes-same ids (node h ps) k e = refl

    pub all_pass-same : (ids : List Identity) (ps : Parts Name Name) → Each (IdentityKept f back g g_back) ids → EachNameIn (λ r. back (f r) ≡ r) (λ i. g_back (g i) ≡ i) ps →
        all_pass (map (rename_identity f g) ids) (rename_parts f g ps) ≡ all_pass ids ps
    all_pass-same ids none k e = refl
    all_pass-same ids (part l t ps) k e =
        let a : passes (map to ids) (rename f g t) ≡ passes ids t = passes-same ids t k e.0 in
        let b : all_pass (with_created (map to ids) (rename f g t)) (rename_parts f g ps) ≡ all_pass (with_created ids t) ps =
        ap (λ (xs : List Identity). all_pass xs (rename_parts f g ps)) (with_created-same ids t) ∙ all_pass-same (with_created ids t) ps (with_created-kept ids t k e.0) e.1 in
        λ j. a j && b j

    pub created_passes-same : (ids : List Identity) (ps : Parts Name Name) → Each (IdentityKept f back g g_back) ids → EachNameIn (λ r. back (f r) ≡ r) (λ i. g_back (g i) ≡ i) ps →
        created_passes (map (rename_identity f g) ids) (rename_parts f g ps) ≡ created_passes ids ps
    created_passes-same ids none k e = refl
    created_passes-same ids (part l t ps) k e = passes-same ids t k e.0
