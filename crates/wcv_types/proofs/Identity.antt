-- Identities under a renaming that has a way back.
use Rattle.std.proofs.Common.{◌≡◌, refl, sym, ◌∙◌, ap, Bool, true, false, Some, None, ◌&&◌}
use Rattle.std.specs.Prelude.{Option}
use Rattle.std.specs.Option.{option_map}
use Rattle.wcv_core.specs.Names.{Name, same}
use Rattle.wcv_core.proofs.Names.{same-true, same-refl}
use Rattle.wcv_types.specs.Tree.{Head, nothing, primitive, resource, defined, func, instance, component, type_entity, core_module, core_instance, core_type, core_item}
use Rattle.wcv_types.specs.Rename.{rename_head, HeadNames}
use Rattle.wcv_types.specs.Identity.{Identity, of_node, of_reference, identity_at, same_identity, rename_identity}

-- the test is the same for names that have a way back
pub same_under : (h back : Name → Name) (a b : Name) → back (h a) ≡ a → back (h b) ≡ b → same (h a) (h b) ≡ same a b
same_under h back a b p q = go (same a b) refl
  where
    apart : (c : Bool) → same a b ≡ false → same (h a) (h b) ≡ c → c ≡ false
    apart false e e' = refl
    apart true e e' =
        let x : h a ≡ h b = same-true (h a) (h b) e' in
        let y : a ≡ b = sym p ∙ ap back x ∙ q in
        let z : same a b ≡ true = ap (λ (c : Name). same a c) (sym y) ∙ same-refl a in
        cc

    go : (c : Bool) → same a b ≡ c → same (h a) (h b) ≡ same a b
    go true e =
        let y : a ≡ b = same-true a b e in
        ap (λ (c : Name). same (h a) (h c)) (sym y) ∙ same-refl (h a) ∙ sym e
    go false e = apart (same (h a) (h b)) e refl ∙ sym e

module _ (f back : Name → Name) (g g_back : Name → Name) where
  -- the way back leads from the identity's names to themselves
  abbrev pub IdentityKept : Identity → Type 0
  IdentityKept (of_node i) = g_back (g i) ≡ i
  IdentityKept (of_reference r s) = (back (f r) ≡ r) × (g_back (g s) ≡ s)

  abbrev pub KnownKept : Option Identity → Type 0
  KnownKept None = Unit {0}
  KnownKept (Some i) = IdentityKept i

  pub same_kept : (a b : Identity) → IdentityKept a → IdentityKept b → same_identity (rename_identity f g a) (rename_identity f g b) ≡ same_identity a b
  same_kept (of_node i) (of_node j) p q = same_under g g_back i j p q
  same_kept (of_reference r s) (of_reference r' s') p q =
      ap (λ (b : Bool). b && same (g s) (g s')) (same_under f back r r' p.0 q.0) ∙ ap (λ (b : Bool). same r r' && b) (same_under g g_back s s' p.1 q.1)
  same_kept (of_node i) (of_reference r s) p q = refl
  same_kept (of_reference r s) (of_node i) p q = refl

  pub kept_identity : (h : Head Name Name) → HeadNames (λ r. back (f r) ≡ r) (λ i. g_back (g i) ≡ i) h → KnownKept (identity_at h)
  kept_identity nothing e = tt
  kept_identity (primitive p) e = tt
  kept_identity (resource r s) e = e
  kept_identity (defined i x) e = e
  kept_identity (func i b) e = e
  kept_identity (instance i own) e = e.0
  kept_identity (component i ins outs) e = e.0
  kept_identity type_entity e = tt
  kept_identity (core_module i n) e = e
  kept_identity (core_instance i n) e = e
  kept_identity (core_type i) e = tt
  kept_identity (core_item x) e = tt

pub identity-same : (f g : Name → Name) (h : Head Name Name) → identity_at (rename_head f g h) ≡ option_map (rename_identity f g) (identity_at h)
identity-same f g nothing = refl
identity-same f g x = refl
