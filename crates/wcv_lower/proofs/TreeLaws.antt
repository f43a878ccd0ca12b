-- The root of a renamed tree, and identities with a way back.
use Rattle.std.proofs.Common.{◌≡◌, List, [], ◌∷◌, refl}
use Rattle.wcv_core.specs.Names.{Name}
use Rattle.wcv_types.specs.Identity.{Identity, of_node, of_reference}
use Rattle.wcv_types.specs.Rename.{rename, rename_head}
use Rattle.wcv_types.specs.Tree.{Head, nothing, node, none, part, sort_at, sort, created, referenced}
use Rattle.wcv_types.specs.Unfold.{Type_tree}
use Rattle.wcv_types.proofs.Each.{Each}
use Rattle.wcv_types.proofs.Identity.{IdentityKept}
use Rattle.wcv_lower.specs.Renamed.{Renaming}

module _ (f g : Name → Name) where
  sort_at-renamed : (h : Head Name Name) → sort_at (rename_head f g h) ≡ sort_at h
  sort_at-renamed nothing = refl
  sort_at-renamed x = refl

  pub sort-renamed : (t : Type_tree) → sort (rename f g t) ≡ sort t
  sort-renamed (node h ps) = sort_at-renamed h

  pub created-renamed : (t : Type_tree) → created (rename f g t) ≡ rename f g (created t)
  created-renamed (node h none) = refl
  created-renamed (node h (part r t ps)) = refl

  pub referenced-renamed : (t : Type_tree) → referenced (rename f g t) ≡ rename f g (referenced t)
  referenced-renamed (node h none) = refl
  referenced-renamed (node h (part r t none)) = refl
  referenced-renamed (node h (part r t (part s u ps))) = refl

module _ (w : Renaming) where
  pub kept : (i : Identity) → IdentityKept w.resources.to w.resources.back w.identities.to w.identities.back i
  kept (of_node x) = w.identities.is_back x
  kept (of_reference r s) = (w.resources.is_back r, w.identities.is_back s)

  pub all_kept : (is : List Identity) → Each (IdentityKept w.resources.to w.resources.back w.identities.to w.identities.back) is
  all_kept [] = tt
  all_kept (i ∷ is) = (kept i, all_kept is)
