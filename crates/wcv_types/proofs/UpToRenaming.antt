-- Equality up to renaming is an equivalence.
use Rattle.std.proofs.Common.{◌≡◌, refl, ap, sym, ◌∙◌, subst}
use Rattle.wcv_types.specs.Tree.{Tree}
use Rattle.wcv_types.specs.Rename.{rename, EachName, UpToRenaming}
use Rattle.wcv_types.proofs.Renaming.{rename-id, rename-twice, rename-agree, each-renamed, each-renamed_back, each-both, each-always}

module _ {R S I J : Type 0} (s : Tree R I) (t : Tree S J) (u : UpToRenaming s t) where
  pub back_again : rename u.resource_back u.identity_back t ≡ s
  back_again =
      ap (rename u.resource_back u.identity_back) (sym u.renamed) ∙ rename-twice u.resource_to u.resource_back u.identity_to u.identity_back s ∙
      rename-agree (λ r. u.resource_back (u.resource_to r)) (λ r. r) (λ i. u.identity_back (u.identity_to i)) (λ i. i) s u.one_to_one ∙ rename-id s

  pub up_to_renaming-sym : UpToRenaming t s
  up_to_renaming-sym = record {
    resource_to = u.resource_back;
    resource_back = u.resource_to;
    identity_to = u.identity_back;
    identity_back = u.identity_to;
    renamed = back_again;
    one_to_one = subst (λ (x : Tree S J). EachName (λ r. u.resource_to (u.resource_back r) ≡ r) (λ i. u.identity_to (u.identity_back i) ≡ i) x) u.renamed
        (each-renamed (λ r. u.resource_back (u.resource_to r) ≡ r) (λ i. u.identity_back (u.identity_to i) ≡ i) (λ r. u.resource_to (u.resource_back r) ≡ r) (λ i. u.identity_to (u.identity_back i) ≡ i)
        u.resource_to u.identity_to (λ r e. ap u.resource_to e) (λ i e. ap u.identity_to e) s u.one_to_one);
  }

pub up_to_renaming-refl : {R I : Type 0} (t : Tree R I) → UpToRenaming t t
up_to_renaming-refl t = record {
  resource_to = λ r. r;
  resource_back = λ r. r;
  identity_to = λ i. i;
  identity_back = λ i. i;
  renamed = rename-id t;
  one_to_one = each-always (λ r. r ≡ r) (λ i. i ≡ i) (λ r. refl) (λ i. refl) t;
}

pub up_to_renaming-trans : {R S T I J K : Type 0} (s : Tree R I) (t : Tree S J) (w : Tree T K) → UpToRenaming s t → UpToRenaming t w → UpToRenaming s w
up_to_renaming-trans {S} {J} s t w u v =
    let second : EachName (λ r. v.resource_back (v.resource_to (u.resource_to r)) ≡ u.resource_to r) (λ i. v.identity_back (v.identity_to (u.identity_to i)) ≡ u.identity_to i) s =
    each-renamed_back (λ r. v.resource_back (v.resource_to (u.resource_to r)) ≡ u.resource_to r) (λ i. v.identity_back (v.identity_to (u.identity_to i)) ≡ u.identity_to i)
    (λ r. v.resource_back (v.resource_to r) ≡ r) (λ i. v.identity_back (v.identity_to i) ≡ i) u.resource_to u.identity_to (λ r e. e) (λ i e. e) s
    (subst (λ (x : Tree S J). EachName (λ r. v.resource_back (v.resource_to r) ≡ r) (λ i. v.identity_back (v.identity_to i) ≡ i) x) (sym u.renamed) v.one_to_one) in
    record {
      resource_to = λ r. v.resource_to (u.resource_to r);
      resource_back = λ r. u.resource_back (v.resource_back r);
      identity_to = λ i. v.identity_to (u.identity_to i);
      identity_back = λ i. u.identity_back (v.identity_back i);
      renamed = sym (rename-twice u.resource_to v.resource_to u.identity_to v.identity_to s) ∙ ap (rename v.resource_to v.identity_to) u.renamed ∙ v.renamed;
      one_to_one = each-both (λ r. v.resource_back (v.resource_to (u.resource_to r)) ≡ u.resource_to r) (λ r. u.resource_back (u.resource_to r) ≡ r)
          (λ r. u.resource_back (v.resource_back (v.resource_to (u.resource_to r))) ≡ r) (λ i. v.identity_back (v.identity_to (u.identity_to i)) ≡ u.identity_to i) (λ i. u.identity_back (u.identity_to i) ≡ i)
          (λ i. u.identity_back (v.identity_back (v.identity_to (u.identity_to i))) ≡ i) (λ r e e'. ap u.resource_back e ∙ e') (λ i e e'. ap u.identity_back e ∙ e') s second u.one_to_one;
    }
