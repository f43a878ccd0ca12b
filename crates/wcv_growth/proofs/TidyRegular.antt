-- Tidy entries are regular: names differ in each node, nodes are formed, and those of one identity are of one height.
use Rattle.std.proofs.Common.{ℕ, ap}
use Rattle.wcv_types.specs.Identity.{Identity}
use Rattle.wcv_types.specs.Unfold.{Type_tree}
use Rattle.wcv_matching.specs.Orderly.{AreNamedApart, height}
use Rattle.wcv_lower.specs.Even.{HasHeight, IsRegular}
use Rattle.wcv_lower.specs.Owned.{AllEntries, AreRegular}
use Rattle.wcv_lower.specs.Trees.{Tree_context}
use Rattle.wcv_lower.proofs.EvenTypes.{each_weaker}
use Rattle.wcv_growth.proofs.Alike.{stands}
use Rattle.wcv_growth.proofs.Known.{entries-weaker}
use Rattle.wcv_growth.proofs.Tidy.{Known, IsTidy, TidyType, TidyEntry}
use Rattle.wcv_growth.proofs.TidyReplaced.{stands_for, is-one}

module _ (g : Known) where
  -- the height of what an identity stands for
  abbrev pub known_height : Identity → ℕ
  known_height i = height (stands (stands_for g) i)

  pub type-regular : (t : Type_tree) → TidyType g t → IsRegular known_height t
  type-regular t w = (
    each_weaker (IsTidy g) (λ h ps. AreNamedApart ps) (λ h ps x. x.named) t w,
    each_weaker (IsTidy g) (HasHeight known_height) (λ h ps x. (x.formed, λ i e. ap height (is-one g h ps x i e))) t w,
  )

  pub tidy-regular : (c : Tree_context) → AllEntries (TidyEntry g) c → AreRegular c
  tidy-regular c h = (known_height, entries-weaker (TidyEntry g) (IsRegular known_height) c (λ t w. type-regular t w.1) h)
