-- References to resources match where the entities that create them and refer to them do.
use Rattle.std.proofs.Common.{◌≡◌, ◌⊎◌, inl, inr, ℕ, zero, suc, refl, sym}
use Rattle.wcv_types.specs.Tree.{type_of}
use Rattle.wcv_types.specs.Unfold.{Type_tree, reference}
use Rattle.wcv_types.specs.declared.ids.AliasableResourceId.{AliasableResourceId}
use Rattle.wcv_core.specs.declared.error.Error.{Error}
use Rattle.wcv_matching.specs.Matching.{Item_rule, Matches}
use Rattle.wcv_matching.specs.Refusals.{MemoryOrMismatch}

abbrev pub entity : AliasableResourceId → Type_tree
entity r = type_of (reference r) (reference r)

module _ (C : Item_rule) (a b : AliasableResourceId) where
  pub entity_from : Matches C (entity a) (entity b) → Matches C (reference a) (reference b)
  entity_from (zero, m) = absurd m
  entity_from (suc d, m) = (d, m.1.0)

  entity_to : Matches C (reference a) (reference b) → Matches C (entity a) (entity b)
  entity_to (zero, m) = absurd m
  entity_to (suc d, m) = (suc (suc d), (refl, (m, (sym m.0, sym m.1), λ r. refl)))

  pub unlike : {M : Type 0} (offset : ℕ) (e : Error M) → MemoryOrMismatch offset (Matches C (entity a) (entity b)) e → MemoryOrMismatch offset (Matches C (reference a) (reference b)) e
  unlike offset e (inl k) = inl k
  unlike offset e (inr k) = inr (record { is = k.is; at = k.at; fails = λ m. k.fails (entity_to m) })
