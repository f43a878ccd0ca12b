-- What was reached by some names is reached by others that are the same at earlier places, and by renamed ones.
use Rattle.std.proofs.Common.{◌≡◌, ℕ, suc, sym, ◌∙◌, ap, subst, arith}
use Rattle.std.specs.Option.{option_map}
use Rattle.wcv_core.specs.Names.{Place, deeper}
use Rattle.wcv_core.specs.declared.features.WasmFeatures.{WasmFeatures}
use Rattle.wcv_core.proofs.Places.{under-deeper, one-item}
use Rattle.wcv_syntax.specs.Model.{component_item}
use Rattle.wcv_lower.specs.Checks.{IsFree}
use Rattle.wcv_lower.specs.Mapped.{map_stack}
use Rattle.wcv_lower.specs.Names.{Names, Under, AreRenamed, SameNames}
use Rattle.wcv_lower.specs.Renamed.{Renaming, renaming}
use Rattle.wcv_lower.specs.Trees.{Tree_stack}
use Rattle.wcv_lower.proofs.ItemLaws.{read_item-agrees, read_item-renamed, item_causes-renamed}
use Rattle.wcv_growth.specs.Reached.{Reached, at_start, behind, within, Earlier}
use Rattle.wcv_growth.proofs.ValidRead.{weaker, valid_item-agrees, valid_item-renamed}

-- ## Places

module _ (w : Place) (k : ℕ) (p : Place) where
  -- no place is in an item and earlier
  pub not_earlier : Earlier w k p → Under (deeper w k) p → ⊥
  not_earlier h u = h k (omega arith) u

  -- what is earlier stays so behind the item, and so does what is in it
  pub earlier_still : Earlier w k p → Earlier w (suc k) p
  earlier_still h j l u = h j (omega (arith, l)) u

  pub earlier_then : Under (deeper w k) p → Earlier w (suc k) p
  earlier_then u j l v =
      let e : k ≡ j = one-item w k j p u v in
      omega (arith, e, l)

  -- and before the items inside the item
  pub earlier_inside : Earlier w k p → Earlier (deeper w k) 0 p
  earlier_inside h j l u = h k (omega arith) (under-deeper (deeper w k) j p u)

-- ## Other names

module _ (fs : WasmFeatures) (names other : Names) where
  -- names that are the same earlier are as good
  pub reached-agrees : (w : Place) (k : ℕ) (s : Tree_stack) → SameNames (Earlier w k) names other → Reached fs names w k s → Reached fs other w k s
  reached-agrees _ _ _ h at_start = at_start
  reached-agrees _ _ _ h (behind w k s u f r v e) =
      let here : SameNames (Under (deeper w k)) names other = weaker fs names other (Earlier w (suc k)) (Under (deeper w k)) (earlier_then w k) h in
      behind w k s u f (reached-agrees w k s (weaker fs names other (Earlier w (suc k)) (Earlier w k) (earlier_still w k) h) r) (valid_item-agrees fs names other (deeper w k) s f here v) (read_item-agrees names other (deeper w k) here fs s f ∙ e)
  reached-agrees _ _ _ h (within w k s is r v) = within w k s is (reached-agrees w k s (weaker fs names other (Earlier (deeper w k) 0) (Earlier w k) (earlier_inside w k) h) r) v

  -- and so are renamed ones
  module _ (v : Renaming) (renamed : (p : Place) → AreRenamed (Under p) v.resources.to v.identities.to names other) where
    pub reached-renamed : (w : Place) (k : ℕ) (s : Tree_stack) → Reached fs names w k s → Reached fs other w k (map_stack (renaming v) s)
    reached-renamed _ _ _ at_start = at_start
    reached-renamed _ _ _ (behind w k s u f r x e) =
        behind w k (map_stack (renaming v) s) (map_stack (renaming v) u) f (reached-renamed w k s r) (valid_item-renamed v fs names other renamed (deeper w k) s f x)
        (read_item-renamed v names other (deeper w k) (renamed (deeper w k)) fs s f ∙ ap (option_map (map_stack (renaming v))) e)
    reached-renamed _ _ _ (within w k s is r x) =
        within w k (map_stack (renaming v) s) is (reached-renamed w k s r) (subst IsFree (sym (item_causes-renamed v names other (deeper w k) (renamed (deeper w k)) fs s (component_item is 0))) x)
