-- What holds of a stack that valid items lead to, where names are those of places.
use Rattle.std.proofs.Common.{None, [], ap, refl, subst, zero, suc, true, ℕ, ◌∙◌, ◌≡◌, inl}
use Rattle.wcv_core.specs.Names.{Place, deeper}
use Rattle.wcv_core.specs.declared.features.WasmFeatures.{WasmFeatures}
use Rattle.wcv_types.proofs.Lists.{some-inj}
use Rattle.wcv_lower.specs.Context.{concrete, is_concrete}
use Rattle.wcv_lower.specs.Mapped.{map_stack}
use Rattle.wcv_lower.specs.Names.{names_by_place}
use Rattle.wcv_lower.specs.Owned.{AllEntries}
use Rattle.wcv_lower.specs.Renamed.{Renaming, renaming}
use Rattle.wcv_lower.specs.Trees.{Tree_stack, tree_maker}
use Rattle.wcv_lower.specs.SideNames.{SidesDiffer, AllSidesDiffer}
use Rattle.wcv_lower.proofs.SidesKept.{no_names, item_differ}
use Rattle.wcv_growth.proofs.Charged.{everywhere-both}
use Rattle.wcv_growth.proofs.Items.{side_of}
use Rattle.wcv_growth.proofs.MayMake.{Owns}
use Rattle.wcv_growth.proofs.Settled.{Settles, alone-settles, inside-settles, settles-more, settles-ready, own-within}
use Rattle.wcv_growth.proofs.Tidy.{Known, NoneKnown, Tidy, TidyEntry, first-tidy, empty-tidy, tidy-ready, tidy-next}
use Rattle.wcv_growth.proofs.TidyBack.{context_tidy-renamed_back, known_back, owns-renamed_back}
use Rattle.wcv_growth.proofs.TidyInside.{Behind, begins-tidy, item-behind}
use Rattle.wcv_growth.specs.Reached.{Reached, at_start, behind, within}
use Rattle.wcv_growth.specs.Valid.{start}

-- ## The beginning

pub start-settles : (w : Place) → Settles w 0 start
start-settles w = alone-settles w concrete []

pub start-tidy : (w : Place) (g : Known) → Tidy w 0 g start
start-tidy w g = first-tidy w g start (everywhere-both (TidyEntry g) start (empty-tidy g concrete) (λ j c e. cc)) (λ j c e. differ j c e)
  where
    differ : AllSidesDiffer start
    differ zero c e = subst SidesDiffer (some-inj e) (λ d. no_names)
    differ (suc j) c e = cc

-- ## Further on

-- the stack stands in a component at the position of the list, and nothing that is given in the list was known before
pub record Reaches (w : Place) (k : ℕ) (s : Tree_stack) : Type 0 where
  pub known : Known
  pub unknown : NoneKnown w known
  pub settles : Settles w k s
  pub tidy : Tidy w k known s
  pub in_component : is_concrete s.top.kind ≡ true

module _ (fs : WasmFeatures) where
  pub reached-reaches : (w : Place) (k : ℕ) (s : Tree_stack) → Reached fs names_by_place w k s → Reaches w k s
  reached-reaches _ _ _ at_start = record { known = λ i. None; unknown = λ i u. refl; settles = start-settles []; tidy = start-tidy [] (λ i. None); in_component = refl }
  reached-reaches _ _ _ (behind w k s u f r v e) =
      let h : Reaches w k s = reached-reaches w k s r in
      let y : Tidy w k h.known s = h.tidy in
      let x : Behind (side_of f) (deeper w k) y.known s u = item-behind fs (deeper w k) y.known s u f h.in_component v e (tidy-ready w k h.known s h.unknown y) (settles-ready w k s h.settles) y.tidy y.differ in
      record {
        known = h.known;
        unknown = h.unknown;
        settles = settles-more w k s u h.settles (side_of f) x.0;
        tidy = tidy-next w k h.known s u y x.1 (item_differ fs (tree_maker names_by_place) (deeper w k) s u f y.differ e);
        in_component = ap is_concrete x.0.kind ∙ h.in_component;
      }
  reached-reaches _ _ _ (within w k s is r free) =
      let h : Reaches w k s = reached-reaches w k s r in
      let y : Tidy w k h.known s = h.tidy in
      record {
        known = y.known;
        unknown = tidy-ready w k h.known s h.unknown y;
        settles = inside-settles (deeper w k) concrete s (λ j. h.in_component) (settles-ready w k s h.settles);
        tidy = begins-tidy (deeper w k) concrete y.known s y.tidy y.differ;
        in_component = refl;
      }

  -- so before the names were renamed, in the innermost context
  pub reached-tidy : (v : Renaming) (w : Place) (k : ℕ) (s : Tree_stack) → Reached fs names_by_place w k (map_stack (renaming v) s) → Owns s.top × ((g : Known) × AllEntries (TidyEntry g) s.top)
  reached-tidy v w k s r =
      let t : Tree_stack = map_stack (renaming v) s in
      let h : Reaches w k t = reached-reaches w k t r in (
        owns-renamed_back v s.top (own-within w k t h.settles h.in_component) (h.settles.apart zero t.top refl) (λ q x. h.settles.spared q (inl x) zero t.top refl),
        (known_back v h.tidy.known, context_tidy-renamed_back v s.top h.tidy.known (h.tidy.tidy zero t.top refl)),
      )
