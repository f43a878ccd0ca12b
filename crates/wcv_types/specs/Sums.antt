-- What is known of the parts of a node, added up.
use Rattle.std.specs.Prelude.{ℕ, [], take, ◌≡◌, ◌≤◌}
use Rattle.wcv_core.specs.Names.{Name}
use Rattle.wcv_types.specs.Abi.{greatest_align, end_of, greatest_size, pointer, handle, borrow, any_contains, kept_size}
use Rattle.wcv_types.specs.Flat.{flat_cases}
use Rattle.wcv_types.specs.Measure.{sizes, depths}
use Rattle.wcv_types.specs.Named.{are_named}
use Rattle.wcv_types.specs.Open.{open_words, open_all, listed}
use Rattle.wcv_types.specs.Resources.{mentions_in}
use Rattle.wcv_types.specs.Tree.{Parts}
use Rattle.wcv_types.specs.Unfold.{capped}
use Rattle.wcv_types.specs.declared.facts.Facts.{Facts}
use Rattle.wcv_types.specs.declared.sum.Extent.{Extent}
use Rattle.wcv_types.specs.declared.sum.Sum.{Sum}

-- an alignment is no zero
pub record HasAlign (f : Facts) : Type 0 where
  pub narrow : 1 ≤ f.abi.align32
  pub wide : 1 ≤ f.abi.align64

-- where a pointer has p bytes
pub record IsExtentOf (p : ℕ) (e : Extent) (ps : Parts Name Name) : Type 0 where
  pub end : e.end ≡ kept_size (end_of p 0 ps)
  pub align : e.align ≡ greatest_align p ps
  pub greatest : e.greatest ≡ kept_size (greatest_size p ps)

pub record IsSumOf (s : Sum) (ps : Parts Name Name) : Type 0 where
  pub size : s.size ≡ capped (sizes ps)
  pub depth : s.depth ≡ capped (depths ps)
  pub plain : s.plain ≡ are_named [] ps
  pub refers : s.refers ≡ mentions_in ps
  pub contains_ptr : s.contains_ptr ≡ any_contains pointer ps
  pub contains_handle : s.contains_handle ≡ any_contains handle ps
  pub contains_borrow : s.contains_borrow ≡ any_contains borrow ps
  pub narrow : IsExtentOf 4 s.narrow ps
  pub wide : IsExtentOf 8 s.wide ps
  pub all : listed s.all ≡ take 17 (open_all ps)
  pub cases : listed s.cases ≡ take 17 (flat_cases open_words [] ps)

-- the greatest alignment of parts is no zero
pub record HasParts (s : Sum) : Type 0 where
  pub narrow : 1 ≤ s.narrow.align
  pub wide : 1 ≤ s.wide.align
