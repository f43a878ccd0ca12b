-- Where a replacement brings nothing in, and replaces nothing, that is owned inside.
use Rattle.std.specs.Prelude.{None, true, false, ◌≡◌}
use Rattle.wcv_core.specs.Names.{Name}
use Rattle.wcv_types.specs.Tree.{Tree, node, Parts, none, part}
use Rattle.wcv_types.specs.Resources.{owns, Free}
use Rattle.wcv_types.specs.Replacing.{Replacement, given_at, moved}

-- no node that mentions r free is given
abbrev mutual
  pub Apart : Replacement → Name → Tree Name Name → Type 0
  Apart m r (node h ps) = (Free r (node h ps) → given_at m h ≡ None) × ApartIn m r ps

  pub ApartIn : Replacement → Name → Parts Name Name → Type 0
  ApartIn m r none = Unit {0}
  ApartIn m r (part k t ps) = Apart m r t × ApartIn m r ps

-- no resource that a node inside owns goes elsewhere, nor is a node given that mentions it
abbrev mutual
  pub Hygienic : Replacement → Tree Name Name → Type 0
  Hygienic m (node h ps) = ((r : Name) → owns h r ≡ true → (moved r (m.resources r) ≡ false) × ApartIn m r ps) × HygienicIn m ps

  pub HygienicIn : Replacement → Parts Name Name → Type 0
  HygienicIn m none = Unit {0}
  HygienicIn m (part k t ps) = Hygienic m t × HygienicIn m ps
