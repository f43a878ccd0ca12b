-- What holds of the names that occur holds of a free resource.
use Rattle.std.proofs.Common.{sym, subst, inl, inr}
use Rattle.wcv_core.specs.Names.{Name}
use Rattle.wcv_types.specs.Tree.{Head, resource, Tree, node, Parts, none, part}
use Rattle.wcv_types.specs.Rename.{HeadNames, EachName, EachNameIn}
use Rattle.wcv_types.specs.Resources.{RefersTo, Free, FreeIn}

module _ {I : Type 0} (P : Name → Type 0) (Q : I → Type 0) where
  pub refers-occurs : (r : Name) (h : Head Name I) → RefersTo r h → HeadNames P Q h → P r
  refers-occurs r (resource q s) e n = subst P (sym e) n.0
  refers-occurs r x e n = absurd e

  mutual
    pub free-occurs : (r : Name) (t : Tree Name I) → Free r t → EachName P Q t → P r
    free-occurs r (node h ps) (inl e) n = refers-occurs r h e n.0
    free-occurs r (node h ps) (inr e) n = free_in-occurs r ps e.1 n.1

    pub free_in-occurs : (r : Name) (ps : Parts Name I) → FreeIn r ps → EachNameIn P Q ps → P r
    free_in-occurs r none e n = absurd e
    free_in-occurs r (part k t ps) (inl e) n = free-occurs r t e n.0
    free_in-occurs r (part k t ps) (inr e) n = free_in-occurs r ps e n.1
