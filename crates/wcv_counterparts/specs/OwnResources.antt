-- How both sides of a comparison of component types read their own resources.
use Rattle.std.specs.Prelude.{ℕ, List, map, Bool, true, false, cond, Option, None, Some, ◌≡◌}
use Rattle.std.specs.List.{list_all}
use Rattle.wcv_core.specs.Names.{Name}
use Rattle.wcv_types.specs.Tree.{head, imported}
use Rattle.wcv_types.specs.Unfold.{Type_tree}
use Rattle.wcv_matching.specs.Matching.{Reading}
use Rattle.wcv_matching.specs.OnePass.{Atom, component_at, defined_in, exports_at, imported_in, is_made_in, left_at, made_in, opened_at, own_pair_up, owned_in, right_at}
use Rattle.wcv_atoms.specs.Readings.{atoms_of, over}
use Rattle.wcv_counterparts.specs.declared.own_resources.OwnAtoms.{OwnAtoms}

-- each with what it goes to
abbrev pub going : (Name → Name) → List Name → List (Name × Name)
going to rs = map (λ r. (r, to r)) rs

-- each with what f reads the other as
abbrev pub read_as : Reading Atom → List (Name × Name) → List (Name × Atom)
read_as f ps = map (λ p. (p.0, f p.1)) ps

-- ## Components that are to be the same

-- the own resources pair up. Those that are imported are read alike on both sides, and in the exports so are those that are defined
pub record PairedBy (k : ℕ) (a b : Type_tree) (w : OwnAtoms) : Type 0 where
  pub pair_up : own_pair_up a b ≡ true
  pub left : (f : Reading Atom) → over (atoms_of w.left.items) f ≡ component_at (head a) (λ r. owned_in k (imported_in a b r)) (made_in k) f
  pub right : (g : Reading Atom) → over (atoms_of w.right.items) g ≡ right_at k (head b) g
  pub exports : (f : Reading Atom) → over (atoms_of w.exports.items) f ≡ component_at (head a) (λ r. owned_in k (imported_in a b r)) (λ r. made_in k (defined_in a b r)) f

abbrev pub Paired : ℕ → Type_tree → Type_tree → Option OwnAtoms → Type 0
Paired k a b None = own_pair_up a b ≡ false
Paired k a b (Some w) = PairedBy k a b w

-- ## A component that is to match another

-- none of the resources that a imports is opened by one that b defines
abbrev pub opens_by_none_made : ℕ → Reading Atom → Type_tree → Type_tree → Bool
opens_by_none_made k g a b = list_all (λ r. cond (is_made_in k (opened_at k g a b r)) false true) (imported a)

-- those that a imports are read as what b has for them, and in the exports those that b defines as what a has for them
pub record OpenedBy (k : ℕ) (f g : Reading Atom) (a b : Type_tree) (w : OwnAtoms) : Type 0 where
  pub none_made : opens_by_none_made k g a b ≡ true
  pub left : over (atoms_of w.left.items) f ≡ left_at k f g a b
  pub right : over (atoms_of w.right.items) g ≡ right_at k (head b) g
  pub exports : over (atoms_of w.exports.items) g ≡ exports_at k f g a b

abbrev pub Opened : ℕ → Reading Atom → Reading Atom → Type_tree → Type_tree → Option OwnAtoms → Type 0
Opened k f g a b None = opens_by_none_made k g a b ≡ false
Opened k f g a b (Some w) = OpenedBy k f g a b w
