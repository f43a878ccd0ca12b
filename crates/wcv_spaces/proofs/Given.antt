-- The names that an arena gives to what an entry makes, at a place.
use Rattle.std.proofs.Common.{◌≡◌, suc, ◌+◌, [], ◌∷◌, length, refl, sym, ◌∙◌, ap, arith, Bool, cond, Some, length-append}
use Rattle.wcv_core.specs.Names.{Name, Place, number, stamp}
use Rattle.wcv_core.proofs.Places.{under-refl}
use Rattle.wcv_types.specs.Arena.{Arena}
use Rattle.wcv_types.specs.Entities.{any_part}
use Rattle.wcv_types.specs.Renewed as arena
use Rattle.wcv_types.specs.Renewed.{next_name, OneMore, Renewed}
use Rattle.wcv_types.specs.Standing.{Stands}
use Rattle.wcv_types.specs.Tree.{Head, node, head, resource_type}
use Rattle.wcv_types.specs.Unfold.{Type_tree, tree_at, head_of}
use Rattle.wcv_types.specs.declared.arena.Node.TheVariants as n
use Rattle.wcv_types.specs.declared.ids.ComponentAnyTypeId.{ComponentAnyTypeId}
use Rattle.wcv_types.specs.declared.ids.ComponentAnyTypeId.TheVariants as any
use Rattle.wcv_types.proofs.Unfolding.{head_in}
use Rattle.wcv_lower.specs.Given.{Given, GivenNames, find, named, names_of, none_given, both_given, or_by_place, GivesAt}
use Rattle.wcv_lower.specs.Names.{Origin, introduced, stamp_at, Under}
use Rattle.wcv_lower.specs.NewTypes.{renewed_head, renewed, new_reference}
use Rattle.wcv_lower.proofs.Given.{same_origin-refl}
use Rattle.wcv_spaces.specs.Promises.{numbers_of}

-- the first name that is given, whatever is given behind it
one_name : (o : Origin) (x : Name) (gs : Given) → named ((o, x) ∷ gs) o ≡ x
one_name o x gs = ap (λ (b : Bool). or_by_place o (cond b (Some x) (find gs o))) (same_origin-refl o)

-- ## A type that is made again

-- a reference has a stamp there, a node an identity
abbrev pub again_names : Arena → ComponentAnyTypeId → Place → GivenNames
again_names a (any.Resource r) p = record { resources = []; identities = (stamp_at p, stamp a.stamps) ∷ [] }
again_names a id p = record { resources = []; identities = (introduced p, number (length a.nodes)) ∷ [] }

-- the next node has one at the place
abbrev pub node_names : Arena → Place → GivenNames
node_names a p = record { resources = []; identities = (introduced p, number (length a.nodes)) ∷ [] }

pub node_name : (a : Arena) (p : Place) → (names_of (node_names a p)).identity (introduced p) ≡ number (length a.nodes)
node_name a p = one_name (introduced p) (number (length a.nodes)) []

module _ (a b : Arena) (p : Place) where
  stamp_given : b.stamps ≡ a.stamps + 1 → GivesAt (Under p) (numbers_of a) (numbers_of b) (record { resources = []; identities = (stamp_at p, stamp a.stamps) ∷ [] })
  stamp_given k = record { resources = tt; identities = ((omega arith, omega (arith, k)), under-refl p, tt, refl, refl, tt) }

  pub node_given : length b.nodes ≡ suc (length a.nodes) → GivesAt (Under p) (numbers_of a) (numbers_of b) (record { resources = []; identities = (introduced p, number (length a.nodes)) ∷ [] })
  node_given k = record { resources = tt; identities = ((omega arith, omega (arith, k)), under-refl p, tt, refl, refl, tt) }

  pub again_given : (id : ComponentAnyTypeId) → Stands a (any_part id) → OneMore a b id → GivesAt (Under p) (numbers_of a) (numbers_of b) (again_names a id p)
  again_given (any.Resource r) s w = stamp_given (ap (λ (x : Arena). x.stamps) w)
  again_given (any.Defined i) s w = node_given (ap (λ (x : Arena). length x.nodes) w.added ∙ length-append a.nodes (w.shape ∷ []) ∙ omega arith)
  again_given (any.Func i) s w = node_given (ap (λ (x : Arena). length x.nodes) w.added ∙ length-append a.nodes (w.shape ∷ []) ∙ omega arith)
  again_given (any.Instance i) s w = node_given (ap (λ (x : Arena). length x.nodes) w.added ∙ length-append a.nodes (w.shape ∷ []) ∙ omega arith)
  again_given (any.Component i) s w = node_given (ap (λ (x : Arena). length x.nodes) w.added ∙ length-append a.nodes (w.shape ∷ []) ∙ omega arith)

-- the table of core types stays
pub again_core : (a b : Arena) (id : ComponentAnyTypeId) → OneMore a b id → b.core ≡ a.core
again_core a b (any.Resource r) w = ap (λ (x : Arena). x.core) w
again_core a b (any.Defined i) w = ap (λ (x : Arena). x.core) w.added
again_core a b (any.Func i) w = ap (λ (x : Arena). x.core) w.added
again_core a b (any.Instance i) w = ap (λ (x : Arena). x.core) w.added
again_core a b (any.Component i) w = ap (λ (x : Arena). x.core) w.added

-- a node under its new identity, by its head
node_again : (gs : GivenNames) (p : Place) (j : Name) (h : Head Name Name) (t : Type_tree) → head t ≡ h → renewed_head (names_of gs) p h ≡ arena.renewed_head j h → renewed (names_of gs) p t ≡ arena.renewed j t
node_again gs p j h (node k ps) e w = ap (λ (x : Head Name Name). node x ps) (ap (renewed_head (names_of gs) p) e ∙ w ∙ sym (ap (arena.renewed_head j) e))

-- by these names, whatever is given behind them, the type is renewed as the arena has it
pub renewed_first : (a : Arena) (id : ComponentAnyTypeId) (p : Place) (more : GivenNames) → Stands a (any_part id) → renewed (names_of (both_given (again_names a id p) more)) p (tree_at a (any_part id)) ≡ arena.renewed (next_name a id) (tree_at a (any_part id))
renewed_first a (any.Resource r) p more s = ap (λ (x : Name). resource_type (number r.resource.index) x) (one_name (stamp_at p) (stamp a.stamps) more.identities)
renewed_first a (any.Defined i) p more s =
    node_again (both_given (again_names a (any.Defined i) p) more) p (number (length a.nodes)) (head_of i.index (n.Defined s.0)) (tree_at a (any_part (any.Defined i))) (head_in a.nodes i.index (n.Defined s.0) s.1)
    (ap (λ (x : Name). head_of_defined x) (one_name (introduced p) (number (length a.nodes)) more.identities))
  where
    head_of_defined : Name → Head Name Name
    head_of_defined x = arena.renewed_head x (head_of i.index (n.Defined s.0))
renewed_first a (any.Func i) p more s =
    node_again (both_given (again_names a (any.Func i) p) more) p (number (length a.nodes)) (head_of i.index (n.Func s.0)) (tree_at a (any_part (any.Func i))) (head_in a.nodes i.index (n.Func s.0) s.1)
    (ap (λ (x : Name). head_of_func x) (one_name (introduced p) (number (length a.nodes)) more.identities))
  where
    head_of_func : Name → Head Name Name
    head_of_func x = arena.renewed_head x (head_of i.index (n.Func s.0))
renewed_first a (any.Instance i) p more s =
    node_again (both_given (again_names a (any.Instance i) p) more) p (number (length a.nodes)) (head_of i.index (n.Instance s.0)) (tree_at a (any_part (any.Instance i))) (head_in a.nodes i.index (n.Instance s.0) s.1)
    (ap (λ (x : Name). head_of_instance x) (one_name (introduced p) (number (length a.nodes)) more.identities))
  where
    head_of_instance : Name → Head Name Name
    head_of_instance x = arena.renewed_head x (head_of i.index (n.Instance s.0))
renewed_first a (any.Component i) p more s =
    node_again (both_given (again_names a (any.Component i) p) more) p (number (length a.nodes)) (head_of i.index (n.Component s.0)) (tree_at a (any_part (any.Component i))) (head_in a.nodes i.index (n.Component s.0) s.1)
    (ap (λ (x : Name). head_of_component x) (one_name (introduced p) (number (length a.nodes)) more.identities))
  where
    head_of_component : Name → Head Name Name
    head_of_component x = arena.renewed_head x (head_of i.index (n.Component s.0))

-- by these names alone
pub renewed_same : (a : Arena) (id : ComponentAnyTypeId) (p : Place) → Stands a (any_part id) → renewed (names_of (again_names a id p)) p (tree_at a (any_part id)) ≡ arena.renewed (next_name a id) (tree_at a (any_part id))
renewed_same a (any.Resource r) p s = renewed_first a (any.Resource r) p none_given s
renewed_same a (any.Defined i) p s = renewed_first a (any.Defined i) p none_given s
renewed_same a (any.Func i) p s = renewed_first a (any.Func i) p none_given s
renewed_same a (any.Instance i) p s = renewed_first a (any.Instance i) p none_given s
renewed_same a (any.Component i) p s = renewed_first a (any.Component i) p none_given s

-- ## A resource that is made

abbrev pub resource_names : Arena → Place → GivenNames
resource_names a p = record { resources = (introduced p, number a.resources) ∷ []; identities = (stamp_at p, stamp a.stamps) ∷ [] }

pub resource_given : (a b : Arena) (p : Place) → b.resources ≡ a.resources + 1 → b.stamps ≡ a.stamps + 1 → GivesAt (Under p) (numbers_of a) (numbers_of b) (resource_names a p)
resource_given a b p k l = record {
  resources = ((omega arith, omega (arith, k)), under-refl p, tt, refl, refl, tt);
  identities = ((omega arith, omega (arith, l)), under-refl p, tt, refl, refl, tt);
}

pub name_first : (a : Arena) (p : Place) (more : GivenNames) → (names_of (both_given (resource_names a p) more)).resource (introduced p) ≡ number a.resources
name_first a p more = one_name (introduced p) (number a.resources) more.resources

pub reference_first : (a : Arena) (p : Place) (more : GivenNames) → new_reference (names_of (both_given (resource_names a p) more)) p ≡ resource_type (number a.resources) (stamp a.stamps)
reference_first a p more = (λ j. resource_type (one_name (introduced p) (number a.resources) more.resources j) (one_name (stamp_at p) (stamp a.stamps) more.identities j))

pub resource_name : (a : Arena) (p : Place) → (names_of (resource_names a p)).resource (introduced p) ≡ number a.resources
resource_name a p = name_first a p none_given

pub reference_same : (a : Arena) (p : Place) → new_reference (names_of (resource_names a p)) p ≡ resource_type (number a.resources) (stamp a.stamps)
reference_same a p = reference_first a p none_given
