-- What arguments give in the place of the types that imports create, one after another.
use Rattle.std.proofs.Common.{◌≡◌, ℕ, ◌+◌, ◌<◌, ◌≤◌, List, [], ◌∷◌, ◌++◌, map, length, take, zero, suc, Bool, true, false, cond, Option, None, Some, option_map, refl, sym, ◌∙◌, ap, subst, arith, append_assoc, append-nil, ⊎_elim}
use Rattle.std.specs.Prelude.{slice_get, Contains, option_to_list}
use Rattle.std.specs.Map.{lookup}
use Rattle.std.specs.Option.{option_map_or}
use Rattle.std.proofs.lemmas.List.{length-map, take_all}
use Rattle.std.proofs.lemmas.List.Elements.{Contains-append_left, Contains-append_right, Contains-push_cases}
use Rattle.wcv_core.specs.CoreForm.{Group}
use Rattle.wcv_core.specs.Names.{Name}
use Rattle.wcv_types.specs.Arena.{Arena}
use Rattle.wcv_types.specs.Entities.{entity_tree, EntityStands}
use Rattle.wcv_types.specs.Identity.{Identity, same_identity}
use Rattle.wcv_types.specs.Standing.{Stands, identity_of}
use Rattle.wcv_types.proofs.Unfolding.{known_any, sort_stands}
use Rattle.wcv_types.specs.Tree.{Text, here, label, import, export, core_import, core_export, nothing, primitive, resource, defined, func, instance, component, type_entity, core_module, core_instance, core_type, core_item, node, Parts, none, part, Sort, is_value, is_func, is_instance, is_component, is_module, is_type, sort, head, parts}
use Rattle.wcv_types.specs.Unfold.{any_part, Type_tree, tree_at, trees, unfolded}
use Rattle.wcv_types.specs.declared.arena.Node.TheVariants as n
use Rattle.wcv_types.specs.declared.ids.ComponentAnyTypeId.{ComponentAnyTypeId}
use Rattle.wcv_types.specs.declared.ids.ComponentAnyTypeId.TheVariants as any
use Rattle.wcv_types.specs.declared.ids.ComponentInstanceTypeId.{ComponentInstanceTypeId}
use Rattle.wcv_types.specs.declared.ids.Part.{Part}
use Rattle.wcv_types.specs.declared.ids.Part.TheVariants as p
use Rattle.wcv_types.specs.declared.instance_type.ComponentInstanceType.{ComponentInstanceType}
use Rattle.wcv_types.specs.declared.item_map.ComponentItem.{ComponentItem}
use Rattle.wcv_types.specs.declared.shapes.ComponentEntityType.{ComponentEntityType}
use Rattle.wcv_types.specs.declared.shapes.ComponentEntityType.TheVariants as entity
use Rattle.wcv_types.specs.declared.shapes.ComponentValType.TheVariants as v
use Rattle.wcv_matching.specs.AtomTests.{id_tests}
use Rattle.wcv_matching.specs.GivenTypes.{given_by, given_in, given_for}
use Rattle.wcv_matching.specs.Matching.{Reading, named_exports, named_exports_in}
use Rattle.wcv_matching.specs.NamedPaths.{entry}
use Rattle.wcv_matching.specs.OnePass.{Atom, found_in, match_as, match_below, same_below, under_at}
use Rattle.wcv_matching.specs.Orderly.{height}
use Rattle.wcv_matching.proofs.Entries.{among}
use Rattle.wcv_matching.proofs.PassSame.{and_left, and_right, passes, sorts-decide}
use Rattle.wcv_atoms.specs.IdPasses.{named_trees}
use Rattle.wcv_remap.specs.Map.{Map, Sent, entry as entry_of, is_type as may_be_sent}
use Rattle.wcv_subtype.specs.Openings.{given_under, may_create, Gives, IsGiven, Passes}
use Rattle.wcv_remap.specs.Remap.{NotGiven}
use Rattle.wcv_remap.proofs.Given.{identity_true, identity_refl}
use Rattle.wcv_remap.proofs.Maps.{entry_contains, no_entry}
use Rattle.wcv_remap.proofs.Parts.{one_identity, type_identity}
use Rattle.wcv_atoms.proofs.PassIds.{instance_lower}
use Rattle.wcv_atoms.proofs.PassSteps.{found_passes, instance_names, tallest_at, tree_at_place}
use Rattle.wcv_atoms.proofs.Walking.{take_more}

abbrev Given_list : Type 0
Given_list = List (Identity × Type_tree)

abbrev Named_list : Type 0
Named_list = List (Text × Type_tree)

-- ## Lists of what is given

pub for_append : (es xs ys : Named_list) → given_for es (xs ++ ys) ≡ given_for es xs ++ given_for es ys
for_append es [] ys = refl
for_append es (x ∷ xs) ys = ap (λ (gs : Given_list). given_under es x.0 x.1 ++ gs) (for_append es xs ys) ∙ sym (append_assoc (given_under es x.0 x.1) (given_for es xs) (given_for es ys))

-- of the exports among parts
pub in_exports : (es : Named_list) (ps : Parts Name Name) → given_in es ps ≡ given_for es (named_exports_in ps)
in_exports es none = refl
in_exports es (part (export m) t ps) = ap (λ (gs : Given_list). given_under es m.name t ++ gs) (in_exports es ps)
in_exports es (part here t ps) = in_exports es ps
in_exports es (part (label m) t ps) = in_exports es ps
in_exports es (part (import m) t ps) = in_exports es ps
in_exports es (part (core_import l m) t ps) = in_exports es ps
in_exports es (part (core_export m) t ps) = in_exports es ps

-- one more
pub for_next : (es xs : Named_list) (k : ℕ) (x : Text × Type_tree) → slice_get xs k ≡ Some x → given_for es (take k xs) ++ given_under es x.0 x.1 ≡ given_for es (take (k + 1) xs)
for_next es xs k x h =
    ap (λ (gs : Given_list). given_for es (take k xs) ++ gs) (sym (append-nil (given_under es x.0 x.1))) ∙ sym (for_append es (take k xs) (x ∷ [])) ∙ ap (given_for es) (sym (take_more xs k x h))

-- of an instance type
pub of_instance : (a : Arena) (i : ℕ) (s : ComponentInstanceType) (x t : Type_tree) → t ≡ unfolded a i (n.Instance s) → given_by x t ≡ given_for (named_exports x) (named_exports t)
of_instance a i s x t e =
    ap (given_by x) e ∙ in_exports (named_exports x) (parts (unfolded a i (n.Instance s))) ∙ ap (λ (u : Type_tree). given_for (named_exports x) (named_exports u)) (sym e)

-- ## Maps that give them

lookup_there : (xs ys : Given_list) (i : Identity) (t : Type_tree) → lookup (same_identity i) xs ≡ Some t → lookup (same_identity i) (xs ++ ys) ≡ Some t
lookup_there [] ys i t h = cc
lookup_there (x ∷ xs) ys i t h = go (same_identity i x.0) h (lookup_there xs ys i t)
  where
    go : (b : Bool) → cond b (Some x.1) (lookup (same_identity i) xs) ≡ Some t → (lookup (same_identity i) xs ≡ Some t → lookup (same_identity i) (xs ++ ys) ≡ Some t) → cond b (Some x.1) (lookup (same_identity i) (xs ++ ys)) ≡ Some t
    go true h later = h
    go false h later = later h

lookup_behind : (xs ys : Given_list) (i : Identity) → lookup (same_identity i) xs ≡ None → lookup (same_identity i) (xs ++ ys) ≡ lookup (same_identity i) ys
lookup_behind [] ys i h = refl
lookup_behind (x ∷ xs) ys i h = go (same_identity i x.0) h (lookup_behind xs ys i)
  where
    go : (b : Bool) → cond b (Some x.1) (lookup (same_identity i) xs) ≡ None → (lookup (same_identity i) xs ≡ None → lookup (same_identity i) (xs ++ ys) ≡ lookup (same_identity i) ys) →
        cond b (Some x.1) (lookup (same_identity i) (xs ++ ys)) ≡ lookup (same_identity i) ys
    go true h later = cc
    go false h later = later h

pub gives_none : (a : Arena) (m : Map) → m.types ≡ [] → Gives a [] m
gives_none a m e = record {
  each = λ q s c. let d : Contains {X = Part × Sent} [] (q, s) = subst (λ (es : List (Part × Sent)). Contains es (q, s)) e c in absurd (omega (arith, d.1));
  others = λ i o. refl;
}

pub gives_as : (a : Arena) (m : Map) (xs ys : Given_list) → xs ≡ ys → Gives a xs m → Gives a ys m
gives_as a m xs ys e g = subst (λ (gs : Given_list). Gives a gs m) e g

is_any : (x : ComponentAnyTypeId) → may_be_sent (any_part x) ≡ true
is_any (any.Resource r) = refl
is_any (any.Defined i) = refl
is_any (any.Func i) = refl
is_any (any.Instance i) = refl
is_any (any.Component i) = refl

module _ (a : Arena) (gs : Given_list) (q : Part) (t : Type_tree) where
  -- of an identity that is given already the first counts
  pub gives_same : (m : Map) (s : Sent) → entry_of m q ≡ Some s → Gives a gs m → Gives a (gs ++ (identity_of q, t) ∷ []) m
  gives_same m s e g = record {
    each = λ r u c. let w = g.each r u c in record { given = w.given; stands = w.stands; goes = w.goes; inside = w.inside; tree = lookup_there gs ((identity_of q, t) ∷ []) (identity_of r) (tree_at a u.to) w.tree };
    others = λ i o. lookup_behind gs ((identity_of q, t) ∷ []) i (g.others i o) ∙ go i o (same_identity i (identity_of q)) refl;
  }
    where
      go : (i : Identity) → NotGiven m i → (b : Bool) → same_identity i (identity_of q) ≡ b → cond (same_identity i (identity_of q)) (Some t) None ≡ None
      go i o false f = ap (λ (b : Bool). cond b (Some t) None) f
      go i o true f = absurd (o q s (entry_contains m q s e) (g.each q s (entry_contains m q s e)).given (sym (identity_true i (identity_of q) f)))

-- one more
module _ (a : Arena) (gs : Given_list) (x y : ComponentAnyTypeId) (m m' : Map) (h : Stands a (any_part x)) (k : Stands a (any_part y)) (e : entry_of m (any_part x) ≡ None) (g : Gives a gs m)
    (l : m'.types ≡ m.types ++ (any_part x, record { to = any_part y; given = true }) ∷ []) where
  abbrev q : Part
  q = any_part x

  abbrev new : Sent
  new = record { to = any_part y; given = true }

  older : (r : Part) (s : Sent) → Contains m.types (r, s) → Contains m'.types (r, s)
  older r s c = subst (λ (es : List (Part × Sent)). Contains es (r, s)) (sym l) (Contains-append_left m.types ((q, new) ∷ []) (r, s) c)

  newest : Contains m'.types (q, new)
  newest = subst (λ (es : List (Part × Sent)). Contains es (q, new)) (sym l) (Contains-append_right m.types ((q, new) ∷ []) (q, new) (0, omega arith, refl))

  not_yet : NotGiven m (identity_of q)
  not_yet r s c f i = let w = g.each r s c in no_entry m q s e (subst (λ (z : Part). Contains m.types (z, s)) (one_identity a r q w.stands h w.inside (type_identity q (is_any x)) i) c)

  -- what is given for its identity
  at_last : lookup (same_identity (identity_of q)) (gs ++ (identity_of q, tree_at a (any_part y)) ∷ []) ≡ Some (tree_at a (any_part y))
  at_last = lookup_behind gs ((identity_of q, tree_at a (any_part y)) ∷ []) (identity_of q) (g.others (identity_of q) not_yet) ∙ ap (λ (b : Bool). cond b (Some (tree_at a (any_part y))) None) (identity_refl (identity_of q))

  now_given : (r : Part) (s : Sent) → Contains m'.types (r, s) → IsGiven a (gs ++ (identity_of q, tree_at a (any_part y)) ∷ []) r s
  now_given r s c =
      ⊎_elim
      (λ (d : Contains m.types (r, s)). let w = g.each r s d in
      record { given = w.given; stands = w.stands; goes = w.goes; inside = w.inside; tree = lookup_there gs ((identity_of q, tree_at a (any_part y)) ∷ []) (identity_of r) (tree_at a s.to) w.tree })
      (λ (d : (q, new) ≡ (r, s)). subst (λ (z : Part × Sent). IsGiven a (gs ++ (identity_of q, tree_at a (any_part y)) ∷ []) z.0 z.1) d (record { given = refl; stands = h; goes = k; inside = is_any x; tree = at_last }))
      (Contains-push_cases m.types (q, new) (r, s) (subst (λ (es : List (Part × Sent)). Contains es (r, s)) l c))

  pub gives_new : Gives a (gs ++ (identity_of q, tree_at a (any_part y)) ∷ []) m'
  gives_new = record {
    each = now_given;
    others = λ i o. lookup_behind gs ((identity_of q, tree_at a (any_part y)) ∷ []) i (g.others i (λ r s c f. o r s (older r s c) f)) ∙ go i o (same_identity i (identity_of q)) refl;
  }
    where
      go : (i : Identity) → NotGiven m' i → (b : Bool) → same_identity i (identity_of q) ≡ b → cond (same_identity i (identity_of q)) (Some (tree_at a (any_part y))) None ≡ None
      go i o false f = ap (λ (b : Bool). cond b (Some (tree_at a (any_part y))) None) f
      go i o true f = absurd (o q new newest refl (sym (identity_true i (identity_of q) f)))

-- where the map has no such type
pub no_sent : (o : Option Sent) → option_map (λ (s : Sent). s.to) o ≡ None → o ≡ None
no_sent None h = refl
no_sent (Some s) h = cc

pub some_sent : (o : Option Sent) (r : Part) → option_map (λ (s : Sent). s.to) o ≡ Some r → (s : Sent) × (o ≡ Some s)
some_sent None r h = cc
some_sent (Some s) r h = (s, refl)

-- ## What passes

module _ (gs : List Group) where
  -- both are of one sort, and pass by its rule
  by_rule : (d k : ℕ) (f g : Reading Atom) (a b : Type_tree) (s : Sort) → sort b ≡ s → match_below (id_tests gs) d k f g a b ≡ true →
      (sort a ≡ s) × ((c : ℕ) × (match_as (id_tests gs) (same_below (id_tests gs) c) (match_below (id_tests gs) c) s k f g a b ≡ true))
  by_rule zero k f g a b s e m = cc
  by_rule (suc d) k f g a b s e m =
      let t : sort a ≡ s = (sorts-decide (sort a) (sort b)).0 (and_left _ _ m) ∙ e in
      (t, (d, subst (λ (r : Sort). match_as (id_tests gs) (same_below (id_tests gs) d) (match_below (id_tests gs) d) r k f g a b ≡ true) t (and_right _ _ m)))

  pub passes_sort : (a b : Type_tree) (s : Sort) → sort b ≡ s → Passes gs a b → sort a ≡ s
  passes_sort a b s e w = (by_rule w.bound w.level w.left w.right a b s e w.passes).0

  -- of instances, so do exports of one name
  pub passes_export : (a b : Type_tree) → sort b ≡ is_instance → Passes gs a b → (m : Text) (y : Type_tree) → Contains (named_exports b) (m, y) → (x : Type_tree) → entry m (named_exports a) ≡ Some x → Passes gs x y
  passes_export a b e w m y c x i =
      let r = by_rule w.bound w.level w.left w.right a b is_instance e w.passes in
      record {
        bound = r.1.0;
        level = suc w.level;
        left = under_at w.level (head a) w.left;
        right = under_at w.level (head b) w.right;
        passes = sym (found_passes (match_below (id_tests gs) r.1.0 (suc w.level) (under_at w.level (head a) w.left) (under_at w.level (head b) w.right)) (named_exports a) (m, y) x i) ∙
            passes (found_in (match_below (id_tests gs) r.1.0 (suc w.level) (under_at w.level (head a) w.left) (under_at w.level (head b) w.right)) (named_exports a)) (named_exports b) r.1.1 (m, y) c;
      }

-- ## Entities

abbrev sort_of : ComponentEntityType → Sort
sort_of (entity.Module i) = is_module
sort_of (entity.Func i) = is_func
sort_of (entity.Value w) = is_value
sort_of (entity.Ty c r) = is_type
sort_of (entity.Instance i) = is_instance
sort_of (entity.Component i) = is_component

entity_sort : (a : Arena) (x : ComponentEntityType) → EntityStands a x → sort (entity_tree (trees a.nodes) x) ≡ sort_of x
entity_sort a (entity.Module i) s = sort_stands a (p.Module i) s
entity_sort a (entity.Func i) s = sort_stands a (p.Func i) s
entity_sort a (entity.Value (v.Primitive q)) s = refl
entity_sort a (entity.Value (v.Ty i)) s = sort_stands a (p.Defined i) s
entity_sort a (entity.Ty c r) s = refl
entity_sort a (entity.Instance i) s = sort_stands a (p.Instance i) s
entity_sort a (entity.Component i) s = sort_stands a (p.Component i) s

-- of the sort of type entities there are type entities alone
pub only_types : (a : Arena) (x : ComponentEntityType) → EntityStands a x → sort (entity_tree (trees a.nodes) x) ≡ is_type → ((c r : ComponentAnyTypeId) → x ≡ entity.Ty c r → ⊥) → ⊥
only_types a x s e = go x (sym (entity_sort a x s) ∙ e)
  where
    go : (x : ComponentEntityType) → sort_of x ≡ is_type → ((c r : ComponentAnyTypeId) → x ≡ entity.Ty c r → ⊥) → ⊥
    go (entity.Ty c r) e o = o c r refl
    go (entity.Module i) e o = cc
    go (entity.Func i) e o = cc
    go (entity.Value w) e o = cc
    go (entity.Instance i) e o = cc
    go (entity.Component i) e o = cc

plain_given : (t u : Type_tree) → (sort u ≡ is_type → ⊥) → (sort u ≡ is_instance → ⊥) → given_by t u ≡ []
plain_given t (node type_entity ps) o i = absurd (o refl)
plain_given t (node (instance j own) ps) o i = absurd (i refl)
plain_given t (node nothing ps) o i = refl
plain_given t (node (primitive q) ps) o i = refl
plain_given t (node (resource r s) ps) o i = refl
plain_given t (node (defined j f) ps) o i = refl
plain_given t (node (func j b) ps) o i = refl
plain_given t (node (component j ins outs) ps) o i = refl
plain_given t (node (core_module j m) ps) o i = refl
plain_given t (node (core_instance j m) ps) o i = refl
plain_given t (node (core_type j) ps) o i = refl
plain_given t (node (core_item x) ps) o i = refl

-- what creates no type gives for none
pub nothing_given : (a : Arena) (x : ComponentEntityType) (t : Type_tree) → EntityStands a x → may_create x ≡ false → given_by t (entity_tree (trees a.nodes) x) ≡ []
nothing_given a x t s e =
    let w = plain x e in
    plain_given t (entity_tree (trees a.nodes) x) (λ f. w.0 (sym (entity_sort a x s) ∙ f)) (λ f. w.1 (sym (entity_sort a x s) ∙ f))
  where
    plain : (x : ComponentEntityType) → may_create x ≡ false → (sort_of x ≡ is_type → ⊥) × (sort_of x ≡ is_instance → ⊥)
    plain (entity.Ty c r) e = cc
    plain (entity.Instance i) e = cc
    plain (entity.Module i) e = (λ f. cc, λ f. cc)
    plain (entity.Func i) e = (λ f. cc, λ f. cc)
    plain (entity.Value w) e = (λ f. cc, λ f. cc)
    plain (entity.Component i) e = (λ f. cc, λ f. cc)

-- so under a name
pub nothing_under : (a : Arena) (x : ComponentEntityType) (es : Named_list) (m : Text) → EntityStands a x → may_create x ≡ false → given_under es m (entity_tree (trees a.nodes) x) ≡ []
nothing_under a x es m s e = go (entry m es)
  where
    go : (o : Option Type_tree) → option_map_or (λ t. given_by t (entity_tree (trees a.nodes) x)) o [] ≡ []
    go None = refl
    go (Some t) = nothing_given a x t s e

pub one_under : (es : Named_list) (m : Text) (t x : Type_tree) → entry m es ≡ Some x → given_under es m t ≡ given_by x t
one_under es m t x e = ap (λ (o : Option Type_tree). option_map_or (λ a. given_by a t) o []) e

-- ## A type

-- what a type entity gives for a type entity
pub of_type : (a : Arena) (old new c r : ComponentAnyTypeId) → Stands a (any_part old) →
    given_by (entity_tree (trees a.nodes) (entity.Ty new r)) (entity_tree (trees a.nodes) (entity.Ty old c)) ≡ (identity_of (any_part old), tree_at a (any_part new)) ∷ []
of_type a old new c r s = ap (λ (o : Option Identity). option_to_list (option_map (λ i. (i, tree_at a (any_part new))) o)) (known_any a old s)

pub creates_none : (x : ComponentEntityType) → ((c r : ComponentAnyTypeId) → x ≡ entity.Ty c r → ⊥) → ((i : ComponentInstanceTypeId) → x ≡ entity.Instance i → ⊥) → may_create x ≡ false
creates_none (entity.Ty c r) o u = absurd (o c r refl)
creates_none (entity.Instance i) o u = absurd (u i refl)
creates_none _ o u = refl

-- ## Exports of an instance type

module _ (a : Arena) (i : ℕ) (s : ComponentInstanceType) (t : Type_tree) (e : t ≡ unfolded a i (n.Instance s)) where
  abbrev its : Named_list
  its = named_trees (trees a.nodes) s.exports

  -- after all of them
  pub all_given : (x : Type_tree) (k : ℕ) → length s.exports ≤ k → given_for (named_exports x) (take k its) ≡ given_by x t
  all_given x k h =
      ap (given_for (named_exports x)) (take_all k its (subst (λ (m : ℕ). m ≤ k) (sym (length-map s.exports _)) h)) ∙ ap (given_for (named_exports x)) (sym (instance_names a i s t e)) ∙ sym (of_instance a i s x t e)

  module _ (k : ℕ) (y : Text × ComponentItem) (h : slice_get s.exports k ≡ Some y) where
    pub export_there : Contains (named_exports t) (y.0, entity_tree (trees a.nodes) y.1.ty)
    export_there = subst (λ (es : Named_list). Contains es (y.0, entity_tree (trees a.nodes) y.1.ty)) (sym (instance_names a i s t e)) (among its k (y.0, entity_tree (trees a.nodes) y.1.ty) (tree_at_place (trees a.nodes) s.exports k y h))

    pub export_lower : height (entity_tree (trees a.nodes) y.1.ty) < height t
    export_lower =
        let l = instance_lower a i s t e in
        let m = tallest_at its k (y.0, entity_tree (trees a.nodes) y.1.ty) (tree_at_place (trees a.nodes) s.exports k y h) in
        omega (arith, l, m)

    pub export_next : (x : Type_tree) → given_for (named_exports x) (take k its) ++ given_under (named_exports x) y.0 (entity_tree (trees a.nodes) y.1.ty) ≡ given_for (named_exports x) (take (k + 1) its)
    export_next x = for_next (named_exports x) its k (y.0, entity_tree (trees a.nodes) y.1.ty) (tree_at_place (trees a.nodes) s.exports k y h)
