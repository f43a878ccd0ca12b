-- What exports create, and which exports pass by lists with the same members.
use Rattle.std.proofs.Common.{◌≡◌, ℕ, List, [], ◌∷◌, ◌++◌, refl, sym, ◌∙◌, ap, Bool, true, false, ◌&&◌, ◌||◌, cond, eqb, Some, None}
use Rattle.std.specs.Prelude.{Option}
use Rattle.std.proofs.lemmas.Bool.{false≢true, eqb-true}
use Rattle.std.proofs.lemmas.List.Elements.{All-nil, All-cons, All-append}
use Rattle.wcv_core.specs.Names.{Name, number, stamp}
use Rattle.wcv_types.specs.Arena.{Arena}
use Rattle.wcv_types.specs.Entities.{any_part, entity_tree, EntityStands}
use Rattle.wcv_types.specs.Identity.{Identity, of_node, of_reference, identity_at, same_identity}
use Rattle.wcv_types.specs.Named.{is_in, named_by_itself, is_named, are_named, with_identity, with_created, passes, all_pass, created_passes}
use Rattle.wcv_types.specs.NamedBySet.{with_created_type}
use Rattle.wcv_types.specs.Sets.{same_type, has_type, with_type, AllStand, identities}
use Rattle.wcv_types.specs.Standing.{Stands, identity_of}
use Rattle.wcv_types.specs.Tree.{Former, named, record_of, variant_of, flags_of, enum_of, Head, nothing, primitive, resource, defined, func, instance, type_entity, Tree, node, Parts, none, part, head, parts, sort, created, is_type, is_module, is_value, is_func, is_instance, is_component}
use Rattle.wcv_types.specs.Unfold.{Type_tree, head_of, trees, tree_at}
use Rattle.wcv_types.specs.declared.arena.Node.TheVariants as n
use Rattle.wcv_types.specs.declared.ids.ComponentAnyTypeId.{ComponentAnyTypeId}
use Rattle.wcv_types.specs.declared.ids.ComponentAnyTypeId.TheVariants as any
use Rattle.wcv_types.specs.declared.ids.ComponentCoreModuleTypeId.{ComponentCoreModuleTypeId}
use Rattle.wcv_types.specs.declared.ids.ComponentTypeId.{ComponentTypeId}
use Rattle.wcv_types.specs.declared.ids.Part.TheVariants as p
use Rattle.wcv_types.specs.declared.shapes.ComponentEntityType.{ComponentEntityType}
use Rattle.wcv_types.specs.declared.shapes.ComponentEntityType.TheVariants as entity
use Rattle.wcv_types.specs.declared.shapes.ComponentValType.TheVariants as v
use Rattle.wcv_types.proofs.Unfolding.{head_in, sort_stands, known_any}

-- ## Lists with the same members

abbrev pub SameMembers : List Identity → List Identity → Type 0
SameMembers xs ys = (i : Identity) → is_in xs i ≡ is_in ys i

with_identity_by : (xs ys : List Identity) (o : Option Identity) → SameMembers xs ys → SameMembers (with_identity o xs) (with_identity o ys)
with_identity_by xs ys None h = h
with_identity_by xs ys (Some j) h = λ i. ap (λ (b : Bool). same_identity i j || b) (h i)

with_created_by : (xs ys : List Identity) (t : Tree Name Name) → SameMembers xs ys → SameMembers (with_created xs t) (with_created ys t)
with_created_by xs ys (node type_entity ps) h = with_identity_by xs ys (identity_at (head (created (node type_entity ps)))) h
with_created_by xs ys (node x ps) h = h

mutual
  is_named_by : (xs ys : List Identity) (t : Tree Name Name) → SameMembers xs ys → is_named xs t ≡ is_named ys t
  is_named_by xs ys (node nothing ps) h = refl
  is_named_by xs ys (node (primitive p) ps) h = refl
  is_named_by xs ys (node (resource r s) ps) h = h (of_reference r s)
  is_named_by xs ys (node (defined i x) ps) h =
      let a : is_in xs (of_node i) ≡ is_in ys (of_node i) = h (of_node i) in
      let b : are_named xs ps ≡ are_named ys ps = are_named_by xs ys ps h in
      λ j. named_by_itself x (a j) (b j)
  is_named_by xs ys (node (func i b) ps) h = refl
  is_named_by xs ys (node x ps) h = refl

  are_named_by : (xs ys : List Identity) (ps : Parts Name Name) → SameMembers xs ys → are_named xs ps ≡ are_named ys ps
  are_named_by xs ys none h = refl
  are_named_by xs ys (part l t ps) h =
      let a : is_named xs t ≡ is_named ys t = is_named_by xs ys t h in
      let b : are_named xs ps ≡ are_named ys ps = are_named_by xs ys ps h in
      λ j. a j && b j

-- by such lists the same exports pass
mutual
  passes_by : (xs ys : List Identity) (t : Tree Name Name) → SameMembers xs ys → passes xs t ≡ passes ys t
  passes_by xs ys (node (defined i x) ps) h = are_named_by xs ys ps h
  passes_by xs ys (node (func i b) ps) h = are_named_by xs ys ps h
  passes_by xs ys (node (instance i own) ps) h = all_pass_by xs ys ps h
  passes_by xs ys (node type_entity ps) h = created_passes_by xs ys ps h
  passes_by xs ys (node x ps) h = refl

  pub all_pass_by : (xs ys : List Identity) (ps : Parts Name Name) → SameMembers xs ys → all_pass xs ps ≡ all_pass ys ps
  all_pass_by xs ys none h = refl
  all_pass_by xs ys (part l t ps) h =
      let a : passes xs t ≡ passes ys t = passes_by xs ys t h in
      let b : all_pass (with_created xs t) ps ≡ all_pass (with_created ys t) ps = all_pass_by (with_created xs t) (with_created ys t) ps (with_created_by xs ys t h) in
      λ j. a j && b j

  created_passes_by : (xs ys : List Identity) (ps : Parts Name Name) → SameMembers xs ys → created_passes xs ps ≡ created_passes ys ps
  created_passes_by xs ys none h = refl
  created_passes_by xs ys (part l t ps) h = passes_by xs ys t h

-- ## A set with one more type

both_true : (b c : Bool) → (b && c) ≡ true → (b ≡ true) × (c ≡ true)
both_true true c e = (refl, e)
both_true false c e = absurd (false≢true e)

-- ## Lists with more members

named_more : (k : Former) (a b c d : Bool) → (a ≡ true → c ≡ true) → (b ≡ true → d ≡ true) → named_by_itself k a b ≡ true → named_by_itself k c d ≡ true
named_more (named p) a b c d f g e = refl
named_more record_of a b c d f g e = f e
named_more variant_of a b c d f g e = f e
named_more (flags_of ls) a b c d f g e = f e
named_more (enum_of ls) a b c d f g e = f e
named_more k a b c d f g e = g e

mutual
  pub is_named_more : (xs ys : List Identity) (t : Tree Name Name) → ((i : Identity) → is_in xs i ≡ true → is_in ys i ≡ true) → is_named xs t ≡ true → is_named ys t ≡ true
  is_named_more xs ys (node (resource r s) ps) h e = h (of_reference r s) e
  is_named_more xs ys (node (defined i x) ps) h e = named_more x (is_in xs (of_node i)) (are_named xs ps) (is_in ys (of_node i)) (are_named ys ps) (h (of_node i)) (are_named_more xs ys ps h) e
  is_named_more xs ys (node x ps) h e = refl

  are_named_more : (xs ys : List Identity) (ps : Parts Name Name) → ((i : Identity) → is_in xs i ≡ true → is_in ys i ≡ true) → are_named xs ps ≡ true → are_named ys ps ≡ true
  are_named_more xs ys none h e = refl
  are_named_more xs ys (part l t ps) h e =
      let w = both_true (is_named xs t) (are_named xs ps) e in
      ap (λ (b : Bool). b && are_named ys ps) (is_named_more xs ys t h w.0) ∙ are_named_more xs ys ps h w.1

pub or_true : (b : Bool) → (b || true) ≡ true
or_true true = refl
or_true false = refl

pub with_created_more : (xs : List Identity) (t : Tree Name Name) (i : Identity) → is_in xs i ≡ true → is_in (with_created xs t) i ≡ true
with_created_more xs (node type_entity ps) i e = go (identity_at (head (created (node type_entity ps))))
  where
    go : (o : Option Identity) → is_in (with_identity o xs) i ≡ true
    go None = e
    go (Some j) = ap (λ (b : Bool). same_identity i j || b) e ∙ or_true (same_identity i j)
with_created_more xs (node x ps) i e = e

pub or_swap : (a b c : Bool) → (a || (b || c)) ≡ (b || (a || c))
or_swap true true c = refl
or_swap true false c = refl
or_swap false true c = refl
or_swap false false c = refl

pub same_identities : (x y : ComponentAnyTypeId) → same_type x y ≡ true → identity_of (any_part x) ≡ identity_of (any_part y)
same_identities (any.Resource q) (any.Resource r) e =
    let w = both_true (eqb q.resource.index r.resource.index) (eqb q.stamp r.stamp) e in
    let x : q.resource.index ≡ r.resource.index = eqb-true q.resource.index r.resource.index w.0 in
    let y : q.stamp ≡ r.stamp = eqb-true q.stamp r.stamp w.1 in
    λ j. of_reference (number (x j)) (stamp (y j))
same_identities (any.Defined i) (any.Defined j) e = ap (λ (k : ℕ). of_node (number k)) (eqb-true i.index j.index e)
same_identities (any.Func i) (any.Func j) e = ap (λ (k : ℕ). of_node (number k)) (eqb-true i.index j.index e)
same_identities (any.Instance i) (any.Instance j) e = ap (λ (k : ℕ). of_node (number k)) (eqb-true i.index j.index e)
same_identities (any.Component i) (any.Component j) e = ap (λ (k : ℕ). of_node (number k)) (eqb-true i.index j.index e)
same_identities x y e = absurd (false≢true e)

identity_in : (ids : List ComponentAnyTypeId) (c : ComponentAnyTypeId) (i : Identity) → has_type ids c ≡ true → same_identity i (identity_of (any_part c)) ≡ true → is_in (identities ids) i ≡ true
identity_in [] c i h e = absurd (false≢true h)
identity_in (x ∷ ids) c i h e = go (same_type c x) (λ w. identity_in ids c i w e) refl
  where
    go : (b : Bool) → (has_type ids c ≡ true → is_in (identities ids) i ≡ true) → same_type c x ≡ b → is_in (identities (x ∷ ids)) i ≡ true
    go true f s =
        let w : same_identity i (identity_of (any_part x)) ≡ true = ap (same_identity i) (sym (same_identities c x s)) ∙ e in
        ap (λ (b : Bool). b || is_in (identities ids) i) w
    go false f s =
        let w : is_in (identities ids) i ≡ true = f (sym (ap (λ (b : Bool). b || has_type ids c) s) ∙ h) in
        ap (λ (b : Bool). same_identity i (identity_of (any_part x)) || b) w ∙ or_true (same_identity i (identity_of (any_part x)))

members_pushed : (ids : List ComponentAnyTypeId) (c : ComponentAnyTypeId) → SameMembers (identities (ids ++ c ∷ [])) (identity_of (any_part c) ∷ identities ids)
members_pushed [] c i = refl
members_pushed (x ∷ ids) c i =
    ap (λ (b : Bool). same_identity i (identity_of (any_part x)) || b) (members_pushed ids c i) ∙
    or_swap (same_identity i (identity_of (any_part x))) (same_identity i (identity_of (any_part c))) (is_in (identities ids) i)

with_type_members : (ids : List ComponentAnyTypeId) (c : ComponentAnyTypeId) → SameMembers (identities (with_type ids c)) (identity_of (any_part c) ∷ identities ids)
with_type_members ids c i = go (has_type ids c) refl
  where
    held : (b : Bool) → same_identity i (identity_of (any_part c)) ≡ b → has_type ids c ≡ true → is_in (identities ids) i ≡ (b || is_in (identities ids) i)
    held true s e = identity_in ids c i e s
    held false s e = refl

    go : (b : Bool) → has_type ids c ≡ b → is_in (identities (cond b ids (ids ++ c ∷ []))) i ≡ is_in (identity_of (any_part c) ∷ identities ids) i
    go true e = held (same_identity i (identity_of (any_part c))) refl e
    go false e = members_pushed ids c i

module _ (a : Arena) where
  pub with_type_stands : (ids : List ComponentAnyTypeId) (c : ComponentAnyTypeId) → AllStand a ids → Stands a (any_part c) → AllStand a (with_type ids c)
  with_type_stands ids c h s = go (has_type ids c)
    where
      go : (b : Bool) → AllStand a (cond b ids (ids ++ c ∷ []))
      go true = h
      go false = All-append (λ id. Stands a (any_part id)) ids (c ∷ []) h (All-cons (λ id. Stands a (any_part id)) c [] s (All-nil (λ id. Stands a (any_part id))))

  -- ## A set with what a type entity creates

  pub created_stands : (ids : List ComponentAnyTypeId) (ty : ComponentEntityType) → AllStand a ids → EntityStands a ty → AllStand a (with_created_type ids ty)
  created_stands ids (entity.Ty c r) h s = with_type_stands ids c h s.0
  created_stands ids (entity.Module i) h s = h
  created_stands ids (entity.Func i) h s = h
  created_stands ids (entity.Value x) h s = h
  created_stands ids (entity.Instance i) h s = h
  created_stands ids (entity.Component i) h s = h

  no_entity : (ids : List Identity) (t : Tree Name Name) → (sort t ≡ is_type → ⊥) → with_created ids t ≡ ids
  no_entity ids (node type_entity ps) h = absurd (h refl)
  no_entity ids (node x ps) h = refl

  same_list : (xs ys : List Identity) → ys ≡ xs → SameMembers xs ys
  same_list xs ys e i = ap (λ (zs : List Identity). is_in zs i) (sym e)

  pub created_members : (ids : List ComponentAnyTypeId) (ty : ComponentEntityType) → EntityStands a ty → SameMembers (identities (with_created_type ids ty)) (with_created (identities ids) (entity_tree (trees a.nodes) ty))
  created_members ids (entity.Ty c r) s = λ i. with_type_members ids c i ∙ ap (λ (o : Option Identity). is_in (with_identity o (identities ids)) i) (sym (known_any a c s.0))
  created_members ids (entity.Module i) s = same_list (identities ids) (with_created (identities ids) (tree_at a (p.Module i)))
      (no_entity (identities ids) (tree_at a (p.Module i)) (λ e. let w : is_module ≡ is_type = sym (sort_stands a (p.Module i) s) ∙ e in cc))
  created_members ids (entity.Func i) s = same_list (identities ids) (with_created (identities ids) (tree_at a (p.Func i)))
      (no_entity (identities ids) (tree_at a (p.Func i)) (λ e. let w : is_func ≡ is_type = sym (sort_stands a (p.Func i) s) ∙ e in cc))
  created_members ids (entity.Value (v.Primitive q)) s = λ i. refl
  created_members ids (entity.Value (v.Ty i)) s = same_list (identities ids) (with_created (identities ids) (tree_at a (p.Defined i)))
      (no_entity (identities ids) (tree_at a (p.Defined i)) (λ e. let w : is_value ≡ is_type = sym (sort_stands a (p.Defined i) s) ∙ e in cc))
  created_members ids (entity.Instance i) s = same_list (identities ids) (with_created (identities ids) (tree_at a (p.Instance i)))
      (no_entity (identities ids) (tree_at a (p.Instance i)) (λ e. let w : is_instance ≡ is_type = sym (sort_stands a (p.Instance i) s) ∙ e in cc))
  created_members ids (entity.Component i) s = same_list (identities ids) (with_created (identities ids) (tree_at a (p.Component i)))
      (no_entity (identities ids) (tree_at a (p.Component i)) (λ e. let w : is_component ≡ is_type = sym (sort_stands a (p.Component i) s) ∙ e in cc))

  -- ## Types and entities

  at_head : (ids : List Identity) (t : Type_tree) (h : Head Name Name) → head t ≡ h → passes ids t ≡ passes ids (node h (parts t))
  at_head ids (node x ps) h e = ap (λ (y : Head Name Name). passes ids (node y ps)) e

  pub module_passes : (ids : List Identity) (i : ComponentCoreModuleTypeId) → Stands a (p.Module i) → passes ids (tree_at a (p.Module i)) ≡ true
  module_passes ids i s = at_head ids (tree_at a (p.Module i)) (head_of i.index (n.Module s.0)) (head_in a.nodes i.index (n.Module s.0) s.1)

  pub component_passes : (ids : List Identity) (i : ComponentTypeId) → Stands a (p.Component i) → passes ids (tree_at a (p.Component i)) ≡ true
  component_passes ids i s = at_head ids (tree_at a (p.Component i)) (head_of i.index (n.Component s.0)) (head_in a.nodes i.index (n.Component s.0) s.1)
