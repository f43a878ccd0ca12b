-- Types under a new identity.
use Rattle.std.proofs.Common.{◌≡◌, ℕ, suc, [], length, refl, sym, ◌∙◌, ap, subst, arith, append-nil}
use Rattle.std.specs.Prelude.{slice_get, Some, Result, Ok, Err, IfOk, OnOk}
use Rattle.std.proofs.lemmas.Option.{same_Some}
use Rattle.wcv_core.specs.Names.{Name, number, stamp}
use Rattle.wcv_types.specs.Arena.{Arena}
use Rattle.wcv_types.specs.Renewed.{renewed, next_name, next_id, id_with, with_stamp, NodeAgain, OneMore, Renewed}
use Rattle.wcv_types.specs.Standing.{Stands, with_node, Extends}
use Rattle.wcv_types.specs.Measure.{size, depth}
use Rattle.wcv_types.specs.Rename.{rename, without_identities}
use Rattle.wcv_types.specs.Resources.{substitute}
use Rattle.wcv_types.specs.Tree.{resource, Parts, node}
use Rattle.wcv_types.specs.Unfold.{Type_tree, any_part, rank, head_of, slots_of, slot_parts, tree_of, tree_in, tree_at, trees}
use Rattle.wcv_types.specs.declared.arena.Node.{Node}
use Rattle.wcv_types.specs.declared.arena.Node.TheVariants as n
use Rattle.wcv_types.specs.declared.ids.AliasableResourceId.{AliasableResourceId}
use Rattle.wcv_types.specs.declared.ids.ComponentAnyTypeId.{ComponentAnyTypeId}
use Rattle.wcv_types.specs.declared.ids.ComponentAnyTypeId.TheVariants as any
use Rattle.wcv_types.specs.declared.ids.ComponentDefinedTypeId.{ComponentDefinedTypeId}
use Rattle.wcv_types.specs.declared.ids.ComponentFuncTypeId.{ComponentFuncTypeId}
use Rattle.wcv_types.specs.declared.ids.ComponentInstanceTypeId.{ComponentInstanceTypeId}
use Rattle.wcv_types.specs.declared.ids.ComponentTypeId.{ComponentTypeId}
use Rattle.wcv_types.specs.declared.ids.Part.TheVariants as p
use Rattle.wcv_types.proofs.Grown.{extends_push, keeps_trees, is_last, length-trees, tree_at_last}

-- ## The new type

module _ (a b : Arena) where
  tree_again : (x : Node) (k : ℕ) (t : Type_tree) → tree_in (trees a.nodes) k ≡ node (head_of k x) (slot_parts (trees a.nodes) (slots_of x)) → t ≡ tree_of (trees a.nodes) x → t ≡ renewed (number (length a.nodes)) (tree_in (trees a.nodes) k)
  tree_again x k t u e = e ∙ again x ∙ ap (renewed (number (length a.nodes))) (sym u)
    where
      ps : Node → Parts Name Name
      ps y = slot_parts (trees a.nodes) (slots_of y)

      again : (y : Node) → tree_of (trees a.nodes) y ≡ renewed (number (length a.nodes)) (node (head_of k y) (slot_parts (trees a.nodes) (slots_of y)))
      again (n.Defined s) = λ j. node (head_of (length-trees a.nodes j) (n.Defined s)) (ps (n.Defined s))
      again y = λ j. node (head_of (length-trees a.nodes j) y) (ps y)

  grown_by : (x : Node) → b ≡ with_node a x → Extends a b
  grown_by x e = subst (Extends a) (sym e) (extends_push a x)

  node_renewed : (id made : ComponentAnyTypeId) (k : ℕ) (m : NodeAgain a b k) → OneMore a b id → made ≡ next_id a id → Stands b (any_part made) → rank (any_part made) ≡ suc (length a.nodes) → tree_at a (any_part id) ≡ tree_in (trees a.nodes) k →
      next_name a id ≡ number (length a.nodes) → Renewed a b id made
  node_renewed id made k m one is s r e w =
      let grown : Extends a b = grown_by m.shape m.added in
      let t : tree_at b (any_part made) ≡ renewed (number (length a.nodes)) (tree_in (trees a.nodes) k) = tree_again m.shape k (tree_at b (any_part made)) m.unfolds (tree_at_last a b m.shape (any_part made) m.added r) in
      record { arena = one; made_is = is; stands = s; tree = t ∙ (λ j. renewed (sym w j) (sym e j)); grown = grown; stay = keeps_trees a b grown }

  -- the node that is made again is the last
  last_is : (x : Node) (k j : ℕ) (m : NodeAgain a b k) → slice_get a.nodes k ≡ Some x → j ≡ length a.nodes → slice_get b.nodes j ≡ Some x
  last_is x k j m h e =
      let shape_is : m.shape ≡ x = same_Some m.shape x (sym m.there ∙ h) in
      is_last a.nodes b.nodes x j (ap (λ (c : Arena). c.nodes) m.added ∙ ap (λ (y : Node). (with_node a y).nodes) shape_is) e

  pub renewed_defined : (i j : ComponentDefinedTypeId) → Stands a (p.Defined i) → NodeAgain a b i.index → j.index ≡ length a.nodes → Renewed a b (any.Defined i) (any.Defined j)
  renewed_defined i j s m e = node_renewed (any.Defined i) (any.Defined j) i.index m m (λ t. any.Defined (record { index = e t })) (s.0, last_is (n.Defined s.0) i.index j.index m s.1 e) (omega (arith, e)) refl refl

  pub renewed_func : (i j : ComponentFuncTypeId) → Stands a (p.Func i) → NodeAgain a b i.index → j.index ≡ length a.nodes → Renewed a b (any.Func i) (any.Func j)
  renewed_func i j s m e = node_renewed (any.Func i) (any.Func j) i.index m m (λ t. any.Func (record { index = e t })) (s.0, last_is (n.Func s.0) i.index j.index m s.1 e) (omega (arith, e)) refl refl

  pub renewed_instance : (i j : ComponentInstanceTypeId) → Stands a (p.Instance i) → NodeAgain a b i.index → j.index ≡ length a.nodes → Renewed a b (any.Instance i) (any.Instance j)
  renewed_instance i j s m e = node_renewed (any.Instance i) (any.Instance j) i.index m m (λ t. any.Instance (record { index = e t })) (s.0, last_is (n.Instance s.0) i.index j.index m s.1 e) (omega (arith, e)) refl refl

  pub renewed_component : (i j : ComponentTypeId) → Stands a (p.Component i) → NodeAgain a b i.index → j.index ≡ length a.nodes → Renewed a b (any.Component i) (any.Component j)
  renewed_component i j s m e = node_renewed (any.Component i) (any.Component j) i.index m m (λ t. any.Component (record { index = e t })) (s.0, last_is (n.Component s.0) i.index j.index m s.1 e) (omega (arith, e)) refl refl

  pub renewed_reference : (r : AliasableResourceId) (k : ℕ) → Stands a (p.Resource r) → b ≡ with_stamp a → k ≡ a.stamps → Renewed a b (any.Resource r) (any.Resource (record { resource = r.resource; stamp = k }))
  renewed_reference r k s m e =
      let more : Extends a (with_stamp a) = record { more = []; nodes = sym (append-nil a.nodes); groups = []; core = sym (append-nil a.core); resources = omega arith; stamps = omega arith } in
      let grown : Extends a b = subst (Extends a) (sym m) more in
      let stands : Stands (with_stamp a) (p.Resource (record { resource = r.resource; stamp = k })) = record { resource = s.resource; stamp = omega (arith, e) } in
      record {
        arena = m;
        made_is = λ t. any.Resource (record { resource = r.resource; stamp = e t });
        stands = subst (λ (c : Arena). Stands c (p.Resource (record { resource = r.resource; stamp = k }))) (sym m) stands;
        tree = λ t. renewed (stamp (e t)) (tree_at a (p.Resource r));
        grown = grown;
        stay = keeps_trees a b grown;
      }

  -- the id that is given, where memory lasts
  pub unique_is : {E : Type 0} (id one : ComponentAnyTypeId) (r : Result ℕ E) (P : Type 0) (n : ℕ) → id ≡ one → ((k : ℕ) → P → k ≡ n → Renewed a b one (id_with one k)) → OnOk r P → IfOk r (λ k. k ≡ n) →
      IfOk r (λ k. Renewed a b id (id_with id k))
  unique_is id one (Ok k) P n is f p e = subst (λ (i : ComponentAnyTypeId). Renewed a b i (id_with i k)) (sym is) (f k p e)
  unique_is id one (Err x) P n is f p e = tt

-- ## Trees under a new identity

pub renewed_unnamed : (j : Name) (t : Type_tree) → without_identities (renewed j t) ≡ without_identities t
renewed_unnamed j (node (resource r s) ps) = refl
renewed_unnamed j (node h ps) = refl

pub renewed_renamed : (f g : Name → Name) (j : Name) (t : Type_tree) → rename f g (renewed j t) ≡ renewed (g j) (rename f g t)
renewed_renamed f g j (node (resource r s) ps) = refl
renewed_renamed f g j (node h ps) = refl

pub renewed_substituted : (u : Name → Name) (j : Name) (t : Type_tree) → substitute u (renewed j t) ≡ renewed j (substitute u t)
renewed_substituted u j (node (resource r s) ps) = refl
renewed_substituted u j (node h ps) = refl

pub renewed_size : (j : Name) (t : Type_tree) → size (renewed j t) ≡ size t
renewed_size j (node (resource r s) ps) = refl
renewed_size j (node h ps) = refl

pub renewed_depth : (j : Name) (t : Type_tree) → depth (renewed j t) ≡ depth t
renewed_depth j (node (resource r s) ps) = refl
renewed_depth j (node h ps) = refl
