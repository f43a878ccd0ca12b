-- What joins of an entity: as it is, or an instance.
use Rattle.std.proofs.Common.{◌≡◌, ℕ, ◌≤◌, List, [], ◌∷◌, refl, sym, ◌∙◌, ap, subst, arith, append-nil, Bool, true, false, Some, None, ◌⊎◌, inl, inr, ⊎_elim}
use Rattle.std.specs.Prelude.{Option, All}
use Rattle.std.proofs.lemmas.Bool.{false≢true}
use Rattle.std.proofs.lemmas.List.Elements.{All-nil, All-cons, All-weaker}
use Rattle.wcv_core.specs.Names.{Name, Place, number}
use Rattle.wcv_types.specs.Arena.{Arena}
use Rattle.wcv_types.specs.ComponentTrees.{ResourceStands}
use Rattle.wcv_types.specs.Entities.{entity_tree, EntityStands}
use Rattle.wcv_types.specs.Paths.{PathLeadsTo}
use Rattle.wcv_types.specs.Replacing.{changed_in, new_head, replaced_in}
use Rattle.wcv_types.specs.Resources.{owns}
use Rattle.wcv_types.specs.Standing.{Extends}
use Rattle.wcv_types.specs.Tree.{nothing, primitive, resource, defined, func, instance, component, type_entity, core_module, core_instance, core_type, core_item, node, sort, is_instance, head, exports, owned}
use Rattle.wcv_types.specs.Unfold.{Type_tree, tree_at, trees}
use Rattle.wcv_types.specs.declared.ids.ComponentInstanceTypeId.{ComponentInstanceTypeId}
use Rattle.wcv_types.specs.declared.ids.Part.TheVariants as part
use Rattle.wcv_types.specs.declared.ids.ResourceId.{ResourceId}
use Rattle.wcv_types.specs.declared.shapes.ComponentEntityType.{ComponentEntityType}
use Rattle.wcv_types.specs.declared.shapes.ComponentEntityType.TheVariants as entity
use Rattle.wcv_types.proofs.Grown.{extends_refl, extends_trans}
use Rattle.wcv_types.proofs.Unfolding.{sort_stands}
use Rattle.wcv_lower.specs.Checks.{Checks, IsFree}
use Rattle.wcv_lower.specs.Given.{GivenNames, names_of, none_given, both_given, GivesAt}
use Rattle.wcv_lower.specs.Names.{Names, Under}
use Rattle.wcv_lower.specs.NewTypes.{owned_anew, instance_tree}
use Rattle.wcv_lower.specs.Owned.{OwnsApart}
use Rattle.wcv_lower.specs.Readers.{Maker}
use Rattle.wcv_lower.specs.Step.{Brought, brought_at}
use Rattle.wcv_lower.specs.Trees.{tree_reader, tree_maker}
use Rattle.wcv_spaces.specs.Bringing.{LeadsWithin, EntityOpened, Found}
use Rattle.wcv_instantiate.specs.Instances.{InstanceMade, EntityMayOpen}
use Rattle.wcv_spaces.specs.Looking.{introduced_id, introduced_in, created_reference}
use Rattle.wcv_spaces.specs.Promises.{numbers_of, is_instance_entity, EntityAlone}
use Rattle.wcv_spaces.specs.declared.new_entity.NewEntity.{NewEntity}
use Rattle.wcv_instantiate.specs.declared.instances.NewInstance.{NewInstance}
use Rattle.wcv_spaces.proofs.BroughtPaths.{introduced_type, introduced_stands}
use Rattle.wcv_spaces.proofs.Brought.{as_it_is_at, instance_at, as_new, brought_same}
use Rattle.wcv_spaces.proofs.Found.{Brings, Looked}
use Rattle.wcv_spaces.proofs.StaysAlone.{stays_at}

-- ## As it is

module _ (a : Arena) (x : ComponentEntityType) (h : EntityStands a x) where
  introduced_here : (o : Option ResourceId) → introduced_id x ≡ o → All (λ (r : ResourceId × List ℕ). ResourceStands a r.0) (introduced_in o) ×
      All (λ (r : ResourceId × List ℕ). LeadsWithin r.1 (number r.0.index) (entity_tree (trees a.nodes) x)) (introduced_in o) × All (λ (r : ResourceId × List ℕ). (introduced_id x ≡ Some r.0) ⊎ (a.resources ≤ r.0.index)) (introduced_in o)
  introduced_here None e = (All-nil _, All-nil _, All-nil _)
  introduced_here (Some r) e = (
    All-cons (λ (r : ResourceId × List ℕ). ResourceStands a r.0) (r, []) [] (introduced_stands a x r e h) (All-nil _),
    All-cons (λ (r : ResourceId × List ℕ). LeadsWithin r.1 (number r.0.index) (entity_tree (trees a.nodes) x)) (r, []) [] (introduced_type (trees a.nodes) x r e) (All-nil _),
    All-cons (λ (r : ResourceId × List ℕ). (introduced_id x ≡ Some r.0) ⊎ (a.resources ≤ r.0.index)) (r, []) [] (inl e) (All-nil _),
  )

  new_opened : EntityAlone a x → EntityOpened a a x (as_new x)
  new_opened e =
      let w = introduced_here (introduced_id x) refl in
      record {
        grown = extends_refl a;
        core = refl;
        given_names = λ p. none_given;
        given = λ p. record { resources = tt; identities = tt };
        brought = λ p. stays_at a (names_of none_given) p x h e ∙ brought_same a x h;
        bare = λ k. (refl, λ p. refl);
        may_join = record { stands = h; resources = w.0; lead = w.1 };
        fresh = w.2;
        created = refl;
      }

  -- what owns nothing joins as it is
  pub bare_opened : (n : NewEntity) → EntityAlone a x → n.ty ≡ x → n.resources ≡ introduced_in (introduced_id x) → EntityOpened a a x n
  bare_opened n e t r =
      let is : n ≡ as_new x = λ j. record { ty = t j; resources = r j } in
      subst (EntityOpened a a x) (sym is) (new_opened e)

-- what owns nothing may be opened
alone_apart : (t : Type_tree) → sort t ≡ is_instance → owned t ≡ [] → OwnsApart t
alone_apart (node (instance i own) ps) s e = λ r k. absurd (false≢true (ap (λ (rs : List Name). owns (instance i rs) r) (sym e) ∙ k))
alone_apart (node nothing ps) s e = absurd (cc)
alone_apart (node (primitive q) ps) s e = absurd (cc)
alone_apart (node (resource q n) ps) s e = absurd (cc)
alone_apart (node (defined i k) ps) s e = absurd (cc)
alone_apart (node (func i b) ps) s e = absurd (cc)
alone_apart (node (component i ins outs) ps) s e = absurd (cc)
alone_apart (node type_entity ps) s e = absurd (cc)
alone_apart (node (core_module i n) ps) s e = absurd (cc)
alone_apart (node (core_instance i n) ps) s e = absurd (cc)
alone_apart (node (core_type i) ps) s e = absurd (cc)
alone_apart (node (core_item x) ps) s e = absurd (cc)

pub alone_opens : (b : Arena) (x : ComponentEntityType) → EntityStands b x → EntityAlone b x → EntityMayOpen b x
alone_opens b (entity.Instance i) h o = alone_apart (tree_at b (part.Instance i)) (sort_stands b (part.Instance i) h) (o refl)
alone_opens b (entity.Module i) h o = tt
alone_opens b (entity.Func i) h o = tt
alone_opens b (entity.Value v) h o = tt
alone_opens b (entity.Ty c r) h o = tt
alone_opens b (entity.Component i) h o = tt

-- ## An instance

-- an instance owns nothing
owns_nothing : (names : Names) (p : Place) (t : Type_tree) (r : Name) → sort t ≡ is_instance → owns (head (instance_tree names p t)) r ≡ false
owns_nothing names p (node (instance i own) ps) r e = go (changed_in (owned_anew names p own) ps)
  where
    go : (b : Bool) → owns (head (node (new_head (owned_anew names p own) b (instance i [])) (replaced_in (owned_anew names p own) ps))) r ≡ false
    go true = refl
    go false = refl
owns_nothing names p (node nothing ps) r e = absurd (cc)
owns_nothing names p (node (primitive q) ps) r e = absurd (cc)
owns_nothing names p (node (resource q s) ps) r e = absurd (cc)
owns_nothing names p (node (defined i k) ps) r e = absurd (cc)
owns_nothing names p (node (func i b) ps) r e = absurd (cc)
owns_nothing names p (node (component i ins outs) ps) r e = absurd (cc)
owns_nothing names p (node type_entity ps) r e = absurd (cc)
owns_nothing names p (node (core_module i n) ps) r e = absurd (cc)
owns_nothing names p (node (core_instance i n) ps) r e = absurd (cc)
owns_nothing names p (node (core_type i) ps) r e = absurd (cc)
owns_nothing names p (node (core_item x) ps) r e = absurd (cc)

module _ (a b : Arena) (i : ComponentInstanceTypeId) (m : NewInstance) (g : Extends a b) (h : EntityStands a (entity.Instance i)) (w : InstanceMade a b i m) where
  abbrev made : Type_tree
  made = tree_at b (part.Instance m.ty)

  none_owned : (r : Name) → owns (head made) r ≡ false
  none_owned r =
      ap (λ (x : Brought tree_reader). owns (head x.entity) r) (sym (w.brought [])) ∙ owns_nothing (names_of (w.given_names [])) [] (tree_at a (part.Instance i)) r (sort_stands a (part.Instance i) h)

  within : (p : List ℕ) (r : Name) → PathLeadsTo p r (exports made) → LeadsWithin p r made
  within [] r k = absurd k
  within (j ∷ p) r k = ((sort_stands b (part.Instance m.ty) w.stands, none_owned r), k)

  pub instance_opened : EntityOpened a b (entity.Instance i) (record { ty = entity.Instance m.ty; resources = m.resources })
  instance_opened = record {
    grown = g;
    core = w.core;
    given_names = w.given_names;
    given = w.given;
    brought = λ p. instance_at a (tree_maker (names_of (w.given_names p)) p) i h ∙ w.brought p;
    bare = λ e. absurd (false≢true (sym e));
    may_join = record {
      stands = w.stands;
      resources = w.below;
      lead = All-weaker (λ (r : ResourceId × List ℕ). PathLeadsTo r.1 (number r.0.index) (exports made)) (λ (r : ResourceId × List ℕ). LeadsWithin r.1 (number r.0.index) made) (λ r k. within r.1 (number r.0.index) k) m.resources w.lead;
    };
    fresh = All-weaker (λ (r : ResourceId × List ℕ). a.resources ≤ r.0.index) (λ (r : ResourceId × List ℕ). (introduced_id (entity.Instance i) ≡ Some r.0) ⊎ (a.resources ≤ r.0.index)) (λ r k. inr k) m.resources w.fresh;
    created = refl;
  }

-- ## What was looked up, and then opened

pub both_none : (n : GivenNames) → both_given n none_given ≡ n
both_none n = λ j. record { resources = append-nil n.resources j; identities = append-nil n.identities j }

module _ (a m b : Arena) (x : ComponentEntityType) (n : NewEntity) (looked : Maker tree_reader → Checks) (brings : Brings) (w : Looked a m x looked brings) (o : EntityOpened m b x n) where
  all_fresh : All (λ (r : ResourceId × List ℕ). a.resources ≤ r.0.index) n.resources
  all_fresh =
      All-weaker (λ (r : ResourceId × List ℕ). (introduced_id x ≡ Some r.0) ⊎ (m.resources ≤ r.0.index)) (λ (r : ResourceId × List ℕ). a.resources ≤ r.0.index)
      (λ r k. ⊎_elim (λ e. w.fresh r.0 e) (λ l. omega (arith, w.grown.resources, l)) k) n.resources o.fresh

  is_stamped : All (λ q. a.stamps ≤ q.stamp) (created_reference n.ty)
  is_stamped = subst (All (λ q. a.stamps ≤ q.stamp)) (sym o.created) w.stamped

  -- what is brought where those names are given
  abbrev AreBrought : Place → GivenNames → Type 0
  AreBrought p names = let mk : Maker tree_reader = tree_maker (names_of names) p in brings mk ≡ Some (brought_at mk (entity_tree (trees m.nodes) x))

  -- there is no cause by those names
  abbrev AreFree : Place → GivenNames → Type 0
  AreFree p names = IsFree (looked (tree_maker (names_of names) p))

  pub opened_found : Found a b n looked brings
  opened_found = go (is_instance_entity x) refl
    where
      go : (e : Bool) → is_instance_entity x ≡ e → Found a b n looked brings
      go true e =
          let i = w.instance e in
          record {
            grown = extends_trans a m b w.grown o.grown;
            core = o.core ∙ w.core;
            given_names = o.given_names;
            given = λ p. subst (λ (y : Arena). GivesAt (Under p) (numbers_of y) (numbers_of b) (o.given_names p)) i.0 (o.given p);
            brought = λ p. subst (λ (g : GivenNames). AreBrought p (both_given g (o.given_names p))) (i.1 p) (w.brought p (o.given_names p)) ∙ ap Some (o.brought p);
            free = λ p. subst (λ (g : GivenNames). AreFree p (both_given g (o.given_names p))) (i.1 p) (w.free p (o.given_names p));
            may_join = o.may_join;
            fresh = all_fresh;
            stamped = is_stamped;
          }
      go false e =
          let same = o.bare e in
          record {
            grown = extends_trans a m b w.grown o.grown;
            core = o.core ∙ w.core;
            given_names = w.given_names;
            given = λ p. subst (λ (y : Arena). GivesAt (Under p) (numbers_of a) (numbers_of y) (w.given_names p)) (sym same.0) (w.given p);
            brought = λ p. subst (AreBrought p) (both_none (w.given_names p)) (w.brought p none_given) ∙
                ap Some (as_it_is_at m (tree_maker (names_of (w.given_names p)) p) x w.stands e ∙ sym (as_it_is_at m (tree_maker (names_of (o.given_names p)) p) x w.stands e) ∙ o.brought p);
            free = λ p. subst (AreFree p) (both_none (w.given_names p)) (w.free p none_given);
            may_join = o.may_join;
            fresh = all_fresh;
            stamped = is_stamped;
          }
