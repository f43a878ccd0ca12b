-- A walk that finds the first paths to the resources of a set.
use Rattle.std.proofs.Common.{◌≡◌, ℕ, zero, suc, ◌+◌, ◌<◌, List, [], ◌∷◌, ◌++◌, length, drop, drop-cons, get_or, refl, sym, ◌∙◌, ap, subst, add-one, append-nil, append_assoc, Bool, true, false, ◌&&◌, cond, eq-eqb, Some, None, arith, ⊎_elim}
use Rattle.std.specs.Prelude.{Option, not, slice_get}
use Rattle.std.specs.Option.{option_map}
use Rattle.std.proofs.lemmas.Bool.{false≢true, eqb-true}
use Rattle.std.proofs.lemmas.List.Elements.{All-nil}
use Rattle.wcv_core.specs.Names.{Name, number, member}
use Rattle.wcv_types.specs.Arena.{Arena}
use Rattle.wcv_types.specs.Entities.{entity_tree, entry_trees, EntityStands}
use Rattle.wcv_walks.specs.ExplicitPaths.{is_type_of, ends_at, path_to, sought, Finds, AllFound}
use Rattle.wcv_types.specs.FirstPath.{or_else, path_at, path_from, first_path}
use Rattle.wcv_types.specs.Gathering.{Gains}
use Rattle.wcv_types.specs.Resources.{owns}
use Rattle.wcv_types.specs.Sets.{same_resource, has_resource, has_place, with_place, resource_names}
use Rattle.wcv_types.specs.Tree.{Text, head}
use Rattle.wcv_types.specs.Unfold.{Type_tree, tree_at, tree_in, trees, unfolded}
use Rattle.wcv_types.specs.declared.arena.Node.TheVariants as n
use Rattle.wcv_types.specs.declared.ids.ComponentAnyTypeId.{ComponentAnyTypeId}
use Rattle.wcv_types.specs.declared.ids.ComponentInstanceTypeId.{ComponentInstanceTypeId}
use Rattle.wcv_types.specs.declared.ids.Part.TheVariants as p
use Rattle.wcv_types.specs.declared.ids.ResourceId.{ResourceId}
use Rattle.wcv_types.specs.declared.instance_type.ComponentInstanceType.{ComponentInstanceType}
use Rattle.wcv_types.specs.declared.item_map.ComponentItem.{ComponentItem}
use Rattle.wcv_types.specs.declared.shapes.ComponentEntityType.{ComponentEntityType}
use Rattle.wcv_types.specs.declared.shapes.ComponentEntityType.TheVariants as entity
use Rattle.wcv_types.proofs.Gaining.{has-member, or_left, or_right, gains_as}
use Rattle.wcv_types.proofs.Lists.{some-inj}
use Rattle.wcv_walks.proofs.Leading.{type_leads, others_lead, instance_leads}
use Rattle.wcv_types.proofs.Placed.{place_found, place_put}
use Rattle.wcv_types.proofs.Unfolding.{head_in}

abbrev Found : Type 0
Found = List (ResourceId × List ℕ)

abbrev Firsts : Type 0
Firsts = ResourceId → Option (List ℕ)

-- a path behind a way, where it is looked for
abbrev behind : Bool → List ℕ → Option (List ℕ) → Option (List ℕ)
behind b way o = cond b (option_map (λ p. way ++ p) o) None

-- ## Nothing is found

stays : (b : Bool) (way : List ℕ) (o x : Option (List ℕ)) → (b ≡ true → o ≡ None → x ≡ None) → o ≡ or_else o (behind b way x)
stays b way (Some p) x h = refl
stays true way None x h = sym (ap (option_map (λ (p : List ℕ). way ++ p)) (h refl refl))
stays false way None x h = refl

-- where all that can be found was found
pub finds_nothing : (ids : List ResourceId) (way : List ℕ) (f : Firsts) (ps : Found) → ((r : ResourceId) → has_resource ids r ≡ true → path_to r ps ≡ None → f r ≡ None) → Finds ids way f ps ps
finds_nothing ids way f ps h r = stays (has_resource ids r) way (path_to r ps) (f r) (h r)

-- the same, said in other words
pub finds_as : (ids : List ResourceId) (way : List ℕ) (f g : Firsts) (old new : Found) → ((r : ResourceId) → f r ≡ g r) → Finds ids way f old new → Finds ids way g old new
finds_as ids way f g old new e h r = h r ∙ ap (λ (o : Option (List ℕ)). or_else (path_to r old) (sought ids way r o)) (e r)

-- ## What is left

is_none : (n o x : Option (List ℕ)) (way : List ℕ) → n ≡ or_else o (behind true way x) → n ≡ None → x ≡ None
is_none n o None way h e = refl
is_none n None (Some p) way h e = let w : Some (way ++ p) ≡ None = sym h ∙ e in cc
is_none n (Some q) (Some p) way h e = let w : Some q ≡ None = sym h ∙ e in cc

-- a resource that has no path yet has none there
pub none_there : (ids : List ResourceId) (way : List ℕ) (f : Firsts) (old new : Found) → Finds ids way f old new → (r : ResourceId) → has_resource ids r ≡ true → path_to r new ≡ None → f r ≡ None
none_there ids way f old new h r b e = is_none (path_to r new) (path_to r old) (f r) way (h r ∙ ap (λ (c : Bool). or_else (path_to r old) (behind c way (f r))) b) e

module _ (a : Arena) (ids : List ResourceId) where
  abbrev Settled : Found → ℕ → Type 0
  Settled ps k = (r : ResourceId) → has_resource ids r ≡ true → path_to r ps ≡ None → path_at (number r.index) (tree_in (trees a.nodes) k) ≡ None

  pub none_seen : (ks : List ℕ) (ps : Found) → ks ≡ [] → AllFound a ids ks ps
  none_seen ks ps e = subst (λ (qs : List ℕ). AllFound a ids qs ps) (sym e) (All-nil (Settled ps))

  pub seen_settled : (ks : List ℕ) (ps : Found) (k : ℕ) → AllFound a ids ks ps → has_place ks k ≡ true → Settled ps k
  seen_settled ks ps k h e = place_found (Settled ps) ks k h e

  pub settled_push : (ks : List ℕ) (ps : Found) (k : ℕ) → AllFound a ids ks ps → Settled ps k → AllFound a ids (with_place ks k) ps
  settled_push ks ps k h s = place_put (Settled ps) ks k h s

-- ## One resource

path_push : (r q : ResourceId) (p : List ℕ) (ps : Found) → path_to r (ps ++ (q, p) ∷ []) ≡ or_else (path_to r ps) (cond (same_resource r q) (Some p) None)
path_push r q p [] = refl
path_push r q p (x ∷ ps) = go (same_resource r x.0) (path_push r q p ps)
  where
    go : (b : Bool) → path_to r (ps ++ (q, p) ∷ []) ≡ or_else (path_to r ps) (cond (same_resource r q) (Some p) None) →
        cond b (Some x.1) (path_to r (ps ++ (q, p) ∷ [])) ≡ or_else (cond b (Some x.1) (path_to r ps)) (cond (same_resource r q) (Some p) None)
    go true w = refl
    go false w = w

-- its path is found where it had none
pub finds_one : (ids : List ResourceId) (way : List ℕ) (q : ResourceId) (old new : Found) → has_resource ids q ≡ true → new ≡ old ++ (q, way) ∷ [] → Finds ids way (λ r. ends_at (same_resource r q)) old new
finds_one ids way q old new h e r = ap (path_to r) e ∙ path_push r q way old ∙ ap (or_else (path_to r old)) (go (same_resource r q) refl)
  where
    go : (c : Bool) → same_resource r q ≡ c → cond c (Some way) None ≡ sought ids way r (ends_at c)
    go false w = none (has_resource ids r)
      where
        none : (b : Bool) → None ≡ behind b way None
        none true = refl
        none false = refl
    go true w =
        let b : has_resource ids r ≡ true = ap (λ (k : ℕ). has_resource ids (record { index = k })) (eqb-true r.index q.index w) ∙ h in
        ap Some (sym (append-nil way)) ∙ ap (λ (c : Bool). behind c way (Some [])) (sym b)

-- ## Entries

-- what is left to be found from the k-th entry on, with what was found, is what is to be found
abbrev pub Rest : List ResourceId → List ℕ → List Type_tree → List (Text × ComponentItem) → ℕ → Found → Found → Type 0
Rest ids way ts es k old now = (r : ResourceId) →
    or_else (path_to r now) (sought ids way r (path_from (number r.index) k (entry_trees ts (drop k es)))) ≡ or_else (path_to r old) (sought ids way r (first_path (number r.index) (entry_trees ts es)))

one_more : (b : Bool) (way : List ℕ) (k : ℕ) (now next x rest : Option (List ℕ)) → next ≡ or_else now (behind b (way ++ k ∷ []) x) → or_else next (behind b way rest) ≡ or_else now (behind b way (or_else (option_map (λ q. k ∷ q) x) rest))
one_more b way k now next x rest h = ap (λ (o : Option (List ℕ)). or_else o (behind b way rest)) h ∙ go b now x
  where
    go : (b : Bool) (now x : Option (List ℕ)) → or_else (or_else now (behind b (way ++ k ∷ []) x)) (behind b way rest) ≡ or_else now (behind b way (or_else (option_map (λ q. k ∷ q) x) rest))
    go b (Some p) x = refl
    go false None x = refl
    go true None None = refl
    go true None (Some q) = ap Some (append_assoc way (k ∷ []) q)

pub rest_next : (ids : List ResourceId) (way : List ℕ) (ts : List Type_tree) (es : List (Text × ComponentItem)) (k : ℕ) (e : Text × ComponentItem) (old now next : Found) → k < length es → e ≡ get_or es k e →
    Finds ids (way ++ k ∷ []) (λ r. path_at (number r.index) (entity_tree ts e.1.ty)) now next → Rest ids way ts es k old now → Rest ids way ts es (k + 1) old next
rest_next ids way ts es k e old now next w i f h r =
    let here : drop k es ≡ e ∷ drop (suc k) es = drop-cons es k e w ∙ ap (λ (x : Text × ComponentItem). x ∷ drop (suc k) es) (sym i) in
    ap (λ (j : ℕ). or_else (path_to r next) (sought ids way r (path_from (number r.index) j (entry_trees ts (drop j es))))) (add-one k) ∙
    one_more (has_resource ids r) way k (path_to r now) (path_to r next) (path_at (number r.index) (entity_tree ts e.1.ty)) (path_from (number r.index) (suc k) (entry_trees ts (drop (suc k) es))) (f r) ∙
    ap (λ (ds : List (Text × ComponentItem)). or_else (path_to r now) (sought ids way r (path_from (number r.index) k (entry_trees ts ds)))) (sym here) ∙ h r

-- ## Owners

empty : {X : Type 0} (xs : List X) → length xs ≡ 0 → xs ≡ []
empty [] e = refl
empty (x ∷ xs) e = absurd (omega (arith, e))

-- an instance that owns nothing
pub owns_none : (own : List ResourceId) (r : ResourceId) (o : Option (List ℕ)) → length own ≡ 0 → o ≡ cond (has_resource own r) None o
owns_none own r o e = ap (λ (qs : List ResourceId). cond (has_resource qs r) None o) (sym (empty own e))

-- those of the set that it does not own
abbrev LeftOut : List ResourceId → List ResourceId → Name → Type 0
LeftOut ids own r = (member r (resource_names ids) ≡ true) × (member r (resource_names own) ≡ false)

left_has : (ids own left : List ResourceId) (r : ResourceId) → Gains (LeftOut ids own) [] left → has_resource left r ≡ (has_resource ids r && not (has_resource own r))
left_has ids own left r g = go (has_resource left r) (has_resource ids r) (has_resource own r) refl refl refl
  where
    go : (x b c : Bool) → has_resource left r ≡ x → has_resource ids r ≡ b → has_resource own r ≡ c → x ≡ (b && not c)
    go true b c e f h =
        ⊎_elim (λ (w : false ≡ true). absurd (false≢true w))
        (λ (w : LeftOut ids own (number r.index)).
        let i : b ≡ true = sym f ∙ has-member ids r ∙ w.0 in
        let o : c ≡ false = sym h ∙ has-member own r ∙ w.1 in
        λ j. sym i j && not (sym o j))
        (g.only (number r.index) (sym (has-member left r) ∙ e))
    go false true false e f h = sym e ∙ has-member left r ∙ g.all (number r.index) (sym (has-member ids r) ∙ f, sym (has-member own r) ∙ h)
    go false true true e f h = refl
    go false false c e f h = refl

pub finds_left : (ids own left : List ResourceId) (way : List ℕ) (f : Firsts) (old new : Found) → Gains (LeftOut ids own) [] left → Finds left way f old new → Finds ids way (λ r. cond (has_resource own r) None (f r)) old new
finds_left ids own left way f old new g h r =
    h r ∙ ap (λ (b : Bool). or_else (path_to r old) (behind b way (f r))) (left_has ids own left r g) ∙ ap (or_else (path_to r old)) (go (has_resource ids r) (has_resource own r))
  where
    go : (b c : Bool) → behind (b && not c) way (f r) ≡ behind b way (cond c None (f r))
    go true true = refl
    go true false = refl
    go false c = refl

-- ## Entities

module _ (a : Arena) (ids : List ResourceId) (way : List ℕ) where
  pub finds_type : (x : ComponentEntityType) (c q : ComponentAnyTypeId) (old new : Found) → x ≡ entity.Ty c q → EntityStands a x → Finds ids way (λ r. ends_at (is_type_of r q)) old new →
      Finds ids way (λ r. path_at (number r.index) (entity_tree (trees a.nodes) x)) old new
  finds_type x c q old new e s h =
      finds_as ids way (λ r. ends_at (is_type_of r q)) (λ r. path_at (number r.index) (entity_tree (trees a.nodes) x)) old new
      (λ r. type_leads a c q r (subst (EntityStands a) e s).1 ∙ ap (λ (y : ComponentEntityType). path_at (number r.index) (entity_tree (trees a.nodes) y)) (sym e)) h

  pub finds_no_entity : (x : ComponentEntityType) (ps : Found) → EntityStands a x → ((c q : ComponentAnyTypeId) → x ≡ entity.Ty c q → ⊥) → ((i : ComponentInstanceTypeId) → x ≡ entity.Instance i → ⊥) →
      Finds ids way (λ r. path_at (number r.index) (entity_tree (trees a.nodes) x)) ps ps
  finds_no_entity x ps s not_type not_instance = finds_nothing ids way (λ r. path_at (number r.index) (entity_tree (trees a.nodes) x)) ps (λ r b e. others_lead a x (number r.index) s not_type not_instance)

  -- ## Instances

  module _ (i : ComponentInstanceTypeId) (s : ComponentInstanceType) (u : tree_at a (p.Instance i) ≡ unfolded a i.index (n.Instance s)) where
    abbrev Within : Firsts
    Within r = path_at (number r.index) (tree_at a (p.Instance i))

    abbrev Among : List (Text × ComponentItem) → Firsts
    Among es r = first_path (number r.index) (entry_trees (trees a.nodes) es)

    pub finds_within : (es : List (Text × ComponentItem)) (old new : Found) → es ≡ s.exports → length s.defined_resources ≡ 0 → Finds ids way (Among es) old new → Finds ids way Within old new
    finds_within es old new e z h =
        finds_as ids way (Among es) Within old new
        (λ r. ap (λ (ds : List (Text × ComponentItem)). Among ds r) e ∙ owns_none s.defined_resources r (Among s.exports r) z ∙ sym (instance_leads a i s r u)) h

    pub finds_within_owner : (es : List (Text × ComponentItem)) (left : List ResourceId) (old new : Found) → es ≡ s.exports → slice_get a.nodes i.index ≡ Some (n.Instance s) →
        Gains (λ r. (member r (resource_names ids) ≡ true) × (owns (head (tree_at a (p.Instance i))) r ≡ false)) [] left → Finds left way (Among es) old new → Finds ids way Within old new
    finds_within_owner es left old new e found g h =
        finds_as ids way (λ r. cond (has_resource s.defined_resources r) None (Among es r)) Within old new
        (λ r. ap (λ (ds : List (Text × ComponentItem)). cond (has_resource s.defined_resources r) None (Among ds r)) e ∙ sym (instance_leads a i s r u)) (finds_left ids s.defined_resources left way (Among es) old new without h)
      where
        own : (r : Name) → owns (head (tree_at a (p.Instance i))) r ≡ member r (resource_names s.defined_resources)
        own r = ap (λ o. owns o r) (head_in a.nodes i.index (n.Instance s) found)

        without : Gains (LeftOut ids s.defined_resources) [] left
        without =
            gains_as (λ r. (member r (resource_names ids) ≡ true) × (owns (head (tree_at a (p.Instance i))) r ≡ false)) (LeftOut ids s.defined_resources) [] left (λ r w. (w.0, sym (own r) ∙ w.1)) (λ r w. (w.0, own r ∙ w.1)) g

-- ## The set

has_at : (rs : List ResourceId) (k : ℕ) (r : ResourceId) → slice_get rs k ≡ Some r → has_resource rs r ≡ true
has_at [] k r h = absurd (let w = h in cc)
has_at (q ∷ rs) zero r h = or_left (same_resource r q) (has_resource rs r) (eq-eqb r.index q.index (ap (λ (x : ResourceId). x.index) (sym (some-inj h))))
has_at (q ∷ rs) (suc k) r h = or_right (same_resource r q) (has_resource rs r) (has_at rs k r h)

-- from nothing the walk finds the first path to each resource of the set
pub found_first : (ids : List ResourceId) (way : List ℕ) (f : Firsts) (old new : Found) (k : ℕ) (r : ResourceId) → way ≡ [] → old ≡ [] → Finds ids way f old new → slice_get ids k ≡ Some r → path_to r new ≡ f r
found_first ids way f old new k r w o h e =
    h r ∙ ap (λ (ps : Found). or_else (path_to r ps) (sought ids way r (f r))) o ∙ ap (λ (b : Bool). behind b way (f r)) (has_at ids k r e) ∙ ap (λ (xs : List ℕ). behind true xs (f r)) w ∙ same (f r)
  where
    same : (o : Option (List ℕ)) → behind true [] o ≡ o
    same None = refl
    same (Some p) = refl
