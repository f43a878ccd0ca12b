-- What is told of components inside others stays so while the arena grows, and is told of those that ended before and after.
use Rattle.std.proofs.Common.{◌≡◌, ℕ, List, [], ◌∷◌, ◌++◌, map, sym, ◌∙◌, ap, subst, append-nil, append_assoc, arith}
use Rattle.std.specs.Prelude.{All}
use Rattle.std.specs.List.{AllZip}
use Rattle.std.proofs.lemmas.List.Elements.{All-weaker}
use Rattle.wcv_core.specs.Names.{Place, number, deeper}
use Rattle.wcv_types.specs.Arena.{Arena}
use Rattle.wcv_types.specs.ComponentTrees.{ResourceStands, ComponentStands, PathsLead}
use Rattle.wcv_types.specs.Entities.{entity_slot, entry_name, entry_tree, entry_trees, EntryStands}
use Rattle.wcv_types.specs.Paths.{PathLeadsTo}
use Rattle.wcv_types.specs.Standing.{Extends}
use Rattle.wcv_types.specs.Tree.{Text, Extern_name}
use Rattle.wcv_types.specs.Unfold.{Type_tree, trees}
use Rattle.wcv_types.specs.declared.arena.Node.TheVariants as n
use Rattle.wcv_types.specs.declared.component_type.ComponentType.{ComponentType}
use Rattle.wcv_types.specs.declared.ids.Part.TheVariants as p
use Rattle.wcv_types.specs.declared.ids.ResourceId.{ResourceId}
use Rattle.wcv_types.specs.declared.item_map.ComponentItem.{ComponentItem}
use Rattle.wcv_types.proofs.Grown.{node_stays, same_tree}
use Rattle.wcv_spaces.proofs.Keeping.{same_mapped, same_slot, entity_more}
use Rattle.wcv_growth.specs.Nested.{Nested_types}
use Rattle.wcv_link.specs.Told.{IsKept, Told, Ended}
use Rattle.wcv_link.specs.declared.nesting.Nested.{Nested}
use Rattle.wcv_link.specs.declared.nesting.Nesting.{Nesting}

-- ## Two lists, place by place

module _ {A B : Type 0} (R : A → B → Type 0) where
  pub zip_append : (xs : List A) (ys : List B) (xs' : List A) (ys' : List B) → AllZip R xs ys → AllZip R xs' ys' → AllZip R (xs ++ xs') (ys ++ ys')
  zip_append [] [] xs' ys' w w' = w'
  zip_append [] (y ∷ ys) xs' ys' w w' = absurd w
  zip_append (x ∷ xs) [] xs' ys' w w' = absurd w
  zip_append (x ∷ xs) (y ∷ ys) xs' ys' w w' = (w.0, zip_append xs ys xs' ys' w.1 w')

  pub zip_mapped : {C : Type 0} (S : A → C → Type 0) (f : B → C) → ((x : A) (y : B) → R x y → S x (f y)) → (xs : List A) (ys : List B) → AllZip R xs ys → AllZip S xs (map f ys)
  zip_mapped S f h [] [] w = tt
  zip_mapped S f h [] (y ∷ ys) w = absurd w
  zip_mapped S f h (x ∷ xs) [] w = absurd w
  zip_mapped S f h (x ∷ xs) (y ∷ ys) w = (h x y w.0, zip_mapped S f h xs ys w.1)

  zip_weaker : (S : A → B → Type 0) → ((x : A) (y : B) → R x y → S x y) → (xs : List A) (ys : List B) → AllZip R xs ys → AllZip S xs ys
  zip_weaker S h [] [] w = tt
  zip_weaker S h [] (y ∷ ys) w = absurd w
  zip_weaker S h (x ∷ xs) [] w = absurd w
  zip_weaker S h (x ∷ xs) (y ∷ ys) w = (h x y w.0, zip_weaker S h xs ys w.1)

-- ## An arena that grew

module _ (a b : Arena) (g : Extends a b) where
  resource_more : (r : ResourceId) → ResourceStands a r → ResourceStands b r
  resource_more r h = omega (arith, h, g.resources)

  same_entries : (es : List (Text × ComponentItem)) → All (EntryStands a) es → entry_trees (trees b.nodes) es ≡ entry_trees (trees a.nodes) es
  same_entries es h = same_mapped (EntryStands a) (entry_tree (trees b.nodes)) (entry_tree (trees a.nodes)) es (λ x s. ap (λ (t : Type_tree). (entry_name x, t)) (same_slot a b g (entity_slot x.1.ty) s)) h

  module _ (ty : ComponentType) (h : ComponentStands a ty) where
    pub component_more : ComponentStands b ty
    component_more = record {
      imports = All-weaker (EntryStands a) (EntryStands b) (λ x. entity_more a b g x.1.ty) ty.imports h.imports;
      exports = All-weaker (EntryStands a) (EntryStands b) (λ x. entity_more a b g x.1.ty) ty.exports h.exports;
      imported = All-weaker (λ (r : ResourceId × List ℕ). ResourceStands a r.0) (λ (r : ResourceId × List ℕ). ResourceStands b r.0) (λ r. resource_more r.0) ty.imported_resources h.imported;
      defined = All-weaker (λ (r : ResourceId × List ℕ). ResourceStands a r.0) (λ (r : ResourceId × List ℕ). ResourceStands b r.0) (λ r. resource_more r.0) ty.defined_resources h.defined;
    }

    abbrev LeadIn : List (ResourceId × List ℕ) → List (Extern_name × Type_tree) → Type 0
    LeadIn rs es = All (λ (r : ResourceId × List ℕ). PathLeadsTo r.1 (number r.0.index) es) rs

    pub paths_more : PathsLead a ty → PathsLead b ty
    paths_more w = record {
      imported = subst (LeadIn ty.imported_resources) (sym (same_entries ty.imports h.imports)) w.imported;
      defined = subst (LeadIn ty.defined_resources) (sym (same_entries ty.exports h.exports)) w.defined;
    }

  pub kept_more : (ty : ComponentType) (t : Type_tree) → IsKept a ty t → IsKept b ty t
  kept_more ty t k = record {
    size = k.size;
    depth = k.depth;
    stands = component_more ty k.stands;
    lead = paths_more ty k.stands k.lead;
    listed = k.listed;
  }

  told_more : (x : Nested) (y : Place × Type_tree) → Told a x y → Told b x y
  told_more x y w = record {
    place = w.place;
    ty = w.ty;
    node = node_stays a b x.ty.index (n.Component w.ty) g w.node;
    tree = same_tree a b (p.Component x.ty) g (w.ty, w.node) ∙ w.tree;
    kept = kept_more w.ty y.1 w.kept;
  }

  -- those that ended before, and after
  pub ended_both : (old now new : Nesting) (xs ys : Nested_types) → Ended a old now xs → Ended b now new ys → Ended b old new (xs ++ ys)
  ended_both old now new xs ys w v = record {
    place = v.place ∙ w.place;
    more = w.more ++ v.more;
    ended = v.ended ∙ ap (λ (zs : List Nested). zs ++ v.more) w.ended ∙ append_assoc old.ended.items w.more v.more;
    told = zip_append (Told b) w.more xs v.more ys (zip_weaker (Told a) (Told b) told_more w.more xs w.told) v.told;
  }

-- ## Those that ended

module _ (a : Arena) (old new : Nesting) where
  pub ended_none : new.place.items ≡ old.place.items → new.ended.items ≡ old.ended.items → Ended a old new []
  ended_none e f = record { place = e; more = []; ended = f ∙ sym (append-nil old.ended.items); told = tt }

  pub ended_one : (x : Nested) (y : Place × Type_tree) → new.place.items ≡ old.place.items → new.ended.items ≡ old.ended.items ++ x ∷ [] → Told a x y → Ended a old new (y ∷ [])
  ended_one x y e f w = record { place = e; more = x ∷ []; ended = f; told = (w, tt) }

  -- in an item that was read
  pub ended_inside : (k : ℕ) (before after : Nesting) (ys : Place → Nested_types) → before.place.items ≡ deeper old.place.items k → before.ended.items ≡ old.ended.items → Ended a before after (ys before.place.items) →
      ((w : Place) (j : ℕ) → after.place.items ≡ deeper w j → new.place.items ≡ w) → new.ended.items ≡ after.ended.items → Ended a old new (ys (deeper old.place.items k))
  ended_inside k before after ys e f h leave same = record {
    place = leave old.place.items k (h.place ∙ e);
    more = h.more;
    ended = same ∙ h.ended ∙ ap (λ (zs : List Nested). zs ++ h.more) f;
    told = subst (λ (q : Place). AllZip (Told a) h.more (ys q)) e h.told;
  }
