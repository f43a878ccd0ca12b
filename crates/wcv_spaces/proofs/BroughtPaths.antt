-- The resource that an entry introduces: the arena has it, and the entry leads to it.
use Rattle.std.proofs.Common.{◌≡◌, ℕ, List, [], ◌∷◌, ◌++◌, map, length, take, take_all, refl, sym, ◌∙◌, ap, subst, arith, Bool, true, false, ◌&&◌, cond, eqb, Some, None}
use Rattle.std.specs.Prelude.{Option, All, slice_get}
use Rattle.std.proofs.lemmas.Bool.{eqb-true}
use Rattle.std.proofs.lemmas.List.{map-append}
use Rattle.std.proofs.lemmas.List.Elements.{All-nil, All-cons, All-append, All-map, All-take, All-weaker}
use Rattle.wcv_core.specs.Names.{Name, number}
use Rattle.wcv_core.specs.declared.core_types.ValType.{ValType}
use Rattle.wcv_core.proofs.Names.{and_left}
use Rattle.wcv_types.specs.Arena.{Arena}
use Rattle.wcv_types.specs.ComponentTrees.{ResourceStands}
use Rattle.wcv_types.specs.Entities.{entity_tree, entry_tree, entry_trees, EntityStands}
use Rattle.wcv_types.specs.Led.{HasPath}
use Rattle.wcv_types.specs.Paths.{IsTypeOf, PathLeadsTo}
use Rattle.wcv_types.specs.Tree.{Text}
use Rattle.wcv_types.specs.Unfold.{Type_tree, trees}
use Rattle.wcv_types.specs.declared.ids.AliasableResourceId.{AliasableResourceId}
use Rattle.wcv_types.specs.declared.ids.ComponentAnyTypeId.{ComponentAnyTypeId}
use Rattle.wcv_types.specs.declared.ids.ComponentAnyTypeId.TheVariants as any
use Rattle.wcv_types.specs.declared.ids.ResourceId.{ResourceId}
use Rattle.wcv_types.specs.declared.item_map.ComponentItem.{ComponentItem}
use Rattle.wcv_types.specs.declared.shapes.ComponentEntityType.{ComponentEntityType}
use Rattle.wcv_types.specs.declared.shapes.ComponentEntityType.TheVariants as entity
use Rattle.wcv_types.proofs.Each.{map-push, length-mapped}
use Rattle.wcv_lower.specs.Context.{placed, unknown}
use Rattle.wcv_lower.specs.Owned.{IsLed}
use Rattle.wcv_spaces.specs.Bringing.{Paths, LeadsWithin}
use Rattle.wcv_spaces.specs.Contents.{Contents, Listed, context_of, defined_resource, is_number, LeadsToImport, StateStands}
use Rattle.wcv_spaces.specs.Looking.{introduced_by, introduced_id}
use Rattle.wcv_spaces.specs.Promises.{IsPrefix}
use Rattle.wcv_spaces.proofs.Keeping.{path_more, lead_more}

-- ## The reference

-- both types are references to it
pub record IsReference (c d : ComponentAnyTypeId) (r : ResourceId) : Type 0 where
  pub first : AliasableResourceId
  pub second : AliasableResourceId
  pub first_is : c ≡ any.Resource first
  pub second_is : d ≡ any.Resource second
  pub resource : first.resource ≡ r
  pub same : first.resource.index ≡ second.resource.index

both_refer : (c d : ComponentAnyTypeId) (r : ResourceId) → introduced_by c d ≡ Some r → IsReference c d r
both_refer (any.Resource p) (any.Resource q) r h = go (eqb p.resource.index q.resource.index && eqb p.stamp q.stamp) refl h
  where
    go : (b : Bool) → (eqb p.resource.index q.resource.index && eqb p.stamp q.stamp) ≡ b → cond b (Some p.resource) None ≡ Some r → IsReference (any.Resource p) (any.Resource q) r
    go false e w = absurd (cc)
    go true e w = record {
      first = p;
      second = q;
      first_is = refl;
      second_is = refl;
      resource = cc;
      same = eqb-true p.resource.index q.resource.index (and_left (eqb p.resource.index q.resource.index) (eqb p.stamp q.stamp) e);
    }
both_refer (any.Resource p) (any.Defined j) r h = absurd (cc)
both_refer (any.Resource p) (any.Func j) r h = absurd (cc)
both_refer (any.Resource p) (any.Instance j) r h = absurd (cc)
both_refer (any.Resource p) (any.Component j) r h = absurd (cc)
both_refer (any.Defined i) d r h = absurd (cc)
both_refer (any.Func i) d r h = absurd (cc)
both_refer (any.Instance i) d r h = absurd (cc)
both_refer (any.Component i) d r h = absurd (cc)

-- the entity is a type of the resource
pub introduced_type : (ts : List Type_tree) (x : ComponentEntityType) (r : ResourceId) → introduced_id x ≡ Some r → IsTypeOf (number r.index) (entity_tree ts x)
introduced_type ts (entity.Ty c d) r h =
    let w = both_refer c d r h in
    let at : number r.index ≡ number w.second.resource.index = ap (λ (q : ResourceId). number q.index) (sym w.resource) ∙ ap number w.same in
    subst (λ (y : ComponentAnyTypeId). IsTypeOf (number r.index) (entity_tree ts (entity.Ty c y))) (sym w.second_is) (refl, at)
introduced_type ts (entity.Func i) r h = absurd (cc)
introduced_type ts (entity.Module i) r h = absurd (cc)
introduced_type ts (entity.Value v) r h = absurd (cc)
introduced_type ts (entity.Instance i) r h = absurd (cc)
introduced_type ts (entity.Component i) r h = absurd (cc)

pub introduced_stands : (a : Arena) (x : ComponentEntityType) (r : ResourceId) → introduced_id x ≡ Some r → EntityStands a x → ResourceStands a r
introduced_stands a (entity.Ty c d) r h s =
    let w = both_refer c d r h in
    let k = subst (λ (y : ComponentAnyTypeId). EntityStands a (entity.Ty y d)) w.first_is s in
    subst (ResourceStands a) w.resource k.0.resource
introduced_stands a (entity.Func i) r h s = absurd (cc)
introduced_stands a (entity.Module i) r h s = absurd (cc)
introduced_stands a (entity.Value v) r h s = absurd (cc)
introduced_stands a (entity.Instance i) r h s = absurd (cc)
introduced_stands a (entity.Component i) r h s = absurd (cc)

-- ## Their paths

last_of : {X : Type 0} (xs : List X) (x : X) → slice_get (xs ++ x ∷ []) (length xs) ≡ Some x
last_of [] x = refl
last_of (y ∷ xs) x = last_of xs x

-- a path within the last entry leads on from its position
leads_to_last : (a : Arena) (es : Listed) (e : Text × ComponentItem) (r : Name) (k : ℕ) (p : List ℕ) → k ≡ length es → LeadsWithin p r (entity_tree (trees a.nodes) e.1.ty) → PathLeadsTo (k ∷ p) r (entry_trees (trees a.nodes) (es ++ e ∷ []))
leads_to_last a es e r k p ek h = go p h
  where
    ts : List Type_tree
    ts = trees a.nodes

    found : slice_get (map (entry_tree (trees a.nodes)) (es ++ e ∷ [])) k ≡ Some (entry_tree (trees a.nodes) e)
    found = (λ j. slice_get (map-push (entry_tree (trees a.nodes)) es e j) ((ek ∙ sym (length-mapped (entry_tree (trees a.nodes)) es)) j)) ∙ last_of (map (entry_tree (trees a.nodes)) es) (entry_tree (trees a.nodes) e)

    go : (p : List ℕ) → LeadsWithin p r (entity_tree (trees a.nodes) e.1.ty) → PathLeadsTo (k ∷ p) r (map (entry_tree (trees a.nodes)) (es ++ e ∷ []))
    go [] h = (entry_tree (trees a.nodes) e, found, h)
    go (j ∷ q) h = (entry_tree (trees a.nodes) e, found, h.0, h.1)

-- ## What an entry brings to the lists

abbrev pub ImportsKept : Arena → Contents → Paths → Listed → Type 0
ImportsKept a z rs es = IsPrefix z.imported_resources rs × All (λ (p : ResourceId × List ℕ). ResourceStands a p.0) rs × All (LeadsToImport a es) rs

abbrev pub DefinedKept : Arena → Contents → List (ResourceId × Option ValType) → Type 0
DefinedKept a z rs = IsPrefix z.defined_resources rs × All (λ (p : ResourceId × Option ValType). ResourceStands a p.0) rs × All (λ (p : ResourceId × Option ValType). is_number p.1 ≡ true) rs

-- what represents them is not known
unknown_numbers : (new : Paths) → All (λ (p : ResourceId × Option ValType). is_number p.1 ≡ true) (unknown new)
unknown_numbers [] = All-nil (λ (p : ResourceId × Option ValType). is_number p.1 ≡ true)
unknown_numbers (r ∷ rs) = All-cons (λ (p : ResourceId × Option ValType). is_number p.1 ≡ true) (r.0, None) (unknown rs) refl (unknown_numbers rs)

module _ (a : Arena) (z : Contents) (h : StateStands a z) (e : Text × ComponentItem) (new : Paths) (stand : All (λ (r : ResourceId × List ℕ). ResourceStands a r.0) new) where
  placed_stand : (k : ℕ) (new : Paths) → All (λ (r : ResourceId × List ℕ). ResourceStands a r.0) new → All (λ (r : ResourceId × List ℕ). ResourceStands a r.0) (placed k new)
  placed_stand k new h = All-map (λ (r : ResourceId × List ℕ). ResourceStands a r.0) (λ r. (r.0, k ∷ r.1)) new h

  unknown_stand : (new : Paths) → All (λ (r : ResourceId × List ℕ). ResourceStands a r.0) new → All (λ (r : ResourceId × Option ValType). ResourceStands a r.0) (unknown new)
  unknown_stand new h = All-map (λ (r : ResourceId × Option ValType). ResourceStands a r.0) (λ r. (r.0, None)) new h

  -- its resources are imported, or the first of them
  pub brought_imported : (rs : Paths) (es : Listed) (j k : ℕ) → All (λ (r : ResourceId × List ℕ). LeadsWithin r.1 (number r.0.index) (entity_tree (trees a.nodes) e.1.ty)) new →
      rs ≡ z.imported_resources ++ placed k (take j new) → es ≡ z.imports ++ e ∷ [] → k ≡ length z.imports → ImportsKept a z rs es
  brought_imported rs es j k lead q l ek = (
    (placed k (take j new), q),
    subst (All (λ (p : ResourceId × List ℕ). ResourceStands a p.0)) (sym q)
        (All-append (λ (p : ResourceId × List ℕ). ResourceStands a p.0) z.imported_resources (placed k (take j new)) h.imported (placed_stand k (take j new) (All-take (λ (r : ResourceId × List ℕ). ResourceStands a r.0) j new stand))),
    subst (All (LeadsToImport a es)) (sym q) (subst (λ (xs : Listed). All (LeadsToImport a xs) (z.imported_resources ++ placed k (take j new))) (sym l)
        (All-append (LeadsToImport a (z.imports ++ e ∷ [])) z.imported_resources (placed k (take j new)) (lead_more a z.imports e z.imported_resources h.lead)
        (All-map (LeadsToImport a (z.imports ++ e ∷ [])) (λ (r : ResourceId × List ℕ). (r.0, k ∷ r.1)) (take j new)
        (All-take (λ (r : ResourceId × List ℕ). LeadsToImport a (z.imports ++ e ∷ []) (r.0, k ∷ r.1)) j new
        (All-weaker (λ (r : ResourceId × List ℕ). LeadsWithin r.1 (number r.0.index) (entity_tree (trees a.nodes) e.1.ty)) (λ (r : ResourceId × List ℕ). LeadsToImport a (z.imports ++ e ∷ []) (r.0, k ∷ r.1))
        (λ r w. leads_to_last a z.imports e (number r.0.index) k r.1 ek w) new lead))))),
  )

  -- or defined
  pub brought_defined : (rs : List (ResourceId × Option ValType)) (j : ℕ) → rs ≡ z.defined_resources ++ unknown (take j new) → DefinedKept a z rs
  brought_defined rs j q = (
    (unknown (take j new), q),
    subst (All (λ (p : ResourceId × Option ValType). ResourceStands a p.0)) (sym q)
        (All-append (λ (p : ResourceId × Option ValType). ResourceStands a p.0) z.defined_resources (unknown (take j new)) h.defined (unknown_stand (take j new) (All-take (λ (r : ResourceId × List ℕ). ResourceStands a r.0) j new stand))),
    subst (All (λ (p : ResourceId × Option ValType). is_number p.1 ≡ true)) (sym q) (All-append (λ (p : ResourceId × Option ValType). is_number p.1 ≡ true) z.defined_resources (unknown (take j new)) h.numbers (unknown_numbers (take j new))),
  )

-- all of a list
pub all_taken : {X : Type 0} (xs : List X) → xs ≡ take (length xs) xs
all_taken xs = sym (take_all (length xs) xs (omega arith))

-- ## Paths to what is defined

-- if a path led to each defined resource, one does with one more export
pub led_more : (a : Arena) (s : Contents) (e : Text × ComponentItem) (new : Paths) (es : Listed) (ds : List (ResourceId × Option ValType)) → es ≡ s.exports ++ e ∷ [] → ds ≡ s.defined_resources ++ unknown new →
    All (λ (r : ResourceId × List ℕ). LeadsWithin r.1 (number r.0.index) (entity_tree (trees a.nodes) e.1.ty)) new → IsLed (context_of a s) → All (λ (d : Name × Option ValType). HasPath (entry_trees (trees a.nodes) es) d.0) (map defined_resource ds)
led_more a s e new es ds l q lead led =
    subst (λ (es : Listed). All (Path es) (map defined_resource ds)) (sym l) (subst (λ (ds : List (ResourceId × Option ValType)). All (Path more) (map defined_resource ds)) (sym q)
    (subst (All (Path more)) (sym (map-append defined_resource s.defined_resources (unknown new)))
    (All-append (Path more) (map defined_resource s.defined_resources) (map defined_resource (unknown new))
    (All-weaker (Path s.exports) (Path more) (λ d w. (w.0, more_path w.0 d.0 w.1)) (map defined_resource s.defined_resources) led)
    (All-map (Path more) defined_resource (unknown new) (All-map (λ (d : ResourceId × Option ValType). Path more (defined_resource d)) (λ (r : ResourceId × List ℕ). (r.0, None)) new
    (All-weaker (λ (r : ResourceId × List ℕ). LeadsWithin r.1 (number r.0.index) (entity_tree (trees a.nodes) e.1.ty)) (λ (r : ResourceId × List ℕ). Path more (number r.0.index, None))
    (λ r w. (length s.exports ∷ r.1, leads_to_last a s.exports e (number r.0.index) (length s.exports) r.1 refl w)) new lead))))))
  where
    Path : Listed → Name × Option ValType → Type 0
    Path es d = HasPath (entry_trees (trees a.nodes) es) d.0

    more : Listed
    more = s.exports ++ e ∷ []

    more_path : (p : List ℕ) (r : Name) → PathLeadsTo p r (entry_trees (trees a.nodes) s.exports) → PathLeadsTo p r (entry_trees (trees a.nodes) (s.exports ++ e ∷ []))
    more_path p r w = subst (PathLeadsTo p r) (sym (map-push (entry_tree (trees a.nodes)) s.exports e)) (path_more p r (entry_trees (trees a.nodes) s.exports) (entry_tree (trees a.nodes) e) w)
