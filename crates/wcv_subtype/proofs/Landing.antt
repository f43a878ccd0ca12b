-- What a map of the resources that were found for others says.
use Rattle.std.proofs.Common.{◌≡◌, ℕ, ◌<◌, List, [], ◌∷◌, map, Bool, true, false, ◌||◌, cond, eqb, Option, None, Some, bytes_eq, option_map, refl, sym, ◌∙◌, ap, subst, arith}
use Rattle.std.proofs.Math.Path.{fun_ext}
use Rattle.std.specs.Prelude.{slice_get, All, Contains, IfSome}
use Rattle.std.specs.List.{IsDistinct}
use Rattle.std.specs.Map.{keys_of, lookup}
use Rattle.std.proofs.lemmas.List.{map-append}
use Rattle.std.proofs.lemmas.List.Elements.{All-nil, All-cons, All-head, All-tail, All-contains, All-map}
use Rattle.std.proofs.lemmas.Map.Entries.{All-lookup}
use Rattle.wcv_core.specs.Names.{Name, number, stamp, base, at, stamped, aside, same, member}
use Rattle.wcv_core.proofs.Names.{same-true}
use Rattle.wcv_types.proofs.All.{all-mapped, all-mapped_back}
use Rattle.wcv_types.specs.Arena.{Arena}
use Rattle.wcv_types.specs.Entities.{entity_tree, EntityStands, EntryStands}
use Rattle.wcv_types.specs.Given.{GaveResource, GaveIdentity, AllNamesGiven, NamesGiven}
use Rattle.wcv_types.specs.Rename.{EachName, EachNameIn}
use Rattle.wcv_types.specs.Replacing.{or_same}
use Rattle.wcv_types.specs.Sets.{same_resource}
use Rattle.wcv_types.specs.Standing.{Stands}
use Rattle.wcv_types.specs.Tree.{Text, Head, component, resource, here, label, import, export, core_import, core_export, node, Parts, none, part, firsts, head, referenced, imported_at}
use Rattle.wcv_types.specs.Unfold.{any_part, resource_path, trees, tree_at, Type_tree}
use Rattle.wcv_types.specs.declared.ids.Part.TheVariants as p
use Rattle.wcv_types.specs.declared.ids.ResourceId.{ResourceId}
use Rattle.wcv_types.specs.declared.item_map.ComponentItem.{ComponentItem}
use Rattle.wcv_types.specs.declared.shapes.ComponentEntityType.{ComponentEntityType}
use Rattle.wcv_types.specs.declared.shapes.ComponentEntityType.TheVariants as entity
use Rattle.wcv_types.specs.declared.shapes.ComponentValType.TheVariants as v
use Rattle.wcv_matching.specs.Matching.{Reading, named_exports, named_exports_in}
use Rattle.wcv_matching.specs.NamedPaths.{and_then, entry, follow, resource_at}
use Rattle.wcv_matching.specs.OnePass.{Atom, given, counterpart}
use Rattle.wcv_matching.proofs.NamedLists.{map-map}
use Rattle.wcv_counterparts.specs.IdCounterparts.{counterparts_of, lands_on}
use Rattle.wcv_atoms.specs.IdPasses.{named_trees}
use Rattle.wcv_remap.specs.Map.{Map, resources_by}
use Rattle.wcv_atoms.specs.Readings.{over, read_by, resource_name}
use Rattle.wcv_atoms.proofs.AtomLists.{over_listed}

abbrev Landed : Type 0
Landed = List (ResourceId × ResourceId)

-- ## Where resources go

lookup_landed : (fs : Landed) (r : ResourceId) → option_map resource_name (lookup (same_resource r) fs) ≡ lookup (same (resource_name r)) (map lands_on fs)
lookup_landed [] r = refl
lookup_landed (f ∷ fs) r = go (eqb r.index f.0.index) (lookup_landed fs r)
  where
    go : (b : Bool) → option_map resource_name (lookup (same_resource r) fs) ≡ lookup (same (resource_name r)) (map lands_on fs) →
        option_map resource_name (cond b (Some f.1) (lookup (same_resource r) fs)) ≡ cond b (Some (resource_name f.1)) (lookup (same (resource_name r)) (map lands_on fs))
    go true h = refl
    go false h = h

-- a name that is no number goes nowhere
nowhere : (r : Name) → ((f : ResourceId × ResourceId) → same r (resource_name f.0) ≡ false) → (fs : Landed) → None ≡ lookup (same r) (map lands_on fs)
nowhere r o [] = refl
nowhere r o (f ∷ fs) = nowhere r o fs ∙ sym (ap (λ (b : Bool). cond b (Some (resource_name f.1)) (lookup (same r) (map lands_on fs))) (o f))

by_landed : (m : Map) (r : Name) → resources_by m r ≡ lookup (same r) (map lands_on m.resources)
by_landed m (number k) = lookup_landed m.resources (record { index = k })
by_landed m (stamp k) = nowhere (stamp k) (λ f. refl) m.resources
by_landed m (base q) = nowhere (base q) (λ f. refl) m.resources
by_landed m (at q r) = nowhere (at q r) (λ f. refl) m.resources
by_landed m (stamped q) = nowhere (stamped q) (λ f. refl) m.resources
by_landed m (aside r) = nowhere (aside r) (λ f. refl) m.resources

lookup_listed : (s : Name → Name) (rs : List Name) (r : Name) → lookup (same r) (map (λ (q : Name). (q, s q)) rs) ≡ cond (member r rs) (Some (s r)) None
lookup_listed s [] r = refl
lookup_listed s (q ∷ rs) r = go (same r q) refl (lookup_listed s rs r)
  where
    go : (b : Bool) → same r q ≡ b → lookup (same r) (map (λ (q : Name). (q, s q)) rs) ≡ cond (member r rs) (Some (s r)) None →
        cond b (Some (s q)) (lookup (same r) (map (λ (q : Name). (q, s q)) rs)) ≡ cond (b || member r rs) (Some (s r)) None
    go true e h = ap (λ (x : Name). Some (s x)) (sym (same-true r q e))
    go false e h = h

module _ (ps : List (Name × List ℕ)) (es xs : List (Text × Type_tree)) where
  abbrev lands_at : Name → Name
  lands_at r = counterpart ps es xs r

  -- of a map that replaces what was found
  pub resources_found : (m : Map) → map lands_on m.resources ≡ counterparts_of ps es xs → (r : Name) → resources_by m r ≡ cond (member r (firsts ps)) (Some (counterpart ps es xs r)) None
  resources_found m e r = by_landed m r ∙ ap (lookup (same r)) e ∙ lookup_listed lands_at (firsts ps) r

  -- ## How they are read

  atoms : (fs : Landed) → map lands_on fs ≡ counterparts_of ps es xs → map (λ (e : ResourceId × ResourceId). (resource_name e.0, given (resource_name e.1))) fs ≡ read_by (λ r. given (lands_at r)) (firsts ps)
  atoms fs e =
      sym (map-map (λ (f : Name × Name). (f.0, given f.1)) lands_on fs) ∙ ap (map (λ (f : Name × Name). (f.0, given f.1))) e ∙ map-map (λ (f : Name × Name). (f.0, given f.1)) (λ (r : Name). (r, lands_at r)) (firsts ps)

  pub read_found : (fs : Landed) (bs : List (Name × Atom)) (f g : Reading Atom) → map lands_on fs ≡ counterparts_of ps es xs → bs ≡ map (λ (e : ResourceId × ResourceId). (resource_name e.0, given (resource_name e.1))) fs →
      f ≡ given → g ≡ over bs f → g ≡ (λ r. given (cond (member r (firsts ps)) (counterpart ps es xs r) r))
  read_found fs bs f g e h z w =
      w ∙ (λ j. over (h j) (z j)) ∙ ap (λ (ws : List (Name × Atom)). over ws given) (atoms fs e) ∙ fun_ext (λ r. over_listed (λ q. given (lands_at q)) given (firsts ps) r ∙ inside (member r (firsts ps)) r)
    where
      inside : (b : Bool) (r : Name) → cond b (given (lands_at r)) (given r) ≡ given (cond b (lands_at r) r)
      inside true r = refl
      inside false r = refl

  -- ## What they go to

  module _ (P : Name → Type 0) (there : (q : List ℕ) (r : Name) → follow q es xs ≡ Some r → P r) where
    landed_as : (r : Name) → P r → P (counterpart ps es xs r)
    landed_as r h = go (lookup (same r) ps)
      where
        at_end : (q : List ℕ) (o : Option Name) → follow q es xs ≡ o → P (or_same r o)
        at_end q None e = h
        at_end q (Some s) e = there q s e

        go : (o : Option (List ℕ)) → P (or_same r (and_then o (λ q. follow q es xs)))
        go None = h
        go (Some q) = at_end q (follow q es xs) refl

    each_landed : (rs : List Name) → All P rs → All (λ (e : Name × Name). P e.1) (map (λ (r : Name). (r, counterpart ps es xs r)) rs)
    each_landed [] h = All-nil (λ (e : Name × Name). P e.1)
    each_landed (r ∷ rs) h = All-cons (λ (e : Name × Name). P e.1) (r, counterpart ps es xs r) (map (λ (r : Name). (r, counterpart ps es xs r)) rs) (landed_as r (All-head P r rs h)) (each_landed rs (All-tail P r rs h))

    pub all_found : All P (firsts ps) → (fs : Landed) → map lands_on fs ≡ counterparts_of ps es xs → All (λ (f : ResourceId × ResourceId). P (resource_name f.1)) fs
    all_found h fs e = all-mapped_back (λ (f : ResourceId × ResourceId). P (resource_name f.1)) (λ (f : Name × Name). P f.1) lands_on (λ f w. w) fs (subst (λ (xs : List (Name × Name)). All (λ (f : Name × Name). P f.1) xs) (sym e) (each_landed (firsts ps) h))

-- ## Names that the arena gave

split_then : {X Y : Type 0} (o : Option X) (f : X → Option Y) (y : Y) → and_then o f ≡ Some y → (x : X) × (o ≡ Some x) × (f x ≡ Some y)
split_then None f y e = cc
split_then (Some x) f y e = (x, refl, e)

module _ (P Q : Name → Type 0) where
  abbrev Named : Text × Type_tree → Type 0
  Named e = EachName P Q e.1

  exports_named : (ps : Parts Name Name) → EachNameIn P Q ps → All Named (named_exports_in ps)
  exports_named none h = All-nil Named
  exports_named (part (export m) t ps) h = All-cons Named (m.name, t) (named_exports_in ps) h.0 (exports_named ps h.1)
  exports_named (part here t ps) h = exports_named ps h.1
  exports_named (part (label m) t ps) h = exports_named ps h.1
  exports_named (part (import m) t ps) h = exports_named ps h.1
  exports_named (part (core_import l m) t ps) h = exports_named ps h.1
  exports_named (part (core_export m) t ps) h = exports_named ps h.1

  found_named : (xs : List (Text × Type_tree)) (m : Text) (x : Type_tree) → All Named xs → entry m xs ≡ Some x → EachName P Q x
  found_named xs m x h e = subst (λ (o : Option Type_tree). IfSome o (EachName P Q)) e (All-lookup (EachName P Q) (bytes_eq m) xs h)

  reference_named : (t : Type_tree) (r : Name) → EachName P Q t → resource_at (head t) ≡ Some r → P r
  reference_named (node (resource q s) ps) r h e = let f : q ≡ r = cc in subst P f h.0.0
  reference_named (node _ ps) r h e = cc

  second_named : (t : Type_tree) (r : Name) → EachName P Q t → resource_at (head (referenced t)) ≡ Some r → P r
  second_named (node h none) r n e = cc
  second_named (node h (part k t none)) r n e = cc
  second_named (node h (part k t (part l u ps))) r n e = reference_named u r n.1.1.0 e

  tree_exports : (t : Type_tree) → EachName P Q t → All Named (named_exports t)
  tree_exports (node h ps) n = exports_named ps n.1

  -- where a path leads
  pub followed : (q : List ℕ) (es xs : List (Text × Type_tree)) (r : Name) → All Named xs → follow q es xs ≡ Some r → P r
  followed [] es xs r h e = cc
  followed (k ∷ []) es xs r h e =
      let x = split_then (slice_get es k) (λ (e : Text × Type_tree). and_then (entry e.0 xs) (λ y. resource_at (head (referenced y)))) r e in
      let y = split_then (entry x.0.0 xs) (λ y. resource_at (head (referenced y))) r x.2 in
      second_named y.0 r (found_named xs x.0.0 y.0 h y.1) y.2
  followed (k ∷ j ∷ q) es xs r h e =
      let x = split_then (slice_get es k) (λ (e : Text × Type_tree). and_then (entry e.0 xs) (λ y. follow (j ∷ q) (named_exports e.1) (named_exports y))) r e in
      let y = split_then (entry x.0.0 xs) (λ y. follow (j ∷ q) (named_exports x.0.1) (named_exports y)) r x.2 in
      followed (j ∷ q) (named_exports x.0.1) (named_exports y.0) r (tree_exports y.0 (found_named xs x.0.0 y.0 h y.1)) y.2

module _ (a : Arena) (gave : AllNamesGiven a) where
  entity_named : (x : ComponentEntityType) → EntityStands a x → NamesGiven a (entity_tree (trees a.nodes) x)
  entity_named (entity.Module i) s = gave (p.Module i) s
  entity_named (entity.Func i) s = gave (p.Func i) s
  entity_named (entity.Value (v.Primitive q)) s = (tt, tt)
  entity_named (entity.Value (v.Ty i)) s = gave (p.Defined i) s
  entity_named (entity.Ty c r) s = (tt, (gave (any_part c) s.0, (gave (any_part r) s.1, tt)))
  entity_named (entity.Instance i) s = gave (p.Instance i) s
  entity_named (entity.Component i) s = gave (p.Component i) s

  pub entries_named : (es : List (Text × ComponentItem)) → All (EntryStands a) es → All (Named (GaveResource a) (GaveIdentity a)) (named_trees (trees a.nodes) es)
  entries_named es h = all-mapped (EntryStands a) (Named (GaveResource a) (GaveIdentity a)) (λ (e : Text × ComponentItem). (e.0, entity_tree (trees a.nodes) e.1.ty)) (λ e s. entity_named e.1.ty s) es h
