-- Names of entries by ids, and by trees; what the names of a list are once an entry joined.
use Rattle.wcv_core.specs.Limits.{max_entries}
use Rattle.std.proofs.Common.{◌≡◌, ◌≤◌, ℕ, List, [], ◌∷◌, ◌++◌, map, length, Bool, true, false, ◌&&◌, ◌||◌, cond, eqb, Option, Some, None, refl, sym, ap, ◌∙◌, subst, arith, append_assoc, append-nil, ⊎_elim}
use Rattle.std.specs.Prelude.{All, bytes_eq}
use Rattle.std.specs.List.{list_any}
use Rattle.std.specs.Map.{lookup}
use Rattle.std.proofs.lemmas.Bool.{ne_eqb, false≢true}
use Rattle.std.proofs.lemmas.List.{map-append}
use Rattle.std.proofs.lemmas.List.Elements.{All-head, All-tail, All-weaker}
use Rattle.std.proofs.Math.Bool.{and-false}
use Rattle.wcv_core.specs.declared.features.WasmFeatures.{WasmFeatures}
use Rattle.wcv_types.specs.Arena.{Arena}
use Rattle.wcv_types.specs.Entities.{entity_tree, entry_trees, EntityStands, EntryStands}
use Rattle.wcv_types.specs.Identity.{Identity}
use Rattle.wcv_types.specs.Tree.{Text, Extern_name, Sort, sort}
use Rattle.wcv_types.specs.Unfold.{Type_tree, trees}
use Rattle.wcv_types.specs.declared.ids.AliasableResourceId.{AliasableResourceId}
use Rattle.wcv_types.specs.declared.ids.ComponentAnyTypeId.TheVariants as any
use Rattle.wcv_types.specs.declared.ids.Part.TheVariants as part
use Rattle.wcv_types.specs.declared.info.TypeInfo.{TypeInfo}
use Rattle.wcv_types.specs.declared.item_map.ComponentItem.{ComponentItem}
use Rattle.wcv_types.specs.declared.shapes.ComponentEntityType.{ComponentEntityType}
use Rattle.wcv_types.specs.declared.shapes.ComponentEntityType.TheVariants as entity
use Rattle.wcv_types.specs.declared.shapes.ComponentValType.TheVariants as val
use Rattle.wcv_types.proofs.Unfolding.{sort_stands, known_any}
use Rattle.wcv_core.specs.Refusal.{error_kind}
use Rattle.wcv_core.specs.declared.error.Error.{Error}
use Rattle.wcv_syntax.specs.declared.name.ComponentExternName.{ComponentExternName}
use Rattle.wcv_names.specs.Externs as externs
use Rattle.wcv_names.specs.Externs.{extern_checks}
use Rattle.wcv_names.specs.FuncTrees.{names_in}
use Rattle.wcv_names.specs.KeySet.{HasKeys}
use Rattle.wcv_names.specs.ResourceNames.{Named_ids, same_reference, reference_of, references_of, name_of, names_of}
use Rattle.wcv_names.proofs.ByNames.{name_checks-same}
use Rattle.wcv_names.proofs.Entering.{keys_of_joined}
use Rattle.wcv_lower.specs.Checks.{Checks, Cause, IsFree, is_among, full_if, no_room}
use Rattle.wcv_lower.specs.Context.{Side}
use Rattle.wcv_lower.specs.Entries.{lent}
use Rattle.wcv_lower.specs.Trees.{tree_reader}
use Rattle.wcv_lower.proofs.Causes.{cause_left, cause_right, cause_either, free_both, free_left, free_right}
use Rattle.wcv_spaces.specs.declared.entries.Entries.{Entries}
use Rattle.wcv_spaces.specs.Entering.{Admitted, entry_checks, room_counts}
use Rattle.wcv_spaces.specs.Promises.{MemoryOrCausedBy}
use Rattle.wcv_spaces.proofs.Calls.{caused_more}
use Rattle.wcv_spaces.proofs.Keys.{keys_joined}
use Rattle.wcv_spaces.proofs.NamesApart.{may_join, joined_apart}
use Rattle.wcv_lower.specs.EntryNames.{references_by, reference_in, named_references, resource_names, name_checks}
use Rattle.wcv_spaces.specs.Contents.{Listed, SpaceLists}
use Rattle.wcv_spaces.specs.Parts.{AreKeys, NamesAgree}
use Rattle.wcv_spaces.specs.Looking.{created_reference, named_ids, has_name, IsUnnamedIn, entry_of}

-- ## By trees

module _ (a : Arena) where
  -- the reference that an entity creates, under a name
  named_same : (n : Text) (x : ComponentEntityType) → EntityStands a x →
      references_of (map (λ q. (q, n)) (created_reference x)) ≡ map (λ r. (r, n)) (references_by (sort (entity_tree (trees a.nodes) x)) (entity_tree (trees a.nodes) x))
  named_same n (entity.Func i) h = sym (ap (λ (o : Sort). map (λ r. (r, n)) (references_by o (entity_tree (trees a.nodes) (entity.Func i)))) (sort_stands a (part.Func i) h))
  named_same n (entity.Module i) h = sym (ap (λ (o : Sort). map (λ r. (r, n)) (references_by o (entity_tree (trees a.nodes) (entity.Module i)))) (sort_stands a (part.Module i) h))
  named_same n (entity.Value (val.Primitive q)) h = refl
  named_same n (entity.Value (val.Ty i)) h = sym (ap (λ (o : Sort). map (λ r. (r, n)) (references_by o (entity_tree (trees a.nodes) (entity.Value (val.Ty i))))) (sort_stands a (part.Defined i) h))
  named_same n (entity.Ty (any.Resource q) r) h = refl
  named_same n (entity.Ty (any.Defined i) r) h = sym (ap (λ (o : Option Identity). map (λ r. (r, n)) (reference_in o)) (known_any a (any.Defined i) h.0))
  named_same n (entity.Ty (any.Func i) r) h = sym (ap (λ (o : Option Identity). map (λ r. (r, n)) (reference_in o)) (known_any a (any.Func i) h.0))
  named_same n (entity.Ty (any.Instance i) r) h = sym (ap (λ (o : Option Identity). map (λ r. (r, n)) (reference_in o)) (known_any a (any.Instance i) h.0))
  named_same n (entity.Ty (any.Component i) r) h = sym (ap (λ (o : Option Identity). map (λ r. (r, n)) (reference_in o)) (known_any a (any.Component i) h.0))
  named_same n (entity.Instance i) h = sym (ap (λ (o : Sort). map (λ r. (r, n)) (references_by o (entity_tree (trees a.nodes) (entity.Instance i)))) (sort_stands a (part.Instance i) h))
  named_same n (entity.Component i) h = sym (ap (λ (o : Sort). map (λ r. (r, n)) (references_by o (entity_tree (trees a.nodes) (entity.Component i)))) (sort_stands a (part.Component i) h))

  references_same : (es : Listed) → All (EntryStands a) es → references_of (named_ids es) ≡ named_references (entry_trees (trees a.nodes) es)
  references_same [] h = refl
  references_same (e ∷ es) h =
      let first = named_same e.0 e.1.ty (All-head (EntryStands a) e es h) in
      let rest : references_of (named_ids es) ≡ named_references (entry_trees (trees a.nodes) es) = references_same es (All-tail (EntryStands a) e es h) in
      map-append (λ (p : AliasableResourceId × Text). (reference_of p.0, p.1)) (map (λ q. (q, e.0)) (created_reference e.1.ty)) (named_ids es) ∙ (λ j. first j ++ rest j)

  -- the causes of a name, by the names of resources that are kept
  pub names_kept : (c : Named_ids) (es : Listed) (fs : WasmFeatures) (n : Extern_name) (t : Type_tree) → All (EntryStands a) es → c.references ≡ named_ids es → AreKeys c.names (map (λ p. p.1) (named_ids es)) →
      externs.name_checks (names_of c) fs (entry_trees (trees a.nodes) es) n t ≡ name_checks fs (entry_trees (trees a.nodes) es) n t
  names_kept c es fs n t h e k =
      let refs : references_of c.references ≡ named_references (entry_trees (trees a.nodes) es) = ap references_of e ∙ references_same es h in
      name_checks-same (names_of c) (resource_names (entry_trees (trees a.nodes) es)) fs (entry_trees (trees a.nodes) es) n t refs
      (λ x. k x ∙ ap (λ (l : List Text). is_among x l) (sym (seconds (named_ids es)) ∙ ap (map (λ p. p.1)) (references_same es h)))
    where
      seconds : (ps : List (AliasableResourceId × Text)) → map (λ p. p.1) (references_of ps) ≡ map (λ p. p.1) ps
      seconds [] = refl
      seconds (p ∷ ps) = ap (λ (l : List Text). p.1 ∷ l) (seconds ps)

-- ## References that have no name

pub no_name : (q : AliasableResourceId) (ps : List (AliasableResourceId × Text)) → has_name q ps ≡ false → lookup (same_reference (reference_of q)) (references_of ps) ≡ None
no_name q [] h = refl
no_name q (p ∷ ps) h = go (eqb q.resource.index p.0.resource.index && eqb q.stamp p.0.stamp) h (λ w. no_name q ps w)
  where
    go : (b : Bool) → (b || has_name q ps) ≡ false → (has_name q ps ≡ false → lookup (same_reference (reference_of q)) (references_of ps) ≡ None) → cond b (Some p.1) (lookup (same_reference (reference_of q)) (references_of ps)) ≡ None
    go true w later = absurd (false≢true (sym w))
    go false w later = later w

-- a stamp that the arena gives later stands at no entry
later_name : (a : Arena) (q : AliasableResourceId) (es : Listed) → a.stamps ≤ q.stamp → All (EntryStands a) es → has_name q (named_ids es) ≡ false
later_name a q [] l h = refl
later_name a q ((n, i) ∷ es) l h = go i.ty (All-head (EntryStands a) (n, i) es h) (later_name a q es l (All-tail (EntryStands a) (n, i) es h))
  where
    go : (x : ComponentEntityType) → EntityStands a x → has_name q (named_ids es) ≡ false → has_name q (map (λ r. (r, n)) (created_reference x) ++ named_ids es) ≡ false
    go (entity.Ty (any.Resource p) r) s e =
        let apart : eqb q.stamp p.stamp ≡ false = ne_eqb q.stamp p.stamp (λ k. omega (arith, k, l, s.0.stamp)) in
        ap (λ (b : Bool). (eqb q.resource.index p.resource.index && b) || has_name q (named_ids es)) apart ∙ ap (λ (b : Bool). b || has_name q (named_ids es)) (and-false (eqb q.resource.index p.resource.index)) ∙ e
    go (entity.Ty (any.Defined i) r) s e = e
    go (entity.Ty (any.Func i) r) s e = e
    go (entity.Ty (any.Instance i) r) s e = e
    go (entity.Ty (any.Component i) r) s e = e
    go (entity.Func i) s e = e
    go (entity.Module i) s e = e
    go (entity.Value v) s e = e
    go (entity.Instance i) s e = e
    go (entity.Component i) s e = e

pub later_unnamed : (a : Arena) (x : ComponentEntityType) (es : Listed) → All (λ q. a.stamps ≤ q.stamp) (created_reference x) → All (EntryStands a) es → IsUnnamedIn es x
later_unnamed a x es l h = All-weaker (λ (q : AliasableResourceId). a.stamps ≤ q.stamp) (λ (q : AliasableResourceId). has_name q (named_ids es) ≡ false) (λ q k. later_name a q es k h) (created_reference x) l

-- ## One more entry

named_joined : (es : Listed) (e : Text × ComponentItem) → named_ids (es ++ e ∷ []) ≡ named_ids es ++ map (λ q. (q, e.0)) (created_reference e.1.ty)
named_joined [] e = append-nil (map (λ q. (q, e.0)) (created_reference e.1.ty))
named_joined (x ∷ es) e =
    ap (λ l. map (λ q. (q, x.0)) (created_reference x.1.ty) ++ l) (named_joined es e) ∙ sym (append_assoc (map (λ q. (q, x.0)) (created_reference x.1.ty)) (named_ids es) (map (λ q. (q, e.0)) (created_reference e.1.ty)))

names_joined : (es : Listed) (e : Text × ComponentItem) → map (λ p. p.1) (named_ids (es ++ e ∷ [])) ≡ map (λ p. p.1) (named_ids es) ++ map (λ q. e.0) (created_reference e.1.ty)
names_joined es e =
    ap (map (λ (p : AliasableResourceId × Text). p.1)) (named_joined es e) ∙ map-append (λ (p : AliasableResourceId × Text). p.1) (named_ids es) (map (λ q. (q, e.0)) (created_reference e.1.ty)) ∙
    ap (λ l. map (λ (p : AliasableResourceId × Text). p.1) (named_ids es) ++ l) (seconds (created_reference e.1.ty))
  where
    seconds : (qs : List AliasableResourceId) → map (λ (p : AliasableResourceId × Text). p.1) (map (λ q. (q, e.0)) qs) ≡ map (λ q. e.0) qs
    seconds [] = refl
    seconds (q ∷ qs) = ap (λ (l : List Text). e.0 ∷ l) (seconds qs)

joined_references : (rs rs' : List (AliasableResourceId × Text)) (es es' : Listed) (n : ComponentExternName) (x : ComponentEntityType) → rs ≡ named_ids es → rs' ≡ rs ++ map (λ q. (q, n.name)) (created_reference x) → es' ≡ es ++ entry_of n x ∷ [] →
    rs' ≡ named_ids es'
joined_references rs rs' es es' n x e f g = f ∙ ap (λ l. l ++ map (λ q. (q, n.name)) (created_reference x)) e ∙ sym (named_joined es (entry_of n x)) ∙ sym (ap named_ids g)

joined_names : (set set' : List Text) (es es' : Listed) (n : ComponentExternName) (x : ComponentEntityType) → AreKeys set (map (λ p. p.1) (named_ids es)) →
    ((ks : List Text) → AreKeys set ks → AreKeys set' (ks ++ map (λ q. n.name) (created_reference x))) → es' ≡ es ++ entry_of n x ∷ [] → AreKeys set' (map (λ p. p.1) (named_ids es'))
joined_names set set' es es' n x h f g =
    subst (AreKeys set') (sym (names_joined es (entry_of n x)) ∙ sym (ap (λ (l : Listed). map (λ p. p.1) (named_ids l)) g)) (f (map (λ p. p.1) (named_ids es)) h)

-- ## A reference that is named

pub one_unnamed : (c : Named_ids) (x : ComponentEntityType) (q : AliasableResourceId) → All (λ r. name_of (names_of c) (reference_of r) ≡ None) (created_reference x) → q ∷ [] ≡ created_reference x → name_of (names_of c) (reference_of q) ≡ None
one_unnamed c x q h e = All-head (λ (r : AliasableResourceId). name_of (names_of c) (reference_of r) ≡ None) q [] (subst (All (λ r. name_of (names_of c) (reference_of r) ≡ None)) (sym e) h)

pub one_named : (rs rs' : List (AliasableResourceId × Text)) (n : Text) (x : ComponentEntityType) (q : AliasableResourceId) → rs' ≡ rs ++ (q, n) ∷ [] → q ∷ [] ≡ created_reference x → rs' ≡ rs ++ map (λ r. (r, n)) (created_reference x)
one_named rs rs' n x q h e = h ∙ ap (λ (qs : List AliasableResourceId). rs ++ map (λ r. (r, n)) qs) e

pub none_named : (rs : List (AliasableResourceId × Text)) (n : Text) (x : ComponentEntityType) → [] ≡ created_reference x → rs ≡ rs ++ map (λ r. (r, n)) (created_reference x)
none_named rs n x e = sym (append-nil rs) ∙ ap (λ (qs : List AliasableResourceId). rs ++ map (λ r. (r, n)) qs) e

pub one_key : (set set' : List Text) (n : Text) (x : ComponentEntityType) (q : AliasableResourceId) → ((t : Text) → is_among t set' ≡ (bytes_eq t n || is_among t set)) → q ∷ [] ≡ created_reference x →
    (ks : List Text) → AreKeys set ks → AreKeys set' (ks ++ map (λ r. n) (created_reference x))
one_key set set' n x q h e ks a = subst (λ (qs : List AliasableResourceId). AreKeys set' (ks ++ map (λ r. n) qs)) e (keys_joined set set' ks n h a)

pub no_key : (set : List Text) (n : Text) (x : ComponentEntityType) → [] ≡ created_reference x → (ks : List Text) → AreKeys set ks → AreKeys set (ks ++ map (λ r. n) (created_reference x))
no_key set n x e ks a = subst (λ (qs : List AliasableResourceId). AreKeys set (ks ++ map (λ r. n) qs)) e (subst (AreKeys set) (sym (append-nil ks)) a)

pub all_unnamed : (c : Named_ids) (es : Listed) (x : ComponentEntityType) → c.references ≡ named_ids es → IsUnnamedIn es x → All (λ q. name_of (names_of c) (reference_of q) ≡ None) (created_reference x)
all_unnamed c es x e h =
    All-weaker (λ (q : AliasableResourceId). has_name q (named_ids es) ≡ false) (λ (q : AliasableResourceId). name_of (names_of c) (reference_of q) ≡ None)
    (λ q k. ap (λ (rs : List (AliasableResourceId × Text)). lookup (same_reference (reference_of q)) (references_of rs)) e ∙ no_name q (named_ids es) k) (created_reference x) h

-- ## The causes of an entry

module _ (a : Arena) (limited : Bool) (fs : WasmFeatures) (d : Side) (s : SpaceLists) (side : Entries) (info : TypeInfo) (n : Extern_name) (t : Type_tree) (stand : All (EntryStands a) side.items) (agree : NamesAgree side) where
  abbrev Es : List (Extern_name × Type_tree)
  Es = entry_trees (trees a.nodes) side.items

  abbrev full_list : Checks
  full_list = full_if limited max_entries (length side.items)

  abbrev size_alone : Checks
  size_alone = externs.too_large_with info t

  abbrev room_alone : Checks
  room_alone = no_room (room_counts s) (sort t)

  abbrev handed : Checks
  handed = lent tree_reader d t

  abbrev alone : Checks
  alone = room_alone ++ size_alone

  kept : externs.name_checks (names_of side.resources) fs Es n t ≡ name_checks fs Es n t
  kept = names_kept a side.resources side.items fs n t stand agree.references agree.names

  pub enter_free : IsFree (extern_checks (names_of side.resources) fs (entry_trees (trees a.nodes) side.items) info n t) → IsFree (full_if limited max_entries (length side.items)) → IsFree (no_room (room_counts s) (sort t)) → IsFree (lent tree_reader d t) →
      IsFree (entry_checks limited fs d (trees a.nodes) s side.items info n t)
  enter_free h l r b =
      free_both full_list (name_checks fs Es n t ++ (alone ++ handed)) l
      (free_both (name_checks fs Es n t) (alone ++ handed) (subst IsFree kept (free_left (externs.name_checks (names_of side.resources) fs Es n t) size_alone h))
      (free_both alone handed (free_both room_alone size_alone r (free_right (externs.name_checks (names_of side.resources) fs Es n t) size_alone h)) b))

  pub name_caused : {M : Type 0} (offset : ℕ) (e : Error M) → MemoryOrCausedBy (extern_checks (names_of side.resources) fs (entry_trees (trees a.nodes) side.items) info n t) offset e → MemoryOrCausedBy (entry_checks limited fs d (trees a.nodes) s side.items info n t) offset e
  name_caused offset e h =
      caused_more (name_checks fs Es n t ++ size_alone) (full_list ++ (name_checks fs Es n t ++ (alone ++ handed))) offset e
      (λ q. cause_right full_list (name_checks fs Es n t ++ (alone ++ handed)) (error_kind e)
      (⊎_elim (λ k. cause_left (name_checks fs Es n t) (alone ++ handed) (error_kind e) k)
      (λ k. cause_right (name_checks fs Es n t) (alone ++ handed) (error_kind e) (cause_left alone handed (error_kind e) (cause_right room_alone size_alone (error_kind e) k)))
      (cause_either (name_checks fs Es n t) size_alone (error_kind e) q)))
      (subst (λ (cs : Checks). MemoryOrCausedBy (cs ++ size_alone) offset e) kept h)

  pub side_caused : {M : Type 0} (offset : ℕ) (e : Error M) → MemoryOrCausedBy (full_if limited max_entries (length side.items)) offset e → MemoryOrCausedBy (entry_checks limited fs d (trees a.nodes) s side.items info n t) offset e
  side_caused offset e h =
      caused_more full_list (full_list ++ (name_checks fs Es n t ++ (alone ++ handed))) offset e
      (λ q. cause_left full_list (name_checks fs Es n t ++ (alone ++ handed)) (error_kind e) q) h

  -- some of the causes behind those of the name
  behind_name : {M : Type 0} (cs : Checks) (offset : ℕ) (e : Error M) → (Cause cs (error_kind e) → Cause (alone ++ handed) (error_kind e)) → MemoryOrCausedBy cs offset e → MemoryOrCausedBy (full_list ++ (name_checks fs Es n t ++ (alone ++ handed))) offset e
  behind_name cs offset e f h =
      caused_more cs (full_list ++ (name_checks fs Es n t ++ (alone ++ handed))) offset e
      (λ q. cause_right full_list (name_checks fs Es n t ++ (alone ++ handed)) (error_kind e) (cause_right (name_checks fs Es n t) (alone ++ handed) (error_kind e) (f q))) h

  pub room_caused : {M : Type 0} (offset : ℕ) (e : Error M) → MemoryOrCausedBy (no_room (room_counts s) (sort t)) offset e → MemoryOrCausedBy (entry_checks limited fs d (trees a.nodes) s side.items info n t) offset e
  room_caused offset e h = behind_name room_alone offset e (λ q. cause_left alone handed (error_kind e) (cause_left room_alone size_alone (error_kind e) q)) h

  pub lent_caused : {M : Type 0} (offset : ℕ) (e : Error M) → MemoryOrCausedBy (lent tree_reader d t) offset e → MemoryOrCausedBy (entry_checks limited fs d (trees a.nodes) s side.items info n t) offset e
  lent_caused offset e h = behind_name handed offset e (λ q. cause_right alone handed (error_kind e) q) h

  -- a name that may join is new
  pub entry_new : IsFree (entry_checks limited fs d (trees a.nodes) s side.items info n t) → list_any (bytes_eq n.name) (names_in side.items) ≡ false
  entry_new h =
      may_join (trees a.nodes) side.items (resource_names Es) fs n t
      (free_left (name_checks fs Es n t) (alone ++ handed) (free_right full_list (name_checks fs Es n t ++ (alone ++ handed)) h))

-- the names of a list with one more entry
pub admitted_agree : (side mid side' : Entries) (i i' : TypeInfo) (n : ComponentExternName) (x : ComponentEntityType) (t : Type_tree) → NamesAgree side → Admitted side mid i i' n x t → mid.items ≡ side.items → side'.items ≡ mid.items ++ entry_of n x ∷ [] → side'.names ≡ mid.names →
    side'.resources ≡ mid.resources → list_any (bytes_eq n.name) (names_in side.items) ≡ false → NamesAgree side'
admitted_agree side mid side' i i' n x t h a m w ks rs new =
    let e : side'.items ≡ side.items ++ entry_of n x ∷ [] = w ∙ ap (λ (es : Listed). es ++ entry_of n x ∷ []) m in
    record {
      keys = keys_of_joined side'.names side.items side'.items (entry_of n x) e (subst (λ (s : List Text). HasKeys s (names_in side.items ++ n.name ∷ [])) (sym ks) a.keys);
      references = joined_references side.resources.references side'.resources.references side.items side'.items n x h.references (ap (λ (c : Named_ids). c.references) rs ∙ a.references) e;
      names = joined_names side.resources.names side'.resources.names side.items side'.items n x h.names
          (subst (λ (s : List Text). (ks : List Text) → AreKeys side.resources.names ks → AreKeys s (ks ++ map (λ q. n.name) (created_reference x))) (sym (ap (λ (c : Named_ids). c.names) rs)) a.names) e;
      apart = joined_apart side.items side'.items (entry_of n x) e h.apart new;
    }
