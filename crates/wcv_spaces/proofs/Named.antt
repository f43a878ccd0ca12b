-- Which entities pass as entries by sets of ids.
use Rattle.std.proofs.Common.{◌≡◌, ℕ, suc, ◌+◌, ◌<◌, List, [], ◌∷◌, ◌++◌, drop, length, get_or, refl, sym, ◌∙◌, ap, subst, Bool, true, false, ◌&&◌, ◌||◌, ◌⊎◌, inl, inr, ⊎_elim, cond, drop-cons, add-one}
use Rattle.std.specs.Prelude.{not}
use Rattle.std.proofs.lemmas.Bool.{false≢true}
use Rattle.wcv_core.specs.Refusal.{error_kind, error_offset}
use Rattle.wcv_core.specs.declared.error.Error.{Error}
use Rattle.wcv_core.specs.declared.error.ErrorKind.TheVariants as error
use Rattle.wcv_types.specs.Arena.{Arena}
use Rattle.wcv_types.specs.Entities.{any_part, entity_tree, EntityStands, SlotStands}
use Rattle.wcv_types.specs.Identity.{Identity, same_identity}
use Rattle.wcv_types.specs.Named.{is_named, passes}
use Rattle.std.proofs.lemmas.Bool.{eqb-true}
use Rattle.wcv_types.specs.Sets.{same_type, has_type, with_type, AllStand, identities}
use Rattle.wcv_types.specs.Standing.{Stands}
use Rattle.wcv_types.specs.Tree.{Text, sort, type_of, is_value, is_func, is_type, is_instance, is_component, is_module, export, nothing, primitive, resource, defined, func, instance, component, type_entity, core_module, core_instance, core_type, core_item, node, Parts}
use Rattle.wcv_core.specs.Names.{Name}
use Rattle.wcv_types.specs.Unfold.{Type_tree, trees, tree_in, tree_at, slot_tree, value_slot, entry_slots, slot_parts}
use Rattle.wcv_types.specs.declared.ids.ComponentAnyTypeId.{ComponentAnyTypeId}
use Rattle.wcv_types.specs.declared.ids.ComponentAnyTypeId.TheVariants as any
use Rattle.wcv_types.specs.declared.ids.ComponentCoreModuleTypeId.{ComponentCoreModuleTypeId}
use Rattle.wcv_types.specs.declared.ids.ComponentFuncTypeId.{ComponentFuncTypeId}
use Rattle.wcv_types.specs.declared.ids.ComponentInstanceTypeId.{ComponentInstanceTypeId}
use Rattle.wcv_types.specs.declared.ids.ComponentTypeId.{ComponentTypeId}
use Rattle.wcv_types.specs.declared.ids.Part.TheVariants as part
use Rattle.wcv_types.specs.declared.item_map.ComponentItem.{ComponentItem}
use Rattle.wcv_types.specs.declared.shapes.ComponentEntityType.{ComponentEntityType}
use Rattle.wcv_types.specs.declared.shapes.ComponentEntityType.TheVariants as entity
use Rattle.wcv_types.specs.declared.shapes.ComponentValType.{ComponentValType}
use Rattle.wcv_types.specs.declared.shapes.ComponentValType.TheVariants as val
use Rattle.wcv_types.proofs.Unfolding.{sort_stands, known_any}
use Rattle.wcv_lower.specs.Context.{Kind, asks_names, Side, importing, exporting, names_for, with_named}
use Rattle.wcv_lower.specs.Entries.{unnamed}
use Rattle.wcv_lower.specs.Trees.{tree_reader, creates, all_created, is_known, named_after, is_export_alone, entry_passes, exports_pass}
use Rattle.wcv_spaces.specs.Parts.{set_of}
use Rattle.wcv_spaces.specs.Naming.{known, alone_ids, Names, SetsGrew, IsSettled, AllSettled}
use Rattle.wcv_spaces.specs.Promises.{IsPrefix, MemoryOrCausedBy}
use Rattle.wcv_spaces.specs.declared.naming.NamedTypes.{NamedTypes}
use Rattle.wcv_spaces.proofs.Keeping.{no_more, prefix_trans}
use Rattle.wcv_spaces.proofs.NamedMore.{Named_sets, named_append, more_after, settled_more}
use Rattle.wcv_spaces.proofs.NamedSets.{in_set, pushed_grows, names_none}
use Rattle.wcv_spaces.specs.Looking.{entity_sort}
use Rattle.wcv_spaces.proofs.Brought.{entity_sorted}

-- ## By sorts

module _ (named : Named_sets) (s : Side) where
  func_entry : (t : Type_tree) → sort t ≡ is_func → passes (named s) t ≡ entry_passes named s t
  func_entry (node nothing ps) e = refl
  func_entry (node (primitive q) ps) e = refl
  func_entry (node (resource r x) ps) e = refl
  func_entry (node (defined i x) ps) e = cc
  func_entry (node (func i b) ps) e = refl
  func_entry (node (instance i own) ps) e = cc
  func_entry (node (component i ins outs) ps) e = refl
  func_entry (node type_entity ps) e = cc
  func_entry (node (core_module i n) ps) e = refl
  func_entry (node (core_instance i n) ps) e = refl
  func_entry (node (core_type i) ps) e = refl
  func_entry (node (core_item x) ps) e = refl

  value_entry : (t : Type_tree) → sort t ≡ is_value → is_named (named s) t ≡ entry_passes named s t
  value_entry (node nothing ps) e = refl
  value_entry (node (primitive q) ps) e = refl
  value_entry (node (resource r x) ps) e = cc
  value_entry (node (defined i x) ps) e = refl
  value_entry (node (func i b) ps) e = cc
  value_entry (node (instance i own) ps) e = cc
  value_entry (node (component i ins outs) ps) e = refl
  value_entry (node type_entity ps) e = cc
  value_entry (node (core_module i n) ps) e = refl
  value_entry (node (core_instance i n) ps) e = refl
  value_entry (node (core_type i) ps) e = refl
  value_entry (node (core_item x) ps) e = refl

  other_entry : (t : Type_tree) → (sort t ≡ is_type → ⊥) → (sort t ≡ is_instance → ⊥) → (sort t ≡ is_func → ⊥) → (sort t ≡ is_value → ⊥) → true ≡ entry_passes named s t
  other_entry (node nothing ps) e i f v = refl
  other_entry (node (primitive q) ps) e i f v = refl
  other_entry (node (resource r x) ps) e i f v = refl
  other_entry (node (defined k x) ps) e i f v = absurd (v refl)
  other_entry (node (func k b) ps) e i f v = absurd (f refl)
  other_entry (node (instance k own) ps) e i f v = absurd (i refl)
  other_entry (node (component k ins outs) ps) e i f v = refl
  other_entry (node type_entity ps) e i f v = absurd (e refl)
  other_entry (node (core_module k n) ps) e i f v = refl
  other_entry (node (core_instance k n) ps) e i f v = refl
  other_entry (node (core_type k) ps) e i f v = refl
  other_entry (node (core_item x) ps) e i f v = refl

-- ## Entities

module _ (a : Arena) (s : Side) where
  -- a function passes by what it is made of
  pub func_passes : (n : NamedTypes) (i : ComponentFuncTypeId) → Stands a (part.Func i) → passes (known n s) (tree_at a (part.Func i)) ≡ entry_passes (known n) s (tree_at a (part.Func i))
  func_passes n i h = func_entry (known n) s (tree_at a (part.Func i)) (sort_stands a (part.Func i) h)

  -- a value by its type
  pub value_passes : (n : NamedTypes) (v : ComponentValType) → SlotStands a (value_slot v) → is_named (known n s) (slot_tree (trees a.nodes) (value_slot v)) ≡ entry_passes (known n) s (slot_tree (trees a.nodes) (value_slot v))
  value_passes n (val.Primitive q) h = refl
  value_passes n (val.Ty i) h = value_entry (known n) s (tree_at a (part.Defined i)) (sort_stands a (part.Defined i) h)

  -- a module and a component pass
  pub module_passes : (n : NamedTypes) (i : ComponentCoreModuleTypeId) → Stands a (part.Module i) → true ≡ entry_passes (known n) s (tree_at a (part.Module i))
  module_passes n i h =
      let e = sort_stands a (part.Module i) h in
      other_entry (known n) s (tree_at a (part.Module i)) (λ k. let w : is_module ≡ is_type = sym e ∙ k in cc) (λ k. let w : is_module ≡ is_instance = sym e ∙ k in cc) (λ k. let w : is_module ≡ is_func = sym e ∙ k in cc) (λ k. let w : is_module ≡ is_value = sym e ∙ k in cc)

  pub component_passes : (n : NamedTypes) (i : ComponentTypeId) → Stands a (part.Component i) → true ≡ entry_passes (known n) s (tree_at a (part.Component i))
  component_passes n i h =
      let e = sort_stands a (part.Component i) h in
      other_entry (known n) s (tree_at a (part.Component i)) (λ k. let w : is_component ≡ is_type = sym e ∙ k in cc) (λ k. let w : is_component ≡ is_instance = sym e ∙ k in cc) (λ k. let w : is_component ≡ is_func = sym e ∙ k in cc) (λ k. let w : is_component ≡ is_value = sym e ∙ k in cc)

-- what a type refers to is named for exports alone
pub alone_same : (a : Arena) (n : NamedTypes) (s : Side) (c : Type_tree) (r : ComponentAnyTypeId) → Stands a (any_part r) → ((d : Side) → AllStand a (set_of n d)) → alone_ids n s r ≡ is_export_alone (known n) s (type_of c (tree_at a (any_part r)))
alone_same a n importing c r h sets =
    let k = known_any a r h in
    let i = in_set a r h n.imports (sets importing) in
    let o = in_set a r h n.exports (sets exporting) in
    (λ j. o j && not (i j)) ∙ sym (λ j. is_known (identities n.exports) (k j) && not (is_known (identities n.imports) (k j)))
alone_same a n exporting c r h sets = refl

-- it passes where what it refers to does, and is not named for exports alone
pub both_pass : (b c : Bool) → b ≡ true → c ≡ false → (b && not c) ≡ true
both_pass true true h k = sym k
both_pass true false h k = refl
both_pass false c h k = h

-- ## Sets that grow

pub sets_trans : (a : Arena) (n m k : NamedTypes) → SetsGrew a n m → SetsGrew a m k → SetsGrew a n k
sets_trans a n m k v w = record { more = λ d. prefix_trans (set_of n d) (set_of m d) (set_of k d) (v.more d) (w.more d); stand = w.stand }

pub pushed_sets : (a : Arena) (s : Side) (n m : NamedTypes) (c : ComponentAnyTypeId) → Stands a (any_part c) → ((d : Side) → AllStand a (set_of n d)) → ((d : Side) → set_of m d ≡ cond (names_for s d) (with_type (set_of n d) c) (set_of n d)) → SetsGrew a n m
pushed_sets a s n m c h sets e = record {
  more = λ d. subst (IsPrefix (set_of n d)) (sym (e d)) (pushed_grows a (names_for s d) (set_of n d) c h (sets d)).0;
  stand = λ d. subst (AllStand a) (sym (e d)) (pushed_grows a (names_for s d) (set_of n d) c h (sets d)).1;
}

pub partly_pushed : (a : Arena) (n m : NamedTypes) (c : ComponentAnyTypeId) → Stands a (any_part c) → ((d : Side) → AllStand a (set_of n d)) → ((d : Side) → (set_of m d ≡ set_of n d) ⊎ (set_of m d ≡ with_type (set_of n d) c)) → SetsGrew a n m
partly_pushed a n m c h sets e = record { more = λ d. (go d (e d)).0; stand = λ d. (go d (e d)).1 }
  where
    go : (d : Side) → (set_of m d ≡ set_of n d) ⊎ (set_of m d ≡ with_type (set_of n d) c) → IsPrefix (set_of n d) (set_of m d) × AllStand a (set_of m d)
    go d (inl q) = subst (λ xs. IsPrefix (set_of n d) xs × AllStand a xs) (sym q) (no_more (set_of n d), sets d)
    go d (inr q) = subst (λ xs. IsPrefix (set_of n d) xs × AllStand a xs) (sym q) (pushed_grows a true (set_of n d) c h (sets d))

-- ## Exports, one after another

-- the exports, as the parts of an instance
abbrev pub parts_from : Arena → List (Text × ComponentItem) → Parts Name Name
parts_from a es = slot_parts (trees a.nodes) (entry_slots export es)

-- those before the k-th passed, and what they create is named
pub record PassedTo (a : Arena) (s : Side) (n m : NamedTypes) (passed : List ComponentAnyTypeId) (es : List (Text × ComponentItem)) (k : ℕ) : Type 0 where
  pub rest : exports_pass (known n) s (parts_from a es) ≡ exports_pass (known m) s (parts_from a (drop k es))
  pub named : (d : Side) → with_named same_identity (names_for s d) (known n d) (all_created (parts_from a es)) ≡ with_named same_identity (names_for s d) (known m d) (all_created (parts_from a (drop k es)))
  pub settled : AllSettled a s m passed
  pub grew : SetsGrew a n m

module _ (a : Arena) (s : Side) (n m : NamedTypes) (passed : List ComponentAnyTypeId) (es : List (Text × ComponentItem)) (k : ℕ) (e : Text × ComponentItem) (within : k < length es) (is : e ≡ get_or es k e) (so : PassedTo a s n m passed es k) where
  abbrev tree : Type_tree
  tree = entity_tree (trees a.nodes) e.1.ty

  abbrev more : Parts Name Name
  more = parts_from a (drop (suc k) es)

  next : drop k es ≡ e ∷ drop (suc k) es
  next = drop-cons es k e within ∙ ap (λ (d : Text × ComponentItem). d ∷ drop (suc k) es) (sym is)

  split : exports_pass (known n) s (parts_from a es) ≡ (entry_passes (known m) s tree && exports_pass (named_after (known m) s tree) s more)
  split = so.rest ∙ ap (λ (ds : List (Text × ComponentItem)). exports_pass (known m) s (parts_from a ds)) next

  -- one that does not pass
  pub one_fails : entry_passes (known m) s (entity_tree (trees a.nodes) e.1.ty) ≡ false → exports_pass (known n) s (parts_from a es) ≡ false
  one_fails f = split ∙ ap (λ (b : Bool). b && exports_pass (named_after (known m) s tree) s more) f

  -- one that passes
  pub one_passes : (m' : NamedTypes) (passed' : List ComponentAnyTypeId) → entry_passes (known m) s (entity_tree (trees a.nodes) e.1.ty) ≡ true → Names s m m' (creates (entity_tree (trees a.nodes) e.1.ty)) → AllSettled a s m' passed' → SetsGrew a m m' → PassedTo a s n m' passed' es (k + 1)
  one_passes m' passed' p names settled grew =
      let after : named_after (known m) s tree ≡ known m' = λ j d. sym (names d) j in
      subst (PassedTo a s n m' passed' es) (sym (add-one k)) (record {
        rest = split ∙ ap (λ (b : Bool). b && exports_pass (named_after (known m) s tree) s more) p ∙ ap (λ (l : Named_sets). exports_pass l s more) after;
        named = λ d.
            so.named d ∙ ap (λ (ds : List (Text × ComponentItem)). with_named same_identity (names_for s d) (known m d) (all_created (parts_from a ds))) next ∙ named_append (names_for s d) (known m d) (creates tree) (all_created more) ∙
            ap (λ (l : List Identity). with_named same_identity (names_for s d) l (all_created more)) (sym (names d));
        settled = settled;
        grew = sets_trans a n m m' so.grew grew;
      })

-- ## What is settled

-- it is where more is named
pub settled_on : (a : Arena) (s : Side) (n m : NamedTypes) (ids : List ComponentAnyTypeId) (is : List Identity) → Names s n m is → AllSettled a s n ids → AllSettled a s m ids
settled_on a s n m ids is names h = λ i e.
    let after : known m ≡ (λ d. with_named same_identity (names_for s d) (known n d) is) = λ j d. names d j in
    subst (λ (l : Named_sets). IsSettled l s (tree_at a (part.Instance i))) (sym after) (settled_more s (known n) (λ d. with_named same_identity (names_for s d) (known n d) is) (tree_at a (part.Instance i)) (more_after s (known n) is) (h i e))

pushed_type : (ids : List ComponentAnyTypeId) (x y : ComponentAnyTypeId) → has_type (ids ++ x ∷ []) y ≡ true → (has_type ids y ≡ true) ⊎ (same_type y x ≡ true)
pushed_type [] x y h = go (same_type y x) h
  where
    go : (b : Bool) → (b || false) ≡ true → (false ≡ true) ⊎ (b ≡ true)
    go true h = inr refl
    go false h = inl h
pushed_type (z ∷ ids) x y h = go (same_type y z) h (pushed_type ids x y)
  where
    go : (b : Bool) → (b || has_type (ids ++ x ∷ []) y) ≡ true → (has_type (ids ++ x ∷ []) y ≡ true → (has_type ids y ≡ true) ⊎ (same_type y x ≡ true)) → ((b || has_type ids y) ≡ true) ⊎ (same_type y x ≡ true)
    go true h later = inl refl
    go false h later = later h

-- one more instance type
pub settled_pushed : (a : Arena) (s : Side) (n : NamedTypes) (ids : List ComponentAnyTypeId) (i : ComponentInstanceTypeId) → AllSettled a s n ids → IsSettled (known n) s (tree_at a (part.Instance i)) → AllSettled a s n (with_type ids (any.Instance i))
settled_pushed a s n ids i h w = λ j e. go (has_type ids (any.Instance i)) j e
  where
    here : (j : ComponentInstanceTypeId) → j.index ≡ i.index → IsSettled (known n) s (tree_at a (part.Instance j))
    here j e = subst (λ (k : ℕ). IsSettled (known n) s (tree_in (trees a.nodes) k)) (sym e) w

    go : (b : Bool) (j : ComponentInstanceTypeId) → has_type (cond b ids (ids ++ any.Instance i ∷ [])) (any.Instance j) ≡ true → IsSettled (known n) s (tree_at a (part.Instance j))
    go true j e = h j e
    go false j e = ⊎_elim (λ k. h j k) (λ k. here j (eqb-true j.index i.index k)) (pushed_type ids (any.Instance i) (any.Instance j) e)

-- ## What names none

abbrev pub makes_none : ComponentEntityType → Bool
makes_none (entity.Ty c r) = false
makes_none (entity.Instance i) = false
makes_none x = true

pub entity_none : (a : Arena) (s : Side) (n : NamedTypes) (x : ComponentEntityType) → EntityStands a x → makes_none x ≡ true → Names s n n (creates (entity_tree (trees a.nodes) x))
entity_none a s n x h m = names_none s n (entity_tree (trees a.nodes) x) (λ e. no_type x m (sym (entity_sorted a x h) ∙ e)) (λ e. none_instance x m (sym (entity_sorted a x h) ∙ e))
  where
    no_type : (x : ComponentEntityType) → makes_none x ≡ true → entity_sort x ≡ is_type → ⊥
    no_type (entity.Module i) m e = cc
    no_type (entity.Func i) m e = cc
    no_type (entity.Value v) m e = cc
    no_type (entity.Ty c r) m e = false≢true m
    no_type (entity.Instance i) m e = cc
    no_type (entity.Component i) m e = cc

    none_instance : (x : ComponentEntityType) → makes_none x ≡ true → entity_sort x ≡ is_instance → ⊥
    none_instance (entity.Module i) m e = cc
    none_instance (entity.Func i) m e = cc
    none_instance (entity.Value v) m e = cc
    none_instance (entity.Ty c r) m e = cc
    none_instance (entity.Instance i) m e = false≢true m
    none_instance (entity.Component i) m e = cc

-- ## The whole entry

-- it is refused where names are asked and it does not pass
pub not_named : {M : Type 0} (k : Kind) (t : Type_tree) (named : Named_sets) (s : Side) (offset : ℕ) (e : Error M) → asks_names k ≡ true → entry_passes named s t ≡ false → error_kind e ≡ error.Unnamed → error_offset e ≡ offset → MemoryOrCausedBy (unnamed tree_reader k named s t) offset e
not_named k t named s offset e q n kind at = inr (inl (kind, (λ j. q j && not (n j))), at)
