-- A table stands behind the declarations of a core module, and the module's core types are of it.
use Rattle.std.proofs.Common.{◌≡◌, ℕ, zero, suc, ◌<◌, List, [], ◌∷◌, refl, sym, subst, Bool, true, false, cond, Some, None}
use Rattle.std.specs.Prelude.{All, Option, slice_get}
use Rattle.std.specs.Option.{option_map}
use Rattle.std.proofs.lemmas.List.Elements.{All-cons, All-head, All-tail}
use Rattle.wcv_core.specs.CoreForm.{Group}
use Rattle.wcv_core.specs.CoreGroups.{total}
use Rattle.wcv_core.specs.CoreJoining.{group_ids, grown, with_types}
use Rattle.wcv_core.specs.CoreWritten.{Core_entry, sub_entry, module_entry, IsKnown, closed_group}
use Rattle.wcv_core.specs.declared.core_types.EntityType.{EntityType}
use Rattle.wcv_core.proofs.Ranges.{known_push}
use Rattle.wcv_types.proofs.Each.{map-push}
use Rattle.wcv_types.proofs.Lists.{some-inj}
use Rattle.wcv_syntax.specs.CoreItems.{type_entry, entity_of}
use Rattle.wcv_syntax.specs.Model.{Module_decl, module_type, module_import, module_export, module_outer}
use Rattle.wcv_syntax.specs.ModuleTypes.{Module_type, Made, module_entries, with_type, with_import, with_export, with_group_of, at_index, on_entry, entry_id, aliased, and_then}
use Rattle.wcv_lower.specs.CoreItems.{may_join, is_found, declaration_made, module_made}
use Rattle.wcv_lower.specs.Tables.{StandsOver}
use Rattle.wcv_lower.proofs.Bringing.{all_at, map-some}
use Rattle.wcv_lower.proofs.TableGroups.{joined_stands, ids_known}

-- ## Core types of a module

type_known : (n i : ℕ) (m : Module_type) → i < n → All (IsKnown n) (module_entries m) → All (IsKnown n) (module_entries (with_type m i))
type_known n i m l k = subst (All (IsKnown n)) (sym (map-push type_entry m.types (record { index = i }))) (known_push n i (module_entries m) l k)

types_known : (n : ℕ) (is : List ℕ) (m : Module_type) → All (λ i. i < n) is → All (IsKnown n) (module_entries m) → All (IsKnown n) (module_entries (with_types with_type m is))
types_known n [] m l k = k
types_known n (i ∷ is) m l k = types_known n is (with_type m i) (All-tail (λ i. i < n) i is l) (type_known n i m (All-head (λ i. i < n) i is l) k)

entry_known : (n t : ℕ) (e : Core_entry) → IsKnown n e → entry_id e ≡ Some t → t < n
entry_known n t (sub_entry i) k e = subst (λ (j : ℕ). j < n) (some-inj e) k
entry_known n t module_entry k e = cc

named_known : (n i t : ℕ) (es : List Core_entry) → All (IsKnown n) es → on_entry (slice_get es i) ≡ Some t → t < n
named_known n i t es k e = go (slice_get es i) refl e
  where
    go : (o : Option Core_entry) → slice_get es i ≡ o → on_entry o ≡ Some t → t < n
    go None q e = cc
    go (Some x) q e = entry_known n t x (all_at (IsKnown n) es i x k q) e

-- the first space changed
headed : (gs : List Group) (es fs : List Core_entry) (ess : List (List Core_entry)) → StandsOver gs (es ∷ ess) → All (IsKnown (total gs)) fs → StandsOver gs (fs ∷ ess)
headed gs es fs ess h k = record {
  table = h.table;
  forms = h.forms;
  known = All-cons (λ xs. All (IsKnown (total gs)) xs) fs ess k (All-tail (λ xs. All (IsKnown (total gs)) xs) es ess h.known);
}

-- ## Declarations, where the spaces around are among these

module _ (outers ess : List (List Core_entry)) (among : (k : ℕ) (es : List Core_entry) → slice_get outers k ≡ Some es → (j : ℕ) × (slice_get ess j ≡ Some es)) where
  abbrev pub Stands : Made → Type 0
  Stands s = StandsOver s.0 (module_entries s.1 ∷ ess)

  module _ (gs : List Group) (m : Module_type) (h : Stands (gs, m)) where
    abbrev Each : List Core_entry → Type 0
    Each xs = All (IsKnown (total gs)) xs

    own_known : Each (module_entries m)
    own_known = All-head Each (module_entries m) ess h.known

    aliased_known : (k i t : ℕ) → aliased outers m k i ≡ Some t → t < total gs
    aliased_known zero i t e = named_known (total gs) i t (module_entries m) own_known e
    aliased_known (suc k) i t e = go (slice_get outers k) refl e
      where
        go : (o : Option (List Core_entry)) → slice_get outers k ≡ o → on_entry (at_index o i) ≡ Some t → t < total gs
        go None q e = cc
        go (Some es) q e =
            let w = among k es q in
            named_known (total gs) i t es (all_at Each ess w.0 es (All-tail Each (module_entries m) ess h.known) w.1) e

    group_stands : (w : Group) → may_join gs (module_entries m) w ≡ true → Stands (with_group_of gs m w)
    group_stands w q =
        let g : Group = closed_group (module_entries m) w in
        let hs : List Group = grown gs g in
        let s : StandsOver hs (module_entries m ∷ ess) = joined_stands gs (module_entries m ∷ ess) (module_entries m) w h own_known q in
        headed hs (module_entries m) (module_entries (with_types with_type m (group_ids gs g))) ess s
        (types_known (total hs) (group_ids gs g) m (ids_known gs g) (All-head (λ xs. All (IsKnown (total hs)) xs) (module_entries m) ess s.known))

    -- an import or an export leaves the core types
    entity_stands : (b : Bool) (f : EntityType → Module_type) → ((e : EntityType) → module_entries (f e) ≡ module_entries m) → (o : Option EntityType) (s : Made) → cond b (option_map (λ e. (gs, f e)) o) None ≡ Some s → Stands s
    entity_stands true f same o s e =
        let w = map-some (λ e. (gs, f e)) o s e in
        subst Stands (some-inj w.2) (subst (λ (xs : List Core_entry). StandsOver gs (xs ∷ ess)) (sym (same w.0)) h)
    entity_stands false f same o s e = cc

    declared_stands : (d : Module_decl) (s : Made) → declaration_made outers gs m d ≡ Some s → Stands s
    declared_stands (module_type w) s e = go (may_join gs (module_entries m) w) refl e
      where
        go : (b : Bool) → may_join gs (module_entries m) w ≡ b → cond b (Some (with_group_of gs m w)) None ≡ Some s → Stands s
        go true q e = subst Stands (some-inj e) (group_stands w q)
        go false q e = cc
    declared_stands (module_import i) s e = entity_stands (is_found gs m.types i.ty) (λ x. with_import gs m (i.module, i.name) x) (λ x. refl) (entity_of m.types i.ty) s e
    declared_stands (module_export n t) s e = entity_stands (is_found gs m.types t) (λ x. with_export gs m n x) (λ x. refl) (entity_of m.types t) s e
    declared_stands (module_outer k i) s e =
        let w = map-some (λ t. (gs, with_type m t)) (aliased outers m k i) s e in
        subst Stands (some-inj w.2) (headed gs (module_entries m) (module_entries (with_type m w.0)) ess h (type_known (total gs) w.0 m (aliased_known k i w.0 w.1) own_known))

  pub module_stands : (gs : List Group) (m : Module_type) (ds : List Module_decl) (s : Made) → Stands (gs, m) → module_made outers gs m ds ≡ Some s → Stands s
  module_stands gs m [] s h e = subst Stands (some-inj e) h
  module_stands gs m (d ∷ ds) s h e = go (declaration_made outers gs m d) refl e (λ r. module_stands r.0 r.1 ds s)
    where
      go : (o : Option Made) → declaration_made outers gs m d ≡ o → and_then (λ r. module_made outers r.0 r.1 ds) o ≡ Some s → ((r : Made) → Stands r → module_made outers r.0 r.1 ds ≡ Some s → Stands s) → Stands s
      go None q e later = cc
      go (Some r) q e later = later r (declared_stands gs m h d r q) e
