-- Groups of core types without a cause are closed, and declarations of a core module without one make a module.
use Rattle.std.proofs.Common.{◌≡◌, ℕ, List, [], ◌∷◌, ◌++◌, refl, sym, ◌∙◌, ap, subst, Bool, true, false, cond, Some, None, length}
use Rattle.std.specs.Prelude.{Option, slice_get, not, ◌&&◌, is_some}
use Rattle.std.proofs.lemmas.Bool.{false≢true}
use Rattle.wcv_core.specs.Checks.{all_checks}
use Rattle.wcv_core.specs.Features.{exceptions, shared_everything_threads, memory64}
use Rattle.wcv_core.specs.CoreFeatures.{needs, group_needs, ref_needs, val_needs}
use Rattle.wcv_core.specs.CoreForm.{Group}
use Rattle.wcv_core.specs.CoreGroups.{total}
use Rattle.wcv_core.specs.CoreJoining.{is_free, order_checks, written_checks, table_checks, group_checks, then_checks}
use Rattle.wcv_core.specs.CoreWritten.{Core_entry, sub_entry, module_entry, entry_checks, heap_checks, val_checks, index_checks, closed_group}
use Rattle.wcv_core.specs.declared.core_types.CoreTypeId.{CoreTypeId}
use Rattle.wcv_core.specs.declared.core_types.EntityType.{EntityType}
use Rattle.wcv_core.specs.declared.core_types.EntityType.TheVariants as entity
use Rattle.wcv_core.specs.declared.error.ErrorKind.TheVariants as kind
use Rattle.wcv_core.specs.declared.features.WasmFeatures.{WasmFeatures}
use Rattle.wcv_syntax.specs.CoreItems as core
use Rattle.wcv_syntax.specs.CoreItems.{func_checks, ref_checks, entity_of, is_no_func, gives, type_entries, closed_table, closed_global, table_sizes, element_checks, sharing_checks}
use Rattle.wcv_syntax.specs.Model.{Module_decl, module_type, module_import, module_export, module_outer}
use Rattle.wcv_syntax.specs.ModuleTypes.{Module_type, Made, module_entries, space_at, at_index, alias_checks, on_entry, if_entity, import_checks, export_checks, types_checks, decl_checks, with_group_of, with_import, with_export, with_type, declared, and_then, all_declared, on_made, module_checks}
use Rattle.wcv_syntax.specs.declared.core_section.TypeRef.{TypeRef}
use Rattle.wcv_syntax.specs.declared.core_section.TypeRef.TheVariants as ref
use Rattle.wcv_lower.specs.Checks.{Checks, IsFree, missing}
use Rattle.wcv_lower.specs.CoreItems.{is_closable, is_core_rule, keeps_rules, may_join, is_found, is_declarable, declaration_made, module_made}
use Rattle.wcv_lower.proofs.Causes.{free_left, free_right}
use Rattle.wcv_lower.proofs.ValueLaws.{mapped, found_there}

-- ## Checks one after another

pub said_free : (cs : Checks) → IsFree cs → is_free cs ≡ true
said_free [] f = refl
said_free (c ∷ cs) f = λ j. not (f.0 j) && said_free cs f.1 j

-- without a cause, none is a rule that is broken
rules_kept : (cs : Checks) → IsFree cs → keeps_rules cs ≡ true
rules_kept [] f = refl
rules_kept (c ∷ cs) f = (λ j. not (is_core_rule c.0 && f.0 j) && keeps_rules cs) ∙ go (is_core_rule c.0) (rules_kept cs f.1)
  where
    go : (b : Bool) → keeps_rules cs ≡ true → (not (b && false) && keeps_rules cs) ≡ true
    go true e = e
    go false e = e

free_first : (cs ds : Checks) → IsFree (then_checks cs ds) → IsFree cs
free_first cs ds h = free_left cs (cond (is_free cs) ds []) h

free_second : (cs ds : Checks) → IsFree (then_checks cs ds) → IsFree ds
free_second cs ds h = subst (λ (b : Bool). IsFree (cond b ds [])) (said_free cs (free_first cs ds h)) (free_right cs (cond (is_free cs) ds []) h)

-- ## Groups

closable : (fs : WasmFeatures) (gs : List Group) (es : List Core_entry) (w : Group) → IsFree (group_checks fs gs es w) → is_closable gs es w ≡ true
closable fs gs es w h =
    let indices : Checks = all_checks (index_checks (total gs) es (length w)) w ++ order_checks (length es) w in
    said_free indices (free_right (group_needs fs w) indices (free_first (written_checks fs (total gs) es w) (table_checks gs (closed_group es w)) h))

pub joinable : (fs : WasmFeatures) (gs : List Group) (es : List Core_entry) (w : Group) → IsFree (group_checks fs gs es w) → may_join gs es w ≡ true
joinable fs gs es w h = λ j. closable fs gs es w h j && rules_kept (table_checks gs (closed_group es w)) (free_second (written_checks fs (total gs) es w) (table_checks gs (closed_group es w)) h) j

-- ## What is looked up is there

func_there : (gs : List Group) (o : Option CoreTypeId) → IsFree (func_checks gs o) → (t : CoreTypeId) × (o ≡ Some t)
func_there gs o h = found_there o (free_left (missing o) ((kind.WrongSort, is_no_func gs o) ∷ []) h)

tag_func : (fs : WasmFeatures) (gs : List Group) (o : Option CoreTypeId) → IsFree (core.tag_checks fs gs o) → IsFree (func_checks gs o)
tag_func fs gs o h = free_left (func_checks gs o) ((kind.CoreType, gives gs o) ∷ []) (free_right (needs fs exceptions true) (func_checks gs o ++ (kind.CoreType, gives gs o) ∷ []) h)

entity_there : (fs : WasmFeatures) (gs : List Group) (ts : List CoreTypeId) (t : TypeRef) → IsFree (ref_checks fs gs ts t) → (e : EntityType) × (entity_of ts t ≡ Some e)
entity_there fs gs ts (ref.Func i) h = mapped entity.Func (slice_get ts i) (func_there gs (slice_get ts i) h)
entity_there fs gs ts (ref.Tag i) h = mapped entity.Tag (slice_get ts i) (func_there gs (slice_get ts i) (tag_func fs gs (slice_get ts i) h))
entity_there fs gs ts (ref.Table t) h = (entity.Table (closed_table (type_entries ts) t), refl)
entity_there fs gs ts (ref.Memory m) h = (entity.Memory m, refl)
entity_there fs gs ts (ref.Global g) h = (entity.Global (closed_global (type_entries ts) g), refl)

found : (fs : WasmFeatures) (gs : List Group) (ts : List CoreTypeId) (t : TypeRef) → IsFree (ref_checks fs gs ts t) → is_found gs ts t ≡ true
found fs gs ts (ref.Func i) h = said_free (func_checks gs (slice_get ts i)) h
found fs gs ts (ref.Tag i) h = said_free (func_checks gs (slice_get ts i)) (tag_func fs gs (slice_get ts i) h)
found fs gs ts (ref.Table t) h =
    let es : List Core_entry = type_entries ts in
    let looked : Checks = then_checks (element_checks fs gs es t.element_type) (sharing_checks gs es t) in
    let rest : Checks = table_sizes t ++ looked in
    let free : IsFree looked = free_right (table_sizes t) looked (free_right (needs fs shared_everything_threads t.shared) rest (free_right (needs fs memory64 t.table64) (needs fs shared_everything_threads t.shared ++ rest) h)) in
    said_free (heap_checks (total gs) es 0 t.element_type.heap) (free_right (ref_needs fs t.element_type) (heap_checks (total gs) es 0 t.element_type.heap) (free_first (element_checks fs gs es t.element_type) (sharing_checks gs es t) free))
found fs gs ts (ref.Memory m) h = refl
found fs gs ts (ref.Global g) h =
    let vs : Checks = val_checks (total gs) (type_entries ts) 0 g.content_type in
    said_free vs (free_right (val_needs fs g.content_type) vs (free_right (needs fs shared_everything_threads g.shared) (val_needs fs g.content_type ++ vs) h))

entry_there : (o : Option Core_entry) → IsFree (entry_checks o) → (i : ℕ) × (on_entry o ≡ Some i)
entry_there None h = absurd (false≢true (sym h.0))
entry_there (Some (sub_entry i)) h = (i, refl)
entry_there (Some module_entry) h = absurd (false≢true (sym (free_right (missing (Some module_entry)) ((kind.WrongSort, true) ∷ []) h).0))

-- ## Declarations

declarable : (outers : List (List Core_entry)) (gs : List Group) (m : Module_type) (d : Module_decl) → IsFree (decl_checks outers gs m d) → is_declarable gs m d ≡ true
declarable outers gs m (module_type w) h = joinable m.features gs (module_entries m) w (free_right (types_checks m (length w)) (group_checks m.features gs (module_entries m) w) h)
declarable outers gs m (module_import i) h = found m.features gs m.types i.ty (free_left (ref_checks m.features gs m.types i.ty) (if_entity (import_checks gs m) (entity_of m.types i.ty)) h)
declarable outers gs m (module_export n t) h = found m.features gs m.types t (free_left (ref_checks m.features gs m.types t) (if_entity (export_checks gs m n) (entity_of m.types t)) h)
declarable outers gs m (module_outer k i) h = refl

-- a declaration without a cause does what it would do by no look at its indices
declared_same : (outers : List (List Core_entry)) (gs : List Group) (m : Module_type) (d : Module_decl) → IsFree (decl_checks outers gs m d) → declaration_made outers gs m d ≡ declared outers gs m d
declared_same outers gs m d h = ap (λ (b : Bool). cond b (declared outers gs m d) None) (declarable outers gs m d h)

decl_made : (outers : List (List Core_entry)) (gs : List Group) (m : Module_type) (d : Module_decl) → IsFree (decl_checks outers gs m d) → (s : Made) × (declared outers gs m d ≡ Some s)
decl_made outers gs m (module_type w) h = (with_group_of gs m w, refl)
decl_made outers gs m (module_import i) h =
    mapped (λ e. (gs, with_import gs m (i.module, i.name) e)) (entity_of m.types i.ty)
    (entity_there m.features gs m.types i.ty (free_left (ref_checks m.features gs m.types i.ty) (if_entity (import_checks gs m) (entity_of m.types i.ty)) h))
decl_made outers gs m (module_export n t) h =
    mapped (λ e. (gs, with_export gs m n e)) (entity_of m.types t)
    (entity_there m.features gs m.types t (free_left (ref_checks m.features gs m.types t) (if_entity (export_checks gs m n) (entity_of m.types t)) h))
decl_made outers gs m (module_outer k i) h =
    let o : Option (List Core_entry) = space_at outers m k in
    mapped (λ t. (gs, with_type m t)) (on_entry (at_index o i))
    (entry_there (at_index o i) (free_right (missing o) (entry_checks (at_index o i)) (free_left (alias_checks o i) (types_checks m 1) h)))

-- declarations without a cause make what they would make by no look at their indices, and that is something
made_there : (outers : List (List Core_entry)) (gs : List Group) (m : Module_type) (ds : List Module_decl) → IsFree (module_checks outers gs m ds) → (module_made outers gs m ds ≡ all_declared outers gs m ds) × (s : Made) × (all_declared outers gs m ds ≡ Some s)
made_there outers gs m [] h = (refl, (gs, m), refl)
made_there outers gs m (d ∷ ds) h =
    let own : IsFree (decl_checks outers gs m d) = free_first (decl_checks outers gs m d) (on_made (λ s. module_checks outers s.0 s.1 ds) (declared outers gs m d)) h in
    let w = go (declared outers gs m d) (decl_made outers gs m d own) (free_second (decl_checks outers gs m d) (on_made (λ s. module_checks outers s.0 s.1 ds) (declared outers gs m d)) h) (λ s k. made_there outers s.0 s.1 ds k) in
    (ap (and_then (λ s. module_made outers s.0 s.1 ds)) (declared_same outers gs m d own) ∙ w.0, w.1, w.2)
  where
    go : (o : Option Made) → (s : Made) × (o ≡ Some s) → IsFree (on_made (λ s. module_checks outers s.0 s.1 ds) o) →
        ((s : Made) → IsFree (module_checks outers s.0 s.1 ds) → (module_made outers s.0 s.1 ds ≡ all_declared outers s.0 s.1 ds) × (t : Made) × (all_declared outers s.0 s.1 ds ≡ Some t)) →
        (and_then (λ s. module_made outers s.0 s.1 ds) o ≡ and_then (λ s. all_declared outers s.0 s.1 ds) o) × (s : Made) × (and_then (λ s. all_declared outers s.0 s.1 ds) o ≡ Some s)
    go None s k rest = absurd (false≢true (ap is_some s.1))
    go (Some s) t k rest = rest s k

pub made_same : (outers : List (List Core_entry)) (gs : List Group) (m : Module_type) (ds : List Module_decl) → IsFree (module_checks outers gs m ds) → module_made outers gs m ds ≡ all_declared outers gs m ds
made_same outers gs m ds h = (made_there outers gs m ds h).0

pub all_made : (outers : List (List Core_entry)) (gs : List Group) (m : Module_type) (ds : List Module_decl) → IsFree (module_checks outers gs m ds) → (s : Made) × (module_made outers gs m ds ≡ Some s)
all_made outers gs m ds h =
    let w = made_there outers gs m ds h in
    (w.1, w.0 ∙ w.2)
