-- Core types, groups of them, and core type items are read again.
use Rattle.std.proofs.Common.{◌≡◌, ℕ, Bool, true, false, Option, Some, None, Result, List, [], ◌∷◌, ◌++◌, refl, sym, ◌∙◌}
use Rattle.wcv_core.specs.CoreForm.{Group, SubForm, CompositeForm, func_form, struct_form, array_form}
use Rattle.wcv_core.specs.declared.core_types.SuperType.{SuperType}
use Rattle.wcv_core.specs.declared.core_types.SuperType.TheVariants as super
use Rattle.wcv_syntax.specs.Model.{Module_decl, module_type, module_import, module_export, module_outer, core_rec, core_module_type}
use Rattle.wcv_bytes.specs.declared.fault.Fault.{Fault}
use Rattle.wcv_bytes.specs.Reading.{byte_at, expected_at, leb_at, of_one, of_two, u32_at, vec_at, text_at}
use Rattle.wcv_binary.specs.CoreValues.{core_val_at, field_at}
use Rattle.wcv_binary.specs.CoreTypes.{core_func_at, inner_at, composite_at, super_at, place_at, sub_at, group_at}
use Rattle.wcv_binary.specs.Entities.{entity_at, core_import_at}
use Rattle.wcv_binary.specs.ModuleTypes.{module_export_at, module_outer_at, module_decl_at, marked_group_at, core_type_at}
use Rattle.wcv_encode.specs.Bytes.{◌⧺◌, byte, u32_bytes, text, vec}
use Rattle.wcv_encode.specs.CoreTypes.{val_bytes, field_bytes, composite_bytes, supers, sub_mark, shared_mark, sub_bytes, group_bytes}
use Rattle.wcv_encode.specs.Modules.{entity_bytes, core_import_bytes, module_decl_bytes, open_mark, core_type_bytes}
use Rattle.wcv_encode.specs.Laws.{Reads, IsReadAgain}
use Rattle.wcv_encode.proofs.Again.{made, made_of_two, led, prefixed, known, begun}
use Rattle.wcv_encode.proofs.Joins.{empty_join, join_assoc}
use Rattle.wcv_encode.proofs.AgainNumbers.{u32_again}
use Rattle.wcv_encode.proofs.AgainLists.{text_again, vec_again}
use Rattle.wcv_encode.proofs.AgainCore.{val_again, field_again}
use Rattle.wcv_encode.proofs.AgainEntities.{entity_again, core_import_again}

-- ## Forms

inner_again : IsReadAgain inner_at composite_bytes
unfolding inner_at core_func_at byte_at composite_bytes
inner_again (func_form params results) =
    led 0x60 inner_at core_func_at (vec val_bytes params ⧺ vec val_bytes results) (func_form params results) (λ rest. refl) (made_of_two (vec_at core_val_at) (vec_at core_val_at) func_form (vec val_bytes params) (vec val_bytes results) params results (vec_again core_val_at val_bytes val_again params) (vec_again core_val_at val_bytes val_again results))
inner_again (struct_form fields) =
    led 0x5F inner_at (of_one (vec_at field_at) struct_form) (vec field_bytes fields) (struct_form fields) (λ rest. refl) (made (vec_at field_at) struct_form (vec field_bytes fields) fields (vec_again field_at field_bytes field_again fields))
inner_again (array_form field) =
    led 0x5E inner_at (of_one field_at array_form) (field_bytes field) (array_form field) (λ rest. refl) (made field_at array_form (field_bytes field) field (field_again field))

-- what holds of all bytes that begin as a form does holds of a form's
form_begins : (P : List ℕ → Type 0) → ((c : List ℕ) → P (0x60 ∷ c)) → ((c : List ℕ) → P (0x5F ∷ c)) → ((c : List ℕ) → P (0x5E ∷ c)) → (form : CompositeForm) (b : List ℕ) → composite_bytes form ≡ Some b → P b
unfolding composite_bytes
form_begins P func struct array (func_form params results) b e = begun 0x60 P (vec val_bytes params ⧺ vec val_bytes results) func b e
form_begins P func struct array (struct_form fields) b e = begun 0x5F P (vec field_bytes fields) struct b e
form_begins P func struct array (array_form field) b e = begun 0x5E P (field_bytes field) array b e

-- so of a form that is shared or not
shared_begins : (P : List ℕ → Type 0) → ((c : List ℕ) → P (0x65 ∷ c)) → ((c : List ℕ) → P (0x60 ∷ c)) → ((c : List ℕ) → P (0x5F ∷ c)) → ((c : List ℕ) → P (0x5E ∷ c)) → (shared : Bool) (form : CompositeForm) (b : List ℕ) → shared_mark shared ⧺ composite_bytes form ≡ Some b → P b
unfolding shared_mark
shared_begins P mark func struct array true form b e = begun 0x65 P (composite_bytes form) mark b e
shared_begins P mark func struct array false form b e = form_begins P func struct array form b (sym (empty_join (composite_bytes form)) ∙ e)

composite_again : (shared : Bool) (form : CompositeForm) → Reads composite_at (shared_mark shared ⧺ composite_bytes form) (shared, form)
unfolding composite_at byte_at shared_mark
composite_again true form = led 0x65 composite_at (of_one inner_at (λ x. (true, x))) (composite_bytes form) (true, form) (λ rest. refl) (made inner_at (λ x. (true, x)) (composite_bytes form) form (inner_again form))
composite_again false form = λ b rest e.
    let same = sym (empty_join (composite_bytes form)) ∙ e in
    form_begins (λ c. composite_at (c ++ rest) ≡ of_one inner_at (λ x. (false, x)) (c ++ rest)) (λ c. refl) (λ c. refl) (λ c. refl) form b same ∙ made inner_at (λ x. (false, x)) (composite_bytes form) form (inner_again form) b rest same

-- ## Subtypes

super_again : IsReadAgain super_at supers
unfolding super_at leb_at supers
super_again None = known (0 ∷ []) super_at None (λ rest. refl)
super_again (Some (super.Index i)) = led 1 super_at (of_one u32_at (λ index. Some (super.Index index))) (u32_bytes i) (Some (super.Index i)) (λ rest. refl) (made u32_at (λ index. Some (super.Index index)) (u32_bytes i) i (u32_again i))
super_again (Some (super.Id i)) = λ b rest e. absurd (cc)

abbrev sub_from : Bool → Option SuperType → Bool → CompositeForm → SubForm
sub_from final parent shared form = record { is_final = final; supertype = parent; shared = shared; inner = form }

-- a subtype of its place and of whether it is shared and its form
abbrev sub_with : Bool × Option SuperType → Bool × CompositeForm → SubForm
sub_with place ty = record { is_final = place.0; supertype = place.1; shared = ty.0; inner = ty.1 }

-- one with a mark of its place
marked_again : (n : ℕ) (final : Bool) (parent : Option SuperType) (shared : Bool) (form : CompositeForm) → ((rest : List ℕ) → place_at (n ∷ rest) ≡ of_one super_at (λ above. (final, above)) rest) → Reads sub_at ((byte n ⧺ supers parent) ⧺ shared_mark shared ⧺ composite_bytes form) (record { is_final = final; supertype = parent; shared = shared; inner = form })
unfolding sub_at
marked_again n final parent shared form step =
    made_of_two place_at composite_at sub_with (byte n ⧺ supers parent) (shared_mark shared ⧺ composite_bytes form) (final, parent) (shared, form) (led n place_at (of_one super_at (λ above. (final, above))) (supers parent) (final, parent) step (made super_at (λ above. (final, above)) (supers parent) parent (super_again parent))) (composite_again shared form)

sub_of : (final : Bool) (parent : Option SuperType) (shared : Bool) (form : CompositeForm) → Reads sub_at (sub_mark final parent ⧺ shared_mark shared ⧺ composite_bytes form) (record { is_final = final; supertype = parent; shared = shared; inner = form })
unfolding sub_at place_at byte_at sub_mark
sub_of true None shared form = λ b rest e.
    let same = sym (empty_join (shared_mark shared ⧺ composite_bytes form)) ∙ e in
    let alone : List ℕ → Result (SubForm × List ℕ) Fault = of_one composite_at (λ ty. sub_with (true, None) ty) in
    shared_begins (λ c. sub_at (c ++ rest) ≡ alone (c ++ rest)) (λ c. refl) (λ c. refl) (λ c. refl) (λ c. refl) shared form b same ∙ made composite_at (λ ty. sub_with (true, None) ty) (shared_mark shared ⧺ composite_bytes form) (shared, form) (composite_again shared form) b rest same
sub_of true (Some s) shared form = marked_again 0x4F true (Some s) shared form (λ rest. refl)
sub_of false None shared form = marked_again 0x50 false None shared form (λ rest. refl)
sub_of false (Some s) shared form = marked_again 0x50 false (Some s) shared form (λ rest. refl)

sub_again : IsReadAgain sub_at sub_bytes
unfolding sub_bytes
sub_again s = sub_of s.is_final s.supertype s.shared s.inner

-- what holds of all bytes that begin as a final type does holds of a final type's
final_begins : (P : List ℕ → Type 0) → ((c : List ℕ) → P (0x4F ∷ c)) → ((c : List ℕ) → P (0x65 ∷ c)) → ((c : List ℕ) → P (0x60 ∷ c)) → ((c : List ℕ) → P (0x5F ∷ c)) → ((c : List ℕ) → P (0x5E ∷ c)) → (parent : Option SuperType) (shared : Bool) (form : CompositeForm) (b : List ℕ) → sub_mark true parent ⧺ shared_mark shared ⧺ composite_bytes form ≡ Some b → P b
unfolding sub_mark
final_begins P place mark func struct array None shared form b e = shared_begins P mark func struct array shared form b (sym (empty_join (shared_mark shared ⧺ composite_bytes form)) ∙ e)
final_begins P place mark func struct array (Some s) shared form b e = begun 0x4F P (supers (Some s) ⧺ shared_mark shared ⧺ composite_bytes form) place b (join_assoc (byte 0x4F) (supers (Some s)) (shared_mark shared ⧺ composite_bytes form) ∙ e)

-- so of an open type
open_begins : (P : List ℕ → Type 0) → ((c : List ℕ) → P (0x50 ∷ c)) → (parent : Option SuperType) (shared : Bool) (form : CompositeForm) (b : List ℕ) → sub_mark false parent ⧺ shared_mark shared ⧺ composite_bytes form ≡ Some b → P b
unfolding sub_mark
open_begins P place None shared form b e = begun 0x50 P (supers None ⧺ shared_mark shared ⧺ composite_bytes form) place b (join_assoc (byte 0x50) (supers None) (shared_mark shared ⧺ composite_bytes form) ∙ e)
open_begins P place (Some s) shared form b e = begun 0x50 P (supers (Some s) ⧺ shared_mark shared ⧺ composite_bytes form) place b (join_assoc (byte 0x50) (supers (Some s)) (shared_mark shared ⧺ composite_bytes form) ∙ e)

-- ## Groups

-- a type alone begins no list
alone_of : (final : Bool) (parent : Option SuperType) (shared : Bool) (form : CompositeForm) (b rest : List ℕ) → sub_mark final parent ⧺ shared_mark shared ⧺ composite_bytes form ≡ Some b → group_at (b ++ rest) ≡ of_one sub_at (λ ty. ty ∷ []) (b ++ rest)
unfolding group_at byte_at
alone_of true parent shared form b rest e = final_begins (λ c. group_at (c ++ rest) ≡ of_one sub_at (λ ty. ty ∷ []) (c ++ rest)) (λ c. refl) (λ c. refl) (λ c. refl) (λ c. refl) (λ c. refl) parent shared form b e
alone_of false parent shared form b rest e = open_begins (λ c. group_at (c ++ rest) ≡ of_one sub_at (λ ty. ty ∷ []) (c ++ rest)) (λ c. refl) parent shared form b e

listed : (g : Group) → Reads group_at (byte 0x4E ⧺ vec sub_bytes g) g
unfolding group_at byte_at
listed g = led 0x4E group_at (vec_at sub_at) (vec sub_bytes g) g (λ rest. refl) (vec_again sub_at sub_bytes sub_again g)

pub group_again : IsReadAgain group_at group_bytes
unfolding group_bytes sub_bytes
group_again [] = listed []
group_again (s ∷ []) = λ b rest e.
    alone_of s.is_final s.supertype s.shared s.inner b rest e ∙ made sub_at (λ ty. ty ∷ []) (sub_bytes s) s (sub_again s) b rest e
group_again (s ∷ t ∷ g) = listed (s ∷ t ∷ g)

-- ## Module types

pub module_decl_again : IsReadAgain module_decl_at module_decl_bytes
unfolding module_decl_at module_export_at module_outer_at expected_at byte_at module_decl_bytes
module_decl_again (module_import i) = led 0x00 module_decl_at (of_one core_import_at module_import) (core_import_bytes i) (module_import i) (λ rest. refl) (made core_import_at module_import (core_import_bytes i) i (core_import_again i))
module_decl_again (module_type g) = led 0x01 module_decl_at (of_one group_at module_type) (group_bytes g) (module_type g) (λ rest. refl) (made group_at module_type (group_bytes g) g (group_again g))
module_decl_again (module_outer n i) = prefixed (0x02 ∷ 0x10 ∷ 0x01 ∷ []) module_decl_at (of_two u32_at u32_at module_outer) (u32_bytes n ⧺ u32_bytes i) (module_outer n i) (λ rest. refl) (made_of_two u32_at u32_at module_outer (u32_bytes n) (u32_bytes i) n i (u32_again n) (u32_again i))
module_decl_again (module_export n t) = led 0x03 module_decl_at (of_two text_at entity_at module_export) (text n ⧺ entity_bytes t) (module_export n t) (λ rest. refl) (made_of_two text_at entity_at module_export (text n) (entity_bytes t) n t (text_again n) (entity_again t))

module_type_again : (ds : List Module_decl) → Reads core_type_at (byte 0x50 ⧺ vec module_decl_bytes ds) (core_module_type ds)
unfolding core_type_at byte_at
module_type_again ds =
    led 0x50 core_type_at (of_one (vec_at module_decl_at) core_module_type) (vec module_decl_bytes ds) (core_module_type ds) (λ rest. refl) (made (vec_at module_decl_at) core_module_type (vec module_decl_bytes ds) ds (vec_again module_decl_at module_decl_bytes module_decl_again ds))

-- ## Core type items

alone_bytes : (s : SubForm) → group_bytes (s ∷ []) ≡ sub_bytes s
unfolding group_bytes
alone_bytes s = refl

-- a list of types, whose byte is that of no module type
listed_item : (g : Group) → Reads core_type_at (byte 0x4E ⧺ vec sub_bytes g) (core_rec g)
unfolding core_type_at marked_group_at group_at byte_at
listed_item g =
    led 0x4E core_type_at (of_one (vec_at sub_at) core_rec) (vec sub_bytes g) (core_rec g) (λ rest. refl) (made (vec_at sub_at) core_rec (vec sub_bytes g) g (vec_again sub_at sub_bytes sub_again g))

-- a type alone, which a 0 stands before where it is open
alone_item : (final : Bool) (parent : Option SuperType) (shared : Bool) (form : CompositeForm) → Reads core_type_at (open_mark (sub_from final parent shared form ∷ []) ⧺ sub_bytes (sub_from final parent shared form)) (core_rec (sub_from final parent shared form ∷ []))
unfolding core_type_at marked_group_at expected_at byte_at open_mark sub_bytes
alone_item true parent shared form = λ b rest e.
    let s = sub_from true parent shared form in
    let same : sub_bytes s ≡ Some b = sym (empty_join (sub_bytes s)) ∙ e in
    final_begins (λ c. core_type_at (c ++ rest) ≡ of_one group_at core_rec (c ++ rest)) (λ c. refl) (λ c. refl) (λ c. refl) (λ c. refl) (λ c. refl) parent shared form b same ∙ made group_at core_rec (group_bytes (s ∷ [])) (s ∷ []) (group_again (s ∷ [])) b rest (alone_bytes s ∙ same)
alone_item false parent shared form =
    let s = sub_from false parent shared form in
    led 0x00 core_type_at (λ rest. core_type_at (0x00 ∷ rest)) (sub_bytes s) (core_rec (s ∷ [])) (λ rest. refl)
    (λ b rest e. open_begins (λ c. core_type_at (0x00 ∷ c ++ rest) ≡ of_one group_at core_rec (c ++ rest)) (λ c. refl) parent shared form b e ∙ made group_at core_rec (group_bytes (s ∷ [])) (s ∷ []) (group_again (s ∷ [])) b rest (alone_bytes s ∙ e))

pub core_type_again : IsReadAgain core_type_at core_type_bytes
unfolding core_type_bytes group_bytes open_mark
core_type_again (core_rec []) = λ b rest e. listed_item [] b rest (sym (empty_join (byte 0x4E ⧺ vec sub_bytes [])) ∙ e)
core_type_again (core_rec (s ∷ [])) = alone_item s.is_final s.supertype s.shared s.inner
core_type_again (core_rec (s ∷ t ∷ g)) = λ b rest e. listed_item (s ∷ t ∷ g) b rest (sym (empty_join (byte 0x4E ⧺ vec sub_bytes (s ∷ t ∷ g))) ∙ e)
core_type_again (core_module_type ds) = module_type_again ds
