-- The places of items have no bytes.
use Rattle.std.proofs.Common.{◌≡◌, ℕ, ◌+◌, List, refl, ap, ap₂, ◌∙◌}
use Rattle.wcv_syntax.specs.Model.{Form, core_type_item, core_module_item, core_instance_item, type_item, import_item, export_item, component_item, instance_item, alias_item, start_item, canon_item, Items, no_items, next_item, Entry}
use Rattle.wcv_syntax.specs.View.{items_of}
use Rattle.wcv_encode.specs.Bytes.{◌⧺◌, section}
use Rattle.wcv_encode.specs.Placed.{size, inside, placed_form, placed_items, placed}
use Rattle.wcv_encode.specs.Spelling.{component_header, form_id, contents, items_bytes, spelling}
use Rattle.wcv_encode.proofs.AgainComponents.{same_items}

same_id : (f : Form) (from : ℕ) → form_id (placed_form from f) ≡ form_id f
unfolding placed_form
same_id (core_type_item t) from = refl
same_id (core_module_item ds) from = refl
same_id (core_instance_item i) from = refl
same_id (type_item t) from = refl
same_id (import_item i) from = refl
same_id (export_item e) from = refl
same_id (component_item is n) from = refl
same_id (instance_item i) from = refl
same_id (alias_item a) from = refl
same_id (start_item f args results) from = refl
same_id (canon_item f) from = refl

mutual
  unfolding contents items_bytes placed_form placed_items

  same_contents : (f : Form) (from : ℕ) → contents (placed_form from f) ≡ contents f
  same_contents (core_type_item t) from = refl
  same_contents (core_module_item ds) from = refl
  same_contents (core_instance_item i) from = refl
  same_contents (type_item t) from = refl
  same_contents (import_item i) from = refl
  same_contents (export_item e) from = refl
  same_contents (component_item is n) from = ap (λ b. component_header ⧺ b) (same_bytes is (from + size component_header))
  same_contents (instance_item i) from = refl
  same_contents (alias_item a) from = refl
  same_contents (start_item f args results) from = refl
  same_contents (canon_item f) from = refl

  same_bytes : (is : Items) (at : ℕ) → items_bytes (placed_items at is) ≡ items_bytes is
  same_bytes no_items at = refl
  same_bytes (next_item offset f is) at =
      ap₂ (λ a b. a ⧺ b) (ap₂ section (same_id f (inside at (contents f))) (same_contents f (inside at (contents f)))) (same_bytes is (at + size (section (form_id f) (contents f))))

pub same_spelling : (es : List Entry) → spelling (placed es) ≡ spelling es
unfolding spelling
same_spelling es =
    ap (λ is. component_header ⧺ items_bytes is) (same_items (placed_items (size component_header) (items_of es))) ∙ ap (λ b. component_header ⧺ b) (same_bytes (items_of es) (size component_header))
