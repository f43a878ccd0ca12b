-- Items and listings that are written are read again.
use Rattle.std.proofs.Common.{◌≡◌, ℕ, zero, suc, ◌+◌, Some, None, Option, Ok, refl, ap, ◌∙◌, cond, option_map, List, [], ◌∷◌}
use Rattle.serde_json.specs.Read.{read}
use Rattle.serde_json.specs.Written.{compact_text}
use Rattle.wcv_core.specs.declared.features.WasmFeatures.{WasmFeatures}
use Rattle.wcv_syntax.specs.Model.{Form, core_type_item, core_module_item, core_instance_item, type_item, import_item, export_item, component_item, instance_item, alias_item, start_item, canon_item, Items, no_items, next_item, Entry}
use Rattle.wcv_syntax.specs.View.{items_of}
use Rattle.wcv_listing.specs.Features.{features_in}
use Rattle.wcv_listing.specs.Fields.{both, all_of}
use Rattle.wcv_listing.specs.Listing.{not_json, listed, item_over, item_within, with_entry, with_entries, entries_from, root_from, root_of, value_outcome, outcome_of}
use Rattle.wcv_write.specs.Indices.{numbers}
use Rattle.wcv_write.specs.Items.{item_data, item_list, entry_data}
use Rattle.wcv_write.specs.Json as written
use Rattle.wcv_write.specs.Listing.{features_data, listing_data}
use Rattle.wcv_write.specs.Sayable.{SaysAll, SaysForm, SaysItems, SaysEntry, IsReadable}
use Rattle.wcv_write.proofs.CanonsAgain.{canon_again}
use Rattle.wcv_write.proofs.CoreAgain.{core_type_again, core_module_again, core_instance_again}
use Rattle.wcv_write.proofs.DeclaredAgain.{type_again}
use Rattle.wcv_write.proofs.FormsAgain.{alias_again, import_again, both_cons}
use Rattle.wcv_write.proofs.ReadAgain.{read-compact_text}
use Rattle.wcv_write.proofs.TypesAgain.{export_again, instance_again, start_again}

entries_of : Items → List Entry
entries_of no_items = []
entries_of (next_item offset f is) = record { offset = offset; form = f } ∷ entries_of is

same_items : (is : Items) → items_of (entries_of is) ≡ is
unfolding entries_of
same_items no_items = refl
same_items (next_item offset f is) = ap (next_item offset f) (same_items is)

-- an item of what its body stands for
abbrev placed : ℕ → Option Form → Option Entry
placed offset f = option_map (λ form. record { offset = offset; form = form }) f

mutual
  unfolding item_within SaysForm entries_of

  item_again : (f : Form) (offset n : ℕ) → SaysForm f n → item_over (item_within n) (item_data numbers offset f) ≡ Some (record { offset = offset; form = f })
  item_again (core_type_item t) offset n h = ap (λ o. placed offset (option_map core_type_item o)) (core_type_again t h)
  item_again (core_module_item ds) offset n h = ap (λ o. placed offset (option_map core_module_item o)) (core_module_again ds h)
  item_again (core_instance_item i) offset n h = ap (λ o. placed offset (option_map core_instance_item o)) (core_instance_again i h)
  item_again (type_item t) offset n h = ap (λ o. placed offset (option_map type_item o)) (type_again t h)
  item_again (import_item i) offset n h = ap (λ o. placed offset (option_map import_item o)) (import_again i h)
  item_again (export_item e) offset n h = ap (λ o. placed offset (option_map export_item o)) (export_again e h)
  item_again (component_item is end) offset n h =
      ap (λ o. placed offset (both (λ es k. component_item (items_of es) k) o (Some end))) (items_again is n h) ∙ ap (λ x. placed offset (Some (component_item x end))) (same_items is)
  item_again (instance_item i) offset n h = ap (λ o. placed offset (option_map instance_item o)) (instance_again i h)
  item_again (alias_item a) offset n h = ap (λ o. placed offset (option_map alias_item o)) (alias_again a h)
  item_again (start_item f args results) offset n h = ap (placed offset) (start_again f args results h.0 h.1 h.2)
  item_again (canon_item c) offset n h = ap (λ o. placed offset (option_map canon_item o)) (canon_again c h)

  items_again : (is : Items) (n : ℕ) → SaysItems is n → all_of (item_within n) (item_list numbers is) ≡ Some (entries_of is)
  items_again no_items n h = refl
  items_again (next_item offset f is) zero h = absurd (cc)
  items_again (next_item offset f is) (suc n) h =
      both_cons (record { offset = offset; form = f }) (entries_of is) (item_over (item_within n) (item_data numbers offset f)) (all_of (item_within (suc n)) (item_list numbers is)) (item_again f offset n h.0) (items_again is (suc n) h.1)

-- ## Listings

entries_again : (es : List Entry) (k : ℕ) → SaysAll SaysEntry es → entries_from k (written.items_of (entry_data numbers) es) ≡ Ok es
unfolding item_within
entries_again [] k h = refl
entries_again (e ∷ es) k h =
    ap (λ o. with_entry o k (entries_from (k + 1) (written.items_of (entry_data numbers) es))) (item_again e.form e.offset 126 h.0) ∙ ap (with_entry (Some e) k) (entries_again es (k + 1) h.1)

-- a root of version 1 whose features are known
root_again : (features : WasmFeatures) (es : List Entry) (end : ℕ) (seen : Option WasmFeatures) → seen ≡ Some features → SaysAll SaysEntry es → root_from (Some 1) (Some end) seen (Some (written.items_of (entry_data numbers) es)) ≡ listed (record { features = features; entries = es; end = end })
root_again features es end seen f h =
    ap (λ o. root_from (Some 1) (Some end) o (Some (written.items_of (entry_data numbers) es))) f ∙ ap (with_entries features end) (entries_again es 0 h)

pub listing_again : (fs : Option WasmFeatures) (features : WasmFeatures) (es : List Entry) (end : ℕ) → features_in (option_map features_data fs) ≡ Some features → SaysAll SaysEntry es → root_of (listing_data numbers fs es end) ≡ listed (record { features = features; entries = es; end = end })
unfolding listing_data
listing_again None features es end f h = root_again features es end (features_in None) f h
listing_again (Some fs) features es end f h = root_again features es end (features_in (Some (features_data fs))) f h

pub text_again : (fs : Option WasmFeatures) (features : WasmFeatures) (es : List Entry) (end : ℕ) → features_in (option_map features_data fs) ≡ Some features → SaysAll SaysEntry es → IsReadable (listing_data numbers fs es end) → outcome_of (compact_text (listing_data numbers fs es end)) ≡ listed (record { features = features; entries = es; end = end })
text_again fs features es end f h r =
    let d = listing_data numbers fs es end in
    ap (λ t. cond t (value_outcome (read (compact_text d))) not_json) r.utf8 ∙ ap value_outcome (read-compact_text d r.numbers r.ordered r.shallow) ∙ listing_again fs features es end f h
