-- Defined value types under a map of entries; where there is no cause, they are made.
use Rattle.wcv_core.specs.Limits.{max_abi_size, max_depth, max_size}
use Rattle.std.proofs.Common.{◌≡◌, ℕ, [], ◌∷◌, ◌++◌, refl, ◌∙◌, ap, Some, None}
use Rattle.std.specs.Prelude.{Option, not}
use Rattle.std.specs.Option.{option_map}
use Rattle.wcv_core.specs.declared.error.ErrorKind.TheVariants as kind
use Rattle.wcv_core.specs.declared.features.WasmFeatures.{WasmFeatures}
use Rattle.wcv_syntax.specs.declared.component_type.ComponentDefinedType.{ComponentDefinedType}
use Rattle.wcv_syntax.specs.declared.component_type.ComponentDefinedType.TheVariants as d
use Rattle.wcv_syntax.specs.declared.component_type.ComponentValType.{ComponentValType}
use Rattle.wcv_syntax.specs.Model.{Defined_form, record_of, variant_of, tuple_of, flags_of, enum_of, simple}
use Rattle.wcv_types.specs.Abi.{handle, borrow}
use Rattle.wcv_types.specs.Tree.{here, is_resource}
use Rattle.wcv_lower.specs.Checks.{IsFree, if_found, too_many}
use Rattle.wcv_lower.specs.Context.{Context, type_at}
use Rattle.wcv_lower.specs.Defined.{former, written_parts, handle_index, made_of, made_checks, defined_made, own_checks, is_key, is_char, has_borrow, bad_key, bad_map_value, bad_item, simple_content, content_checks, size_checks, node_checks, defined_checks}
use Rattle.wcv_lower.specs.Mapped.{Map, Commutes, IsKnown, map_context, map_parts, map_node}
use Rattle.wcv_lower.specs.Readers.{Reader, Maker, Made_parts, New_node, defined_node}
use Rattle.wcv_lower.specs.Values.{resource_at, value_entry, option_entry, Written_parts}
use Rattle.wcv_lower.proofs.Mapping.{mapped-square}
use Rattle.wcv_lower.proofs.ValueLaws.{of_sort-mapped, sort_checks-mapped, value-mapped, option-mapped, parts-mapped, parts_checks-mapped, found-same, found_of, parts_there}

module _ {X Y : Reader} (m : Map X Y) {Known : X.Entry → Type 0} (law : Commutes m Known) where
  made_of-mapped : (c : Context X) → IsKnown Known c → (o : Option ℕ) (ps : Written_parts) → made_of (map_context m c) o ps ≡ option_map (map_parts m.entry) (made_of c o ps)
  made_of-mapped c w None ps = parts-mapped m law c w ps
  made_of-mapped c w (Some k) ps =
      ap (option_map (λ x. (here, x) ∷ [])) (of_sort-mapped m law is_resource c w k) ∙ mapped-square m.entry (λ x. (here, x) ∷ []) (λ x. (here, x) ∷ []) (map_parts m.entry) (λ x. refl) (resource_at c k)

  made_checks-mapped : (fs : WasmFeatures) (c : Context X) → IsKnown Known c → (o : Option ℕ) (ps : Written_parts) → made_checks fs (map_context m c) o ps ≡ made_checks fs c o ps
  made_checks-mapped fs c w None ps = parts_checks-mapped m law fs c w ps
  made_checks-mapped fs c w (Some k) ps = sort_checks-mapped m law is_resource c w k

  pub defined_made-mapped : (c : Context X) → IsKnown Known c → (x : Defined_form) → defined_made (map_context m c) x ≡ option_map (map_node m) (defined_made c x)
  defined_made-mapped c w x =
      ap (option_map (defined_node (former x))) (made_of-mapped c w (handle_index x) (written_parts x)) ∙
      mapped-square (map_parts m.entry) (defined_node (former x)) (defined_node (former x)) (map_node m) (λ ps. refl) (made_of c (handle_index x) (written_parts x))

  has_borrow-mapped : (x : X.Entry) → has_borrow Y (m.entry x) ≡ has_borrow X x
  has_borrow-mapped x = λ j. (kind.Borrow, law.contains borrow x j) ∷ []

  bad_key-mapped : (x : X.Entry) → bad_key Y (m.entry x) ≡ bad_key X x
  bad_key-mapped x = λ j. (kind.Shape, not (is_key (law.primitive_of x j))) ∷ []

  bad_map_value-mapped : (x : X.Entry) → bad_map_value Y (m.entry x) ≡ bad_map_value X x
  bad_map_value-mapped x = λ j. (kind.Shape, law.contains handle x j) ∷ []

  bad_item-mapped : (x : X.Entry) → bad_item Y (m.entry x) ≡ bad_item X x
  bad_item-mapped x = λ j. has_borrow-mapped x j ++ ((kind.Shape, is_char (law.primitive_of x j)) ∷ [])

  size_checks-mapped : (x : X.Entry) → size_checks Y (m.entry x) ≡ size_checks X x
  size_checks-mapped x = λ j. too_many max_size (law.size x j) ++ (too_many max_depth (law.depth x j) ++ (too_many max_abi_size (law.abi_size 4 x j) ++ too_many max_abi_size (law.abi_size 8 x j)))

  -- sizes of what is made
  pub node_checks-mapped : (k : Maker X) (l : Maker Y) (o : Option (New_node X)) (p : Option (New_node Y)) → ((n : New_node X) → o ≡ Some n → l.build (map_node m n) ≡ m.entry (k.build n)) → p ≡ option_map (map_node m) o → if_found (node_checks l) p ≡ if_found (node_checks k) o
  node_checks-mapped k l o p u e = ap (if_found (node_checks l)) e ∙ go o u
    where
      go : (o : Option (New_node X)) → ((n : New_node X) → o ≡ Some n → l.build (map_node m n) ≡ m.entry (k.build n)) → if_found (node_checks l) (option_map (map_node m) o) ≡ if_found (node_checks k) o
      go None u = refl
      go (Some n) u = ap (size_checks Y) (u n refl) ∙ size_checks-mapped (k.build n)

  pub result-mapped : (c : Context X) → IsKnown Known c → (o : Option ComponentValType) → if_found (has_borrow Y) (option_entry (map_context m c) o) ≡ if_found (has_borrow X) (option_entry c o)
  result-mapped c w o = found-same m.entry (has_borrow Y) (has_borrow X) has_borrow-mapped (option_entry c o) (option_entry (map_context m c) o) (option-mapped m law c w o)

  simple_content-mapped : (c : Context X) → IsKnown Known c → (x : ComponentDefinedType) → simple_content (map_context m c) x ≡ simple_content c x
  simple_content-mapped c w (d.Map k v) = λ j.
      found-same m.entry (bad_key Y) (bad_key X) bad_key-mapped (value_entry c k) (value_entry (map_context m c) k) (value-mapped m law c w k) j ++
      found-same m.entry (bad_map_value Y) (bad_map_value X) bad_map_value-mapped (value_entry c v) (value_entry (map_context m c) v) (value-mapped m law c w v) j
  simple_content-mapped c w (d.Future o) = result-mapped c w o
  simple_content-mapped c w (d.Stream o) = found-same m.entry (bad_item Y) (bad_item X) bad_item-mapped (option_entry c o) (option_entry (map_context m c) o) (option-mapped m law c w o)
  simple_content-mapped c w x = refl

  content_checks-mapped : (c : Context X) → IsKnown Known c → (x : Defined_form) → content_checks (map_context m c) x ≡ content_checks c x
  content_checks-mapped c w (simple x) = simple_content-mapped c w x
  content_checks-mapped c w (record_of fs) = refl
  content_checks-mapped c w (variant_of cs) = refl
  content_checks-mapped c w (tuple_of vs) = refl
  content_checks-mapped c w (flags_of ns) = refl
  content_checks-mapped c w (enum_of ns) = refl

  pub defined_checks-mapped : (fs : WasmFeatures) (k : Maker X) (l : Maker Y) (c : Context X) → IsKnown Known c → (x : Defined_form) →
      ((n : New_node X) → defined_made c x ≡ Some n → l.build (map_node m n) ≡ m.entry (k.build n)) → defined_checks fs l (map_context m c) x ≡ defined_checks fs k c x
  defined_checks-mapped fs k l c w x u = λ j.
      own_checks fs x ++ (made_checks-mapped fs c w (handle_index x) (written_parts x) j ++ (content_checks-mapped c w x j ++ node_checks-mapped k l (defined_made c x) (defined_made (map_context m c) x) u (defined_made-mapped c w x) j))

-- ## Without a cause

pub made_there : (X : Reader) (fs : WasmFeatures) (c : Context X) (o : Option ℕ) (ps : Written_parts) → IsFree (made_checks fs c o ps) → (qs : Made_parts X) × (made_of c o ps ≡ Some qs)
made_there X fs c None ps h = parts_there X fs c ps h
made_there X fs c (Some k) ps h =
    let x = found_of X is_resource (type_at c k) h in
    ((here, x.0) ∷ [], ap (option_map (λ y. (here, y) ∷ [])) x.1)
