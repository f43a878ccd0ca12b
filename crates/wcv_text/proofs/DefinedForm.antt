-- The line of a defined type by ids is that of its tree.
use Rattle.std.proofs.Common.{◌≡◌, ℕ, List, [], ◌∷◌, ◌++◌, codes, Option, Some, refl, ◌∙◌, ap}
use Rattle.std.specs.Prelude.{All}
use Rattle.std.specs.Fmt.{decimal}
use Rattle.wcv_types.specs.Arena.{Arena}
use Rattle.wcv_types.specs.Quoting.{quoted}
use Rattle.wcv_types.specs.Standing.{StandsBefore}
use Rattle.wcv_types.specs.Text.{Written, mention, param_text, params_text, case_texts, mentions, listed, defined_text}
use Rattle.wcv_types.specs.Tree.{Text, node}
use Rattle.wcv_types.specs.Unfold.{Type_tree, former_of, defined_slots, slots_of, slot_refs, value_slot, option_slot, slot_tree, slot_parts, parts_in, parts_of, head_of, trees}
use Rattle.wcv_types.specs.declared.arena.Node.TheVariants as n
use Rattle.wcv_types.specs.declared.ids.Part.{Part}
use Rattle.wcv_types.specs.declared.shapes.ComponentDefinedType.{ComponentDefinedType}
use Rattle.wcv_types.specs.declared.shapes.ComponentDefinedType.TheVariants as d
use Rattle.wcv_types.specs.declared.shapes.ComponentValType.{ComponentValType}
use Rattle.wcv_types.proofs.Unfolding.{all_left, all_right}
use Rattle.wcv_text.specs.DefinedLine.{fields_said, case_said, cases_said, types_said, defined_said, record_slots, variant_slots, tuple_slots}
use Rattle.wcv_text.specs.Mentions.{value_text, option_text}
use Rattle.wcv_text.specs.Nodes.{form_of}
use Rattle.wcv_text.proofs.Mentioned.{value_said, option_said, payload_is}

module _ (a : Arena) (bound : ℕ) (w : Written) where
  abbrev S : Part → Type 0
  S q = StandsBefore a bound q

  -- ## Lists of parts

  fields_are : (before : Text) (fs : List (Text × ComponentValType)) → All S (parts_in (record_slots fs)) →
      params_text w before (slot_parts (trees a.nodes) (record_slots fs)) ≡ fields_said w before fs
  fields_are before [] h = refl
  fields_are before (f ∷ fs) h =
      ap (λ (x : Text). param_text before f.0 x ++ params_text w (codes ", ") (slot_parts (trees a.nodes) (record_slots fs)))
      (value_said a bound w f.1 (all_left S (slot_refs (value_slot f.1)) (parts_in (record_slots fs)) h)) ∙
      ap (λ (x : Text). param_text before f.0 (value_text w f.1) ++ x)
      (fields_are (codes ", ") fs (all_right S (slot_refs (value_slot f.1)) (parts_in (record_slots fs)) h))

  cases_are : (cs : List (Text × Option ComponentValType)) → All S (parts_in (variant_slots cs)) → case_texts w (slot_parts (trees a.nodes) (variant_slots cs)) ≡ cases_said w cs
  cases_are [] h = refl
  cases_are (c ∷ cs) h =
      ap (λ (x : Text). (quoted c.0 ++ x) ∷ case_texts w (slot_parts (trees a.nodes) (variant_slots cs)))
      (payload_is a bound w c.1 (all_left S (slot_refs (option_slot c.1)) (parts_in (variant_slots cs)) h)) ∙
      ap (λ (xs : List Text). case_said w c ∷ xs) (cases_are cs (all_right S (slot_refs (option_slot c.1)) (parts_in (variant_slots cs)) h))

  types_are : (ts : List ComponentValType) → All S (parts_in (tuple_slots ts)) → mentions w (slot_parts (trees a.nodes) (tuple_slots ts)) ≡ types_said w ts
  types_are [] h = refl
  types_are (t ∷ ts) h =
      ap (λ (x : Text). x ∷ mentions w (slot_parts (trees a.nodes) (tuple_slots ts)))
      (value_said a bound w t (all_left S (slot_refs (value_slot t)) (parts_in (tuple_slots ts)) h)) ∙
      ap (λ (xs : List Text). value_text w t ∷ xs) (types_are ts (all_right S (slot_refs (value_slot t)) (parts_in (tuple_slots ts)) h))

  -- ## One part, and two

  one_is : (o : Option ComponentValType) → All S (slot_refs (option_slot o) ++ []) → mention w (slot_tree (trees a.nodes) (option_slot o)) ≡ option_text w o
  one_is o h = option_said a bound w o (all_left S (slot_refs (option_slot o)) [] h)

  two_are : (word : Text) (o e : Option ComponentValType) → All S (slot_refs (option_slot o) ++ (slot_refs (option_slot e) ++ [])) →
      word ++ mention w (slot_tree (trees a.nodes) (option_slot o)) ++ codes " " ++ mention w (slot_tree (trees a.nodes) (option_slot e)) ≡
      word ++ option_text w o ++ codes " " ++ option_text w e
  two_are word o e h =
      let first : mention w (slot_tree (trees a.nodes) (option_slot o)) ≡ option_text w o = option_said a bound w o (all_left S (slot_refs (option_slot o)) (slot_refs (option_slot e) ++ []) h) in
      let second : mention w (slot_tree (trees a.nodes) (option_slot e)) ≡ option_text w e = one_is e (all_right S (slot_refs (option_slot o)) (slot_refs (option_slot e) ++ []) h) in
      λ j. word ++ first j ++ codes " " ++ second j

  -- ## The form

  said : (s : ComponentDefinedType) → All S (parts_in (defined_slots s)) → defined_text w (former_of s) (slot_parts (trees a.nodes) (defined_slots s)) ≡ defined_said w s
  said (d.Primitive q) h = refl
  said (d.Record fs) h = ap (λ (x : Text). codes "record {" ++ x ++ codes "}") (fields_are [] fs.items h)
  said (d.Variant cs) h = ap (λ (xs : List Text). codes "variant {" ++ listed [] xs ++ codes "}") (cases_are cs.items h)
  said (d.Tuple ts) h = ap (λ (xs : List Text). codes "tuple {" ++ listed [] xs ++ codes "}") (types_are ts.items h)
  said (d.Flags ns) h = refl
  said (d.Enum ns) h = refl
  said (d.List t) h = ap (λ (x : Text). codes "list " ++ x) (one_is (Some t) h)
  said (d.FixedLengthList t m) h = ap (λ (x : Text). codes "fixed-list " ++ x ++ codes " " ++ decimal m) (one_is (Some t) h)
  said (d.Option t) h = ap (λ (x : Text). codes "option " ++ x) (one_is (Some t) h)
  said (d.Map k t) h = two_are (codes "map ") (Some k) (Some t) h
  said (d.Result o e) h = two_are (codes "result ") o e h
  said (d.Future o) h = ap (λ (x : Text). codes "future " ++ x) (one_is o h)
  said (d.Stream o) h = ap (λ (x : Text). codes "stream " ++ x) (one_is o h)
  said (d.Own r) h = refl
  said (d.Borrow r) h = refl

  pub defined_form : (k : ℕ) (s : ComponentDefinedType) (t : Type_tree) → t ≡ node (head_of k (n.Defined s)) (slot_parts (trees a.nodes) (slots_of (n.Defined s))) → All S (parts_of (n.Defined s)) →
      form_of w t ≡ defined_said w s
  defined_form k s t e h = ap (form_of w) e ∙ said s h
