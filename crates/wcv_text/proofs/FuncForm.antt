-- The line of a function by ids is that of its tree.
use Rattle.std.proofs.Common.{◌≡◌, ℕ, ◌≤◌, List, [], ◌∷◌, ◌++◌, length, drop, codes, cond, Option, sym, ◌∙◌, ap, append_assoc}
use Rattle.std.specs.Prelude.{All}
use Rattle.std.proofs.Math.ListN.{drop_of_length-le}
use Rattle.wcv_types.specs.Arena.{Arena}
use Rattle.wcv_types.specs.Standing.{StandsBefore}
use Rattle.wcv_types.specs.Text.{Written, param_text, params_text}
use Rattle.wcv_types.specs.Tree.{Text, here, node}
use Rattle.wcv_types.specs.Unfold.{Type_tree, Slots, value_slot, option_slot, field_slots, slots_of, slot_refs, slot_parts, parts_in, parts_of, head_of, trees}
use Rattle.wcv_types.specs.declared.ids.Part.{Part}
use Rattle.wcv_types.specs.declared.arena.Node.TheVariants as n
use Rattle.wcv_types.specs.declared.shapes.ComponentFuncType.{ComponentFuncType}
use Rattle.wcv_types.specs.declared.shapes.ComponentValType.{ComponentValType}
use Rattle.wcv_types.proofs.Unfolding.{all_left, all_right}
use Rattle.wcv_text.specs.FuncLine.{params_said, func_said}
use Rattle.wcv_text.specs.Mentions.{value_text, option_text, separator}
use Rattle.wcv_text.specs.Nodes.{form_of}
use Rattle.wcv_text.proofs.Mentioned.{value_said, option_said}

-- ## What the code writes

-- the whole form, from the text after its parameters
pub func_written : (old one two loop three final async : Text) (w : Written) (i : ℕ) (fs : List (Text × ComponentValType)) (r : Option ComponentValType) →
    one ≡ old ++ async → two ≡ one ++ codes "func {" → loop ++ params_said w (separator (codes ", ") i) (drop i fs) r ≡ two ++ params_said w [] fs r → length fs ≤ i →
    three ≡ loop ++ codes "} -> " → final ≡ three ++ option_text w r → final ≡ old ++ (async ++ codes "func {" ++ params_said w [] fs r)
func_written old one two loop three final async w i fs r e1 e2 inv all e3 e4 =
    e4 ∙ ap (λ (x : Text). x ++ option_text w r) e3 ∙ append_assoc loop (codes "} -> ") (option_text w r) ∙
    sym (ap (λ (gs : List (Text × ComponentValType)). loop ++ params_said w (separator (codes ", ") i) gs r) (drop_of_length-le fs all)) ∙ inv ∙
    ap (λ (x : Text). x ++ params_said w [] fs r) (e2 ∙ ap (λ (x : Text). x ++ codes "func {") e1) ∙
    regroup old async (codes "func {") (params_said w [] fs r)
  where
    regroup : (a b c d : Text) → ((a ++ b) ++ c) ++ d ≡ a ++ (b ++ c ++ d)
    regroup a b c d = simp append_assoc

-- ## The tree

module _ (a : Arena) (bound : ℕ) (w : Written) where
  abbrev S : Part → Type 0
  S q = StandsBefore a bound q

  params_are : (before : Text) (fs : List (Text × ComponentValType)) (r : Option ComponentValType) → All S (parts_in (field_slots fs ((here, option_slot r) ∷ []))) →
      params_text w before (slot_parts (trees a.nodes) (field_slots fs ((here, option_slot r) ∷ []))) ≡ params_said w before fs r
  params_are before [] r h = ap (λ (x : Text). codes "} -> " ++ x) (option_said a bound w r (all_left S (slot_refs (option_slot r)) [] h))
  params_are before (f ∷ fs) r h =
      let rest : Slots = (here, option_slot r) ∷ [] in
      ap (λ (x : Text). param_text before f.0 x ++ params_text w (codes ", ") (slot_parts (trees a.nodes) (field_slots fs rest)))
      (value_said a bound w f.1 (all_left S (slot_refs (value_slot f.1)) (parts_in (field_slots fs rest)) h)) ∙
      ap (λ (x : Text). param_text before f.0 (value_text w f.1) ++ x) (params_are (codes ", ") fs r (all_right S (slot_refs (value_slot f.1)) (parts_in (field_slots fs rest)) h))

  pub func_form : (k : ℕ) (f : ComponentFuncType) (t : Type_tree) → t ≡ node (head_of k (n.Func f)) (slot_parts (trees a.nodes) (slots_of (n.Func f))) → All S (parts_of (n.Func f)) → form_of w t ≡ func_said w f
  func_form k f t e h =
      ap (form_of w) e ∙ ap (λ (x : Text). cond f.async_ (codes "async ") [] ++ codes "func {" ++ x) (params_are [] f.params.items f.result h)
