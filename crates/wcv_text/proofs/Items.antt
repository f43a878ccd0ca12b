-- The groups that core items name, one item after another.
use Rattle.std.proofs.Common.{◌≡◌, ℕ, zero, suc, List, [], ◌∷◌, ◌++◌, map, refl, sym, ◌∙◌, ap, Bool, true, false, cond}
use Rattle.std.specs.List.{fold}
use Rattle.wcv_core.specs.declared.core_types.EntityType.{EntityType}
use Rattle.wcv_types.specs.CoreText.{item_ids, older_ids}
use Rattle.wcv_types.specs.Text.{Written, has_group, with_group, with_new_group, write_group, write_groups}
use Rattle.wcv_types.specs.Tree.{Text}
use Rattle.wcv_text.specs.EntryList.{write_items}
use Rattle.wcv_text.specs.Numbers.{so_far, Writes}
use Rattle.wcv_text.specs.declared.numbers.Numbers.{Numbers}

pub items_fold : {X : Type 0} (f : X → EntityType) (xs : List X) (w : Written) → fold (λ v x. write_groups v (item_ids (f x))) w xs ≡ write_items (map f xs) w
items_fold f [] w = refl
items_fold f (x ∷ xs) w = items_fold f xs (write_groups w (item_ids (f x)))

pub items_append : (es fs : List EntityType) (w : Written) → write_items (es ++ fs) w ≡ write_items fs (write_items es w)
items_append [] fs w = refl
items_append (e ∷ es) fs w = items_append es fs (write_groups w (item_ids e))

-- ## Lines of groups leave the lines of nodes alone

new_group_keeps : (w : Written) (i : ℕ) → (with_new_group w i).nodes ≡ w.nodes
new_group_keeps w i = go (has_group w i)
  where
    go : (b : Bool) → (cond b w (with_group w i)).nodes ≡ w.nodes
    go true = refl
    go false = refl

fold_keeps : (f : Written → ℕ → Written) → ((v : Written) (i : ℕ) → (f v i).nodes ≡ v.nodes) → (w : Written) (is : List ℕ) → (fold f w is).nodes ≡ w.nodes
fold_keeps f h w [] = refl
fold_keeps f h w (i ∷ is) = fold_keeps f h (f w i) is ∙ h w i

group_keeps : (k : ℕ) (w : Written) (i : ℕ) → (write_group k w i).nodes ≡ w.nodes
group_keeps zero w i = refl
group_keeps (suc k) w i = go (has_group w i) (new_group_keeps older i ∙ fold_keeps (write_group k) (group_keeps k) w (older_ids w.core i))
  where
    older : Written
    older = fold (write_group k) w (older_ids w.core i)

    go : (b : Bool) → (with_new_group older i).nodes ≡ w.nodes → (cond b w (with_new_group older i)).nodes ≡ w.nodes
    go true h = refl
    go false h = h

pub items_keep : (es : List EntityType) (w : Written) → (write_items es w).nodes ≡ w.nodes
items_keep [] w = refl
items_keep (e ∷ es) w = items_keep es (write_groups w (item_ids e)) ∙ fold_keeps (λ v i. write_group (suc i) v i) (λ v i. group_keeps (suc i) v i) w (item_ids e)

pub nodes_stay : (old new : Numbers) (text next : Text) (es : List EntityType) → Writes old text new next (write_items es) → (so_far new []).nodes ≡ (so_far old []).nodes
nodes_stay old new text next es h =
    let shown = h ([], []) (so_far old text) (record { text_is = refl; numbers_are = refl }) in
    sym (ap (λ (v : Written). v.nodes) shown.numbers_are) ∙ items_keep es (so_far old text)
