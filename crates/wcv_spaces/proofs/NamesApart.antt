-- Where no two entries have one key, their names differ.
use Rattle.std.proofs.Common.{◌≡◌, List, [], ◌∷◌, ◌++◌, false, bytes_eq, sym, ap, ◌∙◌, subst}
use Rattle.std.specs.List.{IsDistinct, list_any}
use Rattle.std.proofs.lemmas.Cmp.{nat_list_eq_equiv}
use Rattle.std.proofs.lemmas.List.{map-append}
use Rattle.std.proofs.lemmas.Map.Keys.{IsDistinct-push}
use Rattle.wcv_core.specs.declared.features.WasmFeatures.{WasmFeatures}
use Rattle.wcv_types.specs.ByName.{NamesDiffer}
use Rattle.wcv_types.specs.Entities.{entry_trees}
use Rattle.wcv_types.specs.Tree.{Text, Extern_name}
use Rattle.wcv_types.specs.Unfold.{Type_tree}
use Rattle.wcv_types.specs.declared.item_map.ComponentItem.{ComponentItem}
use Rattle.wcv_names.specs.Externs.{entry_names, name_checks}
use Rattle.wcv_names.specs.FuncTrees.{names_in}
use Rattle.wcv_names.specs.ResourceNames.{Resource_names}
use Rattle.wcv_names.proofs.Entering.{names_same}
use Rattle.wcv_lower.specs.Checks.{IsFree}
use Rattle.wcv_lower.proofs.NewNames.{new_name}
use Rattle.wcv_lower.proofs.Repeats.{any_among}

-- a name that may join entries of an arena is none of theirs
pub may_join : (ts : List Type_tree) (es : List (Text × ComponentItem)) (ns : Resource_names) (fs : WasmFeatures) (n : Extern_name) (t : Type_tree) → IsFree (name_checks ns fs (entry_trees ts es) n t) → list_any (bytes_eq n.name) (names_in es) ≡ false
may_join ts es ns fs n t h = ap (λ (l : List Text). list_any (bytes_eq n.name) l) (sym (names_same ts es)) ∙ any_among n.name (entry_names (entry_trees ts es)) ∙ new_name ns fs (entry_trees ts es) n t h

-- one more entry under a new name
pub joined_apart : (es es' : List (Text × ComponentItem)) (e : Text × ComponentItem) → es' ≡ es ++ e ∷ [] → NamesDiffer es → list_any (bytes_eq e.0) (names_in es) ≡ false → NamesDiffer es'
joined_apart es es' e w d h =
    subst (λ (xs : List (Text × ComponentItem)). NamesDiffer xs) (sym w)
    (subst (IsDistinct bytes_eq) (sym (map-append (λ (x : Text × ComponentItem). x.0) es (e ∷ []))) (IsDistinct-push nat_list_eq_equiv (names_in es) e.0 d h))
