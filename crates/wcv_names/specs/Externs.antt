-- Why an entry may not join a list of imports or of exports.
use Rattle.wcv_core.specs.Limits.{max_depth, max_size}
use Rattle.std.specs.Prelude.{◌≡◌, ◌⊎◌, suc, max, ◌+◌, List, [], ◌∷◌, ◌++◌, map, Bool, true, false, not, Option, Some, None}
use Rattle.wcv_core.specs.Checks.{Checks, too_many}
use Rattle.wcv_core.specs.Label.{is_among}
use Rattle.wcv_core.specs.Refusal.{error_kind}
use Rattle.wcv_core.specs.declared.error.Error.{Error}
use Rattle.wcv_core.specs.declared.error.ErrorKind.TheVariants as kind
use Rattle.wcv_core.specs.declared.features.WasmFeatures.{WasmFeatures}
use Rattle.wcv_syntax.specs.ExternName.{Form, Access, call, get, set}
use Rattle.wcv_syntax.specs.FormOf.{form_of}
use Rattle.wcv_syntax.specs.declared.name.ComponentExternName.{ComponentExternName}
use Rattle.wcv_types.specs.Measure.{size, depth}
use Rattle.wcv_types.specs.Tree.{Text, Extern_name, instance, node}
use Rattle.wcv_types.specs.Unfold.{Type_tree}
use Rattle.wcv_types.specs.declared.info.TypeInfo.{TypeInfo}
use Rattle.wcv_types.specs.declared.item_map.ComponentItem.{ComponentItem}
use Rattle.wcv_types.specs.declared.shapes.ComponentEntityType.{ComponentEntityType}
use Rattle.wcv_names.specs.KeySet.{HasKeys, key_text_of, keys_in}
use Rattle.wcv_names.specs.ResourceNames.{Resource_names}
use Rattle.wcv_names.specs.Rules.{Entries, follows}
use Rattle.wcv_names.specs.WholeNames.{is_bad_name, lacks_feature}

abbrev pub is_instance_tree : Type_tree → Bool
is_instance_tree (node (instance i own) ps) = true
is_instance_tree t = false

abbrev pub is_set : Access → Bool
is_set set = true
is_set call = false
is_set get = false

-- ## Names

-- what has the name does not look as it says; a text that is no name says nothing
abbrev pub breaks_rule : Resource_names → Entries → Option Form → Type_tree → Bool
breaks_rule ns es None t = false
breaks_rule ns es (Some f) t = not (follows ns es f t)

abbrev pub has_key : Option Form → List Text → Bool
has_key None ks = false
has_key (Some f) ks = is_among (key_text_of f) ks

-- one of the names has the key of that name
abbrev pub conflicts : List Text → Text → Bool
conflicts names t = has_key (form_of t) (keys_in names)

-- the names of entries
abbrev pub entry_names : {X : Type 0} → List (Extern_name × X) → List Text
entry_names es = map (λ e. e.0.name) es

-- a whole name that an entity may not have among these entries
abbrev pub name_checks : Resource_names → WasmFeatures → Entries → Extern_name → Type_tree → Checks
name_checks ns fs es n t =
    (kind.Name, is_bad_name (is_instance_tree t) n)
    ∷ (kind.Feature, lacks_feature fs n)
    ∷ (kind.MethodName, breaks_rule ns es (form_of n.name) t)
    ∷ (kind.Conflict, conflicts (entry_names es) n.name) ∷ []

-- ## Size and depth

-- those of what is made, with one more entry
abbrev pub with_entry : TypeInfo → Type_tree → TypeInfo
with_entry info t = record { size = info.size + size t; depth = max info.depth (suc (depth t)) }

-- one of them passes its limit
abbrev pub too_large_with : TypeInfo → Type_tree → Checks
too_large_with info t = too_many max_size (info.size + size t) ++ too_many max_depth (max info.depth (suc (depth t)))

-- ## Entries

-- the causes of an entry that joins these under a whole name
abbrev pub extern_checks : Resource_names → WasmFeatures → Entries → TypeInfo → Extern_name → Type_tree → Checks
extern_checks ns fs es info n t = name_checks ns fs es n t ++ too_large_with info t

-- the entry of an entity under a whole name
abbrev pub entry_of : ComponentExternName → ComponentEntityType → Text × ComponentItem
entry_of n x = (n.name, record { ty = x; implements = n.implements; version_suffix = n.version_suffix; external_id = n.external_id })

-- after an error the keys, and the size and depth, are as they were; out of memory they may be those with the entry
abbrev pub IsLeft : {M : Type 0} → List Text → List Text → TypeInfo → TypeInfo → List Text → Text → Type_tree → Error M → Type 0
IsLeft ks ls info later names n t e = ((ls ≡ ks) × (later ≡ info)) ⊎ ((error_kind e ≡ kind.OutOfMemory) × HasKeys ls (names ++ n ∷ []) × (later ≡ with_entry info t))
