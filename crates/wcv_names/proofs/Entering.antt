-- An entry joins a list, or is refused.
use Rattle.std.proofs.Common.{◌≡◌, ◌⊎◌, ℕ, List, [], ◌∷◌, ◌++◌, Bool, true, false, Option, Some, inl, inr, refl, sym, ap, ◌∙◌, subst}
use Rattle.std.specs.Prelude.{not}
use Rattle.std.proofs.lemmas.List.{map-append}
use Rattle.wcv_core.specs.Checks.{Checks, Cause, IsFree, MemoryOrCausedBy}
use Rattle.wcv_core.specs.Label.{is_among}
use Rattle.wcv_core.specs.Refusal.{error_kind, error_offset}
use Rattle.wcv_core.specs.declared.error.Error.{Error}
use Rattle.wcv_core.specs.declared.error.ErrorKind.TheVariants as kind
use Rattle.wcv_core.specs.declared.features.WasmFeatures.{WasmFeatures}
use Rattle.wcv_syntax.specs.ExternName.{Form}
use Rattle.wcv_syntax.specs.FormOf.{form_of}
use Rattle.wcv_types.specs.Tree.{Text, Extern_name}
use Rattle.wcv_types.specs.Arena.{Arena}
use Rattle.wcv_types.specs.Entities.{entity_tree, entry_trees}
use Rattle.wcv_types.specs.Unfold.{Type_tree, trees}
use Rattle.wcv_types.specs.declared.info.TypeInfo.{TypeInfo}
use Rattle.wcv_types.specs.declared.item_map.ComponentItem.{ComponentItem}
use Rattle.wcv_types.specs.declared.shapes.ComponentEntityType.{ComponentEntityType}
use Rattle.wcv_names.specs.FuncTrees.{names_in}
use Rattle.wcv_names.specs.Externs.{is_instance_tree, has_key, conflicts, breaks_rule, entry_names, extern_checks, too_large_with}
use Rattle.wcv_names.specs.KeySet.{HasKeys, key_text_of, keys_in}
use Rattle.wcv_names.specs.ResourceNames.{Resource_names}
use Rattle.wcv_names.specs.Rules.{Entries, follows}
use Rattle.wcv_names.specs.WholeNames.{is_bad_name, lacks_feature, IsNameFault, NameRefused}

-- whether the key is taken, by the set of keys
pub key_stands : (s names : List Text) (n k : Text) (f : Form) (b : Bool) → HasKeys s names → Some f ≡ form_of n → k ≡ key_text_of f → b ≡ is_among k s → conflicts names n ≡ b
key_stands s names n k f b h e w a = sym (a ∙ ap (λ (t : Text). is_among t s) w ∙ h (key_text_of f) ∙ ap (λ (o : Option Form). has_key o (keys_in names)) e)

-- the names of entries by ids are those of their trees
pub names_same : (ts : List Type_tree) (es : List (Text × ComponentItem)) → entry_names (entry_trees ts es) ≡ names_in es
names_same ts [] = refl
names_same ts (e ∷ es) = ap (λ (l : List Text). e.0 ∷ l) (names_same ts es)

module _ (ts : List Type_tree) (items : List (Text × ComponentItem)) (ns : Resource_names) (fs : WasmFeatures) (info : TypeInfo) (n : Extern_name) (t : Type_tree) (offset : ℕ) where
  abbrev Es : Entries
  Es = entry_trees ts items

  abbrev All_checks : Checks
  All_checks = extern_checks ns fs Es info n t

  conflict_same : conflicts (entry_names Es) n.name ≡ conflicts (names_in items) n.name
  conflict_same = ap (λ (l : List Text). conflicts l n.name) (names_same ts items)

  rule_is : (f : Form) (b : Bool) → Some f ≡ form_of n.name → follows ns Es f t ≡ b → breaks_rule ns Es (form_of n.name) t ≡ not b
  rule_is f b e h = ap (λ (o : Option Form). breaks_rule ns Es o t) (sym e) ∙ ap not h

  pub may_join : (inst : Bool) (f : Form) → inst ≡ is_instance_tree t → Some f ≡ form_of n.name → is_bad_name inst n ≡ false → lacks_feature fs n ≡ false → follows ns (entry_trees ts items) f t ≡ true → conflicts (names_in items) n.name ≡ false
      → IsFree (too_large_with info t) → IsFree (extern_checks ns fs (entry_trees ts items) info n t)
  may_join inst f i e r l w c k = (ap (λ (b : Bool). is_bad_name b n) (sym i) ∙ r, (l, (rule_is f true e w, (conflict_same ∙ c, k))))

  pub by_name : {M : Type 0} (inst : Bool) (e : Error M) → inst ≡ is_instance_tree t → NameRefused inst fs n offset e → MemoryOrCausedBy (extern_checks ns fs (entry_trees ts items) info n t) offset e
  by_name inst e i h = go (subst (λ (b : Bool). NameRefused b fs n offset e) i h)
    where
      which : IsNameFault (is_instance_tree t) fs n e → Cause All_checks (error_kind e)
      which (inl k) = inl k
      which (inr k) = inr (inl k)

      go : NameRefused (is_instance_tree t) fs n offset e → MemoryOrCausedBy All_checks offset e
      go (inl k) = inl k
      go (inr k) = inr (which k.0, k.1)

  pub by_member : {M : Type 0} (f : Form) (e : Error M) → Some f ≡ form_of n.name → (error_kind e ≡ kind.OutOfMemory) ⊎ ((error_kind e ≡ kind.MethodName) × (error_offset e ≡ offset) × (follows ns (entry_trees ts items) f t ≡ false))
      → MemoryOrCausedBy (extern_checks ns fs (entry_trees ts items) info n t) offset e
  by_member f e q (inl k) = inl k
  by_member f e q (inr k) = inr (inr (inr (inl (k.0, rule_is f false q k.2))), k.1)

  pub by_conflict : {M : Type 0} (e : Error M) → error_kind e ≡ kind.Conflict → error_offset e ≡ offset → conflicts (names_in items) n.name ≡ true → MemoryOrCausedBy (extern_checks ns fs (entry_trees ts items) info n t) offset e
  by_conflict e k at c = inr (inr (inr (inr (inl (k, conflict_same ∙ c)))), at)

  pub by_size : {M : Type 0} (e : Error M) → MemoryOrCausedBy (too_large_with info t) offset e → MemoryOrCausedBy (extern_checks ns fs (entry_trees ts items) info n t) offset e
  by_size e (inl k) = inl k
  by_size e (inr k) = inr (inr (inr (inr (inr k.0))), k.1)

  pub by_memory : {M : Type 0} (e : Error M) → error_kind e ≡ kind.OutOfMemory → MemoryOrCausedBy (extern_checks ns fs (entry_trees ts items) info n t) offset e
  by_memory e k = inl k

-- an entry joins where the arena was handed on between
pub by_size_later : {M : Type 0} (a b : Arena) (x : ComponentEntityType) (items : List (Text × ComponentItem)) (ns : Resource_names) (fs : WasmFeatures) (info : TypeInfo) (n : Extern_name) (offset : ℕ) (e : Error M) → a ≡ b →
    MemoryOrCausedBy (too_large_with info (entity_tree (trees a.nodes) x)) offset e → MemoryOrCausedBy (extern_checks ns fs (entry_trees (trees b.nodes) items) info n (entity_tree (trees b.nodes) x)) offset e
by_size_later a b x items ns fs info n offset e h w =
    subst (λ (z : Arena). MemoryOrCausedBy (extern_checks ns fs (entry_trees (trees z.nodes) items) info n (entity_tree (trees z.nodes) x)) offset e) h (by_size (trees a.nodes) items ns fs info n (entity_tree (trees a.nodes) x) offset e w)

-- the names with that of the entry
pub keys_of_joined : (s : List Text) (es fs : List (Text × ComponentItem)) (e : Text × ComponentItem) → fs ≡ es ++ e ∷ [] → HasKeys s (names_in es ++ e.0 ∷ []) → HasKeys s (names_in fs)
keys_of_joined s es fs e w h = subst (HasKeys s) (sym (ap names_in w ∙ map-append (λ (x : Text × ComponentItem). x.0) es (e ∷ []))) h
