-- A whole name that has no cause among entries is new there, and entries that may be listed one after another have names that differ.
use Rattle.std.proofs.Common.{◌≡◌, List, [], ◌∷◌, ◌++◌, Bool, true, false, ◌||◌, Option, Some, None, bytes_eq, refl, sym, ap, ◌∙◌, subst}
use Rattle.std.specs.Option.{is_none}
use Rattle.std.proofs.lemmas.Bool.{false≢true}
use Rattle.std.proofs.lemmas.List.{map-append, append_assoc, append-nil}
use Rattle.wcv_core.specs.declared.features.WasmFeatures.{WasmFeatures}
use Rattle.wcv_core.proofs.Among.{own_bytes, same_bytes}
use Rattle.wcv_syntax.specs.ExternName.{Form}
use Rattle.wcv_syntax.specs.FormOf.{form_of}
use Rattle.wcv_types.specs.Arena.{Arena}
use Rattle.wcv_types.specs.Tree.{Text, Extern_name}
use Rattle.wcv_types.specs.Unfold.{Type_tree, slot_tree, trees}
use Rattle.wcv_names.specs.Externs as externs
use Rattle.wcv_names.specs.Externs.{entry_names, has_key}
use Rattle.wcv_names.specs.KeySet.{key_text_of, keys_in, with_key}
use Rattle.wcv_names.specs.ResourceNames.{Resource_names}
use Rattle.wcv_lower.specs.Checks.{IsFree, is_among, has_repeat}
use Rattle.wcv_lower.specs.EntryNames.{resource_names}
use Rattle.wcv_lower.specs.Instances.{names_checks}
use Rattle.wcv_lower.specs.Mapped.{map_entries}
use Rattle.wcv_lower.specs.Readers.{Reader, Named}
use Rattle.wcv_lower.specs.SideNames.{TellsRepeats}
use Rattle.wcv_lower.specs.Slots.{slot_reader}
use Rattle.wcv_lower.specs.Trees.{Entries, tree_reader}
use Rattle.wcv_lower.proofs.Causes.{free_left, free_right}
use Rattle.wcv_lower.proofs.Repeats.{has_repeat-push, neither_right}

-- ## One name

later_keys : (k : Text) (o : Option Form) (ks : List Text) → is_among k (with_key o ks) ≡ false → is_among k ks ≡ false
later_keys k None ks h = h
later_keys k (Some g) ks h = neither_right (bytes_eq k (key_text_of g)) (is_among k ks) h

-- a name whose key none of them has is none of them
new_text : (ns : List Text) (n : Text) (f : Form) → form_of n ≡ Some f → is_among (key_text_of f) (keys_in ns) ≡ false → is_among n ns ≡ false
new_text [] n f e h = refl
new_text (m ∷ ns) n f e h = go (bytes_eq n m) refl (new_text ns n f e (later_keys (key_text_of f) (form_of m) (keys_in ns) h))
  where
    go : (b : Bool) → bytes_eq n m ≡ b → is_among n ns ≡ false → (b || is_among n ns) ≡ false
    go false apart later = later
    go true same later =
        let own : form_of m ≡ Some f = ap form_of (sym (same_bytes n m same)) ∙ e in
        let taken : is_among (key_text_of f) (keys_in (m ∷ ns)) ≡ true =
        ap (λ (o : Option Form). is_among (key_text_of f) (with_key o (keys_in ns))) own ∙ ap (λ (b : Bool). b || is_among (key_text_of f) (keys_in ns)) (own_bytes (key_text_of f)) in
        absurd (false≢true (sym h ∙ taken))

formed : (o : Option Form) (b : Bool) → (is_none o || b) ≡ false → (f : Form) × (o ≡ Some f)
formed None b h = absurd (false≢true (sym h))
formed (Some f) b h = (f, refl)

-- a name that may join entries is new
pub new_name : (ns : Resource_names) (fs : WasmFeatures) (es : Entries) (n : Extern_name) (t : Type_tree) → IsFree (externs.name_checks ns fs es n t) → is_among n.name (entry_names es) ≡ false
new_name ns fs es n t h =
    let w : (f : Form) × (form_of n.name ≡ Some f) = formed (form_of n.name) _ h.0 in
    new_text (entry_names es) n.name w.0 w.1 (ap (λ (o : Option Form). has_key o (keys_in (entry_names es))) (sym w.1) ∙ h.1.1.1.0)

-- ## Readers

pub entry_names-mapped : {A B : Type 0} (f : A → B) (es : List (Extern_name × A)) → entry_names (map_entries f es) ≡ entry_names es
entry_names-mapped f [] = refl
entry_names-mapped f (e ∷ es) = ap (λ (ns : List Text). e.0.name ∷ ns) (entry_names-mapped f es)

pub trees_tell : TellsRepeats tree_reader
trees_tell = record { joining = λ fs es n t h. new_name (resource_names es) fs es n t h; listed = λ fs es n t h. new_name (resource_names []) fs es n t h }

-- of ids the causes are those of their trees
pub ids_tell : (a : Arena) → TellsRepeats (slot_reader a)
ids_tell a = record { joining = λ fs es n x h. same es n (trees_tell.joining fs (map_entries tree_of es) n (tree_of x) h); listed = λ fs es n x h. same es n (trees_tell.listed fs (map_entries tree_of es) n (tree_of x) h) }
  where
    tree_of : (slot_reader a).Entry → Type_tree
    tree_of = slot_tree (trees a.nodes)

    same : (es : Named (slot_reader a)) (n : Extern_name) → is_among n.name (entry_names (map_entries tree_of es)) ≡ false → is_among n.name (entry_names es) ≡ false
    same es n h = ap (is_among n.name) (sym (entry_names-mapped tree_of es)) ∙ h

-- ## One after another

module _ (X : Reader) (tells : TellsRepeats X) where
  pub names_differ : (fs : WasmFeatures) (es xs : Named X) → has_repeat (entry_names es) ≡ false → IsFree (names_checks X fs es xs) → has_repeat (entry_names (es ++ xs)) ≡ false
  names_differ fs es [] d h = ap (λ (ys : Named X). has_repeat (entry_names ys)) (append-nil es) ∙ d
  names_differ fs es (x ∷ xs) d h =
      let own : IsFree (X.bare_name_checks fs es x.0 x.1) = free_left (X.bare_name_checks fs es x.0 x.1) (names_checks X fs (es ++ x ∷ []) xs) h in
      let joined : has_repeat (entry_names (es ++ x ∷ [])) ≡ false =
      ap has_repeat (map-append (λ (e : Extern_name × X.Entry). e.0.name) es (x ∷ [])) ∙ has_repeat-push x.0.name (entry_names es) ∙ (λ j. d j || tells.listed fs es x.0 x.1 own j) in
      subst (λ (ys : Named X). has_repeat (entry_names ys) ≡ false) (append_assoc es (x ∷ []) xs) (names_differ fs (es ++ x ∷ []) xs joined (free_right (X.bare_name_checks fs es x.0 x.1) (names_checks X fs (es ++ x ∷ []) xs) h))
