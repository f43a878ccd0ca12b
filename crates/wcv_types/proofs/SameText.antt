-- The text is the same for types that are equal up to renaming.
use Rattle.std.proofs.Common.{◌≡◌, ℕ, zero, suc, List, [], ◌∷◌, ◌++◌, length, map, refl, sym, ◌∙◌, ap, Bool, true, false, cond, Some, None}
use Rattle.std.specs.Prelude.{Option, codes, All}
use Rattle.std.specs.Option.{option_map}
use Rattle.std.specs.Fmt.{decimal}
use Rattle.std.specs.List.{fold}
use Rattle.std.proofs.lemmas.List.Elements.{All-head, All-tail}
use Rattle.wcv_core.specs.CoreForm.{Group}
use Rattle.wcv_core.specs.Names.{Name, same}
use Rattle.wcv_types.specs.Tree.{Text, Extern_name, Head, nothing, primitive, resource, defined, func, instance, component, type_entity, Former, named, record_of, variant_of, list_of, map_of, tuple_of, option_of, result_of, own_of, borrow_of, future_of, stream_of, fixed_list_of, flags_of, enum_of, core_module, core_instance, core_type, core_item, here, label, import, export, core_import, core_export, Tree, node, Parts, none, part, head, created, referenced}
use Rattle.wcv_types.specs.Rename.{rename, rename_head, rename_parts, rename_paths, HeadNames, EachName, EachNameIn, UpToRenaming}
use Rattle.wcv_types.specs.Identity.{Identity, of_node, of_reference, identity_at, same_identity, rename_identity}
use Rattle.wcv_types.specs.CoreText.{item_ids, older_ids}
use Rattle.wcv_types.specs.Positions.{is_there}
use Rattle.wcv_types.specs.Quoting.{quoted}
use Rattle.wcv_types.specs.Text.{Written, nothing_written, node_number, resource_number, mention_head, mention, entity_text, name_text, entry_text, positions_text, path_text, listed, param_text, params_text, payload_text, case_texts, mentions, own_texts, entry_texts, path_texts, first_text, second_text, defined_text, instance_text, component_text, form_text, with_resource, with_each, with_paths, with_resources, line_text, with_line, has_group, with_group, with_new_group, write_group, write_groups, write_core, line_if, has_line, write, write_parts, entry_line, write_entries, path_line, write_paths, write_component, type_text}
use Rattle.wcv_types.proofs.Identity.{same_under, IdentityKept, KnownKept, same_kept, kept_identity, identity-same}
use Rattle.wcv_types.proofs.Each.{Each, push_each, map-push, length-mapped, position_under, there_under}

-- f renames resources, g identities; both have a way back on the names that occur
module _ (f back : Name → Name) (g g_back : Name → Name) where
  abbrev R : Name → Type 0
  R r = back (f r) ≡ r

  abbrev I : Name → Type 0
  I i = g_back (g i) ≡ i

  abbrev Has : Tree Name Name → Type 0
  Has t = EachName R I t

  abbrev HasIn : Parts Name Name → Type 0
  HasIn ps = EachNameIn R I ps

  abbrev HasHead : Head Name Name → Type 0
  HasHead h = HeadNames R I h

  abbrev Kept : Identity → Type 0
  Kept i = IdentityKept f back g g_back i

  abbrev to : Identity → Identity
  to i = rename_identity f g i

  abbrev W : Written → Written
  W w = record { core = w.core; groups = w.groups; nodes = map to w.nodes; resources = map f w.resources; text = w.text }

  record Whole (w : Written) : Type 0 where
    pub nodes : Each Kept w.nodes
    pub resources : Each R w.resources

  -- ## Mentions and entities

  node_number-same : (w : Written) (i : Identity) → Whole w → Kept i → node_number (W w) (to i) ≡ node_number w i
  node_number-same w i k e = ap decimal (position_under same_identity Kept to (same_kept f back g g_back) i e w.nodes k.nodes)

  resource_number-same : (w : Written) (r : Name) → Whole w → R r → resource_number (W w) (f r) ≡ resource_number w r
  resource_number-same w r k e = ap (λ (n : ℕ). codes "r" ++ decimal n) (position_under same R f (same_under f back) r e w.resources k.resources)

  mention_head-same : (w : Written) (h : Head Name Name) → Whole w → HasHead h → mention_head (W w) (rename_head f g h) ≡ mention_head w h
  mention_head-same w nothing k e = refl
  mention_head-same w (primitive p) k e = refl
  mention_head-same w (resource r s) k e = node_number-same w (of_reference r s) k e
  mention_head-same w (defined i x) k e = node_number-same w (of_node i) k e
  mention_head-same w (func i b) k e = node_number-same w (of_node i) k e
  mention_head-same w (instance i own) k e = node_number-same w (of_node i) k e.0
  mention_head-same w (component i ins outs) k e = node_number-same w (of_node i) k e.0
  mention_head-same w type_entity k e = refl
  mention_head-same w (core_module i n) k e = node_number-same w (of_node i) k e
  mention_head-same w (core_instance i n) k e = node_number-same w (of_node i) k e
  mention_head-same w (core_type i) k e = refl
  mention_head-same w (core_item x) k e = refl

  mention-same : (w : Written) (t : Tree Name Name) → Whole w → Has t → mention (W w) (rename f g t) ≡ mention w t
  mention-same w (node h ps) k e = mention_head-same w h k e.0

  created-same : (t : Tree Name Name) → created (rename f g t) ≡ rename f g (created t)
  created-same (node h none) = refl
  created-same (node h (part r t ps)) = refl

  referenced-same : (t : Tree Name Name) → referenced (rename f g t) ≡ rename f g (referenced t)
  referenced-same (node h none) = refl
  referenced-same (node h (part r t none)) = refl
  referenced-same (node h (part r t (part r' t' ps))) = refl

  created-has : (t : Tree Name Name) → Has t → Has (created t)
  created-has (node h none) e = (tt, tt)
  created-has (node h (part r t ps)) e = e.1.0

  referenced-has : (t : Tree Name Name) → Has t → Has (referenced t)
  referenced-has (node h none) e = (tt, tt)
  referenced-has (node h (part r t none)) e = (tt, tt)
  referenced-has (node h (part r t (part r' t' ps))) e = e.1.1.0

  head-same : (t : Tree Name Name) → head (rename f g t) ≡ rename_head f g (head t)
  head-same (node h ps) = refl

  type-same : (w : Written) (t : Tree Name Name) → Whole w → Has t →
      codes "type " ++ mention (W w) (created (rename f g t)) ++ codes " of " ++ mention (W w) (referenced (rename f g t)) ≡ codes "type " ++ mention w (created t) ++ codes " of " ++ mention w (referenced t)
  type-same w t k e =
      let a : mention (W w) (created (rename f g t)) ≡ mention w (created t) = ap (mention (W w)) (created-same t) ∙ mention-same w (created t) k (created-has t e) in
      let b : mention (W w) (referenced (rename f g t)) ≡ mention w (referenced t) = ap (mention (W w)) (referenced-same t) ∙ mention-same w (referenced t) k (referenced-has t e) in
      λ j. codes "type " ++ a j ++ codes " of " ++ b j

  entity-same : (w : Written) (h : Head Name Name) (t : Tree Name Name) → Whole w → Has t → entity_text (W w) (rename_head f g h) (rename f g t) ≡ entity_text w h t
  entity-same w type_entity t k e = type-same w t k e
  entity-same w (func i b) t k e = ap (λ (x : Text). codes "func " ++ x) (mention-same w t k e)
  entity-same w (instance i own) t k e = ap (λ (x : Text). codes "instance " ++ x) (mention-same w t k e)
  entity-same w (component i ins outs) t k e = ap (λ (x : Text). codes "component " ++ x) (mention-same w t k e)
  entity-same w (core_module i n) t k e = ap (λ (x : Text). codes "module " ++ x) (mention-same w t k e)
  entity-same w (core_instance i n) t k e = ap (λ (x : Text). codes "value " ++ x) (mention-same w t k e)
  entity-same w (core_type i) t k e = ap (λ (x : Text). codes "value " ++ x) (mention-same w t k e)
  entity-same w (core_item i) t k e = ap (λ (x : Text). codes "value " ++ x) (mention-same w t k e)
  entity-same w nothing t k e = ap (λ (x : Text). codes "value " ++ x) (mention-same w t k e)
  entity-same w (primitive p) t k e = ap (λ (x : Text). codes "value " ++ x) (mention-same w t k e)
  entity-same w (resource r s) t k e = ap (λ (x : Text). codes "value " ++ x) (mention-same w t k e)
  entity-same w (defined i x) t k e = ap (λ (y : Text). codes "value " ++ y) (mention-same w t k e)

  entry-same : (w : Written) (word : Text) (n : Extern_name) (t : Tree Name Name) → Whole w → Has t → entry_text (W w) word n (rename f g t) ≡ entry_text w word n t
  entry-same w word n t k e =
      ap (λ (h : Head Name Name). word ++ quoted n.name ++ codes " " ++ entity_text (W w) h (rename f g t) ++ name_text n) (head-same t) ∙
      ap (λ (x : Text). word ++ quoted n.name ++ codes " " ++ x ++ name_text n) (entity-same w (head t) t k e)

  path-same : (w : Written) (word : Text) (r : Name) (path : List ℕ) → Whole w → R r → path_text (W w) word (f r) path ≡ path_text w word r path
  path-same w word r path k e = ap (λ (x : Text). word ++ x ++ codes " [" ++ positions_text [] path ++ codes "]") (resource_number-same w r k e)

  -- ## Lists in braces

  params-same : (w : Written) (before : Text) (ps : Parts Name Name) → Whole w → HasIn ps → params_text (W w) before (rename_parts f g ps) ≡ params_text w before ps
  params-same w before none k e = refl
  params-same w before (part (label n) t ps) k e =
      let a : mention (W w) (rename f g t) ≡ mention w t = mention-same w t k e.0 in
      let b : params_text (W w) (codes ", ") (rename_parts f g ps) ≡ params_text w (codes ", ") ps = params-same w (codes ", ") ps k e.1 in
      λ j. param_text before n (a j) ++ b j
  params-same w before (part here t ps) k e = ap (λ (x : Text). codes "} -> " ++ x) (mention-same w t k e.0)
  params-same w before (part (import n) t ps) k e = refl
  params-same w before (part (export n) t ps) k e = refl
  params-same w before (part (core_import m n) t ps) k e = refl
  params-same w before (part (core_export n) t ps) k e = refl

  payload-same : (w : Written) (h : Head Name Name) → Whole w → HasHead h → payload_text (W w) (rename_head f g h) ≡ payload_text w h
  payload-same w nothing k e = refl
  payload-same w (primitive p) k e = refl
  payload-same w (resource r s) k e = ap (λ (x : Text). codes " " ++ x) (mention_head-same w (resource r s) k e)
  payload-same w (defined i x) k e = ap (λ (y : Text). codes " " ++ y) (mention_head-same w (defined i x) k e)
  payload-same w (func i b) k e = ap (λ (x : Text). codes " " ++ x) (mention_head-same w (func i b) k e)
  payload-same w (instance i own) k e = ap (λ (x : Text). codes " " ++ x) (mention_head-same w (instance i own) k e)
  payload-same w (component i ins outs) k e = ap (λ (x : Text). codes " " ++ x) (mention_head-same w (component i ins outs) k e)
  payload-same w type_entity k e = refl
  payload-same w (core_module i n) k e = ap (λ (x : Text). codes " " ++ x) (mention_head-same w (core_module i n) k e)
  payload-same w (core_instance i n) k e = ap (λ (x : Text). codes " " ++ x) (mention_head-same w (core_instance i n) k e)
  payload-same w (core_type i) k e = refl
  payload-same w (core_item x) k e = refl

  case-same : (w : Written) (t : Tree Name Name) → Whole w → Has t → payload_text (W w) (head (rename f g t)) ≡ payload_text w (head t)
  case-same w (node h ps) k e = payload-same w h k e.0

  cases-same : (w : Written) (ps : Parts Name Name) → Whole w → HasIn ps → case_texts (W w) (rename_parts f g ps) ≡ case_texts w ps
  cases-same w none k e = refl
  cases-same w (part (label n) t ps) k e =
      let a : payload_text (W w) (head (rename f g t)) ≡ payload_text w (head t) = case-same w t k e.0 in
      let b : case_texts (W w) (rename_parts f g ps) ≡ case_texts w ps = cases-same w ps k e.1 in
      λ j. (quoted n ++ a j) ∷ b j
  cases-same w (part here t ps) k e = cases-same w ps k e.1
  cases-same w (part (import n) t ps) k e = cases-same w ps k e.1
  cases-same w (part (export n) t ps) k e = cases-same w ps k e.1
  cases-same w (part (core_import m n) t ps) k e = cases-same w ps k e.1
  cases-same w (part (core_export n) t ps) k e = cases-same w ps k e.1

  mentions-same : (w : Written) (ps : Parts Name Name) → Whole w → HasIn ps → mentions (W w) (rename_parts f g ps) ≡ mentions w ps
  mentions-same w none k e = refl
  mentions-same w (part r t ps) k e =
      let a : mention (W w) (rename f g t) ≡ mention w t = mention-same w t k e.0 in
      let b : mentions (W w) (rename_parts f g ps) ≡ mentions w ps = mentions-same w ps k e.1 in
      λ j. a j ∷ b j

  owns-same : (w : Written) (rs : List Name) → Whole w → All R rs → own_texts (W w) (map f rs) ≡ own_texts w rs
  owns-same w [] k e = refl
  owns-same w (r ∷ rs) k e =
      let a : resource_number (W w) (f r) ≡ resource_number w r = resource_number-same w r k (All-head R r rs e) in
      let b : own_texts (W w) (map f rs) ≡ own_texts w rs = owns-same w rs k (All-tail R r rs e) in
      λ j. (codes "own " ++ a j) ∷ b j

  entry_texts-same : (w : Written) (ps : Parts Name Name) → Whole w → HasIn ps → entry_texts (W w) (rename_parts f g ps) ≡ entry_texts w ps
  entry_texts-same w none k e = refl
  entry_texts-same w (part (import n) t ps) k e =
      let a : entry_text (W w) (codes "import ") n (rename f g t) ≡ entry_text w (codes "import ") n t = entry-same w (codes "import ") n t k e.0 in
      let b : entry_texts (W w) (rename_parts f g ps) ≡ entry_texts w ps = entry_texts-same w ps k e.1 in
      λ j. a j ∷ b j
  entry_texts-same w (part (export n) t ps) k e =
      let a : entry_text (W w) (codes "export ") n (rename f g t) ≡ entry_text w (codes "export ") n t = entry-same w (codes "export ") n t k e.0 in
      let b : entry_texts (W w) (rename_parts f g ps) ≡ entry_texts w ps = entry_texts-same w ps k e.1 in
      λ j. a j ∷ b j
  entry_texts-same w (part (label n) t ps) k e = entry_texts-same w ps k e.1
  entry_texts-same w (part here t ps) k e = entry_texts-same w ps k e.1
  entry_texts-same w (part (core_import m n) t ps) k e =
      let a : mention (W w) (rename f g t) ≡ mention w t = mention-same w t k e.0 in
      let b : entry_texts (W w) (rename_parts f g ps) ≡ entry_texts w ps = entry_texts-same w ps k e.1 in
      λ j. (codes "import " ++ quoted m ++ codes " " ++ quoted n ++ codes " " ++ a j) ∷ b j
  entry_texts-same w (part (core_export n) t ps) k e =
      let a : mention (W w) (rename f g t) ≡ mention w t = mention-same w t k e.0 in
      let b : entry_texts (W w) (rename_parts f g ps) ≡ entry_texts w ps = entry_texts-same w ps k e.1 in
      λ j. (codes "export " ++ quoted n ++ codes " " ++ a j) ∷ b j

  abbrev PathNames : List (Name × List ℕ) → Type 0
  PathNames ps = All (λ p. R p.0) ps

  first_path : (p : Name × List ℕ) (ps : List (Name × List ℕ)) → PathNames (p ∷ ps) → R p.0
  first_path p ps e = All-head (λ (q : Name × List ℕ). R q.0) p ps e

  further_paths : (p : Name × List ℕ) (ps : List (Name × List ℕ)) → PathNames (p ∷ ps) → PathNames ps
  further_paths p ps e = All-tail (λ (q : Name × List ℕ). R q.0) p ps e

  path_texts-same : (w : Written) (word : Text) (ps : List (Name × List ℕ)) → Whole w → PathNames ps → path_texts (W w) word (rename_paths f ps) ≡ path_texts w word ps
  path_texts-same w word [] k e = refl
  path_texts-same w word (p ∷ ps) k e =
      let a : path_text (W w) word (f p.0) p.1 ≡ path_text w word p.0 p.1 = path-same w word p.0 p.1 k (first_path p ps e) in
      let b : path_texts (W w) word (rename_paths f ps) ≡ path_texts w word ps = path_texts-same w word ps k (further_paths p ps e) in
      λ j. a j ∷ b j

  -- ## Forms of nodes

  first-same : (w : Written) (ps : Parts Name Name) → Whole w → HasIn ps → first_text (W w) (rename_parts f g ps) ≡ first_text w ps
  first-same w none k e = refl
  first-same w (part r t ps) k e = mention-same w t k e.0

  second-same : (w : Written) (ps : Parts Name Name) → Whole w → HasIn ps → second_text (W w) (rename_parts f g ps) ≡ second_text w ps
  second-same w none k e = refl
  second-same w (part r t ps) k e = first-same w ps k e.1

  two-same : (w : Written) (word : Text) (ps : Parts Name Name) → Whole w → HasIn ps →
      word ++ first_text (W w) (rename_parts f g ps) ++ codes " " ++ second_text (W w) (rename_parts f g ps) ≡ word ++ first_text w ps ++ codes " " ++ second_text w ps
  two-same w word ps k e =
      let a : first_text (W w) (rename_parts f g ps) ≡ first_text w ps = first-same w ps k e in
      let b : second_text (W w) (rename_parts f g ps) ≡ second_text w ps = second-same w ps k e in
      λ j. word ++ a j ++ codes " " ++ b j

  defined-same : (w : Written) (x : Former) (ps : Parts Name Name) → Whole w → HasIn ps → defined_text (W w) x (rename_parts f g ps) ≡ defined_text w x ps
  defined-same w (named p) ps k e = refl
  defined-same w record_of ps k e = ap (λ (x : Text). codes "record {" ++ x ++ codes "}") (params-same w [] ps k e)
  defined-same w variant_of ps k e = ap (λ (xs : List Text). codes "variant {" ++ listed [] xs ++ codes "}") (cases-same w ps k e)
  defined-same w tuple_of ps k e = ap (λ (xs : List Text). codes "tuple {" ++ listed [] xs ++ codes "}") (mentions-same w ps k e)
  defined-same w (flags_of ns) ps k e = refl
  defined-same w (enum_of ns) ps k e = refl
  defined-same w list_of ps k e = ap (λ (x : Text). codes "list " ++ x) (first-same w ps k e)
  defined-same w (fixed_list_of n) ps k e = ap (λ (x : Text). codes "fixed-list " ++ x ++ codes " " ++ decimal n) (first-same w ps k e)
  defined-same w option_of ps k e = ap (λ (x : Text). codes "option " ++ x) (first-same w ps k e)
  defined-same w map_of ps k e = two-same w (codes "map ") ps k e
  defined-same w result_of ps k e = two-same w (codes "result ") ps k e
  defined-same w future_of ps k e = ap (λ (x : Text). codes "future " ++ x) (first-same w ps k e)
  defined-same w stream_of ps k e = ap (λ (x : Text). codes "stream " ++ x) (first-same w ps k e)
  defined-same w own_of ps k e = ap (λ (x : Text). codes "own " ++ x) (first-same w ps k e)
  defined-same w borrow_of ps k e = ap (λ (x : Text). codes "borrow " ++ x) (first-same w ps k e)

  instance-same : (w : Written) (own : List Name) (ps : Parts Name Name) → Whole w → All R own → HasIn ps → instance_text (W w) (map f own) (rename_parts f g ps) ≡ instance_text w own ps
  instance-same w own ps k eo e =
      let a : own_texts (W w) (map f own) ≡ own_texts w own = owns-same w own k eo in
      let b : entry_texts (W w) (rename_parts f g ps) ≡ entry_texts w ps = entry_texts-same w ps k e in
      λ j. codes "instance {" ++ listed [] (a j ++ b j) ++ codes "}"

  component_text-same : (w : Written) (ins outs : List (Name × List ℕ)) (ps : Parts Name Name) → Whole w → PathNames ins → PathNames outs → HasIn ps →
      component_text (W w) (rename_paths f ins) (rename_paths f outs) (rename_parts f g ps) ≡ component_text w ins outs ps
  component_text-same w ins outs ps k ei eo e =
      let a : entry_texts (W w) (rename_parts f g ps) ≡ entry_texts w ps = entry_texts-same w ps k e in
      let b : path_texts (W w) (codes "imported ") (rename_paths f ins) ≡ path_texts w (codes "imported ") ins = path_texts-same w (codes "imported ") ins k ei in
      let c : path_texts (W w) (codes "defined ") (rename_paths f outs) ≡ path_texts w (codes "defined ") outs = path_texts-same w (codes "defined ") outs k eo in
      λ j. codes "component {" ++ listed [] (a j ++ b j ++ c j) ++ codes "}"

  form-same : (w : Written) (h : Head Name Name) (ps : Parts Name Name) → Whole w → HasHead h → HasIn ps → form_text (W w) (rename_head f g h) (rename_parts f g ps) ≡ form_text w h ps
  form-same w nothing ps k eh e = refl
  form-same w (primitive p) ps k eh e = refl
  form-same w (resource r s) ps k eh e = ap (λ (x : Text). codes "resource " ++ x) (resource_number-same w r k eh.0)
  form-same w (defined i x) ps k eh e = defined-same w x ps k e
  form-same w (func i b) ps k eh e = ap (λ (x : Text). cond b (codes "async ") [] ++ codes "func {" ++ x) (params-same w [] ps k e)
  form-same w (instance i own) ps k eh e = instance-same w own ps k eh.1 e
  form-same w (component i ins outs) ps k eh e = component_text-same w ins outs ps k eh.1 eh.2 e
  form-same w type_entity ps k eh e = refl
  form-same w (core_module i n) ps k eh e = ap (λ (xs : List Text). codes "module {" ++ listed [] xs ++ codes "}") (entry_texts-same w ps k e)
  form-same w (core_instance i n) ps k eh e = refl
  form-same w (core_type i) ps k eh e = refl
  form-same w (core_item x) ps k eh e = refl

  -- ## Numbers of resources

  with_resource-same : (w : Written) (r : Name) → Whole w → R r → with_resource (W w) (f r) ≡ W (with_resource w r)
  with_resource-same w r k e =
      ap (λ (b : Bool). cond b (W w) (record (W w) { resources = map f w.resources ++ f r ∷ [] })) (there_under same R f (same_under f back) r e w.resources k.resources) ∙
      go (is_there same r w.resources)
    where
      go : (b : Bool) → cond b (W w) (record (W w) { resources = map f w.resources ++ f r ∷ [] }) ≡ W (cond b w (record w { resources = w.resources ++ r ∷ [] }))
      go true = refl
      go false = ap (λ (xs : List Name). record (W w) { resources = xs }) (sym (map-push f w.resources r))

  with_resource-whole : (w : Written) (r : Name) → Whole w → R r → Whole (with_resource w r)
  with_resource-whole w r k e = go (is_there same r w.resources)
    where
      go : (b : Bool) → Whole (cond b w (record w { resources = w.resources ++ r ∷ [] }))
      go true = k
      go false = record { nodes = k.nodes; resources = push_each R w.resources r k.resources e }

  with_each-same : (w : Written) (rs : List Name) → Whole w → All R rs → (with_each (W w) (map f rs) ≡ W (with_each w rs)) × Whole (with_each w rs)
  with_each-same w [] k e = (refl, k)
  with_each-same w (r ∷ rs) k e =
      let one : R r = All-head R r rs e in
      let q = with_each-same (with_resource w r) rs (with_resource-whole w r k one) (All-tail R r rs e) in
      (ap (λ (v : Written). with_each v (map f rs)) (with_resource-same w r k one) ∙ q.0, q.1)

  with_paths-same : (w : Written) (ps : List (Name × List ℕ)) → Whole w → PathNames ps → (with_paths (W w) (rename_paths f ps) ≡ W (with_paths w ps)) × Whole (with_paths w ps)
  with_paths-same w [] k e = (refl, k)
  with_paths-same w (p ∷ ps) k e =
      let one : R p.0 = first_path p ps e in
      let q = with_paths-same (with_resource w p.0) ps (with_resource-whole w p.0 k one) (further_paths p ps e) in
      (ap (λ (v : Written). with_paths v (rename_paths f ps)) (with_resource-same w p.0 k one) ∙ q.0, q.1)

  with_resources-same : (w : Written) (h : Head Name Name) → Whole w → HasHead h → (with_resources (W w) (rename_head f g h) ≡ W (with_resources w h)) × Whole (with_resources w h)
  with_resources-same w nothing k e = (refl, k)
  with_resources-same w (primitive p) k e = (refl, k)
  with_resources-same w (resource r s) k e = (with_resource-same w r k e.0, with_resource-whole w r k e.0)
  with_resources-same w (defined i x) k e = (refl, k)
  with_resources-same w (func i b) k e = (refl, k)
  with_resources-same w (instance i own) k e = with_each-same w own k e.1
  with_resources-same w (component i ins outs) k e =
      let p = with_paths-same w ins k e.1 in
      let q = with_paths-same (with_paths w ins) outs p.1 e.2 in
      (ap (λ (v : Written). with_paths v (rename_paths f outs)) p.0 ∙ q.0, q.1)
  with_resources-same w type_entity k e = (refl, k)
  with_resources-same w (core_module i n) k e = (refl, k)
  with_resources-same w (core_instance i n) k e = (refl, k)
  with_resources-same w (core_type i) k e = (refl, k)
  with_resources-same w (core_item x) k e = (refl, k)

  -- ## Core groups

  pull : (b : Bool) (x y : Written) → cond b (W x) (W y) ≡ W (cond b x y)
  pull true x y = refl
  pull false x y = refl

  whole_either : (b : Bool) (x y : Written) → Whole x → Whole y → Whole (cond b x y)
  whole_either true x y p q = p
  whole_either false x y p q = q

  abbrev Goes : (Written → ℕ → Written) → Written → ℕ → Type 0
  Goes step w i = (step (W w) i ≡ W (step w i)) × Whole (step w i)

  fold-same : (step : Written → ℕ → Written) → ((w : Written) (i : ℕ) → Whole w → Goes step w i) → (w : Written) (is : List ℕ) → Whole w →
      (fold step (W w) is ≡ W (fold step w is)) × Whole (fold step w is)
  fold-same step goes w [] k = (refl, k)
  fold-same step goes w (i ∷ is) k =
      let p = goes w i k in
      let q = fold-same step goes (step w i) is p.1 in
      (ap (λ (v : Written). fold step v is) p.0 ∙ q.0, q.1)

  group-same : (d : ℕ) (w : Written) (i : ℕ) → Whole w → Goes (write_group d) w i
  group-same zero w i k = (refl, k)
  group-same (suc d) w i k =
      let v : Written = fold (write_group d) w (older_ids w.core i) in
      let p = fold-same (write_group d) (group-same d) w (older_ids w.core i) k in (
        ap (λ (x : Written). cond (has_group w i) (W w) (with_new_group x i)) p.0 ∙ ap (λ (x : Written). cond (has_group w i) (W w) x) (pull (has_group v i) v (with_group v i)) ∙ pull (has_group w i) w (with_new_group v i),
        whole_either (has_group w i) w (with_new_group v i) k (whole_either (has_group v i) v (with_group v i) p.1 (record { nodes = p.1.nodes; resources = p.1.resources })),
      )

  groups-same : (w : Written) (is : List ℕ) → Whole w → (write_groups (W w) is ≡ W (write_groups w is)) × Whole (write_groups w is)
  groups-same w is k = fold-same (λ v i. write_group (suc i) v i) (λ v i h. group-same (suc i) v i h) w is k

  core-same : (w : Written) (h : Head Name Name) → Whole w → (write_core (W w) (rename_head f g h) ≡ W (write_core w h)) × Whole (write_core w h)
  core-same w (core_item x) k = groups-same w (item_ids x) k
  core-same w (core_type i) k = groups-same w (i ∷ []) k
  core-same w nothing k = (refl, k)
  core-same w (primitive p) k = (refl, k)
  core-same w (resource r s) k = (refl, k)
  core-same w (defined i x) k = (refl, k)
  core-same w (func i b) k = (refl, k)
  core-same w (instance i own) k = (refl, k)
  core-same w (component i ins outs) k = (refl, k)
  core-same w type_entity k = (refl, k)
  core-same w (core_module i n) k = (refl, k)
  core-same w (core_instance i n) k = (refl, k)

  -- ## Lines

  abbrev KeptIf : Option Identity → Type 0
  KeptIf o = KnownKept f back g g_back o

  has_line-same : (w : Written) (o : Option Identity) → Whole w → KeptIf o → has_line (W w) (option_map to o) ≡ has_line w o
  has_line-same w None k e = refl
  has_line-same w (Some i) k e = there_under same_identity Kept to (same_kept f back g g_back) i e w.nodes k.nodes

  line-same : (w : Written) (o : Option Identity) (h : Head Name Name) (ps : Parts Name Name) → Whole w → HasHead h → HasIn ps →
      line_if (W w) (option_map to o) (rename_head f g h) (rename_parts f g ps) ≡ W (line_if w o h ps)
  line-same w None h ps k eh e = (core-same w h k).0
  line-same w (Some i) h ps k eh e =
      let p = with_resources-same w h k eh in
      let u : Written = with_resources w h in
      let form : form_text (W u) (rename_head f g h) (rename_parts f g ps) ≡ form_text u h ps = form-same u h ps p.1 eh e in
      let count : length (map to u.nodes) ≡ length u.nodes = length-mapped to u.nodes in
      let nodes : map to u.nodes ++ to i ∷ [] ≡ map to (u.nodes ++ i ∷ []) = sym (map-push to u.nodes i) in
      ap (λ (v : Written). with_line v (to i) (rename_head f g h) (rename_parts f g ps)) p.0 ∙
      (λ j. record (W u) { nodes = nodes j; text = u.text ++ line_text (count j) (form j) })

  line-whole : (w : Written) (o : Option Identity) (h : Head Name Name) (ps : Parts Name Name) → Whole w → HasHead h → KeptIf o → Whole (line_if w o h ps)
  line-whole w None h ps k eh e = (core-same w h k).1
  line-whole w (Some i) h ps k eh e =
      let ku : Whole (with_resources w h) = (with_resources-same w h k eh).1 in
      record { nodes = push_each Kept (with_resources w h).nodes i ku.nodes e; resources = ku.resources }

  -- one node, where its parts were written alike
  node-same : (w u v : Written) (h : Head Name Name) (ps : Parts Name Name) → Whole w → HasHead h → HasIn ps → u ≡ W v → Whole v →
      (cond (has_line (W w) (identity_at (rename_head f g h))) (W w) (line_if u (identity_at (rename_head f g h)) (rename_head f g h) (rename_parts f g ps)) ≡ W (cond (has_line w (identity_at h)) w (line_if v (identity_at h) h ps))) ×
      Whole (cond (has_line w (identity_at h)) w (line_if v (identity_at h) h ps))
  node-same w u v h ps k eh e eu kv =
      let o : Option Identity = identity_at h in
      let ko : KeptIf o = kept_identity f back g g_back h eh in
      let known : has_line (W w) (identity_at (rename_head f g h)) ≡ has_line w o = ap (has_line (W w)) (identity-same f g h) ∙ has_line-same w o k ko in
      let line : line_if u (identity_at (rename_head f g h)) (rename_head f g h) (rename_parts f g ps) ≡ W (line_if v o h ps) =
      (λ j. line_if (eu j) (identity-same f g h j) (rename_head f g h) (rename_parts f g ps)) ∙ line-same v o h ps kv eh e in (
        (λ j. cond (known j) (W w) (line j)) ∙ pull (has_line w o) w (line_if v o h ps),
        whole_either (has_line w o) w (line_if v o h ps) k (line-whole v o h ps kv eh ko),
      )

  mutual
    write-same : (w : Written) (t : Tree Name Name) → Whole w → Has t → (write (W w) (rename f g t) ≡ W (write w t)) × Whole (write w t)
    write-same w (node h ps) k e =
        let p = write_parts-same w ps k e.1 in
        node-same w (write_parts (W w) (rename_parts f g ps)) (write_parts w ps) h ps k e.0 e.1 p.0 p.1

    write_parts-same : (w : Written) (ps : Parts Name Name) → Whole w → HasIn ps → (write_parts (W w) (rename_parts f g ps) ≡ W (write_parts w ps)) × Whole (write_parts w ps)
    write_parts-same w none k e = (refl, k)
    write_parts-same w (part r t ps) k e =
        let p = write-same w t k e.0 in
        let q = write_parts-same (write w t) ps p.1 e.1 in
        (ap (λ (x : Written). write_parts x (rename_parts f g ps)) p.0 ∙ q.0, q.1)

  -- ## The whole text

  entry_line-same : (w : Written) (word : Text) (n : Extern_name) (t : Tree Name Name) → Whole w → Has t →
      (entry_line (write (W w) (rename f g t)) word n (rename f g t) ≡ W (entry_line (write w t) word n t)) × Whole (entry_line (write w t) word n t)
  entry_line-same w word n t k e =
      let p = write-same w t k e in
      let u : Written = write w t in
      let text : entry_text (W u) word n (rename f g t) ≡ entry_text u word n t = entry-same u word n t p.1 e in (
        ap (λ (x : Written). entry_line x word n (rename f g t)) p.0 ∙ ap (λ (x : Text). record (W u) { text = u.text ++ x ++ codes "\n" }) text,
        record { nodes = p.1.nodes; resources = p.1.resources },
      )

  entries-same : (w : Written) (ps : Parts Name Name) → Whole w → HasIn ps → (write_entries (W w) (rename_parts f g ps) ≡ W (write_entries w ps)) × Whole (write_entries w ps)
  entries-same w none k e = (refl, k)
  entries-same w (part (import n) t ps) k e =
      let p = entry_line-same w (codes "import ") n t k e.0 in
      let q = entries-same (entry_line (write w t) (codes "import ") n t) ps p.1 e.1 in
      (ap (λ (x : Written). write_entries x (rename_parts f g ps)) p.0 ∙ q.0, q.1)
  entries-same w (part (export n) t ps) k e =
      let p = entry_line-same w (codes "export ") n t k e.0 in
      let q = entries-same (entry_line (write w t) (codes "export ") n t) ps p.1 e.1 in
      (ap (λ (x : Written). write_entries x (rename_parts f g ps)) p.0 ∙ q.0, q.1)
  entries-same w (part (label n) t ps) k e = entries-same w ps k e.1
  entries-same w (part here t ps) k e = entries-same w ps k e.1
  entries-same w (part (core_import m n) t ps) k e = entries-same w ps k e.1
  entries-same w (part (core_export n) t ps) k e = entries-same w ps k e.1

  paths-same : (word : Text) (w : Written) (ps : List (Name × List ℕ)) → Whole w → PathNames ps → (write_paths word (W w) (rename_paths f ps) ≡ W (write_paths word w ps)) × Whole (write_paths word w ps)
  paths-same word w [] k e = (refl, k)
  paths-same word w (p ∷ ps) k e =
      let one : R p.0 = first_path p ps e in
      let u : Written = with_resource w p.0 in
      let ku : Whole u = with_resource-whole w p.0 k one in
      let line : path_line (with_resource (W w) (f p.0)) word (f p.0) p.1 ≡ W (path_line u word p.0 p.1) =
      ap (λ (v : Written). path_line v word (f p.0) p.1) (with_resource-same w p.0 k one) ∙ ap (λ (x : Text). record (W u) { text = u.text ++ x ++ codes "\n" }) (path-same u word p.0 p.1 ku one) in
      let q = paths-same word (path_line u word p.0 p.1) ps (record { nodes = ku.nodes; resources = ku.resources }) (further_paths p ps e) in
      (ap (λ (v : Written). write_paths word v (rename_paths f ps)) line ∙ q.0, q.1)

  component-same : (gs : List Group) (h : Head Name Name) (ps : Parts Name Name) → HasHead h → HasIn ps → write_component gs (rename_head f g h) (rename_parts f g ps) ≡ W (write_component gs h ps)
  component-same gs (component i ins outs) ps eh e =
      let p = entries-same (nothing_written gs) ps (record { nodes = tt; resources = tt }) e in
      let q = paths-same (codes "imported ") (write_entries (nothing_written gs) ps) ins p.1 eh.1 in
      let r = paths-same (codes "defined ") (write_paths (codes "imported ") (write_entries (nothing_written gs) ps) ins) outs q.1 eh.2 in
      ap (λ (x : Written). write_paths (codes "defined ") (write_paths (codes "imported ") x (rename_paths f ins)) (rename_paths f outs)) p.0 ∙
      ap (λ (x : Written). write_paths (codes "defined ") x (rename_paths f outs)) q.0 ∙ r.0
  component-same gs nothing ps eh e = refl
  component-same gs (primitive p) ps eh e = refl
  component-same gs (resource r s) ps eh e = refl
  component-same gs (defined i x) ps eh e = refl
  component-same gs (func i b) ps eh e = refl
  component-same gs (instance i own) ps eh e = refl
  component-same gs type_entity ps eh e = refl
  component-same gs (core_module i n) ps eh e = refl
  component-same gs (core_instance i n) ps eh e = refl
  component-same gs (core_type i) ps eh e = refl
  component-same gs (core_item x) ps eh e = refl

  pub text-renamed : (gs : List Group) (t : Tree Name Name) → EachName (λ r. back (f r) ≡ r) (λ i. g_back (g i) ≡ i) t → type_text gs (rename f g t) ≡ type_text gs t
  text-renamed gs (node h ps) e = ap (λ (x : Written). x.text) (component-same gs h ps e.0 e.1)

-- types that are equal up to renaming have one text
pub same_text : (gs : List Group) (s t : Tree Name Name) → UpToRenaming s t → type_text gs s ≡ type_text gs t
same_text gs s t u = sym (text-renamed u.resource_to u.resource_back u.identity_to u.identity_back gs s u.one_to_one) ∙ ap (type_text gs) u.renamed
