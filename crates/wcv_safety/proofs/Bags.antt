-- Instances that list items: where a context makes one, so do the lists that agree with it, and the one agrees with the other.
use Rattle.std.proofs.Common.{◌≡◌, ◌∙◌, ℕ, zero, suc, ◌+◌, List, [], ◌∷◌, ◌++◌, map, Bool, true, false, not, cond, Option, Some, None, refl, sym, ap, subst, arith, bytes_eq, append-nil}
use Rattle.std.specs.List.{AllZip, IsDistinct, list_all}
use Rattle.std.specs.Map.{lookup, keys_of}
use Rattle.std.specs.Option.{option_map, option_map_or}
use Rattle.std.proofs.lemmas.Map.Views.{lookup-from_Contains}
use Rattle.wcv_core.specs.CoreForm.{Group}
use Rattle.wcv_core.specs.Names.{Name, Place}
use Rattle.wcv_closed.proofs.ModuleMatching.{texts_equiv}
use Rattle.wcv_syntax.specs.Model.{bag}
use Rattle.wcv_syntax.specs.declared.component_type.ComponentTypeRef.{ComponentTypeRef}
use Rattle.wcv_syntax.specs.declared.name.ComponentExport.{ComponentExport}
use Rattle.wcv_types.specs.ByName.{NamesDiffer}
use Rattle.wcv_types.specs.Seen.{Within, outer}
use Rattle.wcv_types.specs.Tree as tree
use Rattle.wcv_types.specs.Tree.{Text, Extern_name, exports_in, export, none, instance_type}
use Rattle.wcv_types.specs.Unfold.{Type_tree}
use Rattle.wcv_types.proofs.Lists.{some-inj}
use Rattle.wcv_matching.specs.Matching.{Entries, in_instance, MatchBelow, named, named_exports}
use Rattle.wcv_matching.specs.ModuleItems.{ItemsMatch, before}
use Rattle.wcv_matching.proofs.MatchingKept.{MatchBelow-map}
use Rattle.wcv_matching.proofs.MatchingOrder.{MatchBelow-add}
use Rattle.wcv_names.specs.Externs.{entry_names}
use Rattle.wcv_lower.specs.Checks.{is_none, has_repeat}
use Rattle.wcv_lower.specs.Context.{exporting, introduce, in_instances}
use Rattle.wcv_lower.specs.Entries.{extern_name, is_written}
use Rattle.wcv_lower.specs.Instances.{listed_at, listed, all_listed, may_list, bag_made, instance_of_items, instance_joins, listed_values, instance_step}
use Rattle.wcv_lower.specs.Marks.{uses_each, value_index}
use Rattle.wcv_lower.specs.Names.{Names, introduced}
use Rattle.wcv_lower.specs.Readers.{Reader, New_node, instance_node}
use Rattle.wcv_lower.specs.Step.{Step, introduces, change, apply, bare}
use Rattle.wcv_lower.specs.Trees.{Tree_stack, tree_reader, tree_maker, node_tree}
use Rattle.wcv_lower.proofs.MarkLaws.{apply-append}
use Rattle.wcv_lower.proofs.Repeats.{repeats_differ}
use Rattle.wcv_growth.proofs.Known.{mapped-some}
use Rattle.wcv_world.specs.Growth.{named_alone}
use Rattle.wcv_world.specs.Reading.{Value_stack, value_reader, value_maker, built}
use Rattle.wcv_world.specs.Values.{Value, type_over, types_over, values}
use Rattle.wcv_safety.specs.Agreeing.{Agrees, AgreeStacks, AgreeReadings}
use Rattle.wcv_safety.specs.Fitting.{Fits}
use Rattle.wcv_safety.specs.Standing.{BothStand}
use Rattle.wcv_safety.proofs.Agreeing.{AllUnseen, left-same, right-same, both-unseen, appends-agree, readings}
use Rattle.wcv_safety.proofs.Entering.{none-introduced}
use Rattle.wcv_safety.proofs.Found.{item-found, written-there}
use Rattle.wcv_safety.proofs.Quiet.{SameTop, quiet-uses, quiet-top}
use Rattle.wcv_safety.proofs.Tests.{if-some, some-there, both-true, and-true}

-- ## An instance of entries that fit

-- under one name, something that fits
abbrev NamedFits : List Group → (Name → Name) → Extern_name × Value → Extern_name × Type_tree → Type 0
NamedFits gs g x e = (x.0.name ≡ e.0.name) × Fits gs g (type_over x.1) e.1

abbrev NamedBelow : List Group → (Name → Name) → ℕ → Extern_name × Value → Extern_name × Type_tree → Type 0
NamedBelow gs g d x e = (x.0.name ≡ e.0.name) × MatchBelow (ItemsMatch gs) d Name (λ r. r) g (type_over x.1) e.1

abbrev over_types : List (Extern_name × Value) → List (Extern_name × Type_tree)
over_types xs = map (λ x. (x.0, type_over x.1)) xs

over-values : (xs : List (Extern_name × Value)) → types_over (values xs) ≡ over_types xs
over-values [] = refl
over-values (x ∷ xs) = ap (λ es. (x.0, type_over x.1) ∷ es) (over-values xs)

exports-are : (es : List (Extern_name × Type_tree)) → exports_in (tree.entries export es none) ≡ es
exports-are [] = refl
exports-are (e ∷ es) = ap (λ xs. e ∷ xs) (exports-are es)

module _ (gs : List Group) (g : Name → Name) where
  higher : (k d : ℕ) (xs : List (Extern_name × Value)) (es : List (Extern_name × Type_tree)) → AllZip (NamedBelow gs g d) xs es → AllZip (NamedBelow gs g (k + d)) xs es
  higher k d [] [] w = tt
  higher k d [] (e ∷ es) w = absurd w
  higher k d (x ∷ xs) [] w = absurd w
  higher k d (x ∷ xs) (e ∷ es) w = ((w.0.0, MatchBelow-add (ItemsMatch gs) k d (k + d) Name (λ r. r) g (type_over x.1) e.1 refl w.0.1), higher k d xs es w.1)

  -- one height for all
  one-height : (xs : List (Extern_name × Value)) (es : List (Extern_name × Type_tree)) → AllZip (NamedFits gs g) xs es → (d : ℕ) × AllZip (NamedBelow gs g d) xs es
  one-height [] [] w = (zero, tt)
  one-height [] (e ∷ es) w = absurd w
  one-height (x ∷ xs) [] w = absurd w
  one-height (x ∷ xs) (e ∷ es) w =
      let r = one-height xs es w.1 in
      (w.0.1.0 + r.0, ((w.0.0, MatchBelow-add (ItemsMatch gs) r.0 w.0.1.0 (w.0.1.0 + r.0) Name (λ r. r) g (type_over x.1) e.1 (omega arith) w.0.1.1), higher w.0.1.0 r.0 xs es r.1))

  found-below : (d : ℕ) (n : Text) (t : Type_tree) (xs : List (Extern_name × Value)) (es : List (Extern_name × Type_tree)) → AllZip (NamedBelow gs g d) xs es → lookup (bytes_eq n) (named es) ≡ Some t →
      (a : Type_tree) × (lookup (bytes_eq n) (named (over_types xs)) ≡ Some a) × MatchBelow (ItemsMatch gs) d Name (λ r. r) g a t
  found-below d n t [] [] w e = absurd (cc)
  found-below d n t [] (f ∷ es) w e = absurd w
  found-below d n t (x ∷ xs) [] w e = absurd w
  found-below d n t (x ∷ xs) (f ∷ es) w e =
      subst (λ (b : Bool). (a : Type_tree) × (cond b (Some (type_over x.1)) (lookup (bytes_eq n) (named (over_types xs))) ≡ Some a) × MatchBelow (ItemsMatch gs) d Name (λ r. r) g a t)
      (ap (bytes_eq n) (sym w.0.0)) (go (bytes_eq n f.0.name) e (found-below d n t xs es w.1))
    where
      go : (b : Bool) → cond b (Some f.1) (lookup (bytes_eq n) (named es)) ≡ Some t →
          (lookup (bytes_eq n) (named es) ≡ Some t → (a : Type_tree) × (lookup (bytes_eq n) (named (over_types xs)) ≡ Some a) × MatchBelow (ItemsMatch gs) d Name (λ r. r) g a t) → (a : Type_tree) × (cond b (Some (type_over x.1)) (lookup (bytes_eq n) (named (over_types xs))) ≡ Some a) × MatchBelow (ItemsMatch gs) d Name (λ r. r) g a t
      go true q later = (type_over x.1, refl, subst (λ (z : Type_tree). MatchBelow (ItemsMatch gs) d Name (λ r. r) g (type_over x.1) z) (some-inj q) w.0.1)
      go false q later = later q

keys-are : (es : List (Extern_name × Type_tree)) → keys_of (named es) ≡ entry_names es
keys-are [] = refl
keys-are (e ∷ es) = ap (λ ns. e.0.name ∷ ns) (keys-are es)

differ : (es : List (Extern_name × Type_tree)) → has_repeat (entry_names es) ≡ false → NamesDiffer (named es)
differ es e = subst (λ (ns : List Text). IsDistinct bytes_eq ns) (sym (keys-are es)) (repeats_differ (entry_names es) e)

module _ (gs : List Group) (g : Name → Name) (i j : Name) (xs : List (Extern_name × Value)) (es : List (Extern_name × Type_tree)) where
  abbrev inst_left : Type_tree
  inst_left = instance_type i [] (types_over (values xs))

  abbrev inst_right : Type_tree
  inst_right = instance_type j [] es

  named-left : named_exports inst_left ≡ named (over_types xs)
  named-left = ap named (exports-are (types_over (values xs)) ∙ over-values xs)

  named-right : named_exports inst_right ≡ named es
  named-right = ap named (exports-are es)

  -- the instance of the values fits that of the types
  pub instance-fits : has_repeat (entry_names es) ≡ false → AllZip (NamedFits gs g) xs es → Fits gs g inst_left inst_right
  instance-fits r w =
      let o = one-height gs g xs es w in
      let R : Type_tree → Type_tree → Type 0 = MatchBelow (ItemsMatch gs) o.0 (Within Name) (in_instance inst_left (λ r. r)) (in_instance inst_right g) in (
        suc o.0,
        (
          refl,
          subst (λ (bs : List (Text × Type_tree)). Entries R bs (named_exports inst_right)) (sym named-left)
              (subst (λ (bs : List (Text × Type_tree)). Entries R (named (over_types xs)) bs) (sym named-right)
              (λ n t c.
              let f = found-below gs g o.0 n t xs es o.1 (lookup-from_Contains texts_equiv n t (named es) (differ es r) c) in
              (f.0, f.1, MatchBelow-map (ItemsMatch gs) o.0 Name (Within Name) outer (λ r. r) g (in_instance inst_left (λ r. r)) (in_instance inst_right g) f.0 t (λ r z. refl) (λ r z. refl) f.2))),
        ),
      )

-- ## What is listed

there-some : {A : Type 0} (o : Option A) (x : A) → o ≡ Some x → not (is_none o) ≡ true
there-some o x e = ap (λ p. not (is_none p)) e

module _ (g : Name → Name) (v : Value_stack) (s : Tree_stack) (h : BothStand v s) (a : AgreeReadings g v s) where
  list-agrees : (es : List ComponentExport) → list_all (λ (e : ComponentExport). not (is_none (listed_at s.top e))) es ≡ true →
      (list_all (λ (e : ComponentExport). not (is_none (listed_at v.top e))) (map named_alone es) ≡ true) × AllZip (NamedFits v.groups g) (listed v.top (map named_alone es)) (listed s.top es)
  list-agrees [] w = (refl, tt)
  list-agrees (e ∷ es) w =
      let b = both-true (not (is_none (listed_at s.top e))) (list_all (λ (e : ComponentExport). not (is_none (listed_at s.top e))) es) w in
      let t = some-there (listed_at s.top e) b.0 in
      let x = item-found v.groups v.top.defined g v.top s.top a.stacks.all.0 h.types e.kind e.index t.0 t.1 in
      let r = list-agrees es b.1 in (
        and-true (not (is_none (listed_at v.top (named_alone e)))) (list_all (λ (e : ComponentExport). not (is_none (listed_at v.top e))) (map named_alone es)) (there-some (listed_at v.top (named_alone e)) x.0 x.1) r.0,
        subst (λ (o : Option Value). AllZip (NamedFits v.groups g) (before (extern_name (named_alone e).name) o (listed v.top (map named_alone es))) (listed s.top (e ∷ es))) (sym x.1)
            (subst (λ (o : Option Type_tree). AllZip (NamedFits v.groups g) (before (extern_name (named_alone e).name) (Some x.0) (listed v.top (map named_alone es))) (before (extern_name e.name) o (listed s.top es))) (sym t.1) ((refl, x.2), r.1)),
      )

  names-agree : (xs : List (Extern_name × Value)) (es : List (Extern_name × Type_tree)) → AllZip (NamedFits v.groups g) xs es → entry_names xs ≡ entry_names es
  names-agree [] [] w = refl
  names-agree [] (e ∷ es) w = absurd w
  names-agree (x ∷ xs) [] w = absurd w
  names-agree (x ∷ xs) (e ∷ es) w = λ i. w.0.0 i ∷ names-agree xs es w.1 i

  types-there : (es : List ComponentExport) → list_all (λ (e : ComponentExport). option_map_or (is_written s.top) e.ty true) es ≡ true → list_all (λ (e : ComponentExport). option_map_or (is_written v.top) e.ty true) (map named_alone es) ≡ true
  types-there [] w = refl
  types-there (e ∷ es) w =
      let b = both-true (option_map_or (is_written s.top) e.ty true) (list_all (λ (e : ComponentExport). option_map_or (is_written s.top) e.ty true) es) w in
      and-true (option_map_or (is_written v.top) e.ty true) (list_all (λ (e : ComponentExport). option_map_or (is_written v.top) e.ty true) (map named_alone es)) (one e.ty b.0) (types-there es b.1)
    where
      one : (o : Option ComponentTypeRef) → option_map_or (is_written s.top) o true ≡ true → option_map_or (is_written v.top) o true ≡ true
      one None w = refl
      one (Some r) w = written-there v.groups v.top.defined g v.top s.top a.stacks.all.0 h.types r w

  made-agrees : (es : List ComponentExport) (n : New_node tree_reader) → bag_made s.top es ≡ Some n →
      (bag_made v.top (map named_alone es) ≡ Some (instance_node [] (listed v.top (map named_alone es)))) × (n ≡ instance_node [] (listed s.top es)) × (has_repeat (entry_names (listed s.top es)) ≡ false) ×
      AllZip (NamedFits v.groups g) (listed v.top (map named_alone es)) (listed s.top es)
  made-agrees es n e =
      let m = if-some (may_list s.top es) (all_listed s.top es) n e in
      let l = if-some (list_all (λ (e : ComponentExport). not (is_none (listed_at s.top e))) es) (Some (instance_node [] (listed s.top es))) n m.1 in
      let b = both-true (not (has_repeat (entry_names (listed s.top es)))) (list_all (λ (e : ComponentExport). option_map_or (is_written s.top) e.ty true) es) m.0 in
      let z = list-agrees es l.0 in
      let k : entry_names (listed v.top (map named_alone es)) ≡ entry_names (listed s.top es) = names-agree (listed v.top (map named_alone es)) (listed s.top es) z.1 in
      let node : New_node value_reader = instance_node [] (listed v.top (map named_alone es)) in
      let may : may_list v.top (map named_alone es) ≡ true =
      and-true (not (has_repeat (entry_names (listed v.top (map named_alone es))))) (list_all (λ (e : ComponentExport). option_map_or (is_written v.top) e.ty true) (map named_alone es))
      (ap (λ ns. not (has_repeat ns)) k ∙ b.0) (types-there es b.1) in (
        ap (λ (c : Bool). cond c (all_listed v.top (map named_alone es)) None) may ∙ ap (λ (c : Bool). cond c (Some node) None) z.0,
        sym (some-inj l.1),
        not-false (has_repeat (entry_names (listed s.top es))) b.0,
        z.1,
      )
    where
      not-false : (b : Bool) → not b ≡ true → b ≡ false
      not-false true e = cc
      not-false false e = refl

  -- ## The step

  uses-unseen : (X : Reader) (ks : List ℕ) → AllUnseen {X = X} (uses_each ks)
  uses-unseen X [] = tt
  uses-unseen X (k ∷ ks) = (tt, uses-unseen X ks)

  same-values : (es : List ComponentExport) → listed_values (map named_alone es) ≡ listed_values es
  same-values [] = refl
  same-values (e ∷ es) = ap (λ ks. value_index e.kind e.index ++ ks) (same-values es)

  -- an instance joins, which introduces nothing
  instance-joins : (w : Value_stack) (t : Tree_stack) (x : Value) (y : Type_tree) → AgreeReadings g w t → Agrees w.groups g x y → AgreeReadings g (apply (instance_joins (bare value_reader x)) w) (apply (instance_joins (bare tree_reader y)) t)
  instance-joins w t x y b r =
      let w' : Value_stack = change (introduces exporting []) w in
      let t' : Tree_stack = change (introduces exporting []) t in
      let left : SameTop (apply (instance_joins (bare value_reader x)) w) w = record { groups = refl; defined = append-nil w.top.defined; side = λ d. refl } in
      let right : SameTop (apply (instance_joins (bare tree_reader y)) t) t = record { groups = refl; defined = append-nil t.top.defined; side = λ d. refl } in
      let opened : AgreeStacks w.top.defined g w' t' =
      record {
        groups = b.stacks.groups;
        all = (
          left-same w.groups w.top.defined g w.top (introduce exporting [] w.top) (introduce exporting [] t.top) (none-introduced {X = value_reader} exporting w.top)
              (right-same w.groups w.top.defined g w.top t.top (introduce exporting [] t.top) (none-introduced {X = tree_reader} exporting t.top) b.stacks.all.0),
          b.stacks.all.1,
        );
      } in
      readings g w (apply (instance_joins (bare value_reader x)) w) t (apply (instance_joins (bare tree_reader y)) t) left right b (appends-agree w.top.defined g in_instances w' t' x y opened r)

  used : (ks : List ℕ) → AgreeReadings g (apply (uses_each ks) v) (apply (uses_each ks) s)
  used ks =
      readings g v (apply (uses_each ks) v) s (apply (uses_each ks) s) (quiet-top (uses_each ks) v (quiet-uses value_reader ks)) (quiet-top (uses_each ks) s (quiet-uses tree_reader ks)) a
      (both-unseen v.top.defined g (uses_each ks) (uses_each ks) v s (uses-unseen value_reader ks) (uses-unseen tree_reader ks) a.stacks)

module _ (names other : Names) (p q : Place) (g : Name → Name) (v : Value_stack) (s : Tree_stack) (h : BothStand v s) (a : AgreeReadings g v s) where
  pub bag-follows : (es : List ComponentExport) (y : Step tree_reader) → instance_step (tree_maker names p) s (bag es) ≡ Some y →
      (x : Step value_reader) × (instance_step (value_maker other q) v (bag (map named_alone es)) ≡ Some x) × AgreeReadings g (apply x v) (apply y s)
  bag-follows es y e =
      let ks : List ℕ = listed_values es in
      let m = mapped-some (λ (z : Step tree_reader). uses_each ks ++ z) (option_map instance_joins (option_map (instance_of_items (tree_maker names p)) (bag_made s.top es))) y e in
      let j = mapped-some {B = Step tree_reader} instance_joins (option_map (instance_of_items (tree_maker names p)) (bag_made s.top es)) m.0 m.1 in
      let b = mapped-some (instance_of_items (tree_maker names p)) (bag_made s.top es) j.0 j.1 in
      let z = made-agrees g v s h a es b.0 b.1 in
      let xs : List (Extern_name × Value) = listed v.top (map named_alone es) in
      let x : Value = built other q (instance_node [] xs) in
      let t : Type_tree = node_tree (names.identity (introduced p)) (instance_node [] (listed s.top es)) in
      let fit : Fits v.groups g (type_over x) t = instance-fits v.groups g (other.identity (introduced q)) (names.identity (introduced p)) xs (listed s.top es) z.2 z.3 in
      let v' : Value_stack = apply (uses_each ks) v in
      let s' : Tree_stack = apply (uses_each ks) s in
      let same : v'.groups ≡ v.groups = (quiet-top (uses_each ks) v (quiet-uses value_reader ks)).groups in
      let one : Step value_reader = instance_joins (bare value_reader x) in
      let two : Step tree_reader = instance_joins (bare tree_reader t) in
      let r : AgreeReadings g (apply one v') (apply two s') = instance-joins g v s h a v' s' x t (used g v s h a ks) (subst (λ (gs : List Group). Fits gs g (type_over x) t) (sym same) fit) in
      let two-is : two ≡ m.0 = ap (λ (n : New_node tree_reader). instance_joins (instance_of_items (tree_maker names p) n)) (sym z.1) ∙ ap instance_joins b.2 ∙ j.2 in (
        uses_each ks ++ one,
        ap (λ (o : Option (New_node value_reader)). option_map (λ (z : Step value_reader). uses_each (listed_values (map named_alone es)) ++ z) (option_map instance_joins (option_map (instance_of_items (value_maker other q)) o))) z.0
            ∙ ap (λ (ls : List ℕ). Some (uses_each ls ++ one)) (same-values g v s h a es),
        subst (λ (w : Step tree_reader). AgreeReadings g (apply (uses_each ks ++ one) v) (apply w s)) (ap (λ (w : Step tree_reader). uses_each ks ++ w) two-is ∙ m.2)
            (subst (λ (w : Value_stack). AgreeReadings g w (apply (uses_each ks ++ two) s)) (sym (apply-append (uses_each ks) one v))
            (subst (λ (w : Tree_stack). AgreeReadings g (apply one v') w) (sym (apply-append (uses_each ks) two s)) r)),
      )
