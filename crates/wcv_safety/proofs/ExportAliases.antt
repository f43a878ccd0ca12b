-- Aliases of what an instance exports: where a context takes the step, so do the lists that agree with it, and both still agree.
use Rattle.std.proofs.Common.{◌≡◌, ◌∙◌, ℕ, List, [], ◌∷◌, Bool, true, false, cond, Option, Some, refl, sym, ap, subst, bytes_eq}
use Rattle.std.specs.Prelude.{Contains}
use Rattle.std.specs.Map.{lookup}
use Rattle.std.specs.Option.{option_map, option_and_then}
use Rattle.std.proofs.lemmas.List.Elements.{All-contains}
use Rattle.wcv_core.specs.CoreForm.{Group}
use Rattle.wcv_core.specs.Names.{Name}
use Rattle.wcv_closed.specs.ClosedMatching.{SupersKeepForm}
use Rattle.wcv_closed.specs.ClosedTable.{IsTable}
use Rattle.wcv_syntax.specs.declared.instance.ComponentExternalKind.{ComponentExternalKind}
use Rattle.wcv_syntax.specs.declared.instance.ComponentExternalKind.TheVariants as kind
use Rattle.wcv_types.specs.Tree.{Text, Extern_name, Sort, is_nothing, is_value, is_resource, is_func, is_instance, is_component, is_type, is_module, is_core_instance, is_core_type, is_core_item, sort, owned, exports}
use Rattle.wcv_types.specs.Unfold.{Type_tree}
use Rattle.wcv_matching.specs.Matching.{named, named_exports}
use Rattle.wcv_matching.specs.ModuleItems.{ItemsMatch}
use Rattle.wcv_matching.proofs.NamedLists.{entry-contains}
use Rattle.wcv_lower.specs.Aliases.{sort_named, instance_at, export_of, joining, export_alias_step}
use Rattle.wcv_lower.specs.Checks.{same_sort}
use Rattle.wcv_lower.specs.Context.{in_instances}
use Rattle.wcv_lower.specs.Mapped.{map_entries}
use Rattle.wcv_lower.specs.Readers.{if_sort, first_named}
use Rattle.wcv_lower.specs.Step.{Step, apply, joins}
use Rattle.wcv_lower.specs.Trees as trees
use Rattle.wcv_lower.specs.Trees.{Tree_stack, tree_reader}
use Rattle.wcv_growth.proofs.Bare.{exports-each}
use Rattle.wcv_growth.proofs.Known.{mapped-some, then-some, all-get}
use Rattle.wcv_growth.proofs.Looking.{sorted-here}
use Rattle.wcv_world.specs.Reading.{Value_stack, value_reader, exports_of}
use Rattle.wcv_world.specs.Values.{Value, type_over}
use Rattle.wcv_world.proofs.ToTypes.{values-commute}
use Rattle.wcv_safety.specs.Agreeing.{Agrees, AgreesAs, AgreeStacks, AgreeReadings}
use Rattle.wcv_safety.specs.Clean.{AllAlike, IsAlikeAt}
use Rattle.wcv_safety.specs.Fitting.{Fits}
use Rattle.wcv_safety.specs.Standing.{BothStand}
use Rattle.wcv_safety.proofs.Agreeing.{joins-agree, quiet-follows}
use Rattle.wcv_safety.proofs.Found.{if-sorted}
use Rattle.wcv_safety.proofs.Lists.{zip-get}
use Rattle.wcv_safety.proofs.Matched.{matched-sort, created-is, created-fits, exports-fit}
use Rattle.wcv_safety.proofs.Quiet.{quiet-joins}

-- ## By name

first-lookup : (n : Text) (es : List (Extern_name × Type_tree)) → first_named n es ≡ lookup (bytes_eq n) (named es)
first-lookup n [] = refl
first-lookup n (e ∷ es) = ap (λ (o : Option Type_tree). cond (bytes_eq n e.0.name) (Some e.1) o) (first-lookup n es)

over-first : (n : Text) (es : List (Extern_name × Value)) → lookup (bytes_eq n) (named (map_entries type_over es)) ≡ option_map type_over (first_named n es)
over-first n [] = refl
over-first n (e ∷ es) = ap (λ (o : Option Type_tree). cond (bytes_eq n e.0.name) (Some (type_over e.1)) o) (over-first n es) ∙ go (bytes_eq n e.0.name)
  where
    go : (b : Bool) → cond b (Some (type_over e.1)) (option_map type_over (first_named n es)) ≡ option_map type_over (cond b (Some e.1) (first_named n es))
    go true = refl
    go false = refl

-- the first export of a value under a name has the type that is first under it
pub first-of : (n : Text) (x : Value) (a : Type_tree) → lookup (bytes_eq n) (named_exports (type_over x)) ≡ Some a → (q : Value) × (first_named n (exports_of x) ≡ Some q) × (type_over q ≡ a)
first-of n x a e = mapped-some type_over (first_named n (exports_of x)) a (sym (over-first n (exports_of x)) ∙ ap (λ (es : List (Extern_name × Type_tree)). lookup (bytes_eq n) (named es)) (sym (values-commute.exports x tt)) ∙ e)

pub first-contained : (n : Text) (t a : Type_tree) → first_named n (exports t) ≡ Some a → Contains (named_exports t) (n, a)
first-contained n t a e = entry-contains n (named_exports t) a (sym (first-lookup n (exports t)) ∙ e)

-- both types of each type entity are alike in what is exported
pub export-alike : (gs : List Group) (t : Type_tree) (n : Text) (a : Type_tree) → AllAlike gs t → lookup (bytes_eq n) (named_exports t) ≡ Some a → AllAlike gs a
export-alike gs t n a h e = All-contains (λ (x : Text × Type_tree). AllAlike gs x.1) (named_exports t) (n, a) (exports-each (IsAlikeAt gs) t h) (entry-contains n (named_exports t) a e)

-- ## Sorts

named-plain : (w : ComponentExternalKind) → (same_sort (sort_named w) is_core_instance ≡ false) × (same_sort (sort_named w) is_core_item ≡ false)
named-plain kind.Module = (refl, refl)
named-plain kind.Func = (refl, refl)
named-plain kind.Value = (refl, refl)
named-plain kind.Ty = (refl, refl)
named-plain kind.Instance = (refl, refl)
named-plain kind.Component = (refl, refl)

pub unlike : (b : Bool) → b ≡ true → b ≡ false → ⊥
unlike true e f = cc
unlike false e f = cc

module _ (gs : List Group) (g : Name → Name) where
  -- what has a sort that is no core item's agrees where it fits
  pub named-agrees : (w : ComponentExternalKind) (k : Sort) (a b : Type_tree) → same_sort (sort_named w) k ≡ true → Fits gs g a b → AgreesAs k gs g a b
  named-agrees w is_nothing a b e m = m
  named-agrees w is_value a b e m = m
  named-agrees w is_resource a b e m = m
  named-agrees w is_func a b e m = m
  named-agrees w is_instance a b e m = m
  named-agrees w is_component a b e m = m
  named-agrees w is_type a b e m = m
  named-agrees w is_module a b e m = m
  named-agrees w is_core_instance a b e m = absurd (unlike (same_sort (sort_named w) is_core_instance) e (named-plain w).0)
  named-agrees w is_core_type a b e m = m
  named-agrees w is_core_item a b e m = absurd (unlike (same_sort (sort_named w) is_core_item) e (named-plain w).1)

  -- a created type agrees where it fits
  pub created-agrees : (q : Value) (t : Type_tree) → sort t ≡ is_type → Fits gs g (trees.created (type_over q)) (trees.created t) → Agrees gs g (value_reader.created q) (tree_reader.created t)
  created-agrees q t e m =
      subst (λ (a : Type_tree). AgreesAs (sort (trees.created t)) gs g a (trees.created t)) (values-commute.created q)
      (subst (λ (k : Sort). AgreesAs k gs g (trees.created (type_over q)) (trees.created t)) (sym (ap sort (created-is t e))) m)

-- ## Steps

module _ (g : Name → Name) (v : Value_stack) (s : Tree_stack) (table : IsTable v.groups) (supers : SupersKeepForm v.groups) (h : BothStand v s) (a : AgreeReadings g v s) where
  -- what an instance exports, with a value that fits it
  pub record Exported (w : ComponentExternalKind) (i : ℕ) (n : Text) (t : Type_tree) : Type 0 where
    pub value : Value
    pub found : option_and_then (export_of value_reader n) (instance_at v.top i) ≡ Some value
    pub fits : Fits v.groups g (type_over value) t
    pub alike : AllAlike v.groups (type_over value)
    pub type_alike : AllAlike v.groups t

  exported : (w : ComponentExternalKind) (i : ℕ) (n : Text) (b t : Type_tree) → instance_at s.top i ≡ Some b → export_of tree_reader n b ≡ Some t → Exported w i n t
  exported w i n b t e f =
      let z = zip-get (Agrees v.groups g) (v.top.space in_instances) (s.top.space in_instances) i b (a.stacks.all.0.space in_instances) e in
      let k : sort b ≡ is_instance = all-get (λ (x : Type_tree). sort x ≡ is_instance) (s.top.space in_instances) i b (h.types.sorted in_instances) e in
      let fit : Fits v.groups g (type_over z.0) b = subst (λ (k : Sort). AgreesAs k v.groups g (type_over z.0) b) k z.2 in
      let all = exports-fit v.groups g (type_over z.0) b k (all-get (λ (x : Value). owned (type_over x) ≡ []) (v.top.space in_instances) i z.0 h.values.bare z.1) (all-get (λ (x : Type_tree). owned x ≡ []) (s.top.space in_instances) i b h.types.bare e) fit in
      let x = all n t (first-contained n b t f) in
      let q = first-of n z.0 x.0 x.1 in
      record {
        value = q.0;
        found = ap (option_and_then (export_of value_reader n)) z.1 ∙ q.1;
        fits = subst (λ (c : Type_tree). Fits v.groups g c t) (sym q.2) x.2;
        alike =
            subst (λ (c : Type_tree). AllAlike v.groups c) (sym q.2)
            (export-alike v.groups (type_over z.0) n x.0 (all-get (λ (x : Value). AllAlike v.groups (type_over x)) (v.top.space in_instances) i z.0 (h.values.alike in_instances) z.1) x.1);
        type_alike =
            export-alike v.groups b n t (all-get (λ (x : Type_tree). AllAlike v.groups x) (s.top.space in_instances) i b (h.types.alike in_instances) e)
            (sym (first-lookup n (exports b)) ∙ f);
      }

  -- the value joins as the type does
  joined : (w : ComponentExternalKind) (i : ℕ) (n : Text) (t : Type_tree) → same_sort (sort_named w) (sort t) ≡ true → (x : Exported w i n t) → AgreeReadings g (apply (joining x.value) v) (apply (joining t) s)
  joined w i n t e x =
      let q : Value = x.value in
      let k : sort (type_over q) ≡ sort t = matched-sort (ItemsMatch v.groups) {A = Name} (λ r. r) g (type_over q) t x.fits in
      quiet-follows g v s (joins value_reader false (sort (type_over q)) q) (joins tree_reader false (sort t) t) a (quiet-joins value_reader false (sort (type_over q)) q) (quiet-joins tree_reader false (sort t) t)
      (subst (λ (l : Sort). AgreeStacks v.top.defined g (apply (joins value_reader false l q) v) (apply (joins tree_reader false (sort t) t) s)) (sym k)
      (joins-agree v.top.defined g false false (sort t) v s q t a.stacks (named-agrees v.groups g w (sort t) (type_over q) t e x.fits)
      (λ c. created-agrees v.groups g q t c (created-fits v.groups table supers g (type_over q) t c x.fits x.alike x.type_alike))))

  pub export-follows : (w : ComponentExternalKind) (i : ℕ) (n : Text) (y : Step tree_reader) → export_alias_step s.top w i n ≡ Some y → (x : Step value_reader) × (export_alias_step v.top w i n ≡ Some x) × AgreeReadings g (apply x v) (apply y s)
  export-follows w i n y e =
      let m = mapped-some joining (option_and_then (if_sort tree_reader (sort_named w)) (option_and_then (export_of tree_reader n) (instance_at s.top i))) y e in
      let o = sorted-here (sort_named w) (option_and_then (export_of tree_reader n) (instance_at s.top i)) m.0 m.1 in
      let f = then-some (export_of tree_reader n) (instance_at s.top i) m.0 o.0 in
      let x = exported w i n f.0 m.0 f.1 f.2 in
      let k : sort (type_over x.value) ≡ sort m.0 = matched-sort (ItemsMatch v.groups) {A = Name} (λ r. r) g (type_over x.value) m.0 x.fits in (
        joining x.value,
        ap (λ (o : Option Value). option_map joining (option_and_then (if_sort value_reader (sort_named w)) o)) x.found
            ∙ ap (option_map joining) (if-sorted (sort_named w) x.value (ap (same_sort (sort_named w)) k ∙ o.1)),
        subst (λ (z : Step tree_reader). AgreeReadings g (apply (joining x.value) v) (apply z s)) m.2 (joined w i n m.0 o.1 x),
      )
