-- Exports: the machine exports the item itself, which agrees with what the context exports.
use Rattle.std.proofs.Common.{◌≡◌, ◌∙◌, ℕ, zero, suc, List, [], ◌∷◌, ◌++◌, true, Option, Some, None, cond, refl, sym, ap, subst}
use Rattle.std.specs.Prelude.{All, slice_get}
use Rattle.std.specs.Option.{option_map}
use Rattle.std.proofs.lemmas.List.Elements.{All-nil}
use Rattle.wcv_core.specs.CoreForm.{Group}
use Rattle.wcv_core.specs.Names.{Name, Place}
use Rattle.wcv_closed.specs.ClosedMatching.{SupersKeepForm}
use Rattle.wcv_closed.specs.ClosedTable.{IsTable}
use Rattle.wcv_syntax.specs.declared.component_type.ComponentTypeRef.{ComponentTypeRef}
use Rattle.wcv_syntax.specs.declared.instance.ComponentExternalKind.{ComponentExternalKind}
use Rattle.wcv_syntax.specs.declared.instance.ComponentExternalKind.TheVariants as kind
use Rattle.wcv_syntax.specs.declared.name.ComponentExport.{ComponentExport}
use Rattle.wcv_types.specs.Tree as tree
use Rattle.wcv_types.specs.Tree.{Sort, is_nothing, is_value, is_resource, is_func, is_instance, is_component, is_type, is_module, is_core_instance, is_core_type, is_core_item, plain_name, sort, owned, type_of, referenced}
use Rattle.wcv_types.specs.Unfold.{Type_tree}
use Rattle.wcv_matching.specs.Matching.{Item_rule, Reading, MatchBelow, MatchAs}
use Rattle.wcv_matching.specs.ModuleItems.{ItemsMatch}
use Rattle.wcv_matching.specs.TableMatching.{TypeMatches}
use Rattle.wcv_matching.proofs.TableMatching.{items_go_on}
use Rattle.wcv_lower.specs.Aliases.{sort_named}
use Rattle.wcv_lower.specs.Context.{in_types, in_instances, exporting}
use Rattle.wcv_lower.specs.Entries as entry
use Rattle.wcv_lower.specs.Entries.{extern_name, items_of, exported_at, exported_as, exported_by, exported, exported_values, new_there, is_new, written}
use Rattle.wcv_lower.specs.Marks.{uses_each}
use Rattle.wcv_lower.specs.Names.{Names}
use Rattle.wcv_lower.specs.NewTypes.{renewed, type_entry}
use Rattle.wcv_lower.specs.Readers.{Brought}
use Rattle.wcv_lower.specs.Step.{Step, apply, bare, enters}
use Rattle.wcv_lower.specs.Trees as trees
use Rattle.wcv_lower.specs.Trees.{Tree_stack, tree_reader, tree_maker}
use Rattle.wcv_lower.proofs.MarkLaws.{apply-append}
use Rattle.wcv_growth.proofs.Bare.{bare-instance}
use Rattle.wcv_growth.proofs.Known.{mapped-some, then-some, all-get}
use Rattle.wcv_world.specs.Growth.{export_step}
use Rattle.wcv_world.specs.Reading.{Value_stack, value_reader}
use Rattle.wcv_world.specs.Values.{Value, type_over}
use Rattle.wcv_safety.specs.Agreeing.{Agrees, AgreesAs, IsToken, AgreeReadings}
use Rattle.wcv_safety.specs.Clean.{AllAlike}
use Rattle.wcv_safety.specs.Fitting.{MatchesAs, Fits}
use Rattle.wcv_safety.specs.Standing.{BothStand, AscribedMatches}
use Rattle.wcv_safety.proofs.Agreeing.{AllUnseen, right-unseen, readings}
use Rattle.wcv_safety.proofs.Composing.{MatchesAs-trans, MatchesAs-map}
use Rattle.wcv_safety.proofs.Entering.{new-same, new-some, enters-agree}
use Rattle.wcv_safety.proofs.ExportAliases.{created-agrees}
use Rattle.wcv_safety.proofs.Found.{item-found}
use Rattle.wcv_safety.proofs.Matched.{both-alike, entry-matches, matched-sort, created-is, referenced-is, created-fits}
use Rattle.wcv_safety.proofs.Quiet.{quiet-uses, quiet-top, same-top}
use Rattle.wcv_safety.proofs.Renewed.{entry-renewed}

module _ (C : Item_rule) {A : Type 0} where
  entity-below : (d : ℕ) (f g : Reading A) (a b w : Type_tree) → sort b ≡ is_type → MatchBelow C d A f g a b → MatchBelow C d A f g a (type_of w (referenced b))
  entity-below zero f g a b w e m = absurd m
  entity-below (suc d) f g a b w e m =
      let k : sort a ≡ is_type = m.0 ∙ e in
      (k, subst (λ (l : Sort). MatchAs C (MatchBelow C d) l A f g a (type_of w (referenced b))) (sym k) (subst (λ (l : Sort). MatchAs C (MatchBelow C d) l A f g a b) k m.1))

  -- matching looks at no created type
  pub entity-matches : (f g : Reading A) (a b w : Type_tree) → sort b ≡ is_type → MatchesAs C f g a b → MatchesAs C f g a (type_of w (referenced b))
  entity-matches f g a b w e m = (m.0, entity-below m.0 f g a b w e m.1)

module _ (gs : List Group) (table : IsTable gs) (supers : SupersKeepForm gs) (g : Name → Name) where
  -- what fits a type fits each that this matches
  pub fits-on : (a b c : Type_tree) → Fits gs g a b → TypeMatches gs b c → Fits gs g a c
  fits-on a b c m n =
      MatchesAs-trans (ItemsMatch gs) (items_go_on gs table supers) (λ r. r) g g a b c m (MatchesAs-map (ItemsMatch gs) g (λ r. r) (λ r. r) g g b c (λ r z. refl) (λ r z. refl) n)

  -- what the item is exported as
  pub record Fitting (x : Value) (k : ComponentExternalKind) (b : Brought tree_reader) : Type 0 where
    pub none : b.resources ≡ []
    pub fits : Fits gs g (type_over x) b.entity
    pub sorted : sort b.entity ≡ sort_named k
    pub created : sort b.entity ≡ is_type → Fits gs g (trees.created (type_over x)) (trees.created b.entity)

  as-it-is : (x : Value) (k : ComponentExternalKind) (t : Type_tree) → Fits gs g (type_over x) t → sort t ≡ sort_named k → (sort_named k ≡ is_type → ⊥) → Fitting x k (bare tree_reader t)
  as-it-is x k t m s n = record { none = refl; fits = m; sorted = s; created = λ e. absurd (n (sym s ∙ e)) }

  module _ (names : Names) (p : Place) where
    -- a type is created again
    as-type : (x : Value) (t : Type_tree) → Fits gs g (type_over x) t → sort t ≡ is_type → AllAlike gs (type_over x) → Fitting x kind.Ty (bare tree_reader ((tree_maker names p).again (trees.referenced t)))
    as-type x t m s w =
        let a : Type_tree = type_over x in
        let r : trees.referenced t ≡ referenced t = referenced-is t s in
        let k : sort a ≡ is_type = matched-sort (ItemsMatch gs) {A = Name} (λ r. r) g a t m ∙ s in
        let both : Fits gs g (type_entry (tree.created a)) (type_entry (referenced t)) =
        MatchesAs-trans (ItemsMatch gs) (items_go_on gs table supers) (λ r. r) (λ r. r) g (type_entry (tree.created a)) (type_entry (referenced a)) (type_entry (referenced t)) (both-alike gs a k w)
        (entry-matches (ItemsMatch gs) {A = Name} (λ r. r) g a t k m) in
        subst (λ (u : Type_tree). Fitting x kind.Ty (bare tree_reader (type_of (renewed names p u) u))) (sym r)
        (record {
          none = refl;
          fits = entity-matches (ItemsMatch gs) {A = Name} (λ r. r) g a t (renewed names p (referenced t)) s m;
          sorted = refl;
          created = λ e. subst (λ (z : Type_tree). Fits gs g z (type_entry (renewed names p (referenced t)))) (sym (created-is a k)) (entry-renewed names p (ItemsMatch gs) {A = Name} (λ r. r) g (tree.created a) (referenced t) both);
        })

    as-kind : (k : ComponentExternalKind) (x : Value) (t : Type_tree) → Fits gs g (type_over x) t → sort t ≡ sort_named k → (sort_named k ≡ is_type → AllAlike gs (type_over x)) → (sort_named k ≡ is_instance → owned t ≡ []) → Fitting x k (exported_as (tree_maker names p) k t)
    as-kind kind.Module x t m s w o = as-it-is x kind.Module t m s (λ e. cc)
    as-kind kind.Func x t m s w o = as-it-is x kind.Func t m s (λ e. cc)
    as-kind kind.Value x t m s w o = as-it-is x kind.Value t m s (λ e. cc)
    as-kind kind.Ty x t m s w o = as-type x t m s (w refl)
    as-kind kind.Instance x t m s w o = subst (λ (b : Brought tree_reader). Fitting x kind.Instance b) (sym (bare-instance names p t (o refl))) (as-it-is x kind.Instance t m s (λ e. cc))
    as-kind kind.Component x t m s w o = as-it-is x kind.Component t m s (λ e. cc)

module _ (names : Names) (p : Place) (g : Name → Name) (v : Value_stack) (s : Tree_stack) (table : IsTable v.groups) (supers : SupersKeepForm v.groups) (h : BothStand v s) (a : AgreeReadings g v s) where
  value-alike : (k : ComponentExternalKind) (i : ℕ) (x : Value) → slice_get (items_of v.top k) i ≡ Some x → sort_named k ≡ is_type → AllAlike v.groups (type_over x)
  value-alike kind.Ty i x e f = all-get (λ (y : Value). AllAlike v.groups (type_over y)) (v.top.space in_types) i x (h.values.alike in_types) e
  value-alike kind.Module i x e f = absurd (cc)
  value-alike kind.Func i x e f = absurd (cc)
  value-alike kind.Value i x e f = absurd (cc)
  value-alike kind.Instance i x e f = absurd (cc)
  value-alike kind.Component i x e f = absurd (cc)

  type-bare : (k : ComponentExternalKind) (i : ℕ) (t : Type_tree) → slice_get (items_of s.top k) i ≡ Some t → sort_named k ≡ is_instance → owned t ≡ []
  type-bare kind.Instance i t e f = all-get (λ (y : Type_tree). owned y ≡ []) (s.top.space in_instances) i t h.types.bare e
  type-bare kind.Ty i t e f = absurd (cc)
  type-bare kind.Module i t e f = absurd (cc)
  type-bare kind.Func i t e f = absurd (cc)
  type-bare kind.Value i t e f = absurd (cc)
  type-bare kind.Component i t e f = absurd (cc)

  -- the item, and what it is exported as
  entity : (e : ComponentExport) (b : Brought tree_reader) → AscribedMatches v.groups (tree_maker names p) s.top e → exported (tree_maker names p) s.top e ≡ Some b → (x : Value) × (exported_at v.top e ≡ Some x) × Fitting v.groups table supers g x e.kind b
  entity e b w q = go e.ty refl q
    where
      go : (o : Option ComponentTypeRef) → e.ty ≡ o → exported_by (tree_maker names p) s.top e o ≡ Some b → (x : Value) × (exported_at v.top e ≡ Some x) × Fitting v.groups table supers g x e.kind b
      go None j q =
          let m = mapped-some (exported_as (tree_maker names p) e.kind) (exported_at s.top e) b q in
          let z = item-found v.groups v.top.defined g v.top s.top a.stacks.all.0 h.types e.kind e.index m.0 m.1 in
          (z.0, z.1, subst (λ (c : Brought tree_reader). Fitting v.groups table supers g z.0 e.kind c) m.2 (as-kind v.groups table supers g names p e.kind z.0 m.0 z.2 z.3 (value-alike e.kind e.index z.0 z.1) (type-bare e.kind e.index m.0 m.1)))
      go (Some r) j q =
          let m = then-some (λ (x : Type_tree). written (tree_maker names p) s.top r) (exported_at s.top e) b q in
          let z = item-found v.groups v.top.defined g v.top s.top a.stacks.all.0 h.types e.kind e.index m.0 m.1 in
          let k = w r m.0 b j m.1 m.2 in
          let same : sort m.0 ≡ sort b.entity = matched-sort (ItemsMatch v.groups) {A = Name} (λ r. r) (λ r. r) m.0 b.entity k.1 in
          let fit : Fits v.groups g (type_over z.0) b.entity = fits-on v.groups table supers g (type_over z.0) m.0 b.entity z.2 k.1 in (
            z.0,
            z.1,
            record {
              none = k.0;
              fits = fit;
              sorted = sym same ∙ z.3;
              created = λ f. created-fits v.groups table supers g (type_over z.0) b.entity f fit (value-alike e.kind e.index z.0 z.1 (sym z.3 ∙ same ∙ f)) k.2;
            },
          )

  plain-agrees : (k : ComponentExternalKind) (l : Sort) (b t : Type_tree) → l ≡ sort_named k → Fits v.groups g b t → AgreesAs l v.groups g b t
  plain-agrees kind.Module l b t e m = subst (λ (l : Sort). AgreesAs l v.groups g b t) (sym e) m
  plain-agrees kind.Func l b t e m = subst (λ (l : Sort). AgreesAs l v.groups g b t) (sym e) m
  plain-agrees kind.Value l b t e m = subst (λ (l : Sort). AgreesAs l v.groups g b t) (sym e) m
  plain-agrees kind.Ty l b t e m = subst (λ (l : Sort). AgreesAs l v.groups g b t) (sym e) m
  plain-agrees kind.Instance l b t e m = subst (λ (l : Sort). AgreesAs l v.groups g b t) (sym e) m
  plain-agrees kind.Component l b t e m = subst (λ (l : Sort). AgreesAs l v.groups g b t) (sym e) m

  uses-unseen : (ks : List ℕ) → AllUnseen {X = tree_reader} (uses_each ks)
  uses-unseen [] = tt
  uses-unseen (k ∷ ks) = (tt, uses-unseen ks)

  pub export-follows : (e : ComponentExport) (y : Step tree_reader) → AscribedMatches v.groups (tree_maker names p) s.top e → entry.export_step (tree_maker names p) s.top e ≡ Some y →
      (x : Step value_reader) × (export_step v.top e ≡ Some x) × AgreeReadings g (apply x v) (apply y s)
  export-follows e y w q =
      let m = mapped-some (λ (z : Step tree_reader). uses_each (exported_values e) ++ z) (option_map (enters exporting (extern_name e.name)) (new_there exporting (extern_name e.name) s.top (exported (tree_maker names p) s.top e))) y q in
      let l = mapped-some (enters {X = tree_reader} exporting (extern_name e.name)) (new_there exporting (extern_name e.name) s.top (exported (tree_maker names p) s.top e)) m.0 m.1 in
      let k = new-some {X = tree_reader} exporting (extern_name e.name) s.top (exported (tree_maker names p) s.top e) l.0 l.1 in
      let x = entity e l.0 w k.1 in
      let u : Step tree_reader = uses_each (exported_values e) in
      let t : Tree_stack = apply u s in
      let one : Step value_reader = enters exporting (plain_name e.name.name) (bare value_reader x.0) in
      let used : AgreeReadings g v t = readings g v v s t (same-top {X = value_reader} v) (quiet-top u s (quiet-uses tree_reader (exported_values e))) a (right-unseen v.top.defined g u v s (uses-unseen (exported_values e)) a.stacks) in
      let new : is_new exporting (plain_name e.name.name).name v.top ≡ true = new-same g v s exporting e.name.name a ∙ k.0 in
      let agree : Agrees v.groups g x.0 l.0.entity = plain-agrees e.kind (sort l.0.entity) (type_over x.0) l.0.entity x.2.sorted x.2.fits in (
        one,
        ap (λ (o : Option Value). option_map (enters exporting (plain_name e.name.name)) (new_there exporting (plain_name e.name.name) v.top (option_map (bare value_reader) o))) x.1
            ∙ ap (λ (b : _). option_map (enters {X = value_reader} exporting (plain_name e.name.name)) (cond b (Some (bare value_reader x.0)) None)) new,
        subst (λ (z : Step tree_reader). AgreeReadings g (apply one v) (apply z s)) (ap (λ (z : Step tree_reader). u ++ z) l.2 ∙ m.2)
            (subst (λ (z : Tree_stack). AgreeReadings g (apply one v) z) (sym (apply-append u (enters exporting (extern_name e.name) l.0) s))
            (enters-agree g v t used (plain_name e.name.name) (extern_name e.name) x.0 l.0 exporting refl agree (matched-sort (ItemsMatch v.groups) {A = Name} (λ r. r) g (type_over x.0) l.0.entity x.2.fits)
            (λ f. created-agrees v.groups g x.0 l.0.entity f (x.2.created f))
            (subst (λ (rs : List (Name × List ℕ)). All (λ r. IsToken v.top.defined (g r.0)) rs) (sym x.2.none) (All-nil _)))),
      )
