-- Behind valid items, and inside components, each entry of each open context names core types of the table.
use Rattle.std.proofs.Common.{◌≡◌, ℕ, zero, suc, List, [], ◌∷◌, ◌++◌, Bool, true, false, ◌&&◌, not, cond, refl, sym, ◌∙◌, ap, subst, Option, Some, None}
use Rattle.std.specs.List.{list_all}
use Rattle.std.specs.Option.{option_map, option_and_then}
use Rattle.std.proofs.lemmas.List.Elements.{All-nil}
use Rattle.wcv_core.specs.CoreForm.{Group}
use Rattle.wcv_core.specs.CoreGroups.{total}
use Rattle.wcv_core.specs.Names.{Name, Place, deeper}
use Rattle.wcv_core.specs.declared.features.WasmFeatures.{WasmFeatures}
use Rattle.wcv_syntax.specs.Model.{Form, core_type_item, core_module_item, core_instance_item, type_item, import_item, export_item, component_item, instance_item, alias_item, start_item, canon_item, Type_form, defined_type, func_type, component_type, instance_type, resource_type, Instance_form, instantiate, bag, Decl, core_type_decl, type_decl, alias_decl, export_decl, import_decl, Decls, no_decls, declare, Items, no_items, next_item}
use Rattle.wcv_syntax.specs.declared.component_type.ComponentTypeRef.{ComponentTypeRef}
use Rattle.wcv_syntax.specs.declared.instance.ComponentAlias.{ComponentAlias}
use Rattle.wcv_syntax.specs.declared.instance.ComponentAlias.TheVariants as alias
use Rattle.wcv_syntax.specs.declared.instance.ComponentInstantiationArg.{ComponentInstantiationArg}
use Rattle.wcv_syntax.specs.declared.instance.ComponentOuterAliasKind.{ComponentOuterAliasKind}
use Rattle.wcv_syntax.specs.declared.instance.ComponentOuterAliasKind.TheVariants as outer
use Rattle.wcv_syntax.specs.declared.name.ComponentExport.{ComponentExport}
use Rattle.wcv_syntax.specs.declared.name.ComponentExternName.{ComponentExternName}
use Rattle.wcv_types.specs.Tree.{Text, Extern_name, func, export, import, node, none, entries, exports, sort}
use Rattle.wcv_types.proofs.Lists.{some-inj}
use Rattle.wcv_lower.specs.Aliases.{is_charged, concrete_at, charged, outer_joins, alias_step}
use Rattle.wcv_lower.specs.Canons.{func_at}
use Rattle.wcv_lower.specs.Checks.{IsFree, is_none}
use Rattle.wcv_lower.specs.Context.{Kind, concrete, declares_instance, declares_component, in_funcs, in_instances, in_components, is_concrete, Side, importing, exporting}
use Rattle.wcv_lower.specs.Declared.{Makers, inside, stack_of, around, closed_as, ended, applied, declared_export_step, read_type, read_decl, read_decls, declared_checks, decl_checks, decls_checks}
use Rattle.wcv_lower.specs.Ending.{any_free, kept, component_of, component_made, declared_made}
use Rattle.wcv_lower.specs.Entries.{extern_name, is_new, new_there, written, exported, exported_values}
use Rattle.wcv_lower.specs.Growth.{step, grow, call_checks}
use Rattle.wcv_lower.specs.Instances as instances
use Rattle.wcv_lower.specs.Items.{read_item, read_items}
use Rattle.wcv_lower.specs.Marks.{value_at, uses_each}
use Rattle.wcv_lower.specs.Names.{Names}
use Rattle.wcv_lower.specs.Owned.{AllEntries, Everywhere}
use Rattle.wcv_lower.specs.Readers.{New_node, instance_node}
use Rattle.wcv_lower.specs.Start.{result_joins, start_joins, start_step}
use Rattle.wcv_lower.specs.Step.{defines, charges, names_start, Step, Brought, apply, joins_types, enters}
use Rattle.wcv_lower.specs.Trees.{Type_tree, Tree_context, Tree_stack, tree_reader, tree_maker, node_tree, result}
use Rattle.wcv_lower.specs.Types.{type_made, added, dtor_stands, type_step}
use Rattle.wcv_lower.proofs.Calm.{inside_has, around_has}
use Rattle.wcv_lower.proofs.Instantiating.{arguments_have, listed_have}
use Rattle.wcv_growth.proofs.AliasGrowing.{first-has, export-found, outer-has, outer-found}
use Rattle.wcv_growth.proofs.Charged.{everywhere-both}
use Rattle.wcv_growth.proofs.CoreFound.{made-of, written-of, exported-of}
use Rattle.wcv_growth.proofs.CoreGrowing.{if-some}
use Rattle.wcv_growth.proofs.CoreKept.{CoreKept, AllKeep, apply-kept, joins-keep, enters-keep, uses-keep, core_type-keeps, core_module-keeps, core_instance-keeps, core_alias-keeps, canon-keeps}
use Rattle.wcv_growth.proofs.InstanceGrowing.{opened-pair}
use Rattle.wcv_growth.proofs.Known.{mapped-some, then-some, all-get}
use Rattle.wcv_growth.proofs.OfTable.{OfTable, AreOfTable, both-of, exports-of, entries-of, instantiated-of}
use Rattle.wcv_growth.proofs.Outer.{ends}
use Rattle.wcv_growth.proofs.Uncaused.{type-free, decls-free, type_item-free, plain-free}
use Rattle.wcv_growth.proofs.StartGrowing.{unlabelled-has}
use Rattle.wcv_growth.proofs.ValidRead.{valid_reads}
use Rattle.wcv_growth.specs.Reached.{Reached, at_start, behind, within}
use Rattle.wcv_growth.specs.Valid.{ValidItem, ValidFrom, start}

module _ (s : Tree_stack) (h : CoreKept s) where
  abbrev n : ℕ
  n = total s.groups

  abbrev y : AllEntries (OfTable n) s.top
  y = h.entries zero s.top refl

  abbrev Keep : Step tree_reader → Type 0
  Keep x = AllKeep x s.groups

  -- ## Aliases

  charged-keep : (w : ComponentOuterAliasKind) (k : ℕ) (t : Type_tree) (x : Step tree_reader) → Keep x → Keep (charged s w k t ++ x)
  charged-keep w zero t x v = v
  charged-keep w (suc k) t x v = go (is_charged w && concrete_at k s)
    where
      go : (b : Bool) → Keep (cond b (charges k (tree_reader.size t) ∷ []) [] ++ x)
      go true = (tt, v)
      go false = v

  outer-keep : (w : ComponentOuterAliasKind) (t : Type_tree) → OfTable n t → Keep (outer_joins w t)
  outer-keep outer.CoreModule t v = (v, tt)
  outer-keep outer.CoreType t v = (v, tt)
  outer-keep outer.Ty t v = (v, tt)
  outer-keep outer.Component t v = (v, tt)

  alias-keeps : (a : ComponentAlias) (x : Step tree_reader) → alias_step s a ≡ Some x → Keep x
  alias-keeps (alias.InstanceExport w i k) x e =
      let m = export-found s w i k x e in
      let t : OfTable n m.instance = all-get (OfTable n) (s.top.space in_instances) i m.instance (y.space in_instances) m.there in
      subst Keep m.joins (joins-keep s.groups false (sort m.export) m.export (first-has (OfTable n) k (exports m.instance) m.export m.first (exports-of n m.instance t)))
  alias-keeps (alias.CoreInstanceExport k i m) x e = core_alias-keeps s h k i m x e
  alias-keeps (alias.Outer w k i) x e =
      let m = outer-found s w k i x e in
      subst Keep m.2 (charged-keep w k m.0 (outer_joins w m.0) (outer-keep w m.0 (outer-has (OfTable n) s w k i m.0 m.1 h.entries)))

  -- ## Start items

  result-of : (t x : Type_tree) → OfTable n t → result t ≡ Some x → OfTable n x
  result-of (node (func i b) ps) x w e = unlabelled-has (AreOfTable n) (OfTable n) (λ k t qs a. a) ps x w.1 e
  result-of (node k ps) x w e = cc

  result-keep : (o : Option Type_tree) → ((x : Type_tree) → o ≡ Some x → OfTable n x) → Keep (names_start ∷ result_joins o)
  result-keep None w = (tt, tt)
  result-keep (Some x) w = (tt, (w x refl, (tt, tt)))

  start-keeps : (f : ℕ) (args : List ℕ) (x : Step tree_reader) → start_step s.top f args ≡ Some x → Keep x
  start-keeps f args x e =
      let m = mapped-some (start_joins args) (func_at s.top f) x (if-some (list_all (λ (k : ℕ). not (is_none (value_at s.top k))) args) (option_map (start_joins args) (func_at s.top f)) x e) in
      let t : OfTable n m.0 = all-get (OfTable n) (s.top.space in_funcs) f m.0 (y.space in_funcs) m.1 in
      subst Keep m.2 (uses-keep s.groups args (names_start ∷ result_joins (result m.0)) (result-keep (result m.0) (λ r q. result-of m.0 r t q)))

  module _ (fs : WasmFeatures) (names : Names) (p : Place) where
    -- ## Types

    type-keeps : (t : Type_form) (x : Step tree_reader) → type_step (tree_maker names p) s.top t ≡ Some x → Keep x
    type-keeps (defined_type d) x e =
        let m = mapped-some (added (tree_maker names p)) (type_made s.top (defined_type d)) x e in
        let w = made-of n s.top y (defined_type d) m.0 m.1 _ in
        subst Keep m.2 (both-of n _ _ w w, tt)
    type-keeps (func_type f) x e =
        let m = mapped-some (added (tree_maker names p)) (type_made s.top (func_type f)) x e in
        let w = made-of n s.top y (func_type f) m.0 m.1 _ in
        subst Keep m.2 (both-of n _ _ w w, tt)
    type-keeps (component_type ds) x e = cc
    type-keeps (instance_type ds) x e = cc
    type-keeps (resource_type rep dtor) x e = subst Keep (some-inj (if-some (is_concrete s.top.kind && dtor_stands s.top dtor) (Some (defines (tree_maker names p).resource (Some rep) ∷ joins_types (tree_maker names p).reference)) x e)) (tt, ((tt, ((tt, tt), ((tt, tt), tt))), tt))

    -- ## Instances

    joined-keep : (b : Brought tree_reader) → OfTable n b.entity → Keep (instances.instance_joins b)
    joined-keep b w = (tt, (w, tt))

    made-keeps : (i : Instance_form) (b : Brought tree_reader) → instances.instance_made (tree_maker names p) s i ≡ Some b → OfTable n b.entity
    made-keeps (bag es) b e =
        let m = mapped-some (instances.instance_of_items (tree_maker names p)) (instances.bag_made s.top es) b e in
        let l = if-some (instances.may_list s.top es) (instances.all_listed s.top es) m.0 m.1 in
        let k = if-some (list_all (λ (x : ComponentExport). not (is_none (instances.listed_at s.top x))) es) (Some (instance_node [] (instances.listed s.top es))) m.0 l in
        subst (λ (x : Brought tree_reader). OfTable n x.entity) m.2
        (subst (λ (x : New_node tree_reader). OfTable n (instances.instance_of_items (tree_maker names p) x).entity) (some-inj k) (tt, entries-of n export (instances.listed s.top es) none (listed_have (OfTable n) s.top y es) tt))
    made-keeps (instantiate i given) b e =
        let args : List (Text × Type_tree) = instances.arguments s.top given in
        let o = mapped-some (instances.instance_of_component (tree_maker names p)) (instances.opened s i given) b e in
        let k = if-some (list_all (λ (a : ComponentInstantiationArg). not (is_none (instances.argument_at s.top a))) given) (option_and_then (instances.if_opened tree_reader s.groups args) (instances.component_at s.top i)) o.0 o.1 in
        let t = then-some (instances.if_opened tree_reader s.groups args) (instances.component_at s.top i) o.0 k in
        let q = opened-pair args t.0 o.0 (tree_reader.opens s.groups args t.0) t.2 in
        subst (λ (x : Brought tree_reader). OfTable n x.entity) o.2
        (subst (λ (z : List (Text × Type_tree) × Type_tree). OfTable n (instances.instance_of_component (tree_maker names p) z).entity) q.1
        (instantiated-of n names p args t.0 (arguments_have (OfTable n) s.top y given) (all-get (OfTable n) (s.top.space in_components) i t.0 (y.space in_components) t.1)))

    instance-keeps : (i : Instance_form) (x : Step tree_reader) → instances.instance_step (tree_maker names p) s i ≡ Some x → Keep x
    instance-keeps i x e =
        let u = mapped-some (λ (z : Step tree_reader). uses_each (instances.instance_values i) ++ z) (option_map instances.instance_joins (instances.instance_made (tree_maker names p) s i)) x e in
        let m = mapped-some instances.instance_joins (instances.instance_made (tree_maker names p) s i) u.0 u.1 in
        subst Keep u.2 (uses-keep s.groups (instances.instance_values i) u.0 (subst Keep m.2 (joined-keep m.0 (made-keeps i m.0 m.1))))

    -- ## Items

    -- under a new name
    named : (d : Side) (m : Extern_name) (o : Option (Brought tree_reader)) (b : Brought tree_reader) → new_there d m s.top o ≡ Some b → o ≡ Some b
    named d m o b e = if-some (is_new d m.name s.top) o b e

    step-keeps : (f : Form) (x : Step tree_reader) → IsFree (call_checks fs (tree_maker names p) s f) → step fs (tree_maker names p) s f ≡ Some x → Keep x
    step-keeps (type_item t) x free e = type-keeps t x e
    step-keeps (import_item i) x free e =
        let m = mapped-some (enters importing (extern_name i.name)) (new_there importing (extern_name i.name) s.top (written (tree_maker names p) s.top i.ty)) x e in
        subst Keep m.2 (enters-keep s.groups importing (extern_name i.name) m.0 (written-of n s.top y names p i.ty m.0 (named importing (extern_name i.name) (written (tree_maker names p) s.top i.ty) m.0 m.1)))
    step-keeps (export_item i) x free e =
        let u = mapped-some (λ (z : Step tree_reader). uses_each (exported_values i) ++ z) (option_map (enters exporting (extern_name i.name)) (new_there exporting (extern_name i.name) s.top (exported (tree_maker names p) s.top i))) x e in
        let m = mapped-some (enters exporting (extern_name i.name)) (new_there exporting (extern_name i.name) s.top (exported (tree_maker names p) s.top i)) u.0 u.1 in
        subst Keep u.2 (uses-keep s.groups (exported_values i) u.0 (subst Keep m.2 (enters-keep s.groups exporting (extern_name i.name) m.0 (exported-of n s.top y names p i i.ty m.0 (named exporting (extern_name i.name) (exported (tree_maker names p) s.top i) m.0 m.1)))))
    step-keeps (core_type_item t) x free e = core_type-keeps s h fs names p t x free e
    step-keeps (core_module_item ds) x free e = core_module-keeps s h fs names p ds x free e
    step-keeps (core_instance_item i) x free e = core_instance-keeps s h names p i x e
    step-keeps (component_item is end) x free e = cc
    step-keeps (instance_item i) x free e = instance-keeps i x e
    step-keeps (alias_item a) x free e = alias-keeps a x e
    step-keeps (start_item f args k) x free e = start-keeps f args x e
    step-keeps (canon_item f) x free e = canon-keeps s h f x e

    grow-kept : (f : Form) (u : Tree_stack) → IsFree (call_checks fs (tree_maker names p) s f) → grow fs (tree_maker names p) s f ≡ Some u → CoreKept u
    grow-kept f u free e =
        let m = mapped-some (λ (x : Step tree_reader). apply x s) (step fs (tree_maker names p) s f) u e in
        subst CoreKept m.2 (apply-kept m.0 s h (step-keeps f m.0 free m.1))

    export-kept : (x : ComponentExternName) (r : ComponentTypeRef) (u : Tree_stack) → applied s (declared_export_step (tree_maker names p) s.top x r) ≡ Some u → CoreKept u
    export-kept x r u e =
        let m = mapped-some (λ (z : Step tree_reader). apply z s) (declared_export_step (tree_maker names p) s.top x r) u e in
        let v = mapped-some (enters exporting (extern_name x)) (new_there exporting (extern_name x) s.top (written (tree_maker names p) s.top r)) m.0 m.1 in
        subst CoreKept (ap (λ (z : Step tree_reader). apply z s) v.2 ∙ m.2) (apply-kept (enters exporting (extern_name x) v.0) s h (enters-keep s.groups exporting (extern_name x) v.0 (written-of n s.top y names p r v.0 (named exporting (extern_name x) (written (tree_maker names p) s.top r) v.0 v.1))))

    alias-kept : (a : ComponentAlias) (u : Tree_stack) → applied s (alias_step s a) ≡ Some u → CoreKept u
    alias-kept a u e =
        let m = mapped-some (λ (z : Step tree_reader). apply z s) (alias_step s a) u e in
        subst CoreKept m.2 (apply-kept m.0 s h (alias-keeps a m.0 m.1))

-- ## A context of its own

inside-kept : (k : Kind) (s : Tree_stack) → CoreKept s → CoreKept (inside k s)
inside-kept k s h = record { entries = inside_has k s (OfTable (total s.groups)) h.entries }

-- the node at its end
node-of : (k : Kind) (u : Tree_stack) (i : Name) (m : New_node tree_reader) → CoreKept u → declared_made k u.top ≡ Some m → OfTable (total u.groups) (node_tree i m)
node-of k u i m h e = go k e
  where
    y : AllEntries (OfTable (total u.groups)) u.top
    y = h.entries zero u.top refl

    outs : AreOfTable (total u.groups) (entries export (u.top.side exporting) none)
    outs = entries-of (total u.groups) export (u.top.side exporting) none (y.side exporting) tt

    of-component : component_made u.top ≡ Some m → OfTable (total u.groups) (node_tree i m)
    of-component q = found (any_free tree_reader u.top.defined (u.top.side importing)) q
      where
        found : (b : Bool) → cond b None (option_map (component_of u.top) (kept tree_reader u.top.defined (u.top.side exporting))) ≡ Some m → OfTable (total u.groups) (node_tree i m)
        found true w = cc
        found false w =
            let x = mapped-some (component_of u.top) (kept tree_reader u.top.defined (u.top.side exporting)) m w in
            subst (λ (z : New_node tree_reader). OfTable (total u.groups) (node_tree i z)) x.2 (tt, entries-of (total u.groups) import (u.top.side importing) (entries export (u.top.side exporting) none) (y.side importing) outs)

    go : (k : Kind) → declared_made k u.top ≡ Some m → OfTable (total u.groups) (node_tree i m)
    go declares_instance q = subst (λ (z : New_node tree_reader). OfTable (total u.groups) (node_tree i z)) (some-inj q) (tt, outs)
    go declares_component q = of-component q
    go concrete q = of-component q

around-groups : (u t : Tree_stack) → around u ≡ Some t → t.groups ≡ u.groups
around-groups u t e = go u.outer e
  where
    go : (cs : List Tree_context) → stack_of {X = tree_reader} cs u.groups ≡ Some t → t.groups ≡ u.groups
    go [] w = cc
    go (c ∷ cs) w = ap (λ (x : Tree_stack). x.groups) (sym (some-inj w))

module _ (fs : WasmFeatures) (names : Names) where
  abbrev mk : Makers tree_reader
  mk = tree_maker names

  closed-keeps : (k : Kind) (p : Place) (m : New_node tree_reader) (gs : List Group) → ((i : Name) → OfTable (total gs) (node_tree i m)) → AllKeep (closed_as k (mk p) m) gs
  closed-keeps concrete p m gs w = (w _, tt)
  closed-keeps declares_instance p m gs w = (both-of (total gs) _ _ (w _) (w _), tt)
  closed-keeps declares_component p m gs w = (both-of (total gs) _ _ (w _) (w _), tt)

  ended-kept : (k : Kind) (p : Place) (u v : Tree_stack) → ended k (mk p) u ≡ Some v → CoreKept u → CoreKept v
  ended-kept k p u v e h =
      let w = ends fs mk k p u v e in
      let g : w.stack.groups ≡ u.groups = around-groups u w.stack w.stood in
      let out : CoreKept w.stack = record { entries = subst (λ (gs : List Group). Everywhere (OfTable (total gs)) w.stack) (sym g) (around_has u w.stack w.stood (OfTable (total u.groups)) h.entries) } in
      subst CoreKept w.joined
      (apply-kept (closed_as k (mk p) w.node) w.stack out (subst (AllKeep (closed_as k (mk p) w.node)) (sym g) (closed-keeps k p w.node u.groups (λ i. node-of k u i w.node h w.made))))

  -- ## Declared types

  mutual
    type-kept : (p : Place) (s v : Tree_stack) (t : Type_form) → IsFree (declared_checks true fs mk p s t) → read_type fs mk p s t ≡ Some v → CoreKept s → CoreKept v
    type-kept p s v (component_type ds) free e h =
        let m = then-some (ended declares_component (mk p)) (read_decls fs mk p 0 (inside declares_component s) ds) v e in
        ended-kept declares_component p m.0 v m.2 (decls-kept declares_component p 0 (inside declares_component s) m.0 ds (type-free fs names declares_component p s ds free) m.1 (inside-kept declares_component s h))
    type-kept p s v (instance_type ds) free e h =
        let m = then-some (ended declares_instance (mk p)) (read_decls fs mk p 0 (inside declares_instance s) ds) v e in
        ended-kept declares_instance p m.0 v m.2 (decls-kept declares_instance p 0 (inside declares_instance s) m.0 ds (type-free fs names declares_instance p s ds free) m.1 (inside-kept declares_instance s h))
    type-kept p s v (defined_type d) free e h = grow-kept s h fs names p (type_item (defined_type d)) v free e
    type-kept p s v (func_type f) free e h = grow-kept s h fs names p (type_item (func_type f)) v free e
    type-kept p s v (resource_type rep dtor) free e h = grow-kept s h fs names p (type_item (resource_type rep dtor)) v free e

    decl-kept : (p : Place) (s u : Tree_stack) (d : Decl) → IsFree (decl_checks fs mk p s d) → read_decl fs mk p s d ≡ Some u → CoreKept s → CoreKept u
    decl-kept p s u (core_type_decl t) free e h = grow-kept s h fs names p (core_type_item t) u free e
    decl-kept p s u (type_decl t) free e h = type-kept p s u t free e h
    decl-kept p s u (alias_decl a) free e h = alias-kept s h fs names p a u e
    decl-kept p s u (export_decl x r) free e h = export-kept s h fs names p x r u e
    decl-kept p s u (import_decl i) free e h = grow-kept s h fs names p (import_item i) u free e

    decls-kept : (k : Kind) (p : Place) (n : ℕ) (s u : Tree_stack) (ds : Decls) → IsFree (decls_checks fs mk p n k s ds) → read_decls fs mk p n s ds ≡ Some u → CoreKept s → CoreKept u
    decls-kept k p n s u no_decls free e h = subst CoreKept (some-inj e) h
    decls-kept k p n s u (declare d ds) free e h =
        let m = then-some (λ (t : Tree_stack). read_decls fs mk p (suc n) t ds) (read_decl fs mk (deeper p n) s d) u e in
        let f = decls-free fs names k p n s m.0 d ds m.1 free in
        decls-kept k p (suc n) m.0 u ds f.1 m.2 (decl-kept (deeper p n) s m.0 d f.0 m.1 h)

  -- ## Items

  mutual
    item-kept : (p : Place) (s u : Tree_stack) (f : Form) → ValidItem fs names p s f → read_item fs mk p s f ≡ Some u → CoreKept s → CoreKept u
    item-kept p s u (type_item t) v e h = type-kept p s u t (type_item-free fs names p s t v.0) e h
    item-kept p s u (component_item is end) v e h =
        let m = then-some (ended concrete (mk p)) (read_items fs mk p 0 (inside concrete s) is) u e in
        let same : v.1.0 ≡ m.0 = some-inj (sym (valid_reads fs names p 0 (inside concrete s) is v.1.0 v.1.1) ∙ m.1) in
        ended-kept concrete p m.0 u m.2 (subst CoreKept same (items-kept p 0 (inside concrete s) v.1.0 is v.1.1 (inside-kept concrete s h)))
    item-kept p s u f v e h = grow-kept s h fs names p f u (plain-free fs names p s f v.0) e

    items-kept : (p : Place) (k : ℕ) (s u : Tree_stack) (is : Items) → ValidFrom fs names p k s is u → CoreKept s → CoreKept u
    items-kept p k s u no_items v h = subst CoreKept v h
    items-kept p k s u (next_item at f is) v h = items-kept p (suc k) v.1.0 u is v.1.2 (item-kept (deeper p k) s v.1.0 f v.0 v.1.1 h)

  -- ## Reached stacks

  start-kept : CoreKept start
  start-kept = record { entries = everywhere-both (OfTable 0) start (record { core = λ j. All-nil (OfTable 0); space = λ j. All-nil (OfTable 0); side = λ d. All-nil (λ e. OfTable 0 e.1) }) (λ j c e. cc) }

  pub reached-kept : (w : Place) (k : ℕ) (s : Tree_stack) → Reached fs names w k s → CoreKept s
  reached-kept _ _ _ at_start = start-kept
  reached-kept _ _ _ (behind w k s u f r v e) = item-kept (deeper w k) s u f v e (reached-kept w k s r)
  reached-kept _ _ _ (within w k s is r free) = inside-kept concrete s (reached-kept w k s r)
