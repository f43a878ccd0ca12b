-- What was read before stays where it is.
use Rattle.std.proofs.Common.{◌≡◌, ℕ, zero, suc, List, [], ◌∷◌, ◌++◌, length, refl, sym, ◌∙◌, subst, Bool, true, false, ◌&&◌, Option, Some, None}
use Rattle.std.specs.List.{AllZip}
use Rattle.std.specs.Option.{option_map, option_and_then, option_or}
use Rattle.wcv_core.specs.CoreForm.{Group}
use Rattle.wcv_core.specs.Names.{Place, deeper}
use Rattle.wcv_core.specs.declared.core_types.ValType.{ValType}
use Rattle.wcv_core.specs.declared.features.WasmFeatures.{WasmFeatures}
use Rattle.wcv_syntax.specs.Model.{Form, core_type_item, core_module_item, core_instance_item, type_item, import_item, export_item, component_item, instance_item, alias_item, start_item, canon_item, Items, no_items, next_item, Type_form, defined_type, func_type, component_type, instance_type, resource_type, Decl, core_type_decl, type_decl, alias_decl, export_decl, import_decl, Decls, no_decls, declare}
use Rattle.wcv_lower.specs.Aliases.{alias_step}
use Rattle.wcv_lower.specs.Context.{Kind, concrete, declares_instance, declares_component, Space, Core_space, Side, importing, exporting, joined, same_space, same_core_space, same_side, names_for, asks_names, with_named, placed, unknown, charge}
use Rattle.wcv_lower.specs.Declared.{Makers, inside, around, closed_as, ended, declared_export_step, read_type, read_decl, read_decls}
use Rattle.wcv_lower.specs.Declared as declared
use Rattle.wcv_lower.specs.Ending.{declared_made}
use Rattle.wcv_lower.specs.Entries.{extern_name, new_there, written}
use Rattle.wcv_lower.specs.Growth.{grow, step}
use Rattle.wcv_lower.specs.Items.{read_item, read_items}
use Rattle.wcv_lower.specs.Names.{Names}
use Rattle.wcv_lower.specs.Readers.{New_node}
use Rattle.wcv_lower.specs.Step.{Change, appends, lists, introduces, defines, creates, core_appends, interns, charges, types_slots, marks_value, uses_value, names_start, Step, change_at, change, apply, enters}
use Rattle.wcv_lower.specs.Trees.{Tree_context, Tree_stack, tree_reader, tree_maker}
use Rattle.wcv_lower.proofs.Bringing.{of_some}
use Rattle.wcv_growth.proofs.Groups.{no_more, prefix_trans, Behind, applied-groups, steps-behind, aliases-behind, enters-behind}
use Rattle.wcv_growth.proofs.Known.{mapped-some, then-some}
use Rattle.wcv_growth.specs.Kept.{IsPrefix, StillStands, OnlyGrew}
use Rattle.wcv_growth.specs.Valid.{ValidFrom}

-- ## Contexts

pub stands-same : (c : Tree_context) → StillStands c c
stands-same c = record {
  kind = refl;
  space = λ k. no_more (c.space k);
  core = λ k. no_more (c.core k);
  side = λ i. no_more (c.side i);
  imported = no_more c.imported;
  defined = no_more c.defined;
  named = λ i. no_more (c.named i);
  context_type = λ v e. e;
  started = λ e. e;
}

pub stands-on : (c d e : Tree_context) → StillStands c d → StillStands d e → StillStands c e
stands-on c d e p q = record {
  kind = q.kind ∙ p.kind;
  space = λ k. prefix_trans (c.space k) (d.space k) (e.space k) (p.space k) (q.space k);
  core = λ k. prefix_trans (c.core k) (d.core k) (e.core k) (p.core k) (q.core k);
  side = λ i. prefix_trans (c.side i) (d.side i) (e.side i) (p.side i) (q.side i);
  imported = prefix_trans c.imported d.imported e.imported p.imported q.imported;
  defined = prefix_trans c.defined d.defined e.defined p.defined q.defined;
  named = λ i. prefix_trans (c.named i) (d.named i) (e.named i) (p.named i) (q.named i);
  context_type = λ v h. q.context_type v (p.context_type v h);
  started = λ h. q.started (p.started h);
}

one-more : {A : Type 0} (b : Bool) (xs : List A) (x : A) → IsPrefix xs (joined b xs x)
one-more true xs x = (x ∷ [], refl)
one-more false xs x = no_more xs

named-more : {I : Type 0} (same : I → I → Bool) (b : Bool) (ids is : List I) → IsPrefix ids (with_named same b ids is)
named-more same b ids [] = no_more ids
named-more same b ids (i ∷ is) = prefix_trans ids _ _ (one-more _ ids i) (named-more same b _ is)

said-once : (o : Option ValType) (w v : ValType) → o ≡ Some v → option_or o (Some w) ≡ Some v
said-once None w v e = cc
said-once (Some x) w v e = e

-- what has not changed
module _ (c : Tree_context) where
  space-same : (k : Space) → IsPrefix (c.space k) (c.space k)
  space-same k = no_more (c.space k)

  core-same : (k : Core_space) → IsPrefix (c.core k) (c.core k)
  core-same k = no_more (c.core k)

  side-same : (i : Side) → IsPrefix (c.side i) (c.side i)
  side-same i = no_more (c.side i)

  named-same : (i : Side) → IsPrefix (c.named i) (c.named i)
  named-same i = no_more (c.named i)

charge-stands : (n : ℕ) (c : Tree_context) → StillStands c (charge n c)
charge-stands n c = record { kind = refl; space = space-same c; core = core-same c; side = side-same c; imported = no_more c.imported; defined = no_more c.defined; named = named-same c; context_type = λ v w. w; started = λ w. w }

marks-stand : (bs : List Bool) (c : Tree_context) → StillStands c (record c { used = bs })
marks-stand bs c = record { kind = refl; space = space-same c; core = core-same c; side = side-same c; imported = no_more c.imported; defined = no_more c.defined; named = named-same c; context_type = λ v w. w; started = λ w. w }

change-top : (x : Change tree_reader) (s : Tree_stack) → StillStands s.top (change x s).top
change-top (appends k x) s =
    record { kind = refl; space = λ j. one-more (same_space j k) (s.top.space j) x; core = core-same s.top; side = side-same s.top; imported = no_more s.top.imported; defined = no_more s.top.defined; named = named-same s.top; context_type = λ v w. w; started = λ w. w }
change-top (lists d n x) s =
    record { kind = refl; space = space-same s.top; core = core-same s.top; side = λ j. one-more (same_side j d) (s.top.side j) (n, x); imported = no_more s.top.imported; defined = no_more s.top.defined; named = named-same s.top; context_type = λ v w. w; started = λ w. w }
change-top (introduces importing rs) s =
    record { kind = refl; space = space-same s.top; core = core-same s.top; side = side-same s.top; imported = (placed (length (s.top.side importing)) rs, refl); defined = no_more s.top.defined; named = named-same s.top; context_type = λ v w. w; started = λ w. w }
change-top (introduces exporting rs) s =
    record { kind = refl; space = space-same s.top; core = core-same s.top; side = side-same s.top; imported = no_more s.top.imported; defined = (unknown rs, refl); named = named-same s.top; context_type = λ v w. w; started = λ w. w }
change-top (defines r v) s =
    record { kind = refl; space = space-same s.top; core = core-same s.top; side = side-same s.top; imported = no_more s.top.imported; defined = ((r, v) ∷ [], refl); named = named-same s.top; context_type = λ v w. w; started = λ w. w }
change-top (creates d is) s =
    record { kind = refl; space = space-same s.top; core = core-same s.top; side = side-same s.top; imported = no_more s.top.imported; defined = no_more s.top.defined; named = λ j. named-more tree_reader.same (names_for d j && asks_names s.top.kind) (s.top.named j) is; context_type = λ v w. w; started = λ w. w }
change-top (core_appends k x) s =
    record { kind = refl; space = space-same s.top; core = λ j. one-more (same_core_space j k) (s.top.core j) x; side = side-same s.top; imported = no_more s.top.imported; defined = no_more s.top.defined; named = named-same s.top; context_type = λ v w. w; started = λ w. w }
change-top (interns gs) s = stands-same s.top
change-top (charges zero n) s = charge-stands n s.top
change-top (charges (suc k) n) s = stands-same s.top
change-top (types_slots v) s =
    record { kind = refl; space = space-same s.top; core = core-same s.top; side = side-same s.top; imported = no_more s.top.imported; defined = no_more s.top.defined; named = named-same s.top; context_type = λ x w. said-once s.top.context_type v x w; started = λ w. w }
change-top (marks_value b) s = marks-stand (s.top.used ++ b ∷ []) s.top
change-top (uses_value k) s = marks-stand (change_at k (λ b. true) s.top.used) s.top
change-top names_start s =
    record { kind = refl; space = space-same s.top; core = core-same s.top; side = side-same s.top; imported = no_more s.top.imported; defined = no_more s.top.defined; named = named-same s.top; context_type = λ v w. w; started = λ w. refl }

all-same : (cs : List Tree_context) → AllZip StillStands cs cs
all-same [] = tt
all-same (c ∷ cs) = (stands-same c, all-same cs)

all-on : (cs ds es : List Tree_context) → AllZip StillStands cs ds → AllZip StillStands ds es → AllZip StillStands cs es
all-on [] [] [] p q = tt
all-on [] [] (e ∷ es) p q = elim q [ ]
all-on [] (d ∷ ds) es p q = elim p [ ]
all-on (c ∷ cs) [] es p q = elim p [ ]
all-on (c ∷ cs) (d ∷ ds) [] p q = elim q [ ]
all-on (c ∷ cs) (d ∷ ds) (e ∷ es) p q = (stands-on c d e p.0 q.0, all-on cs ds es p.1 q.1)

charged-one : (k n : ℕ) (cs : List Tree_context) → AllZip StillStands cs (change_at k (charge n) cs)
charged-one k n [] = tt
charged-one zero n (c ∷ cs) = (charge-stands n c, all-same cs)
charged-one (suc k) n (c ∷ cs) = (stands-same c, charged-one k n cs)

change-outer : (x : Change tree_reader) (s : Tree_stack) → AllZip StillStands s.outer (change x s).outer
change-outer (charges zero n) s = all-same s.outer
change-outer (charges (suc k) n) s = charged-one k n s.outer
change-outer (appends k x) s = all-same s.outer
change-outer (lists d n x) s = all-same s.outer
change-outer (introduces d rs) s = all-same s.outer
change-outer (defines r v) s = all-same s.outer
change-outer (creates d is) s = all-same s.outer
change-outer (core_appends k x) s = all-same s.outer
change-outer (interns gs) s = all-same s.outer
change-outer (types_slots v) s = all-same s.outer
change-outer (marks_value b) s = all-same s.outer
change-outer (uses_value k) s = all-same s.outer
change-outer names_start s = all-same s.outer

apply-top : (p : Step tree_reader) (s : Tree_stack) → StillStands s.top (apply p s).top
apply-top [] s = stands-same s.top
apply-top (x ∷ p) s = stands-on s.top (change x s).top (apply p (change x s)).top (change-top x s) (apply-top p (change x s))

apply-outer : (p : Step tree_reader) (s : Tree_stack) → AllZip StillStands s.outer (apply p s).outer
apply-outer [] s = all-same s.outer
apply-outer (x ∷ p) s = all-on s.outer (change x s).outer (apply p (change x s)).outer (change-outer x s) (apply-outer p (change x s))

-- ## Stacks

pub grew-same : (s : Tree_stack) → OnlyGrew s s
grew-same s = record { top = stands-same s.top; outer = all-same s.outer; groups = no_more s.groups }

pub grew-on : (s t u : Tree_stack) → OnlyGrew s t → OnlyGrew t u → OnlyGrew s u
grew-on s t u p q = record {
  top = stands-on s.top t.top u.top p.top q.top;
  outer = all-on s.outer t.outer u.outer p.outer q.outer;
  groups = prefix_trans s.groups t.groups u.groups p.groups q.groups;
}

by-step : (p : Step tree_reader) (s : Tree_stack) → Behind s.groups p → OnlyGrew s (apply p s)
by-step p s b = record { top = apply-top p s; outer = apply-outer p s; groups = subst (IsPrefix s.groups) (sym (applied-groups p s)) b }

-- what is undefined has led nowhere
by-steps : (s u : Tree_stack) (o : Option (Step tree_reader)) → ((p : Step tree_reader) → o ≡ Some p → Behind s.groups p) → option_map (λ (p : Step tree_reader). apply p s) o ≡ Some u → OnlyGrew s u
by-steps s u o h e =
    let m = mapped-some (λ (p : Step tree_reader). apply p s) o u e in
    subst (OnlyGrew s) m.2 (by-step m.0 s (h m.0 m.1))

module _ (fs : WasmFeatures) (mk : Makers tree_reader) where
  item-grew : (p : Place) (s u : Tree_stack) (f : Form) → grow fs (mk p) s f ≡ Some u → OnlyGrew s u
  item-grew p s u f e = by-steps s u (step fs (mk p) s f) (steps-behind (mk p) s fs f) e

  -- a context that was inside left
  ended-behind : (k : Kind) (p : Place) (n : New_node tree_reader) (gs : List Group) → Behind gs (closed_as k (mk p) n)
  ended-behind concrete p n gs = no_more gs
  ended-behind declares_instance p n gs = no_more gs
  ended-behind declares_component p n gs = no_more gs

  left : (k : Kind) (s t u : Tree_stack) → OnlyGrew (inside k s) t → around t ≡ Some u → OnlyGrew s u
  left k s t u h e = go t.outer h.outer e
    where
      go : (cs : List Tree_context) → AllZip StillStands (s.top ∷ s.outer) cs → declared.stack_of cs t.groups ≡ Some u → OnlyGrew s u
      go [] z w = elim z [ ]
      go (c ∷ cs) z w = of_some (OnlyGrew s) (declared.stack_of (c ∷ cs) t.groups) u (record { top = z.0; outer = z.1; groups = h.groups }) w

  ended-grew : (k : Kind) (p : Place) (s t u : Tree_stack) → OnlyGrew (inside k s) t → ended k (mk p) t ≡ Some u → OnlyGrew s u
  ended-grew k p s t u h e =
      let v = then-some (λ (y : Tree_stack). option_map (λ n. apply (closed_as k (mk p) n) y) (declared_made k t.top)) (around t) u e in
      let m = mapped-some (λ n. apply (closed_as k (mk p) n) v.0) (declared_made k t.top) u v.2 in
      grew-on s v.0 u (left k s t v.0 h v.1) (subst (OnlyGrew v.0) m.2 (by-step (closed_as k (mk p) m.0) v.0 (ended-behind k p m.0 v.0.groups)))

  -- what was read inside, and then left
  inside-grew : (k : Kind) (p : Place) (s u : Tree_stack) (o : Option Tree_stack) → ((t : Tree_stack) → o ≡ Some t → OnlyGrew (inside k s) t) → option_and_then (ended k (mk p)) o ≡ Some u → OnlyGrew s u
  inside-grew k p s u o h e =
      let v = then-some (ended k (mk p)) o u e in
      ended-grew k p s v.0 u (h v.0 v.1) v.2

  mutual
    type-grew : (p : Place) (s u : Tree_stack) (t : Type_form) → read_type fs mk p s t ≡ Some u → OnlyGrew s u
    type-grew p s u (component_type ds) e = inside-grew declares_component p s u (read_decls fs mk p 0 (inside declares_component s) ds) (λ t w. decls-grew p 0 (inside declares_component s) t ds w) e
    type-grew p s u (instance_type ds) e = inside-grew declares_instance p s u (read_decls fs mk p 0 (inside declares_instance s) ds) (λ t w. decls-grew p 0 (inside declares_instance s) t ds w) e
    type-grew p s u (defined_type d) e = item-grew p s u (type_item (defined_type d)) e
    type-grew p s u (func_type f) e = item-grew p s u (type_item (func_type f)) e
    type-grew p s u (resource_type rep dtor) e = item-grew p s u (type_item (resource_type rep dtor)) e

    decl-grew : (p : Place) (s u : Tree_stack) (d : Decl) → read_decl fs mk p s d ≡ Some u → OnlyGrew s u
    decl-grew p s u (core_type_decl t) e = item-grew p s u (core_type_item t) e
    decl-grew p s u (type_decl t) e = type-grew p s u t e
    decl-grew p s u (alias_decl a) e = by-steps s u (alias_step s a) (λ q w. of_some (Behind s.groups) (alias_step s a) q (aliases-behind (mk p) s a) w) e
    decl-grew p s u (export_decl n r) e =
        by-steps s u (declared_export_step (mk p) s.top n r)
        (λ q w. let m = mapped-some (enters exporting (extern_name n)) (new_there exporting (extern_name n) s.top (written (mk p) s.top r)) q w in subst (Behind s.groups) m.2 (enters-behind s.groups exporting (extern_name n) m.0)) e
    decl-grew p s u (import_decl i) e = item-grew p s u (import_item i) e

    decls-grew : (p : Place) (n : ℕ) (s u : Tree_stack) (ds : Decls) → read_decls fs mk p n s ds ≡ Some u → OnlyGrew s u
    decls-grew p n s u no_decls e = of_some (OnlyGrew s) (Some s) u (grew-same s) e
    decls-grew p n s u (declare d ds) e =
        let v = then-some (λ (t : Tree_stack). read_decls fs mk p (suc n) t ds) (read_decl fs mk (deeper p n) s d) u e in
        grew-on s v.0 u (decl-grew (deeper p n) s v.0 d v.1) (decls-grew p (suc n) v.0 u ds v.2)

  mutual
    pub item_grew : (p : Place) (s u : Tree_stack) (f : Form) → read_item fs mk p s f ≡ Some u → OnlyGrew s u
    item_grew p s u (type_item t) e = type-grew p s u t e
    item_grew p s u (component_item is end) e = inside-grew concrete p s u (read_items fs mk p 0 (inside concrete s) is) (λ t w. items_grew p 0 (inside concrete s) t is w) e
    item_grew p s u (import_item i) e = item-grew p s u (import_item i) e
    item_grew p s u (export_item i) e = item-grew p s u (export_item i) e
    item_grew p s u (core_type_item t) e = item-grew p s u (core_type_item t) e
    item_grew p s u (core_module_item ds) e = item-grew p s u (core_module_item ds) e
    item_grew p s u (core_instance_item i) e = item-grew p s u (core_instance_item i) e
    item_grew p s u (instance_item i) e = item-grew p s u (instance_item i) e
    item_grew p s u (alias_item a) e = item-grew p s u (alias_item a) e
    item_grew p s u (start_item f args n) e = item-grew p s u (start_item f args n) e
    item_grew p s u (canon_item c) e = item-grew p s u (canon_item c) e

    pub items_grew : (p : Place) (n : ℕ) (s u : Tree_stack) (is : Items) → read_items fs mk p n s is ≡ Some u → OnlyGrew s u
    items_grew p n s u no_items e = of_some (OnlyGrew s) (Some s) u (grew-same s) e
    items_grew p n s u (next_item at f is) e =
        let v = then-some (λ (t : Tree_stack). read_items fs mk p (suc n) t is) (read_item fs mk (deeper p n) s f) u e in
        grew-on s v.0 u (item_grew (deeper p n) s v.0 f v.1) (items_grew p (suc n) v.0 u is v.2)

-- items without a cause lead where growth does
pub valid_grew : (fs : WasmFeatures) (names : Names) (w : Place) (k : ℕ) (s u : Tree_stack) (is : Items) → ValidFrom fs names w k s is u → OnlyGrew s u
valid_grew fs names w k s u no_items v = subst (OnlyGrew s) v (grew-same s)
valid_grew fs names w k s u (next_item at f is) v = grew-on s v.1.0 u (item_grew fs (tree_maker names) (deeper w k) s v.1.0 f v.1.1) (valid_grew fs names w (suc k) v.1.0 u is v.1.2)
