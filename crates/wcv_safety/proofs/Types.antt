-- Types that are made in one step: where a context makes one, so do the lists that agree with it, and each of both matches the other.
use Rattle.std.proofs.Common.{◌≡◌, ◌∙◌, ℕ, zero, suc, List, [], ◌∷◌, map, Bool, true, Option, Some, None, refl, sym, ap, subst}
use Rattle.std.specs.List.{AllZip}
use Rattle.std.specs.Option.{option_map, option_and_then}
use Rattle.wcv_core.specs.CoreForm.{Group}
use Rattle.wcv_core.specs.Names.{Name, Place}
use Rattle.wcv_syntax.specs.Model.{Func_form, Defined_form, defined_type, func_type}
use Rattle.wcv_syntax.specs.declared.component_type.ComponentValType.{ComponentValType}
use Rattle.wcv_syntax.specs.declared.component_type.ComponentValType.TheVariants as val
use Rattle.wcv_types.specs.Seen.{seen_defined, seen, seen_parts}
use Rattle.wcv_types.specs.Tree.{Role, here, Former, func, defined, node, part, Sort, is_nothing, is_value, is_resource, is_func, is_instance, is_component, is_type, is_module, is_core_instance, is_core_type, is_core_item, sort}
use Rattle.wcv_types.specs.Unfold.{Type_tree}
use Rattle.wcv_types.proofs.Lists.{some-inj}
use Rattle.wcv_matching.specs.Matching.{Item_rule, Reading, outside, MatchBelow, MatchAs}
use Rattle.wcv_matching.specs.ModuleItems.{ItemsMatch}
use Rattle.wcv_lower.specs.Checks.{same_sort}
use Rattle.wcv_lower.specs.Context.{in_types, type_at}
use Rattle.wcv_lower.specs.Defined.{former, written_parts, handle_index, made_of, defined_made}
use Rattle.wcv_lower.specs.Names.{Names, introduced}
use Rattle.wcv_lower.specs.NewTypes.{type_entry}
use Rattle.wcv_lower.specs.Readers.{Made_parts, New_node, func_node, defined_node}
use Rattle.wcv_lower.specs.Step.{Step, apply, joins_types}
use Rattle.wcv_lower.specs.Trees.{Tree_context, Tree_stack, tree_reader, tree_maker, tree_parts}
use Rattle.wcv_lower.specs.Types.{func_parts, func_made, added, type_step}
use Rattle.wcv_lower.specs.Values.{Written_parts, resource_at, option_entry, behind, parts_entries}
use Rattle.wcv_growth.proofs.Known.{mapped-some, then-some}
use Rattle.wcv_growth.proofs.Looking.{sorted-here}
use Rattle.wcv_world.specs.Growth.{Tokens}
use Rattle.wcv_world.specs.Reading.{Value_context, Value_stack, value_reader, value_maker}
use Rattle.wcv_world.specs.Values.{Value, typed, type_over}
use Rattle.wcv_safety.specs.Agreeing.{Agrees, AgreesAsType, AgreeContexts, AgreeReadings}
use Rattle.wcv_safety.specs.Fitting.{MatchesAs}
use Rattle.wcv_safety.specs.Standing.{StandsInOrder, BothStand}
use Rattle.wcv_safety.proofs.Agreeing.{appends-agree, quiet-follows}
use Rattle.wcv_safety.proofs.Found.{sorted-found}

-- ## What is seen

-- types of a sort whose rule looks at what is seen are seen alike where they match as entries
module _ (C : Item_rule) {A : Type 0} (f g : Reading A) (a b : Type_tree) (k : Sort) (by : (d : ℕ) → MatchAs C (MatchBelow C d) k A f g a b → seen (outside f) a ≡ seen (outside g) b) where
  alike-below : (d : ℕ) → sort b ≡ k → MatchBelow C d A f g (type_entry a) (type_entry b) → seen (outside f) a ≡ seen (outside g) b
  alike-below zero e m = absurd m
  alike-below (suc zero) e m = absurd m.1.0
  alike-below (suc (suc d)) e m = by d (subst (λ (l : Sort). MatchAs C (MatchBelow C d) l A f g a b) (m.1.0.0 ∙ e) m.1.0.1)

  pub seen-alike : sort b ≡ k → MatchesAs C f g (type_entry a) (type_entry b) → seen (outside f) a ≡ seen (outside g) b
  seen-alike e m = alike-below m.0 e m.1

abbrev Alike : (Name → Name) → Type_tree → Type_tree → Type 0
Alike g a t = seen (outside (λ r. r)) a ≡ seen (outside g) t

-- in one role, something that is seen alike
abbrev PartAlike : (Name → Name) → Role × Value → Role × Type_tree → Type 0
PartAlike g x e = (x.0 ≡ e.0) × Alike g (type_over x.1) e.1

abbrev over_parts : List (Role × Value) → List (Role × Type_tree)
over_parts xs = map (λ x. (x.0, type_over x.1)) xs

parts-alike : (g : Name → Name) (xs : List (Role × Value)) (es : List (Role × Type_tree)) → AllZip (PartAlike g) xs es → seen_parts (outside (λ r. r)) (tree_parts (over_parts xs)) ≡ seen_parts (outside g) (tree_parts es)
parts-alike g [] [] w = refl
parts-alike g [] (e ∷ es) w = absurd w
parts-alike g (x ∷ xs) [] w = absurd w
parts-alike g (x ∷ xs) (e ∷ es) w = λ j. part (w.0.0 j) (w.0.1 j) (parts-alike g xs es w.1 j)

module _ (gs : List Group) (g : Name → Name) (i j : Name) (xs : List (Role × Value)) (es : List (Role × Type_tree)) (w : AllZip (PartAlike g) xs es) where
  parts-seen : seen_parts (outside (λ r. r)) (tree_parts (over_parts xs)) ≡ seen_parts (outside g) (tree_parts es)
  parts-seen = parts-alike g xs es w

  func-alike : (b : Bool) → Alike g (node (func i b) (tree_parts (over_parts xs))) (node (func j b) (tree_parts es))
  func-alike b = λ k. node (func tt b) (parts-seen k)

  defined-alike : (k : Former) → Alike g (node (defined i k) (tree_parts (over_parts xs))) (node (defined j k) (tree_parts es))
  defined-alike k = λ l. node (seen_defined k) (parts-seen l)

  pub func-agrees : (b : Bool) → Agrees gs g (typed (type_entry (node (func i b) (tree_parts (over_parts xs))))) (type_entry (node (func j b) (tree_parts es)))
  func-agrees b = (2, (refl, ((refl, func-alike b), (refl, sym (func-alike b)), λ r. refl)))

  pub defined-agrees : (k : Former) → Agrees gs g (typed (type_entry (node (defined i k) (tree_parts (over_parts xs))))) (type_entry (node (defined j k) (tree_parts es)))
  defined-agrees k = (2, (refl, ((refl, defined-alike k), (refl, sym (defined-alike k)), λ r. refl)))

-- ## What they are made of

pub value-sort : (l : Sort) → same_sort is_value l ≡ true → l ≡ is_value
value-sort is_nothing e = cc
value-sort is_value e = refl
value-sort is_resource e = cc
value-sort is_func e = cc
value-sort is_instance e = cc
value-sort is_component e = cc
value-sort is_type e = cc
value-sort is_module e = cc
value-sort is_core_instance e = cc
value-sort is_core_type e = cc
value-sort is_core_item e = cc

pub resource-sort : (l : Sort) → same_sort is_resource l ≡ true → l ≡ is_resource
resource-sort is_nothing e = cc
resource-sort is_value e = cc
resource-sort is_resource e = refl
resource-sort is_func e = cc
resource-sort is_instance e = cc
resource-sort is_component e = cc
resource-sort is_type e = cc
resource-sort is_module e = cc
resource-sort is_core_instance e = cc
resource-sort is_core_type e = cc
resource-sort is_core_item e = cc

module _ (gs : List Group) (ts : Tokens) (g : Name → Name) (v : Value_context) (c : Tree_context) (a : AgreeContexts gs ts g v c) (h : StandsInOrder {X = tree_reader} (λ t. t) gs c) where
  value-seen : (x : Value) (t : Type_tree) → sort t ≡ is_value → AgreesAsType gs g x t → Alike g (type_over x) t
  value-seen x t e m = seen-alike (ItemsMatch gs) {A = Name} (λ r. r) g (type_over x) t is_value (λ d n. n) e m

  resource-seen : (x : Value) (t : Type_tree) → sort t ≡ is_resource → AgreesAsType gs g x t → Alike g (type_over x) t
  resource-seen x t e m = seen-alike (ItemsMatch gs) {A = Name} (λ r. r) g (type_over x) t is_resource (λ d n. n) e m

  option-found : (o : Option ComponentValType) (t : Type_tree) → option_entry c o ≡ Some t → (x : Value) × (option_entry v o ≡ Some x) × Alike g (type_over x) t
  option-found None t e = (value_reader.left_out, refl, subst (λ (u : Type_tree). Alike g tree_reader.left_out u) (some-inj e) refl)
  option-found (Some (val.Primitive p)) t e = (value_reader.primitive p, refl, subst (λ (u : Type_tree). Alike g (tree_reader.primitive p) u) (some-inj e) refl)
  option-found (Some (val.Ty k)) t e =
      let x = sorted-found gs ts g v c a h is_value k t e in
      (x.0, x.1, value-seen x.0 t (value-sort (sort t) (sorted-here is_value (type_at c k) t e).1) x.2)

  parts-found : (ps : Written_parts) (es : Made_parts tree_reader) → parts_entries c ps ≡ Some es → (xs : Made_parts value_reader) × (parts_entries v ps ≡ Some xs) × AllZip (PartAlike g) xs es
  parts-found [] es e = ([], refl, subst (λ (zs : List (Role × Type_tree)). AllZip (PartAlike g) [] zs) (some-inj e) tt)
  parts-found (p ∷ ps) es e =
      let t = then-some (behind tree_reader p.0 (parts_entries c ps)) (option_entry c p.1) es e in
      let r = mapped-some (λ (zs : Made_parts tree_reader). (p.0, t.0) ∷ zs) (parts_entries c ps) es t.2 in
      let x = option-found p.1 t.0 t.1 in
      let xs = parts-found ps r.0 r.1 in (
        (p.0, x.0) ∷ xs.0,
        ap (option_and_then (behind value_reader p.0 (parts_entries v ps))) x.1 ∙ ap (option_map (λ (zs : Made_parts value_reader). (p.0, x.0) ∷ zs)) xs.1,
        subst (λ (zs : List (Role × Type_tree)). AllZip (PartAlike g) ((p.0, x.0) ∷ xs.0) zs) r.2 ((refl, x.2), xs.2),
      )

  -- of a handle the reference to its resource
  made-found : (o : Option ℕ) (ps : Written_parts) (es : Made_parts tree_reader) → made_of c o ps ≡ Some es → (xs : Made_parts value_reader) × (made_of v o ps ≡ Some xs) × AllZip (PartAlike g) xs es
  made-found None ps es e = parts-found ps es e
  made-found (Some k) ps es e =
      let t = mapped-some {B = Made_parts tree_reader} (λ (x : Type_tree). (here, x) ∷ []) (resource_at c k) es e in
      let x = sorted-found gs ts g v c a h is_resource k t.0 t.1 in (
        (here, x.0) ∷ [],
        ap (option_map (λ (x : Value). (here, x) ∷ [])) x.1,
        subst (λ (zs : List (Role × Type_tree)). AllZip (PartAlike g) ((here, x.0) ∷ []) zs) t.2 ((refl, resource-seen x.0 t.0 (resource-sort (sort t.0) (sorted-here is_resource (type_at c k) t.0 t.1).1) x.2), tt),
      )

-- ## The step

module _ (names other : Names) (p q : Place) (g : Name → Name) (v : Value_stack) (s : Tree_stack) (h : BothStand v s) (a : AgreeReadings g v s) where
  type-joins : (x : Value) (t : Type_tree) → Agrees v.groups g x t → AgreeReadings g (apply (joins_types x) v) (apply (joins_types t) s)
  type-joins x t r = quiet-follows g v s (joins_types x) (joins_types t) a (tt, tt) (tt, tt) (appends-agree v.top.defined g in_types v s x t a.stacks r)

  pub defined-follows : (d : Defined_form) (y : Step tree_reader) → type_step (tree_maker names p) s.top (defined_type d) ≡ Some y → (x : Step value_reader) × (type_step (value_maker other q) v.top (defined_type d) ≡ Some x) × AgreeReadings g (apply x v) (apply y s)
  defined-follows d y e =
      let n = mapped-some (added (tree_maker names p)) (defined_made s.top d) y e in
      let m = mapped-some {B = New_node tree_reader} (defined_node (former d)) (made_of s.top (handle_index d) (written_parts d)) n.0 n.1 in
      let x = made-found v.groups v.top.defined g v.top s.top a.stacks.all.0 h.types (handle_index d) (written_parts d) m.0 m.1 in
      let one : New_node value_reader = defined_node (former d) x.0 in (
        added (value_maker other q) one,
        ap (λ (o : Option (Made_parts value_reader)). option_map (added (value_maker other q)) (option_map (defined_node (former d)) o)) x.1,
        subst (λ (z : Step tree_reader). AgreeReadings g (apply (added (value_maker other q) one) v) (apply z s)) (ap (added (tree_maker names p)) m.2 ∙ n.2)
            (type-joins (typed (type_entry (node (defined (other.identity (introduced q)) (former d)) (tree_parts (over_parts x.0))))) (type_entry (node (defined (names.identity (introduced p)) (former d)) (tree_parts m.0)))
            (defined-agrees v.groups g (other.identity (introduced q)) (names.identity (introduced p)) x.0 m.0 x.2 (former d))),
      )

  pub func-follows : (f : Func_form) (y : Step tree_reader) → type_step (tree_maker names p) s.top (func_type f) ≡ Some y → (x : Step value_reader) × (type_step (value_maker other q) v.top (func_type f) ≡ Some x) × AgreeReadings g (apply x v) (apply y s)
  func-follows f y e =
      let n = mapped-some (added (tree_maker names p)) (func_made s.top f) y e in
      let m = mapped-some {B = New_node tree_reader} (func_node f.async) (parts_entries s.top (func_parts f)) n.0 n.1 in
      let x = parts-found v.groups v.top.defined g v.top s.top a.stacks.all.0 h.types (func_parts f) m.0 m.1 in
      let one : New_node value_reader = func_node f.async x.0 in (
        added (value_maker other q) one,
        ap (λ (o : Option (Made_parts value_reader)). option_map (added (value_maker other q)) (option_map (func_node f.async) o)) x.1,
        subst (λ (z : Step tree_reader). AgreeReadings g (apply (added (value_maker other q) one) v) (apply z s)) (ap (added (tree_maker names p)) m.2 ∙ n.2)
            (type-joins (typed (type_entry (node (func (other.identity (introduced q)) f.async) (tree_parts (over_parts x.0))))) (type_entry (node (func (names.identity (introduced p)) f.async) (tree_parts m.0)))
            (func-agrees v.groups g (other.identity (introduced q)) (names.identity (introduced p)) x.0 m.0 x.2 f.async)),
      )
