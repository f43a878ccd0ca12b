-- What canonical functions bring: a function of a type of the context, or a core function.
use Rattle.std.proofs.Common.{List, [], ◌∷◌, refl, Bool, true, false, cond, Some, None}
use Rattle.std.specs.Prelude.{Option}
use Rattle.std.specs.Option.{option_map, option_and_then}
use Rattle.wcv_core.specs.CoreForm.{CompositeForm, Group}
use Rattle.wcv_core.specs.CoreJoining.{is_free, first_id, grown}
use Rattle.wcv_core.specs.CoreWritten.{closed_group}
use Rattle.wcv_core.specs.Names.{Name}
use Rattle.wcv_core.specs.declared.core_types.EntityType.{EntityType}
use Rattle.wcv_core.specs.declared.core_types.EntityType.TheVariants as entity
use Rattle.wcv_syntax.specs.Model.{Canon_form}
use Rattle.wcv_types.specs.Tree.{core_item, is_func, Parts}
use Rattle.wcv_types.specs.Unfold.{Type_tree}
use Rattle.wcv_flat.specs.Rows.{Ask, Appends, canon_row}
use Rattle.wcv_flat.specs.Rows as row
use Rattle.wcv_lower.specs.Canons.{row_form, alone, canon_found, func_joins, func_step, func_added, row_step, slots_typed, canon_step}
use Rattle.wcv_lower.specs.Context.{in_funcs, core_funcs}
use Rattle.wcv_lower.specs.CoreItems.{core_entries, is_closable}
use Rattle.wcv_lower.specs.Owned.{AllEntries}
use Rattle.wcv_lower.specs.Step.{Step, appends, core_appends, interns, types_slots}
use Rattle.wcv_lower.specs.Trees.{tree_reader, Tree_stack}
use Rattle.wcv_lower.specs.Values.{type_of_sort}
use Rattle.wcv_lower.proofs.Bringing.{OfAny, any_mapped, any_cond, AllBring, brings_one, brings_more, of_sort_has}
use Rattle.wcv_lower.proofs.Owning.{Inherited, leaf_has}

module _ {P : Type_tree → Type 0} {In : Parts Name Name → Type 0} (law : Inherited P In) (New : Name → Type 0) (s : Tree_stack) (all : AllEntries P s.top) where
  joins_brings : (gs : List Group) (g : Group) → AllBring P New (func_joins tree_reader gs g)
  joins_brings gs g =
      let e : EntityType = entity.Func (record { index = first_id gs g }) in
      brings_more P New (interns (grown gs g)) (core_appends core_funcs (tree_reader.core_item e) ∷ []) tt (brings_one P New (core_appends core_funcs (tree_reader.core_item e)) (leaf_has law (core_item e) (λ r. refl)))

  func_brings : (w : Group) → OfAny (AllBring P New) (func_step s w)
  func_brings w =
      let g : Group = closed_group (core_entries s.top) w in
      any_cond (AllBring P New) (is_closable s.groups (core_entries s.top) w) (func_joins tree_reader s.groups g) (joins_brings s.groups g)

  form_brings : (b : Bool) (o : Option CompositeForm) → OfAny (AllBring P New) (option_and_then (λ w. func_step s (alone b w)) o)
  form_brings b None = tt
  form_brings b (Some w) = func_brings (alone b w)

  row_brings : (f : Canon_form) (q : Appends) → OfAny (AllBring P New) (row_step s f q)
  row_brings f (row.lifted t) = any_mapped P (AllBring P New) func_added (λ x w. brings_one P New (appends in_funcs x) w) (type_of_sort is_func s.top t) (of_sort_has law New s.top all is_func t)
  row_brings f (row.lowered k) = form_brings false (row_form s f (row.lowered k))
  row_brings f (row.returning r) = form_brings false (row_form s f (row.returning r))
  row_brings f (row.core_func ps rs) = form_brings false (row_form s f (row.core_func ps rs))
  row_brings f (row.shared_func ps rs) = form_brings true (row_form s f (row.shared_func ps rs))

  slots_bring : (qs : List Ask) (p : Step tree_reader) → AllBring P New p → AllBring P New (slots_typed qs p)
  slots_bring [] p w = w
  slots_bring (row.slot_of v n ∷ qs) p w = brings_more P New (types_slots v) (slots_typed qs p) tt (slots_bring qs p w)
  slots_bring (q ∷ qs) p w = slots_bring qs p w

  pub canons_bring : (f : Canon_form) → OfAny (AllBring P New) (canon_step s f)
  canons_bring f = go (is_free (canon_found s f)) (canon_row f).asks (row_step s f (canon_row f).appends) (row_brings f (canon_row f).appends)
    where
      go : (b : Bool) (qs : List Ask) (o : Option (Step tree_reader)) → OfAny (AllBring P New) o → OfAny (AllBring P New) (cond b (option_map (slots_typed qs) o) None)
      go true qs o w = any_mapped (AllBring P New) (AllBring P New) (slots_typed qs) (slots_bring qs) o w
      go false qs o w = tt
