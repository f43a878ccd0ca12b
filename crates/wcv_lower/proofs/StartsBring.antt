-- What start items bring.
use Rattle.std.proofs.Common.{ℕ, List, [], ◌∷◌, ◌++◌, Bool, true, false, not, cond, Some, None}
use Rattle.std.specs.Prelude.{Option, All}
use Rattle.std.specs.List.{list_all}
use Rattle.std.specs.Option.{option_map}
use Rattle.wcv_core.specs.Names.{Name}
use Rattle.wcv_types.specs.Tree.{Head, here, label, import, export, core_import, core_export, nothing, primitive, resource, defined, func, instance, component, type_entity, core_module, core_instance, core_type, core_item, node, Parts, none, part, is_nothing, sort}
use Rattle.wcv_lower.specs.Canons.{func_at}
use Rattle.wcv_lower.specs.Checks.{is_none, same_sort}
use Rattle.wcv_lower.specs.Context.{in_funcs, in_values}
use Rattle.wcv_lower.specs.Marks.{value_at, uses_each}
use Rattle.wcv_lower.specs.Owned.{AllEntries}
use Rattle.wcv_lower.specs.Start.{result_joins, start_joins, start_step}
use Rattle.wcv_lower.specs.Step.{Step, appends, marks_value, names_start}
use Rattle.wcv_lower.specs.Trees.{Type_tree, Tree_context, tree_reader, result, unlabelled, if_given}
use Rattle.wcv_lower.proofs.Bringing.{OfAny, any_at, any_mapped, any_cond, AllBring, brings_one, brings_more, uses_bring}
use Rattle.wcv_lower.proofs.Owning.{Inherited}

module _ {P : Type_tree → Type 0} {In : Parts Name Name → Type 0} (law : Inherited P In) (New : Name → Type 0) where
  -- ## What a function gives

  given_has : (t : Type_tree) → P t → OfAny P (if_given t)
  given_has t w = go (same_sort is_nothing (sort t))
    where
      go : (b : Bool) → OfAny P (cond b None (Some t))
      go true = tt
      go false = w

  unlabelled_has : (ps : Parts Name Name) → In ps → OfAny P (unlabelled ps)
  unlabelled_has none w = tt
  unlabelled_has (part here t ps) w = given_has t (law.first here t ps w)
  unlabelled_has (part (label n) t ps) w = unlabelled_has ps (law.rest (label n) t ps w)
  unlabelled_has (part (import n) t ps) w = unlabelled_has ps (law.rest (import n) t ps w)
  unlabelled_has (part (export n) t ps) w = unlabelled_has ps (law.rest (export n) t ps w)
  unlabelled_has (part (core_import m n) t ps) w = unlabelled_has ps (law.rest (core_import m n) t ps w)
  unlabelled_has (part (core_export n) t ps) w = unlabelled_has ps (law.rest (core_export n) t ps w)

  result_has : (t : Type_tree) → P t → OfAny P (result t)
  result_has (node (func i b) ps) w = unlabelled_has ps (law.inner (func i b) ps w)
  result_has (node nothing ps) w = tt
  result_has (node (primitive p) ps) w = tt
  result_has (node (resource r s) ps) w = tt
  result_has (node (defined i k) ps) w = tt
  result_has (node (instance i own) ps) w = tt
  result_has (node (component i ins outs) ps) w = tt
  result_has (node type_entity ps) w = tt
  result_has (node (core_module i n) ps) w = tt
  result_has (node (core_instance i n) ps) w = tt
  result_has (node (core_type i) ps) w = tt
  result_has (node (core_item x) ps) w = tt

  -- ## Steps

  result_brings : (o : Option Type_tree) → OfAny P o → AllBring P New (names_start ∷ result_joins {X = tree_reader} o)
  result_brings None w = brings_one P New names_start tt
  result_brings (Some x) w = brings_more P New names_start (appends in_values x ∷ marks_value false ∷ []) tt (brings_more P New (appends in_values x) (marks_value false ∷ []) w (brings_one P New (marks_value false) tt))

  start_brings : (args : List ℕ) (x : Type_tree) → P x → AllBring P New (start_joins {X = tree_reader} args x)
  start_brings args x w = uses_bring P New args (names_start ∷ result_joins (result x)) (result_brings (result x) (result_has x w))

  module _ (c : Tree_context) (all : AllEntries P c) where
    pub starts_bring : (f : ℕ) (args : List ℕ) → OfAny (AllBring P New) (start_step {X = tree_reader} c f args)
    starts_bring f args = go (list_all (λ k. not (is_none (value_at c k))) args)
      where
        go : (b : Bool) → OfAny (AllBring P New) (cond b (option_map (start_joins args) (func_at {X = tree_reader} c f)) None)
        go true = any_mapped P (AllBring P New) (start_joins args) (start_brings args) (func_at {X = tree_reader} c f) (any_at P (c.space in_funcs) f (all.space in_funcs))
        go false = tt
