use Rattle.std.proofs.Common.{◌≡◌, [], ◌∷◌, ap, subst, sym}
use Rattle.std.specs.Prelude.{List, Option, Vec}
use Rattle.std.specs.declared.alloc.Global.{Global}
use Rattle.std.proofs.lemmas.Result.{err_from_is_err_and}
use Rattle.wcv_core.specs.declared.features.WasmFeatures.{WasmFeatures}
use Rattle.wcv_syntax.specs.Model.{Func_form}
use Rattle.wcv_syntax.specs.View.{func_view}
use Rattle.wcv_types.specs.Arena.{Arena}
use Rattle.wcv_types.specs.Tree.{Text, here}
use Rattle.wcv_types.specs.declared.shapes.ComponentFuncType.{ComponentFuncType}
use Rattle.wcv_types.specs.declared.shapes.ComponentValType.{ComponentValType}
use Rattle.wcv_types.specs.Unfold.{option_slot, field_slots, slot_tree, trees}
use Rattle.wcv_lower.specs.Checks.{if_found}
use Rattle.wcv_lower.specs.Trees.{Tree_context, tree_reader}
use Rattle.wcv_lower.specs.Defined.{has_borrow}
use Rattle.wcv_lower.specs.Types.{func_parts}
use Rattle.wcv_lower.specs.Values.{option_entry, parts_checks}
use Rattle.wcv_lower.proofs.Causes.{free_both}
use Rattle.wcv_spaces.specs.Contents.{context_of}
use Rattle.wcv_decls.specs.Resolved.{AreSlots}
use Rattle.wcv_decls.proofs.Functions.{func_slots, func_free, params_caused, gives_caused, behind_caused}
use Rattle.wcv_decls.proofs.Shapes.{found_free, found_caused}
use Rattle.wcv_decls.proofs.func.resolve_func.Goals as goal

pub returns-in_err-params-clause-err : goal.returns-in_err-params-clause-err
returns-in_err-params-clause-err c =
    let p = err_from_is_err_and c.from_residual.result c.from_residual.ensures.1 in
    let f : Func_form = func_view c.args.func in
    let x : Tree_context = context_of c.args.types.now c.args.state.now in
    rw (p.1, p.2) (params_caused c.args.state.now.features x f (if_found (has_borrow tree_reader) (option_entry x f.result)) c.args.offset c.in_err-params.field-0.0 c.in_err-params.ensures.err)

pub returns-in_err-gives-clause-err : goal.returns-in_err-gives-clause-err
returns-in_err-gives-clause-err c =
    let p = err_from_is_err_and c.from_residual-in_err-gives.result c.from_residual-in_err-gives.ensures.1 in
    let f : Func_form = func_view c.args.func in
    let x : Tree_context = context_of c.args.types.now c.args.state.now in
    rw (p.1, p.2) (gives_caused c.args.state.now.features x f (if_found (has_borrow tree_reader) (option_entry x f.result)) c.args.offset c.in_err-gives.field-0.0 c.in_err-gives.ensures.err)

pub returns-in_err-check_borrow-clause-err : goal.returns-in_err-check_borrow-clause-err
returns-in_err-check_borrow-clause-err c =
    let p = err_from_is_err_and c.from_residual-in_err-check_borrow.result c.from_residual-in_err-check_borrow.ensures.1 in
    let f : Func_form = func_view c.args.func in
    let a : Arena = c.args.types.now in
    let x : Tree_context = context_of a c.args.state.now in
    rw (p.1, p.2) (behind_caused c.args.state.now.features x f (if_found (has_borrow tree_reader) (option_entry x f.result)) c.args.offset c.in_err-check_borrow.field-0.0
    (found_caused a x c.args.state.now.features (has_borrow tree_reader) (option_entry x f.result) (slot_tree (trees a.nodes) (option_slot c.in_ok-gives.gives)) c.args.offset c.in_err-check_borrow.field-0.0 c.in_ok-gives.ensures.ok.tree c.in_err-check_borrow.ensures.err))

pub over-requires : goal.over-requires
over-requires c =
    (func_slots c.args.types.now (context_of c.args.types.now c.args.state.now) (func_view c.args.func) c.in_ok-params.params.items c.in_ok-gives.gives c.in_ok-params.ensures.ok c.in_ok-gives.ensures.ok).stands

is_shape : (a : Arena) (x : Tree_context) (f : Func_form) (fs : List (Text × ComponentValType)) (v : Option ComponentValType) (s : ComponentFuncType) → s.params.items ≡ fs → s.result ≡ v → AreSlots a x (func_parts f) (field_slots fs ((here, option_slot v) ∷ [])) →
    AreSlots a x (func_parts f) (field_slots s.params.items ((here, option_slot s.result) ∷ []))
is_shape a x f fs v s e g h =
    subst (λ gs. AreSlots a x (func_parts f) (field_slots gs ((here, option_slot s.result) ∷ []))) (sym e) (subst (λ w. AreSlots a x (func_parts f) (field_slots fs ((here, option_slot w) ∷ []))) (sym g) h)

pub returns-clause-ok : goal.returns-clause-ok
returns-clause-ok c =
    let a : Arena = c.args.types.now in
    let x : Tree_context = context_of a c.args.state.now in
    let f : Func_form = func_view c.args.func in
    record {
      async = c.over.ensures.mark;
      slots = is_shape a x f c.in_ok-params.params.items c.in_ok-gives.gives c.over.result (ap (λ (v : Vec (Text × ComponentValType) Global). v.items) c.over.ensures.params) c.over.ensures.gives (func_slots a x f c.in_ok-params.params.items c.in_ok-gives.gives c.in_ok-params.ensures.ok c.in_ok-gives.ensures.ok);
    }

pub returns-clause-free : goal.returns-clause-free
returns-clause-free c =
    let a : Arena = c.args.types.now in
    let x : Tree_context = context_of a c.args.state.now in
    let fs : WasmFeatures = c.args.state.now.features in
    let f : Func_form = func_view c.args.func in
    free_both (parts_checks fs x (func_parts f)) (if_found (has_borrow tree_reader) (option_entry x f.result)) (func_free fs x f c.in_ok-params.ensures.free c.in_ok-gives.ensures.free)
    (found_free a x fs (has_borrow tree_reader) (option_entry x f.result) (slot_tree (trees a.nodes) (option_slot c.in_ok-gives.gives)) c.in_ok-gives.ensures.ok.tree c.in_ok-check_borrow.ensures.ok)
