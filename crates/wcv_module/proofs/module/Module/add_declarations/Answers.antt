use Rattle.std.proofs.Common.{◌≡◌, ℕ, List, [], length, map, Some, sym, ◌∙◌, ap, arith, subst}
use Rattle.std.specs.Vec.Iter.{into_iter_items}
use Rattle.std.proofs.lemmas.List.{nil_from_length}
use Rattle.std.proofs.lemmas.Result.{err_from_is_err_and, on_ok_weaker, IfErr-weaker}
use Rattle.wcv_core.specs.Checks.{IsFree, MemoryOrCausedBy}
use Rattle.wcv_core.specs.CoreForm.{Group}
use Rattle.wcv_core.specs.CoreWritten.{Core_entry}
use Rattle.wcv_syntax.specs.Model.{Module_decl}
use Rattle.wcv_syntax.specs.ModuleTypes.{Module_type, decl_checks, declared}
use Rattle.wcv_module.proofs.Declaring.{IsSoFar, decl_none, decl_next, decl_caused}
use Rattle.wcv_types.proofs.Grown.{extends_refl, extends_trans}
use Rattle.wcv_module.proofs.Growing.{core_same, core_on, extended}
use Rattle.wcv_module.proofs.module.Module.add_declarations.Goals as goal

pub loop-decl-init : goal.loop-decl-init
loop-decl-init g c =
    let form = g.D.ModuleDeclaration.form in
    let outers = g.O.OuterTypes.spaces c.args.outers.now in
    let ds = map form c.args.decls.items in
    let items = ap (map form) c.into_iter-decl-iterator.ensures.into_iter_gives.0 in
    record {
      so_far =
          subst (λ (xs : List Module_decl). IsSoFar outers c.args.types.now.core c.args.types.now.core c.args.self.now c.args.self.now ds xs) (sym items)
          (decl_none outers c.args.types.now.core c.args.self.now ds c.requires.known c.requires.around c.requires.counted);
      rest = core_same c.args.types.now;
      grown = extends_refl c.args.types.now;
      left = search;
    }

pub returns-in_err-add_declaration-clause-cause : goal.returns-in_err-add_declaration-clause-cause
returns-in_err-add_declaration-clause-cause g c =
    let p = err_from_is_err_and c.from_residual.result c.from_residual.ensures.1 in
    let form = g.D.ModuleDeclaration.form in
    let outers = g.O.OuterTypes.spaces c.args.outers.now in
    let ds = map form c.args.decls.items in
    let steps = ap (map form) c.in-Some.ensures.steps.0 in
    let so_far = subst (λ (xs : List Module_decl). IsSoFar outers c.args.types.now.core c.loop-decl.types.core c.args.self.now c.loop-decl.self ds xs) steps c.loop-decl.invariant.so_far in
    let cause = subst (λ (d : Module_decl). MemoryOrCausedBy (decl_checks outers c.loop-decl.types.core c.loop-decl.self d) c.args.offset c.in_err-add_declaration.field-0.0) c.into_type_declaration.ensures c.in_err-add_declaration.ensures.cause in
    rw (p.1, p.2)
    (decl_caused outers c.args.types.now.core c.loop-decl.types.core c.args.self.now c.loop-decl.self ds (form c.in-Some.decl) (map form (into_iter_items c.next.new.self)) c.args.offset c.in_err-add_declaration.field-0.0 so_far cause)

pub loop-decl-preserved : goal.loop-decl-preserved
loop-decl-preserved g c =
    let form = g.D.ModuleDeclaration.form in
    let outers = g.O.OuterTypes.spaces c.args.outers.now in
    let ds = map form c.args.decls.items in
    let steps = ap (map form) c.in-Some.ensures.steps.0 in
    let so_far = subst (λ (xs : List Module_decl). IsSoFar outers c.args.types.now.core c.loop-decl.types.core c.args.self.now c.loop-decl.self ds xs) steps c.loop-decl.invariant.so_far in
    let made = subst (λ (d : Module_decl). declared outers c.loop-decl.types.core c.loop-decl.self d ≡ Some (c.add_declaration.new.types.core, c.add_declaration.new.self)) c.into_type_declaration.ensures c.in_ok-add_declaration.ensures.ok in
    let free = subst (λ (d : Module_decl). IsFree (decl_checks outers c.loop-decl.types.core c.loop-decl.self d)) c.into_type_declaration.ensures c.in_ok-add_declaration.ensures.free in
    record {
      so_far =
          decl_next outers c.args.types.now.core c.loop-decl.types.core c.add_declaration.new.types.core c.args.self.now c.loop-decl.self c.add_declaration.new.self ds (form c.in-Some.decl) (map form (into_iter_items c.next.new.self))
          so_far made free c.add_declaration.ensures.known (extended c.loop-decl.types c.add_declaration.new.types c.add_declaration.ensures.grown);
      rest = core_on c.args.types.now c.loop-decl.types c.add_declaration.new.types c.loop-decl.invariant.rest c.add_declaration.ensures.rest;
      grown = extends_trans c.args.types.now c.loop-decl.types c.add_declaration.new.types c.loop-decl.invariant.grown c.add_declaration.ensures.grown;
      left =
          let gone = c.in-Some.ensures.steps.1 in
          let short = ap length c.in-Some.ensures.steps.0 in
          let before = c.loop-decl.invariant.left in
          omega arith;
    }

-- no declaration is left
ended : {A : Type 0} (f : A → Module_decl) (xs : List A) (n : ℕ) → n ≡ length xs → n ≡ 0 → [] ≡ map f xs
ended f xs n e z = sym (ap (map f) (nil_from_length xs (sym e ∙ z)))

-- none is left, so that what is left to look at is the whole
module _ {A : Type 0} (f : A → Module_decl) (outers : List (List Core_entry)) (gs hs : List Group) (m p : Module_type) (ds : List Module_decl) (rest : List A) (none : [] ≡ map f rest) (s : IsSoFar outers gs hs m p ds (map f rest)) where
  all_read : IsSoFar outers gs hs m p ds []
  all_read = subst (IsSoFar outers gs hs m p ds) (sym none) s

pub returns-clause-ok : goal.returns-clause-ok
returns-clause-ok g c =
    let outers = g.O.OuterTypes.spaces c.args.outers.now in
    let form = g.D.ModuleDeclaration.form in
    let rest = into_iter_items c.loop-decl.decl-iterator in
    let s = all_read form outers c.args.types.now.core c.loop-decl.types.core c.args.self.now c.loop-decl.self (map form c.args.decls.items) rest (ended form rest _ c.loop-decl.invariant.left c.in-None.ensures.steps.0) c.loop-decl.invariant.so_far in
    on_ok_weaker c.check_whole.result (λ w. s.made) c.check_whole.ensures.free

pub returns-clause-free : goal.returns-clause-free
returns-clause-free g c =
    let outers = g.O.OuterTypes.spaces c.args.outers.now in
    let form = g.D.ModuleDeclaration.form in
    let rest = into_iter_items c.loop-decl.decl-iterator in
    let s = all_read form outers c.args.types.now.core c.loop-decl.types.core c.args.self.now c.loop-decl.self (map form c.args.decls.items) rest (ended form rest _ c.loop-decl.invariant.left c.in-None.ensures.steps.0) c.loop-decl.invariant.so_far in
    on_ok_weaker c.check_whole.result s.free c.check_whole.ensures.free

pub returns-clause-known : goal.returns-clause-known
returns-clause-known g c = on_ok_weaker c.check_whole.result (λ w. c.loop-decl.invariant.so_far.known) c.check_whole.ensures.free

pub returns-clause-counted : goal.returns-clause-counted
returns-clause-counted g c = on_ok_weaker c.check_whole.result (λ w. c.loop-decl.invariant.so_far.counted) c.check_whole.ensures.free

pub returns-clause-cause : goal.returns-clause-cause
returns-clause-cause g c =
    let outers = g.O.OuterTypes.spaces c.args.outers.now in
    let form = g.D.ModuleDeclaration.form in
    let rest = into_iter_items c.loop-decl.decl-iterator in
    let s = all_read form outers c.args.types.now.core c.loop-decl.types.core c.args.self.now c.loop-decl.self (map form c.args.decls.items) rest (ended form rest _ c.loop-decl.invariant.left c.in-None.ensures.steps.0) c.loop-decl.invariant.so_far in
    IfErr-weaker c.check_whole.result _ _ (s.caused c.args.offset) c.check_whole.ensures.cause
