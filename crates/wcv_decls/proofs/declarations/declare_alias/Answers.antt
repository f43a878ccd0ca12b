use Rattle.std.proofs.Common.{◌≡◌, ◌<◌, List, length, sym, subst}
use Rattle.std.specs.Prelude.{All, OnOk, OnErr}
use Rattle.std.proofs.lemmas.Result.{on_ok_weaker, IfErr-weaker}
use Rattle.wcv_core.specs.Names.{Place}
use Rattle.wcv_syntax.specs.Model.{alias_item, alias_decl}
use Rattle.wcv_state.specs.Aliasing.{AliasedOn}
use Rattle.wcv_spaces.specs.Contents.{Contents}
use Rattle.wcv_decls.specs.Declaring.{StayReady, DeclaresInstance, SameAround, ReadsDecl}
use Rattle.wcv_decls.specs.Stack.{IsOpen, RefusedOn, KeepsOn}
use Rattle.wcv_decls.proofs.Outcomes.{marks_where}
use Rattle.wcv_decls.proofs.AliasDecls.{alias_reads, alias_stays, alias_body, alias_refuses, alias_marks}
use Rattle.wcv_decls.proofs.Stacks.{kept_back}
use Rattle.wcv_decls.proofs.declarations.declare_alias.Goals as goal

pub add_alias-requires-clause-some : goal.add_alias-requires-clause-some
add_alias-requires-clause-some c = subst (λ (xs : List Contents). 0 < length xs) (sym c.as_mut_slice.ensures.value) c.requires.ready.some

pub add_alias-requires-clause-open : goal.add_alias-requires-clause-open
add_alias-requires-clause-open c = subst (All (IsOpen c.args.types.now)) (sym c.as_mut_slice.ensures.value) c.requires.ready.each

pub returns-clause-ok : goal.returns-clause-ok
returns-clause-ok c =
    let a = c.args.types.now in
    let b = c.add_alias.new.types in
    let ss : List Contents = c.args.components.now.items in
    let ys : List Contents = c.add_alias.new.components in
    let same : c.as_mut_slice.result.now ≡ ss = c.as_mut_slice.ensures.value in
    let kept : KeepsOn a b ss ys = subst (λ (xs : List Contents). KeepsOn a b xs ys) same c.add_alias.ensures.keeps in
    let back = kept_back a b ss ys _ c.args.components.now.len c.args.components.now.ok.0 kept in
    let t = c.args.alias in
    subst (λ (zs : List Contents). OnOk c.add_alias.result (ReadsDecl a b ss zs (alias_decl t))) (sym back)
    (on_ok_weaker c.add_alias.result (λ f. alias_reads a b ss ys c.requires.ready kept t (subst (λ (xs : List Contents). AliasedOn a b xs ys t) same f)) c.add_alias.ensures.ok)

pub returns-clause-ready : goal.returns-clause-ready
returns-clause-ready c =
    let a = c.args.types.now in
    let b = c.add_alias.new.types in
    let ss : List Contents = c.args.components.now.items in
    let ys : List Contents = c.add_alias.new.components in
    let same : c.as_mut_slice.result.now ≡ ss = c.as_mut_slice.ensures.value in
    let kept : KeepsOn a b ss ys = subst (λ (xs : List Contents). KeepsOn a b xs ys) same c.add_alias.ensures.keeps in
    let back = kept_back a b ss ys _ c.args.components.now.len c.args.components.now.ok.0 kept in
    let t = c.args.alias in
    subst (λ (zs : List Contents). OnOk c.add_alias.result (StayReady b ss zs)) (sym back)
    (on_ok_weaker c.add_alias.result (λ f. alias_stays a b ss ys c.requires.ready kept t (subst (λ (xs : List Contents). AliasedOn a b xs ys t) same f)) c.add_alias.ensures.ok)

pub returns-clause-declares : goal.returns-clause-declares
returns-clause-declares c =
    let a = c.args.types.now in
    let b = c.add_alias.new.types in
    let ss : List Contents = c.args.components.now.items in
    let ys : List Contents = c.add_alias.new.components in
    let same : c.as_mut_slice.result.now ≡ ss = c.as_mut_slice.ensures.value in
    let kept : KeepsOn a b ss ys = subst (λ (xs : List Contents). KeepsOn a b xs ys) same c.add_alias.ensures.keeps in
    let back = kept_back a b ss ys _ c.args.components.now.len c.args.components.now.ok.0 kept in
    let t = c.args.alias in
    subst (λ (zs : List Contents). OnOk c.add_alias.result (DeclaresInstance a ss → DeclaresInstance b zs)) (sym back)
    (on_ok_weaker c.add_alias.result (λ f. alias_body a b ss ys c.requires.ready kept t (subst (λ (xs : List Contents). AliasedOn a b xs ys t) same f)) c.add_alias.ensures.ok)

pub returns-clause-err : goal.returns-clause-err
returns-clause-err c =
    let a = c.args.types.now in
    let b = c.add_alias.new.types in
    let ss : List Contents = c.args.components.now.items in
    let ys : List Contents = c.add_alias.new.components in
    let same : c.as_mut_slice.result.now ≡ ss = c.as_mut_slice.ensures.value in
    let kept : KeepsOn a b ss ys = subst (λ (xs : List Contents). KeepsOn a b xs ys) same c.add_alias.ensures.keeps in
    let t = c.args.alias in
    IfErr-weaker c.add_alias.result _ _ (λ x f. alias_refuses a b ss ys c.requires.ready kept t c.args.offset x (subst (λ (xs : List Contents). (p : Place) → RefusedOn a b p xs ys (alias_item t) c.args.offset x) same f)) c.add_alias.ensures.err

pub returns-clause-around : goal.returns-clause-around
returns-clause-around c =
    let a = c.args.types.now in
    let b = c.add_alias.new.types in
    let ss : List Contents = c.args.components.now.items in
    let ys : List Contents = c.add_alias.new.components in
    let same : c.as_mut_slice.result.now ≡ ss = c.as_mut_slice.ensures.value in
    let kept : KeepsOn a b ss ys = subst (λ (xs : List Contents). KeepsOn a b xs ys) same c.add_alias.ensures.keeps in
    let back = kept_back a b ss ys _ c.args.components.now.len c.args.components.now.ok.0 kept in
    let t = c.args.alias in
    subst (λ (zs : List Contents). OnErr c.add_alias.result (SameAround ss zs)) (sym back)
    (marks_where c.add_alias.result _ (SameAround ss ys) (λ x f. alias_marks a b ss ys c.requires.ready kept t c.args.offset x (subst (λ (xs : List Contents). (p : Place) → RefusedOn a b p xs ys (alias_item t) c.args.offset x) same f)) c.add_alias.ensures.err)

pub returns-clause-keeps : goal.returns-clause-keeps
returns-clause-keeps c =
    let a = c.args.types.now in
    let b = c.add_alias.new.types in
    let ss : List Contents = c.args.components.now.items in
    let ys : List Contents = c.add_alias.new.components in
    let same : c.as_mut_slice.result.now ≡ ss = c.as_mut_slice.ensures.value in
    let kept : KeepsOn a b ss ys = subst (λ (xs : List Contents). KeepsOn a b xs ys) same c.add_alias.ensures.keeps in
    let back = kept_back a b ss ys _ c.args.components.now.len c.args.components.now.ok.0 kept in
    subst (KeepsOn a b ss) (sym back) kept
