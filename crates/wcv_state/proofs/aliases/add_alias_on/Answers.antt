use Rattle.std.proofs.Common.{◌≡◌, ℕ, ◌-◌, length, slice_index_or, refl}
use Rattle.std.proofs.lemmas.Result.{on_ok_weaker, IfErr-weaker}
use Rattle.wcv_spaces.specs.Contents.{Contents}
use Rattle.wcv_state.proofs.OuterCalls.{inside_aliases, inside_refused, outer_refused}
use Rattle.wcv_state.proofs.Stacks.{last_becomes, kept_on}
use Rattle.wcv_state.proofs.aliases.add_alias_on.Goals as goal

pub returns-in-Outer-clause-err : goal.returns-in-Outer-clause-err
returns-in-Outer-clause-err c =
    IfErr-weaker c.add_outer_alias.result _ _ (λ e t. outer_refused c.args.types.now c.args.components.now c.in-Outer.kind c.in-Outer.count c.in-Outer.index c.args.alias c.args.offset e c.requires.some c.in-Outer.is t) c.add_outer_alias.ensures.err

pub returns-in_default-clause-ok : goal.returns-in_default-clause-ok
returns-in_default-clause-ok c =
    let ss = c.args.components.now in
    let k : ℕ = length ss - 1 in
    let r = c.index-components-last.result in
    let s : Contents = slice_index_or ss k r in
    let at : s ≡ slice_index_or ss k s = cc (c.index-components-last.is) in
    on_ok_weaker c.add_alias_here.result (λ g. inside_aliases c.args.types.now ss k s c.requires.some refl at c.args.alias c.add_alias_here.new.self g) c.add_alias_here.ensures.ok

pub returns-in_default-clause-err : goal.returns-in_default-clause-err
returns-in_default-clause-err c =
    let ss = c.args.components.now in
    let k : ℕ = length ss - 1 in
    let r = c.index-components-last.result in
    let s : Contents = slice_index_or ss k r in
    let at : s ≡ slice_index_or ss k s = cc (c.index-components-last.is) in
    IfErr-weaker c.add_alias_here.result _ _ (λ e h. inside_refused c.args.types.now ss k s c.requires.some refl at c.args.alias c.args.offset e h) c.add_alias_here.ensures.err

pub returns-in_default-clause-last : goal.returns-in_default-clause-last
returns-in_default-clause-last c =
    let ss = c.args.components.now in
    let k : ℕ = length ss - 1 in
    let r = c.index-components-last.result in
    let s : Contents = slice_index_or ss k r in
    let at : s ≡ slice_index_or ss k s = cc (c.index-components-last.is) in
    IfErr-weaker c.add_alias_here.result _ _ (λ e h. last_becomes ss k s c.add_alias_here.new.self refl c.requires.some at) c.add_alias_here.ensures.err

pub returns-in_default-clause-keeps : goal.returns-in_default-clause-keeps
returns-in_default-clause-keeps c =
    let ss = c.args.components.now in
    let k : ℕ = length ss - 1 in
    let r = c.index-components-last.result in
    let s : Contents = slice_index_or ss k r in
    let at : s ≡ slice_index_or ss k s = cc (c.index-components-last.is) in
    kept_on ss k s c.add_alias_here.new.self refl c.requires.some at c.args.types.now c.args.types.now c.requires.open c.add_alias_here.ensures.keeps
