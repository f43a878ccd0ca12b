use Rattle.std.proofs.Common.{◌≡◌, ℕ, suc, ◌+◌, ◌-◌, ◌<◌, ◌^◌, length, slice_index_or, slice_set, refl, true, sym, subst, arith}
use Rattle.std.proofs.lemmas.Result.{err_from_is_err_and}
use Rattle.wcv_types.proofs.Grown.{extends_refl}
use Rattle.wcv_spaces.specs.Contents.{Contents}
use Rattle.wcv_spaces.specs.Promises.{Keeps}
use Rattle.wcv_state.specs.Stack.{IsOpen, innermost}
use Rattle.wcv_state.proofs.CoreRoom.{outer_counted}
use Rattle.wcv_spaces.proofs.Keeping.{keeps_marked}
use Rattle.wcv_state.proofs.OuterCalls.{push_keeps, push_aliases, charge_fits, charge_keeps, charge_aliases}
use Rattle.wcv_state.proofs.Stacks.{indexed, around_kept, last_becomes, kept_on}
use Rattle.wcv_state.proofs.outer_aliases.add_outer_alias.Goals as goal

pub returns-in_err-item-clause-keeps : goal.returns-in_err-item-clause-keeps
returns-in_err-item-clause-keeps c = around_kept c.args.types.now c.args.types.now (extends_refl c.args.types.now) c.args.components.now c.requires.open

pub push_aliased-requires-clause-room : goal.push_aliased-requires-clause-room
push_aliased-requires-clause-room c =
    let ss = c.args.components.now in
    let k : ℕ = length ss - 1 in
    let r = c.index-components-last.result in
    let last : slice_index_or ss k r ≡ innermost ss = indexed ss k r c.requires.some refl in
    λ e. subst (λ (s : Contents). length s.spaces.core_types + 1 < 2 ^ 32) (sym last)
    (outer_counted c.args.types.now ss (innermost ss) c.args.kind c.args.count c.args.index c.in_ok-item.item c.in_ok-item.ensures.ok.found c.in_ok-item.ensures.free e)

pub returns-in_err-push_aliased-clause-last : goal.returns-in_err-push_aliased-clause-last
returns-in_err-push_aliased-clause-last c =
    let a = c.args.types.now in
    let ss = c.args.components.now in
    let k : ℕ = length ss - 1 in
    let r = c.index-components-last.result in
    let s : Contents = slice_index_or ss k r in
    let at : s ≡ slice_index_or ss k s = cc (c.index-components-last.is) in
    let q = err_from_is_err_and c.from_residual-in_err-push_aliased.result c.from_residual-in_err-push_aliased.ensures.1 in
    rw q.1 (last_becomes ss k s c.push_aliased.new.self refl c.requires.some at)

pub returns-in_err-push_aliased-clause-keeps : goal.returns-in_err-push_aliased-clause-keeps
returns-in_err-push_aliased-clause-keeps c =
    let a = c.args.types.now in
    let ss = c.args.components.now in
    let k : ℕ = length ss - 1 in
    let r = c.index-components-last.result in
    let s : Contents = slice_index_or ss k r in
    let at : s ≡ slice_index_or ss k s = cc (c.index-components-last.is) in
    let ready : IsOpen a s = c.requires.open k r (omega arith) in
    kept_on ss k s c.push_aliased.new.self refl c.requires.some at a a c.requires.open (subst (Keeps a a s) (sym c.in_err-push_aliased.ensures.err) (keeps_marked a s s true refl ready.stands))

pub returns-then-count-eq0-clause-ok : goal.returns-then-count-eq0-clause-ok
returns-then-count-eq0-clause-ok c =
    let a = c.args.types.now in
    let ss = c.args.components.now in
    let k : ℕ = length ss - 1 in
    let r = c.index-components-last.result in
    let s : Contents = slice_index_or ss k r in
    let at : s ≡ slice_index_or ss k s = cc (c.index-components-last.is) in
    push_aliases a ss c.args.kind c.args.count c.args.index c.in_ok-item.item c.in_ok-item.size k s c.push_aliased.new.self c.requires.some refl at c.in_ok-push_aliased.ensures.ok c.requires.open c.in_ok-item.ensures.ok c.if-count-eq0.true c.in_ok-item.ensures.free

pub returns-then-count-eq0-clause-keeps : goal.returns-then-count-eq0-clause-keeps
returns-then-count-eq0-clause-keeps c =
    let a = c.args.types.now in
    let ss = c.args.components.now in
    let k : ℕ = length ss - 1 in
    let r = c.index-components-last.result in
    let s : Contents = slice_index_or ss k r in
    let at : s ≡ slice_index_or ss k s = cc (c.index-components-last.is) in
    push_keeps a ss c.args.kind c.args.count c.args.index c.in_ok-item.item c.in_ok-item.size k s c.push_aliased.new.self c.requires.some refl at c.in_ok-push_aliased.ensures.ok c.requires.open c.in_ok-item.ensures.ok

pub charge-requires : goal.charge-requires
charge-requires c =
    let a = c.args.types.now in
    let ss = c.args.components.now in
    let k : ℕ = length ss - 1 in
    let r = c.index-components-last.result in
    let s : Contents = slice_index_or ss k r in
    let at : s ≡ slice_index_or ss k s = cc (c.index-components-last.is) in
    let y : Contents = c.push_aliased.new.self in
    let j : ℕ = k - (c.args.count - 1) in
    let u : Contents = slice_index_or (slice_set ss k y) j c.index-components-last-2.result in
    let there : u ≡ slice_index_or (slice_set ss k y) j u = cc (c.index-components-last-2.is) in
    let more : c.args.count ≡ suc (c.args.count - 1) = omega arith in
    charge_fits a ss c.args.kind c.args.count c.args.index c.in_ok-item.item c.in_ok-item.size k s y c.requires.some refl at c.in_ok-push_aliased.ensures.ok c.requires.open c.in_ok-item.ensures.ok (c.args.count - 1) j u more refl there

pub returns-clause-ok : goal.returns-clause-ok
returns-clause-ok c =
    let a = c.args.types.now in
    let ss = c.args.components.now in
    let k : ℕ = length ss - 1 in
    let r = c.index-components-last.result in
    let s : Contents = slice_index_or ss k r in
    let at : s ≡ slice_index_or ss k s = cc (c.index-components-last.is) in
    let y : Contents = c.push_aliased.new.self in
    let j : ℕ = k - (c.args.count - 1) in
    let u : Contents = slice_index_or (slice_set ss k y) j c.index-components-last-2.result in
    let there : u ≡ slice_index_or (slice_set ss k y) j u = cc (c.index-components-last-2.is) in
    let more : c.args.count ≡ suc (c.args.count - 1) = omega arith in
    charge_aliases a ss c.args.kind c.args.count c.args.index c.in_ok-item.item c.in_ok-item.size k s y c.requires.some refl at c.in_ok-push_aliased.ensures.ok c.requires.open c.in_ok-item.ensures.ok (c.args.count - 1) j u more refl there c.charge.new.self c.charge.ensures c.in_ok-item.ensures.free

pub returns-clause-keeps : goal.returns-clause-keeps
returns-clause-keeps c =
    let a = c.args.types.now in
    let ss = c.args.components.now in
    let k : ℕ = length ss - 1 in
    let r = c.index-components-last.result in
    let s : Contents = slice_index_or ss k r in
    let at : s ≡ slice_index_or ss k s = cc (c.index-components-last.is) in
    let y : Contents = c.push_aliased.new.self in
    let j : ℕ = k - (c.args.count - 1) in
    let u : Contents = slice_index_or (slice_set ss k y) j c.index-components-last-2.result in
    let there : u ≡ slice_index_or (slice_set ss k y) j u = cc (c.index-components-last-2.is) in
    let more : c.args.count ≡ suc (c.args.count - 1) = omega arith in
    charge_keeps a ss c.args.kind c.args.count c.args.index c.in_ok-item.item c.in_ok-item.size k s y c.requires.some refl at c.in_ok-push_aliased.ensures.ok c.requires.open c.in_ok-item.ensures.ok (c.args.count - 1) j u more refl there c.charge.new.self c.charge.ensures
