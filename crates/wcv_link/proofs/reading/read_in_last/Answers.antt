use Rattle.std.proofs.Common.{◌≡◌, ℕ, ◌-◌, ◌∙◌, List, length, ap}
use Rattle.std.proofs.lemmas.Result.{on_ok_weaker, IfErr-weaker}
use Rattle.wcv_syntax.specs.Model.{Form}
use Rattle.wcv_syntax.specs.View.{section_view}
use Rattle.wcv_spaces.specs.Contents.{Contents}
use Rattle.wcv_link.proofs.Open.{last_open, last_may_open, last_may_instantiate, accepts_last, refuses_last}
use Rattle.wcv_link.proofs.Steps.{other, one_step}
use Rattle.wcv_link.proofs.reading.read_in_last.Goals as goal

pub read_entry-requires-clause-open : goal.read_entry-requires-clause-open
read_entry-requires-clause-open c =
    let ss : List Contents = c.args.components.now.items in
    let k : ℕ = c.len-last.result - 1 in
    let last : k ≡ length ss - 1 = ap (λ (n : ℕ). n - 1) (c.len-last.ensures ∙ c.args.components.now.ok.0) in
    last_open c.args.types.now ss k c.index_mut.result.now last c.index_mut.ensures.value c.requires.ready

pub read_entry-requires-clause-opens : goal.read_entry-requires-clause-opens
read_entry-requires-clause-opens c =
    let ss : List Contents = c.args.components.now.items in
    let k : ℕ = c.len-last.result - 1 in
    let last : k ≡ length ss - 1 = ap (λ (n : ℕ). n - 1) (c.len-last.ensures ∙ c.args.components.now.ok.0) in
    last_may_open c.args.types.now ss k c.index_mut.result.now last c.index_mut.ensures.value c.requires.ready

pub read_entry-requires-clause-makes : goal.read_entry-requires-clause-makes
read_entry-requires-clause-makes c =
    let ss : List Contents = c.args.components.now.items in
    let k : ℕ = c.len-last.result - 1 in
    let last : k ≡ length ss - 1 = ap (λ (n : ℕ). n - 1) (c.len-last.ensures ∙ c.args.components.now.ok.0) in
    last_may_instantiate c.args.types.now ss k c.index_mut.result.now last c.index_mut.ensures.value c.requires.ready c.requires.makes

pub returns-clause-ok : goal.returns-clause-ok
returns-clause-ok c =
    let ss : List Contents = c.args.components.now.items in
    let k : ℕ = c.len-last.result - 1 in
    let last : k ≡ length ss - 1 = ap (λ (n : ℕ). n - 1) (c.len-last.ensures ∙ c.args.components.now.ok.0) in
    let f : Form = section_view c.args.section in
    on_ok_weaker c.read_entry.result
    (λ w. accepts_last c.args.types.now c.read_entry.new.types ss k c.index_mut.result.now c.read_entry.new.state last c.index_mut.ensures.value c.requires.ready f (one_step f (other f c.requires.kind)) c.nodes_fit.ensures.all w)
    c.read_entry.ensures.ok

pub returns-clause-err : goal.returns-clause-err
returns-clause-err c =
    let ss : List Contents = c.args.components.now.items in
    let k : ℕ = c.len-last.result - 1 in
    let last : k ≡ length ss - 1 = ap (λ (n : ℕ). n - 1) (c.len-last.ensures ∙ c.args.components.now.ok.0) in
    IfErr-weaker c.read_entry.result _ _
    (λ e w. refuses_last c.args.types.now c.read_entry.new.types ss k c.index_mut.result.now last c.requires.ready.some c.index_mut.ensures.value (section_view c.args.section) c.args.offset e w)
    c.read_entry.ensures.err
