use Rattle.std.proofs.Common.{arith, rules, ◌≡◌, ◌++◌, ◌∷◌, [], List, Some, None, sym, ◌∙◌, ap, subst}
use Rattle.std.specs.BTreeMap.{Updates}
use Rattle.wcv_core.specs.CoreForm.{Group, group_form}
use Rattle.wcv_core.specs.CoreGroups.{id_of, total}
use Rattle.wcv_core.specs.CoreTable.{AreCoded, code_order}
use Rattle.wcv_core.proofs.Finding.{coded-append}
use Rattle.wcv_core.proofs.Rowing.{total-append}
use Rattle.wcv_core.proofs.core_table.CoreTypes.check_new.Goals as goal

pub invariant_of-self-in-Ok-insert : goal.invariant_of-self-in-Ok-insert
invariant_of-self-in-Ok-insert c =
    let gs : List Group = c.self.inside.rows in
    let g : Group = group_form c.args.group in
    let none : id_of gs g ≡ None = ap (λ (xs : List Group). id_of xs g) c.self.view_is ∙ c.requires.absent in
    let u : Updates code_order c.self.inside.codes c.insert.new.self c.args.code (Some c.len-first.result) = search rules in
    subst (λ (xs : List Group). AreCoded xs c.insert.new.self) (sym c.in-Ok-push_checked.ensures.ok) (coded-append gs c.self.inside.codes c.insert.new.self g c.args.code c.len-first.result c.self.invariant c.requires.code c.len-first.ensures.value none u)

pub returns-in-Ok-insert-clause-room : goal.returns-in-Ok-insert-clause-room
returns-in-Ok-insert-clause-room c =
    let gs : List Group = c.self.inside.rows in
    let g : Group = group_form c.args.group in
    let t : total c.push_checked.new.self ≡ total (gs ++ g ∷ []) = ap total c.in-Ok-push_checked.ensures.ok in
    let v : total c.self.inside.rows ≡ total c.args.self.now = ap total c.self.view_is in
    omega (arith, total-append gs g)
