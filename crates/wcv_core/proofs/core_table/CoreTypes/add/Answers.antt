use Rattle.std.proofs.Common.{◌≡◌, List, [], ◌∷◌, ◌++◌, Some, None, sym, ◌∙◌, ap, subst, rules}
use Rattle.std.specs.BTreeMap.{Updates}
use Rattle.wcv_core.specs.CoreCode.{code_of}
use Rattle.wcv_core.specs.CoreForm.{Group, group_form}
use Rattle.wcv_core.specs.CoreGroups.{id_of, total}
use Rattle.wcv_core.specs.CoreTable.{AreCoded, code_order}
use Rattle.wcv_core.proofs.Finding.{coded-append, found_last}
use Rattle.wcv_core.proofs.core_table.CoreTypes.add.Goals as goal

pub invariant_of-self-in-Ok : goal.invariant_of-self-in-Ok
invariant_of-self-in-Ok c =
    let gs : List Group = c.self.inside.rows in
    let g : Group = group_form c.args.group in
    let e : c.args.code.items ≡ code_of g = c.requires.code in
    let none : id_of gs g ≡ None = ap (λ (xs : List Group). id_of xs g) c.self.view_is ∙ c.requires.absent in
    let f : c.len-first.result ≡ total gs = search rules in
    let u : Updates code_order c.self.inside.codes c.insert.new.self c.args.code (Some c.len-first.result) = search rules in
    let n : c.push.new.self ≡ gs ++ g ∷ [] = search rules in
    subst (λ (xs : List Group). AreCoded xs c.insert.new.self) (sym n) (coded-append gs c.self.inside.codes c.insert.new.self g c.args.code c.len-first.result c.self.invariant e f none u)

pub returns-in-Ok-clause-id : goal.returns-in-Ok-clause-id
returns-in-Ok-clause-id c =
    let gs : List Group = c.self.inside.rows in
    let g : Group = group_form c.args.group in
    let e : c.args.code.items ≡ code_of g = c.requires.code in
    let none : id_of gs g ≡ None = ap (λ (xs : List Group). id_of xs g) c.self.view_is ∙ c.requires.absent in
    let f : c.len-first.result ≡ total gs = search rules in
    let n : c.push.new.self ≡ gs ++ g ∷ [] = search rules in
    ap (λ (xs : List Group). id_of xs g) n ∙ (found_last gs g none ∙ ap Some (sym f))
