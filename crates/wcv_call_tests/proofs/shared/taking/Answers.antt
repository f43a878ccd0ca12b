use Rattle.std.proofs.Common.{◌≡◌, [], ◌∷◌, ◌++◌, ◌∙◌, ap}
use Rattle.std.specs.Prelude.{Vec}
use Rattle.std.specs.declared.alloc.Global.{Global}
use Rattle.wcv_types.specs.Tree.{Text}
use Rattle.wcv_types.specs.declared.ids.Part.TheVariants as p
use Rattle.wcv_types.specs.declared.shapes.ComponentValType.{ComponentValType}
use Rattle.wcv_types.specs.declared.shapes.ComponentValType.TheVariants as v
use Rattle.wcv_call_tests.proofs.MadeOf.{func_made, param_stands}
use Rattle.wcv_call_tests.proofs.shared.taking.Goals as goal

pub over-function-requires : goal.over-function-requires
over-function-requires c =
    let items : c.push.new.self.items ≡ (c.in_ok-name.name, v.Ty c.args.id) ∷ [] = c.in_ok-push.ensures.items ∙ (λ j. c.new-params.ensures.items j ++ (c.in_ok-name.name, v.Ty c.args.id) ∷ []) in
    param_stands c.args.types.now c.args.id c.in_ok-name.name c.push.new.self.items items (c.requires.stand (p.Defined c.args.id) c.requires.itself)

pub push_ty-requires : goal.push_ty-requires
push_ty-requires c = c.over-function.ensures.fits

pub returns : goal.returns
returns c =
    let items : c.push.new.self.items ≡ (c.in_ok-name.name, v.Ty c.args.id) ∷ [] = c.in_ok-push.ensures.items ∙ (λ j. c.new-params.ensures.items j ++ (c.in_ok-name.name, v.Ty c.args.id) ∷ []) in
    let params : c.over-function.result.params.items ≡ (c.in_ok-name.name, v.Ty c.args.id) ∷ [] = ap (λ (x : Vec (Text × ComponentValType) Global). x.items) c.over-function.ensures.params ∙ items in
    let e = c.in_ok-made.ensures in
    func_made c.args.types.now c.args.id c.in_ok-name.name c.over-function.result params c.over-function.ensures.gives c.push_ty.new.self c.in_ok-made.made e.added e.last e.stands e.tree 20 c.requires
