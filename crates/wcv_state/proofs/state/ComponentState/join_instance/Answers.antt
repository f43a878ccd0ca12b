use Rattle.std.proofs.Common.{◌++◌, ◌∙◌, false, refl, sym, ap, subst, inl, inr, length}
use Rattle.std.proofs.lemmas.List.{append-nil}
use Rattle.wcv_types.specs.declared.ids.ComponentInstanceTypeId.{ComponentInstanceTypeId}
use Rattle.std.specs.Prelude.{List}
use Rattle.wcv_lower.specs.Context.{unknown}
use Rattle.wcv_spaces.specs.Bringing.{Paths, AreNewIn}
use Rattle.wcv_spaces.specs.Contents.{Contents}
use Rattle.wcv_state.specs.Inside.{contents_of}
use Rattle.wcv_spaces.specs.Parts.{lists}
use Rattle.wcv_spaces.proofs.BroughtPaths.{all_taken}
use Rattle.wcv_state.proofs.InstanceJoins.{instance_joined, instance_keeps}
use Rattle.wcv_state.proofs.state.ComponentState.join_instance.Goals as goal

pub returns-in_err-append-clause-keeps : goal.returns-in_err-append-clause-keeps
returns-in_err-append-clause-keeps c =
    instance_keeps c.args.types.now c.args.self.now (contents_of c.self.inside) _ _ _ c.args.new.now.ty c.args.new.now.resources 0 c.self.view_is c.requires.stands c.requires.instance c.requires.resources
    (inl (ap (λ (l : List ComponentInstanceTypeId). record (lists c.self.inside.spaces) { instances = l }) c.in_err-append.ensures.err)) (sym (append-nil c.self.inside.defined_resources))

pub export_resources-requires : goal.export_resources-requires
export_resources-requires c = subst (λ (z : Contents). AreNewIn z.defined_resources c.args.new.now.resources) (sym c.self.view_is) c.requires.fresh

pub returns-in_err-export_resources-clause-keeps : goal.returns-in_err-export_resources-clause-keeps
returns-in_err-export_resources-clause-keeps c =
    instance_keeps c.args.types.now c.args.self.now (contents_of c.self.inside) _ _ _ c.args.new.now.ty c.args.new.now.resources c.in_err-export_resources.ensures.err.0 c.self.view_is c.requires.stands c.requires.instance c.requires.resources
    (inr (ap (λ (l : List ComponentInstanceTypeId). record (lists c.self.inside.spaces) { instances = l }) c.in_ok-append.ensures.ok)) c.in_err-export_resources.ensures.err.1

pub returns-clause-keeps : goal.returns-clause-keeps
returns-clause-keeps c =
    instance_keeps c.args.types.now c.args.self.now (contents_of c.self.inside) _ _ _ c.args.new.now.ty c.args.new.now.resources (length c.args.new.now.resources) c.self.view_is c.requires.stands c.requires.instance c.requires.resources
    (inr (ap (λ (l : List ComponentInstanceTypeId). record (lists c.self.inside.spaces) { instances = l }) c.in_ok-append.ensures.ok))
    (c.in_ok-export_resources.ensures.ok ∙ ap (λ (l : Paths). c.self.inside.defined_resources ++ unknown l) (all_taken c.args.new.now.resources))

pub returns-clause-ok : goal.returns-clause-ok
returns-clause-ok c = record {
  joined = λ outer.
      instance_joined c.args.types.now c.args.self.now (contents_of c.self.inside) _ c.args.new.now _ false c.self.view_is (ap (λ (l : List ComponentInstanceTypeId). record (lists c.self.inside.spaces) { instances = l }) c.in_ok-append.ensures.ok) c.in_ok-export_resources.ensures.ok outer;
  live = refl;
}
