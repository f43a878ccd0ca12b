use Rattle.std.proofs.Common.{bytes_eq, subst, sym, []}
use Rattle.std.specs.List.{IsDistinct}
use Rattle.wcv_types.proofs.Grown.{extends_refl, extends_trans}
use Rattle.wcv_instantiate.proofs.Exporter.{all_absent, opened_hygienic, opened_stand, sound_opened}
use Rattle.wcv_instantiate.proofs.ExportsAnew.{all_stand, same_names}
use Rattle.wcv_instantiate.proofs.Instantiated.{component_made}
use Rattle.wcv_instantiate.proofs.NewResources.{same_grown}
use Rattle.wcv_instantiate.proofs.instantiations.made_under.Goals as goal

pub replace_resources-requires : goal.replace_resources-requires
replace_resources-requires g c = all_absent c.args.types.now c.args.types.now c.args.component c.args.args.now c.in_ok-old.old c.args.map.now c.args.map.now [] c.in_ok-old.ensures c.requires.may c.requires.opens

pub remapped_exports-requires-clause-stand : goal.remapped_exports-requires-clause-stand
remapped_exports-requires-clause-stand g c = opened_stand c.args.types.now c.replace_resources.new.types c.args.component c.in_ok-old.old c.in_ok-old.ensures c.replace_resources.ensures.grown

pub remapped_exports-requires-clause-sound : goal.remapped_exports-requires-clause-sound
remapped_exports-requires-clause-sound g c =
    sound_opened c.args.types.now c.replace_resources.new.types c.args.component c.args.args.now c.in_ok-old.old c.args.map.now c.replace_resources.new.map c.in_ok-resources.resources c.in_ok-old.ensures c.requires.may c.requires.opens c.in_ok-resources.ensures.ok c.replace_resources.ensures.grown

pub remapped_exports-requires-clause-hygienic : goal.remapped_exports-requires-clause-hygienic
remapped_exports-requires-clause-hygienic g c =
    opened_hygienic c.args.types.now c.replace_resources.new.types c.args.component c.args.args.now c.in_ok-old.old c.args.map.now c.replace_resources.new.map c.in_ok-resources.resources c.in_ok-old.ensures c.requires.may c.requires.opens c.in_ok-resources.ensures.ok c.replace_resources.ensures.grown

pub push_instance-requires-clause-apart : goal.push_instance-requires-clause-apart
push_instance-requires-clause-apart g c =
    subst (IsDistinct bytes_eq) (sym (same_names c.replace_resources.new.types c.remapped_exports.new.types c.remapped_exports.new.map c.in_ok-old.old.exports c.in_ok-exports.exports c.in_ok-exports.ensures.ok.each)) c.in_ok-old.ensures.apart

pub push_instance-requires-clause-stand : goal.push_instance-requires-clause-stand
push_instance-requires-clause-stand g c = all_stand c.replace_resources.new.types c.remapped_exports.new.types c.remapped_exports.new.map c.in_ok-old.old.exports c.in_ok-exports.exports c.in_ok-exports.ensures.ok.each

pub returns-in_err-old-clause-grown : goal.returns-in_err-old-clause-grown
returns-in_err-old-clause-grown g c = extends_refl _

pub returns-in_err-exports-clause-grown : goal.returns-in_err-exports-clause-grown
returns-in_err-exports-clause-grown g c = extends_trans _ _ _ c.replace_resources.ensures.grown c.remapped_exports.ensures.grown

pub returns-in_err-ty-clause-grown : goal.returns-in_err-ty-clause-grown
returns-in_err-ty-clause-grown g c = extends_trans _ _ _ (extends_trans _ _ _ c.replace_resources.ensures.grown c.remapped_exports.ensures.grown) (same_grown _ _ c.in_err-ty.ensures.err)

pub returns-clause-grown : goal.returns-clause-grown
returns-clause-grown g c = extends_trans _ _ _ (extends_trans _ _ _ c.replace_resources.ensures.grown c.remapped_exports.ensures.grown) c.in_ok-ty.ensures.ok.grown

pub returns-clause-ok : goal.returns-clause-ok
returns-clause-ok g c =
    component_made c.args.types.now c.replace_resources.new.types c.remapped_exports.new.types c.push_instance.new.types c.args.component c.in_ok-ty.ty c.args.args.now c.in_ok-old.old c.args.map.now c.replace_resources.new.map c.remapped_exports.new.map c.in_ok-resources.resources c.in_ok-exports.exports
    c.requires.stands c.names_given.ensures c.in_ok-old.ensures c.requires.may c.requires.opens c.replace_resources.ensures.grown c.in_ok-resources.ensures.ok c.in_ok-exports.ensures.ok c.entries_differ.ensures c.in_ok-ty.ensures.ok
