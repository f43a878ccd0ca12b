use Rattle.wcv_types.specs.NamedBySet.{handle_of}
use Rattle.wcv_types.specs.Unfold.{former_of}
use Rattle.wcv_types.proofs.ShapeCodes.{form_written}
use Rattle.wcv_types.proofs.shape_codes.form_code.Goals as goal

pub returns : goal.returns
returns c =
    form_written (former_of c.args.shape.now) (handle_of c.args.shape.now) c.names.result.now c.handle.result c.in_ok-code.code c.push_names.new.code c.push_resource.new.code c.names.ensures c.handle.ensures
    c.in_ok-code.ensures.numbers c.in_ok-code.ensures.bytes c.in_ok-push_names.ensures.numbers c.in_ok-push_names.ensures.bytes c.in_ok-push_resource.ensures.numbers c.in_ok-push_resource.ensures.bytes
