use Rattle.wcv_remap.proofs.Given.{sound_given}
use Rattle.wcv_remap.proofs.a_map_of_given_types_is_sound.Goals as goal

pub returns : goal.returns
returns c = sound_given
