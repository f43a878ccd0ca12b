use Rattle.std.proofs.Common.{refl}
use Rattle.wcv_lower.proofs.canon_laws.worked_canonical_functions.Goals as goal

pub returns : goal.returns
returns c = record { resource = refl; imported = refl; encodings = refl; sixteen = refl; seventeen = refl; memory = refl; free = refl; wide = refl; barred = refl; spawned = refl; unshared = refl; lifted = refl; signature = refl; returned = refl; thread = refl; slots = refl; stream = refl; future = refl; narrow = refl; started = refl; grows = refl; undefined = refl }
