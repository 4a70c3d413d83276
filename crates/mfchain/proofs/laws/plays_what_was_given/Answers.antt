use Rattle.std.proofs.Common.{ap}
use Rattle.xb_structs.proofs.EntryLines.{all-read-back}
use Rattle.xb_sound.specs.Sounds.{sound_of}
use Rattle.mfchain.proofs.laws.plays_what_was_given.Goals as goal

pub returns : goal.returns
returns c = λ cadence given. ap (sound_of cadence) (all-read-back given)
