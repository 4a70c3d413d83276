use Rattle.xb_sound.proofs.TapeKeys.{tapes_are_heard}
use Rattle.xb_sound.proofs.laws.tapes_are_heard.Goals as goal

pub returns : goal.returns
returns c = tapes_are_heard
