use Rattle.xb_sound.proofs.HeardMarks.{keyings_are_heard}
use Rattle.xb_sound.proofs.laws.keys_are_heard.Goals as goal

pub returns-clause-keyings : goal.returns-clause-keyings
returns-clause-keyings c = keyings_are_heard
