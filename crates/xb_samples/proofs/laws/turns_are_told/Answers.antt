use Rattle.xb_samples.proofs.ToldTurns.{turns_are_told}
use Rattle.xb_samples.proofs.laws.turns_are_told.Goals as goal

pub returns : goal.returns
returns c = turns_are_told
