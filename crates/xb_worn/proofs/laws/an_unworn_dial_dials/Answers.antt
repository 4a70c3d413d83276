use Rattle.xb_worn.proofs.UnwornCalls.{unworn_dials}
use Rattle.xb_worn.proofs.laws.an_unworn_dial_dials.Goals as goal

pub returns : goal.returns
returns c = unworn_dials
