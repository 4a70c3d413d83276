use Rattle.xb_register.proofs.PlainStates.{states_come_back}
use Rattle.xb_register.proofs.laws.states_come_back.Goals as goal

pub returns : goal.returns
returns c = λ phase room. states_come_back phase room
