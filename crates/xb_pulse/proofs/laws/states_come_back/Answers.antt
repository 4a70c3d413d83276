use Rattle.xb_pulse.proofs.PlainStates.{states_come_back}
use Rattle.xb_pulse.proofs.laws.states_come_back.Goals as goal

pub returns : goal.returns
returns c = λ phase within. states_come_back phase within
