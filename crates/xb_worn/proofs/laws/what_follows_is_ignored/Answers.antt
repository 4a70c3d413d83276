use Rattle.xb_worn.proofs.SpoiledCalls.{complete_is_heard, numbers_stay}
use Rattle.xb_worn.proofs.laws.what_follows_is_ignored.Goals as goal

pub returns-clause-digits : goal.returns-clause-digits
returns-clause-digits c = complete_is_heard

pub returns-clause-pulses : goal.returns-clause-pulses
returns-clause-pulses c = numbers_stay
