use Rattle.xb_signal.proofs.SteadyPlaces.{steady_goes_on}
use Rattle.xb_signal.proofs.laws.steady_goes_on.Goals as goal

pub returns : goal.returns
returns c = steady_goes_on
