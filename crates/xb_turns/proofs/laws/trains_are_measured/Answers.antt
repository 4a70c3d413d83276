use Rattle.xb_turns.proofs.MeasuredTrains.{measures_trains}
use Rattle.xb_turns.proofs.laws.trains_are_measured.Goals as goal

pub returns : goal.returns
returns c = measures_trains
