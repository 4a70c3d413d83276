use Rattle.xb_measured.proofs.Nearest.{tenths_are_nearest}
use Rattle.xb_measured.proofs.laws.tenths_are_nearest.Goals as goal

pub returns : goal.returns
returns c = tenths_are_nearest
