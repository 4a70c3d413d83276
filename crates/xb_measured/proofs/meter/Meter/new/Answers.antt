use Rattle.xb_measured.proofs.Meters.{none-yet}
use Rattle.xb_measured.proofs.meter.Meter.new.Goals as goal

pub returns : goal.returns
returns c = none-yet
