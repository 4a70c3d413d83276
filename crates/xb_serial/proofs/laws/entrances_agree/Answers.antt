use Rattle.xb_serial.proofs.Entrances.{entrances_agree}
use Rattle.xb_serial.proofs.laws.entrances_agree.Goals as goal

pub returns : goal.returns
returns c = λ table. entrances_agree table
