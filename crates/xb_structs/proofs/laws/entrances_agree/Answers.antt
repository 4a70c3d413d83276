use Rattle.xb_structs.proofs.HeardSignals.{entrances}
use Rattle.xb_structs.proofs.laws.entrances_agree.Goals as goal

pub returns : goal.returns
returns c = λ table. entrances table
