use Rattle.xb_structs.proofs.PrintedTapes.{prints-the-tape}
use Rattle.xb_structs.proofs.laws.prints_the_tape.Goals as goal

pub returns : goal.returns
returns c = λ table old new row rows marks given line before after some few. prints-the-tape table old new row rows marks given line before after some few
