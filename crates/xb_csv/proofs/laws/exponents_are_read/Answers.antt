use Rattle.xb_csv.proofs.WrittenExponents.{exponents_are_read}
use Rattle.xb_csv.proofs.laws.exponents_are_read.Goals as goal

pub returns : goal.returns
returns c = exponents_are_read
