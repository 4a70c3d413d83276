use Rattle.xb_laws.proofs.RowDigits.{rows_have_the_digits}
use Rattle.xb_laws.proofs.laws.the_rows_have_the_digits.Goals as goal

pub returns : goal.returns
returns c = rows_have_the_digits
