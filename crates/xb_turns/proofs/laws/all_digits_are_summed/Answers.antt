use Rattle.xb_turns.proofs.AllDigits.{sums_all_digits}
use Rattle.xb_turns.proofs.laws.all_digits_are_summed.Goals as goal

pub returns : goal.returns
returns c = sums_all_digits
