use Rattle.xb_bench.proofs.DrawnDigits.{draws}
use Rattle.xb_bench.proofs.laws.the_digits_are_drawn.Goals as goal

pub returns : goal.returns
returns c = draws c.the_last_turns_are_kept.ensures
