use Rattle.std.proofs.Common.{arith}
use Rattle.xb_csv.proofs.TenLemmas.{tens_some}
use Rattle.xb_csv.proofs.exponents.tens_down.Goals as goal

pub nonzero_div-result : goal.nonzero_div-result
nonzero_div-result c = omega (arith, c.in-Some.ensures.1, tens_some c.args.tens)
