use Rattle.xb_vcd.proofs.MissingWires.{first_missing_is_told}
use Rattle.xb_vcd.proofs.laws.the_first_missing_is_told.Goals as goal

pub returns : goal.returns
returns c = first_missing_is_told
