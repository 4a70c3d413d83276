use Rattle.xb_worn.proofs.SpoiledCalls.{spoiled_mutilates}
use Rattle.xb_worn.proofs.laws.a_spoiled_digit_mutilates.Goals as goal

pub returns : goal.returns
returns c = spoiled_mutilates
