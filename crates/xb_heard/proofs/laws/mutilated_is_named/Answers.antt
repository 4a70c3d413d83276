use Rattle.xb_heard.proofs.Alternation as alternation
use Rattle.xb_heard.proofs.laws.mutilated_is_named.Goals as goal

pub returns : goal.returns
returns c = alternation.mutilated_is_named
