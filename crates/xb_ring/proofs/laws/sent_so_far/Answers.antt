use Rattle.xb_flow.proofs.Flows.{flow-front, flow-whole}
use Rattle.xb_ring.proofs.laws.sent_so_far.Goals as goal

pub returns-clause-beginning : goal.returns-clause-beginning
returns-clause-beginning g c = λ outs rest items ended e. flow-front outs rest items ended e

pub returns-clause-whole : goal.returns-clause-whole
returns-clause-whole g c = λ outs rest items ended e h. flow-whole outs rest items ended e h
