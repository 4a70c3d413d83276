use Rattle.xb_feed.proofs.lines.Lines.take.Goals as goal

pub returns-in-Edge-clause-can : goal.returns-in-Edge-clause-can
returns-in-Edge-clause-can g c = rw c.in-Edge.is c.edge.ensures.can
