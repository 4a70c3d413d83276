use Rattle.xb_parts.proofs.splitting.fill_parts.Goals as goal

pub returns-in-Ok-clause-fault : goal.returns-in-Ok-clause-fault
returns-in-Ok-clause-fault g c = λ deck wanted taken. c.check_loads.ensures.fault deck wanted
