use Rattle.xb_live.proofs.events.write_event.Goals as goal

pub returns-in-Seize-clause-tokens : goal.returns-in-Seize-clause-tokens
returns-in-Seize-clause-tokens c = rw c.in-Seize.is c.write_bare.ensures.tokens

pub returns-in-TimeOut-clause-tokens : goal.returns-in-TimeOut-clause-tokens
returns-in-TimeOut-clause-tokens c = rw c.in-TimeOut.is c.write_bare-in-TimeOut.ensures.tokens

pub returns-in-Release-clause-tokens : goal.returns-in-Release-clause-tokens
returns-in-Release-clause-tokens c = rw c.in-Release.is c.write_bare-in-Release.ensures.tokens
