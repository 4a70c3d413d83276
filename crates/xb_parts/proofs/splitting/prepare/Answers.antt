use Rattle.xb_parts.proofs.splitting.prepare.Goals as goal

pub returns-in-Err-open_deck-clause-fault : goal.returns-in-Err-open_deck-clause-fault
returns-in-Err-open_deck-clause-fault g c = c.in-Err-open_deck.ensures.fault c.args.parts
