use Rattle.xb_contact.proofs.RoundedHolds.{places_hold}
use Rattle.xb_contact.proofs.Told.{rounds_once}
use Rattle.xb_contact.proofs.laws.rounds_once.Goals as goal

pub returns-clause-all : goal.returns-clause-all
returns-clause-all c = rounds_once

pub returns-clause-places : goal.returns-clause-places
returns-clause-places c = places_hold
