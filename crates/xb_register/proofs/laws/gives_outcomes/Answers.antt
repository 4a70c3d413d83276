use Rattle.xb_register.proofs.Attempts.{gives_outcomes}
use Rattle.xb_register.proofs.laws.gives_outcomes.Goals as goal

pub returns : goal.returns
returns c = gives_outcomes
