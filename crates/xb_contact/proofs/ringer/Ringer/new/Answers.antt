use Rattle.xb_contact.proofs.Rung.{passes_the_answered}
use Rattle.xb_contact.proofs.ringer.Ringer.new.Goals as goal

pub returns-clause-passes : goal.returns-clause-passes
returns-clause-passes c = passes_the_answered c.args.wait c.args.least c.args.release
