use Rattle.xb_contact.proofs.Seized.{passes_the_seized}
use Rattle.xb_contact.proofs.seizer.Seizer.new.Goals as goal

pub returns-clause-passes : goal.returns-clause-passes
returns-clause-passes c = passes_the_seized c.args.least c.args.release c.args.most c.requires
