use Rattle.xb_structs.specs.Lines.{register_in}
use Rattle.xb_structs.proofs.HeardSignals.{seized_by}
use Rattle.xb_structs.proofs.line_hearing.is_seized.Goals as goal

pub returns : goal.returns
returns c = rw (c.plain.ensures.value, c.register_of.ensures) (seized_by (register_in c.args.part.now))
