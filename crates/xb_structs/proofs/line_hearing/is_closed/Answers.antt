use Rattle.xb_structs.specs.Lines.{pulse_in}
use Rattle.xb_structs.proofs.HeardSignals.{closed_by}
use Rattle.xb_structs.proofs.line_hearing.is_closed.Goals as goal

pub returns : goal.returns
returns c = rw (c.plain.ensures.value, c.pulse_of.ensures) (closed_by (pulse_in c.args.part.now))
