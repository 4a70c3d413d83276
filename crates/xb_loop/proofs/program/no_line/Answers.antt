use Rattle.xb_loop.proofs.Attended.{unlisted}
use Rattle.xb_loop.proofs.program.no_line.Goals as goal

pub returns-in-Err-clause-wires : goal.returns-in-Err-clause-wires
returns-in-Err-clause-wires g c =
    unlisted c.args.request.now c.in-Err.fault (g.R.Read.remaining c.args.recording.now) c.in-Err.ensures.fault
