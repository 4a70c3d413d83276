use Rattle.xb_hear.specs.ToldLines.{TellsBelow}
use Rattle.xb_hear.proofs.lines.tell_lines.Given as goal

abbrev pub invariant-loop-number : goal.invariant-loop-number
invariant-loop-number l = TellsBelow l.manner l.choice l.plan l.rows l.number l.told
