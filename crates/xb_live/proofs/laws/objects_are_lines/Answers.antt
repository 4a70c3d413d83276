use Rattle.xb_live.proofs.ObjectLines.{objects_are_lines}
use Rattle.xb_live.proofs.laws.objects_are_lines.Goals as goal

pub returns : goal.returns
returns c = objects_are_lines
