use Rattle.xb_csv.proofs.NamedLines.{lines_are_named}
use Rattle.xb_csv.proofs.laws.lines_are_named.Goals as goal

pub returns : goal.returns
returns c = lines_are_named
