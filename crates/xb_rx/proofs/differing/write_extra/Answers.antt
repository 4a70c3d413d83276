use Rattle.std.proofs.Common.{rules}
use Rattle.xb_rx.specs.Differences.{extra_line}
use Rattle.xb_rx.proofs.differing.write_extra.Goals as goal

pub returns : goal.returns
unfolding extra_line
returns c = search rules
