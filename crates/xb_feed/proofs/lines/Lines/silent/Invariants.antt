use Rattle.std.proofs.Common.{◌≡◌, drop}
use Rattle.xb_feed.specs.Watching.{silent_line}
use Rattle.xb_feed.proofs.lines.Lines.silent.Given as goal

abbrev pub invariant-loop-line : goal.invariant-loop-line
invariant-loop-line g l = silent_line (drop l.line-index l.self.lines.items) ≡ silent_line l.self.lines.items
