use Rattle.std.proofs.Common.{◌≡◌, drop}
use Rattle.xb_feed.specs.Watching.{has_begun}
use Rattle.xb_feed.proofs.lines.has_begun.Given as goal

abbrev pub invariant-loop-line : goal.invariant-loop-line
invariant-loop-line g l = has_begun (drop l.line-index l.lines) ≡ has_begun l.lines
