use Rattle.std.proofs.Common.{◌≡◌, drop}
use Rattle.xb_feed.specs.Options.{any_rings}
use Rattle.xb_feed.proofs.words.any_rings.Given as goal

abbrev pub invariant-loop-line : goal.invariant-loop-line
invariant-loop-line l = any_rings (drop l.line-index l.lines) ≡ any_rings l.lines
