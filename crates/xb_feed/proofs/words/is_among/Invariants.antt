use Rattle.std.proofs.Common.{◌≡◌, drop}
use Rattle.xb_feed.specs.Options.{is_among}
use Rattle.xb_feed.proofs.words.is_among.Given as goal

abbrev pub invariant-loop-line : goal.invariant-loop-line
invariant-loop-line l = is_among l.number (drop l.line-index l.lines) ≡ is_among l.number l.lines
