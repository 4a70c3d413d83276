use Rattle.std.proofs.Common.{◌≡◌, drop}
use Rattle.xb_bench.specs.Options.{are_plain}
use Rattle.xb_bench.proofs.words.are_plain.Given as goal

abbrev pub invariant-loop-line : goal.invariant-loop-line
invariant-loop-line l = are_plain (drop l.line-index l.lines) ≡ are_plain l.lines
