use Rattle.std.proofs.Common.{◌≡◌, drop}
use Rattle.xb_tone.specs.Times.{early_after}
use Rattle.xb_tone.proofs.times.early_line.Given as goal

abbrev pub invariant-loop-entry : goal.invariant-loop-entry
invariant-loop-entry l = early_after 0 l.entries ≡ early_after l.at_ms (drop l.entry-index l.entries)
