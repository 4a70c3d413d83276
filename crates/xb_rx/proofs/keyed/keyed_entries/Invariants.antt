use Rattle.std.proofs.Common.{◌≡◌, ◌++◌, drop}
use Rattle.xb_rx.specs.Keyed.{keyed_of}
use Rattle.xb_rx.proofs.keyed.keyed_entries.Given as goal

abbrev pub invariant-loop-entry : goal.invariant-loop-entry
invariant-loop-entry l = l.keyed.items ++ keyed_of (drop l.entry-index l.entries) ≡ keyed_of l.entries
