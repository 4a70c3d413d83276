use Rattle.std.proofs.Common.{◌≡◌, ◌++◌, drop, string_bytes}
use Rattle.xb_rx.specs.Differences.{missed_lines}
use Rattle.xb_rx.proofs.differing.write_all_missed.Given as goal

abbrev pub invariant-loop-entry : goal.invariant-loop-entry
invariant-loop-entry l =
    string_bytes l.out ++ missed_lines (drop l.entry-index l.keyed) ≡ string_bytes l.fn.out ++ missed_lines l.keyed
