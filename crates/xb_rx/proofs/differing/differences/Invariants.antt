use Rattle.std.proofs.Common.{◌≡◌, ◌++◌, drop, string_bytes}
use Rattle.xb_rx.specs.Differences.{differences}
use Rattle.xb_rx.proofs.differing.differences.Given as goal

abbrev pub invariant-loop-entry : goal.invariant-loop-entry
invariant-loop-entry l =
    string_bytes l.text ++ differences l.left (drop l.entry-index l.heard) ≡ differences l.keyed l.heard
