use Rattle.std.proofs.Common.{◌≡◌, ◌++◌, map, drop}
use Rattle.xb_check.specs.Reports.{shown, visible}
use Rattle.xb_check.proofs.reporting.push_shown.Given as goal

abbrev pub invariant-loop-byte : goal.invariant-loop-byte
invariant-loop-byte l =
    l.out.items ++ map visible (drop l.byte-index l.bytes) ≡ l.fn.out.items ++ shown l.fn.text
