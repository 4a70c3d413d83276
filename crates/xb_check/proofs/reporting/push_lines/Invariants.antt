use Rattle.std.proofs.Common.{◌≡◌, ◌++◌, map, drop}
use Rattle.std.specs.List.{flat_map}
use Rattle.xb_findings.specs.Findings.{found_of}
use Rattle.xb_check.specs.Reports.{found_text}
use Rattle.xb_check.proofs.reporting.push_lines.Given as goal

abbrev pub invariant-loop-finding : goal.invariant-loop-finding
invariant-loop-finding l =
    l.out.items ++ flat_map (found_text l.fn.name) (map found_of (drop l.finding-index l.told))
    ≡ l.fn.out.items ++ flat_map (found_text l.fn.name) (map found_of l.told)
