use Rattle.std.proofs.Common.{◌≡◌, ◌++◌, drop}
use Rattle.std.specs.List.{flat_map}
use Rattle.xb_findings.specs.Tallies.{tallied}
use Rattle.xb_check.specs.TallyTexts.{more_of}
use Rattle.xb_check.proofs.reporting.push_each_more.Given as goal

abbrev pub invariant-loop-kind : goal.invariant-loop-kind
invariant-loop-kind l =
    l.out.items ++ flat_map (more_of l.fn.name (tallied l.tally)) (drop l.kind-index l.kinds)
    ≡ l.fn.out.items ++ flat_map (more_of l.fn.name (tallied l.tally)) l.kinds
