use Rattle.std.proofs.Common.{◌≡◌, map, drop}
use Rattle.std.specs.List.{flat_map}
use Rattle.xb_doubts.specs.Lines.{told_by}
use Rattle.xb_check.specs.Doubts.{doubt_at}
use Rattle.xb_findings.specs.Kept.{kept_line_of}
use Rattle.xb_findings.specs.Tallies.{tallied, with_all}
use Rattle.xb_check.proofs.doubts.push_each.Given as goal

abbrev pub invariant-loop-line : goal.invariant-loop-line
invariant-loop-line l =
    with_all (tallied l.tally)
    (flat_map (doubt_at l.whole.unit l.whole.is_ringing (told_by l.lines)) (map kept_line_of (drop l.line-index l.kept)))
    ≡ with_all (tallied l.fn.tally)
    (flat_map (doubt_at l.whole.unit l.whole.is_ringing (told_by l.lines)) (map kept_line_of l.kept))
