use Rattle.std.proofs.Common.{◌≡◌, ◌+◌, ◌≤◌, length}
use Rattle.std.specs.Prelude.{option_copied}
use Rattle.xb_findings.specs.NearCuts.{near_cuts}
use Rattle.xb_findings.specs.Tallies.{tallied, with_all}
use Rattle.xb_findings.specs.TextLines.{lines_left, text_lines}
use Rattle.xb_findings.proofs.near_cuts.push_near_cuts.Given as goal

abbrev pub invariant-loop-left : goal.invariant-loop-left
invariant-loop-left l = record {
  found :
      with_all (tallied l.fn.tally) (near_cuts 1 (text_lines l.fn.text))
      ≡ with_all (tallied l.tally) (near_cuts (l.n + 1) (lines_left (option_copied l.left)));
  few : l.n + length (lines_left (option_copied l.left)) ≤ length l.fn.text + 1;
}

abbrev pub decreases-loop-left : goal.decreases-loop-left
decreases-loop-left l = length (lines_left (option_copied l.left))
