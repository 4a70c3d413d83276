use Rattle.std.proofs.Common.{◌≡◌, ◌+◌, ◌++◌, ◌≤◌, length}
use Rattle.std.specs.Prelude.{option_copied}
use Rattle.xb_findings.specs.DeckFaults.{faults_of_lines}
use Rattle.xb_findings.specs.Kept.{kept_of_lines}
use Rattle.xb_findings.specs.Steps.{faults_after, kept_after, lines_of}
use Rattle.xb_findings.specs.Tallies.{with_all}
use Rattle.xb_findings.specs.TextLines.{lines_left, text_lines}
use Rattle.xb_findings.proofs.row_lines.read_rows.Given as goal

abbrev pub invariant-loop-left : goal.invariant-loop-left
invariant-loop-left l = record {
  found :
      with_all (lines_of l.fn.lines).tally (faults_of_lines (l.fn.before + 1) (text_lines l.fn.rows))
      ≡ with_all (lines_of l.lines).tally (faults_after l.part (l.n + 1) (lines_left (option_copied l.left)));
  kept :
      (lines_of l.fn.lines).kept ++ kept_of_lines (l.fn.before + 1) (text_lines l.fn.rows)
      ≡ (lines_of l.lines).kept ++ kept_after l.part (l.n + 1) (lines_left (option_copied l.left));
  few : l.n + length (lines_left (option_copied l.left)) ≤ l.fn.before + length l.fn.rows + 1;
}

abbrev pub decreases-loop-left : goal.decreases-loop-left
decreases-loop-left l = length (lines_left (option_copied l.left))
