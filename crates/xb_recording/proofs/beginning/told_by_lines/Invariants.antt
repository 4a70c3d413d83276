use Rattle.std.proofs.Common.{◌≡◌, ℕ, List, [], ◌++◌, length}
use Rattle.xb_recording.specs.Beginnings.{all_passed_over, told_by_lines}
use Rattle.xb_recording.specs.Says.{lines_in, plain_lines, text_lines}
use Rattle.xb_recording.proofs.beginning.told_by_lines.Given as goal

abbrev pub invariant-loop-line : goal.invariant-loop-line
invariant-loop-line l = record {
  told : (later : List ℕ) → told_by_lines (text_lines (l.text ++ later))
      ≡ told_by_lines (plain_lines l.is_first (lines_in [] (l.rest ++ later)));
  passed : all_passed_over (text_lines l.text) ≡ all_passed_over (plain_lines l.is_first (lines_in [] l.rest));
}

abbrev pub decreases-loop-line : goal.decreases-loop-line
decreases-loop-line l = length l.rest
