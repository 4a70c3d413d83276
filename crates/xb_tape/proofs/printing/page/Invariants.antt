use Rattle.std.proofs.Common.{◌≡◌, ◌≤◌, ◌*◌, ◌+◌, ◌^◌, length, string_bytes}
use Rattle.xb_model.specs.declared.line.TheConstants.{LINES}
use Rattle.xb_model.specs.LineValues.{IsLeft}
use Rattle.xb_tape.proofs.PageLines.{AreWritten}
use Rattle.xb_tape.proofs.printing.page.Given as goal

abbrev pub invariant-loop-line : goal.invariant-loop-line
invariant-loop-line l = record {
  can : (goal.iterator-loop-line).can_next l.line-iterator;
  finite : (goal.iterator-loop-line).is_finite l.line-iterator;
  left : IsLeft l.tapes (length l.yielded) l.line-iterator;
  lines : length l.yielded + length l.line-iterator ≡ LINES;
  keyed_fits : l.keyed ≤ length l.yielded * 2 ^ 64;
  refused_fits : l.refused ≤ length l.yielded * 2 ^ 64;
  written : AreWritten l.tapes (string_bytes l.out) l.keyed l.refused (length l.yielded);
}
