use Rattle.std.proofs.Common.{◌≤◌, ◌+◌, length, string_bytes}
use Rattle.xb_model.specs.Tapes.{entries_of}
use Rattle.xb_tape.proofs.PageEntries.{IsWritten}
use Rattle.xb_tape.proofs.printing.write_tape.Given as goal

abbrev pub invariant-loop-entry : goal.invariant-loop-entry
invariant-loop-entry l = record {
  can : (goal.iterator-loop-entry).can_next l.entry-iterator;
  finite : (goal.iterator-loop-entry).is_finite l.entry-iterator;
  few : l.totals.keyed + l.totals.refused + length (entries_of l.entry-iterator.marks.now) ≤ length l.marks;
  written :
      IsWritten l.line (string_bytes l.initial.out) (entries_of l.marks) (string_bytes l.out)
      l.totals.keyed l.totals.refused (entries_of l.entry-iterator.marks.now);
}
