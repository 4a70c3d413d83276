use Rattle.std.proofs.Common.{◌≡◌, take, vec_capacity}
use Rattle.xb_tape.specs.GatheredMarks.{whats_of}
use Rattle.xb_live.proofs.counting.keep_marks.Given as goal

abbrev pub invariant-loop-mark : goal.invariant-loop-mark
invariant-loop-mark l = record {
  marks : l.entry.items ≡ whats_of (take l.mark-index l.given);
  room : vec_capacity l.entry ≡ vec_capacity l.initial.entry;
}
