use Rattle.std.proofs.Common.{◌≡◌, ◌++◌, drop, string_bytes}
use Rattle.xb_model.specs.Page.{marks_text}
use Rattle.xb_tape.proofs.printing.write_marks.Given as goal

abbrev pub invariant-loop-mark : goal.invariant-loop-mark
invariant-loop-mark l = string_bytes l.out ++ marks_text (drop l.mark-index l.marks) ≡ string_bytes l.initial.out ++ marks_text l.marks
