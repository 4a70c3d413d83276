use Rattle.std.proofs.Common.{◌≡◌, ◌≤◌, [], drop}
use Rattle.std.specs.Prelude.{slice_range}
use Rattle.xb_vcd.specs.VcdTexts.{words_in}
use Rattle.xb_vcd.proofs.blanks.next_word.Given as goal

abbrev pub invariant-loop-end : goal.invariant-loop-end
invariant-loop-end l = record {
  places : l.start ≤ l.end;
  words : words_in (slice_range l.text l.start l.end) (drop l.end l.text) ≡ words_in [] l.text;
}
