use Rattle.std.proofs.Common.{◌≡◌, ◌≤◌, ◌++◌, drop}
use Rattle.xb_picture.specs.Digits.{wrong_words}
use Rattle.xb_picture.specs.Said.{says}
use Rattle.xb_picture.proofs.wrong.put_wrong.Given as goal

abbrev pub invariant-loop-run : goal.invariant-loop-run
invariant-loop-run l = record {
  few : l.breaks ≤ l.run-index;
  said : says l.sheet ++ wrong_words l.limits l.breaks (drop l.run-index l.train)
      ≡ says l.fn.sheet ++ wrong_words l.limits 0 l.train;
}
