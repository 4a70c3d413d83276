use Rattle.std.proofs.Common.{◌≡◌}
use Rattle.xb_picture.specs.Said.{says}
use Rattle.xb_picture.proofs.course.put_runs.Given as goal

abbrev pub invariant-loop-run : goal.invariant-loop-run
invariant-loop-run l = says l.sheet ≡ says l.fn.sheet
