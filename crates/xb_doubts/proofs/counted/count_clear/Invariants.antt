use Rattle.std.proofs.Common.{◌≡◌, ◌+◌, drop, map}
use Rattle.std.specs.Prelude.{count_by}
use Rattle.xb_heard.specs.Digits.{digit_in, train_in}
use Rattle.xb_doubts.specs.Attempts.{is_clear}
use Rattle.xb_doubts.proofs.counted.count_clear.Given as goal

abbrev pub invariant-loop-digit : goal.invariant-loop-digit
invariant-loop-digit l =
    l.count + count_by (is_clear l.limits) (map train_in (map digit_in (drop l.digit-index l.digits)))
    ≡ count_by (is_clear l.limits) (map train_in (map digit_in l.digits))
