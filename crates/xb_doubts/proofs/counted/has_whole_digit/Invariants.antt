use Rattle.std.proofs.Common.{◌≡◌, drop, map}
use Rattle.std.specs.List.{list_any}
use Rattle.xb_heard.specs.Digits.{digit_in, train_in}
use Rattle.xb_doubts.specs.Attempts.{is_whole}
use Rattle.xb_doubts.proofs.counted.has_whole_digit.Given as goal

abbrev pub invariant-loop-digit : goal.invariant-loop-digit
invariant-loop-digit l =
    list_any (is_whole l.limits) (map train_in (map digit_in (drop l.digit-index l.attempt.digits.items)))
    ≡ list_any (is_whole l.limits) (map train_in (map digit_in l.attempt.digits.items))
