use Rattle.std.proofs.Common.{◌≡◌, ◌++◌, drop, map}
use Rattle.xb_heard.specs.Digits.{digit_in}
use Rattle.xb_picture.specs.Digits.{digits_words}
use Rattle.xb_picture.specs.Said.{says}
use Rattle.xb_picture.proofs.digit.put_digits.Given as goal

abbrev pub invariant-loop-index : goal.invariant-loop-index
invariant-loop-index l =
    says l.sheet ++ digits_words l.limits l.outcome l.index (map digit_in (drop l.index l.digits))
    ≡ says l.fn.sheet ++ digits_words l.limits l.outcome 0 (map digit_in l.digits)
