use Rattle.std.proofs.Common.{◌≡◌, ◌++◌, map, drop}
use Rattle.xb_heard.specs.Parts.{part_in}
use Rattle.xb_heard.specs.Digits.{digit_in, digits_of_parts}
use Rattle.xb_heard.proofs.digit.digits_of_parts.Given as goal

abbrev pub invariant-loop-part : goal.invariant-loop-part
invariant-loop-part l =
    map digit_in l.digits.items ++ digits_of_parts l.limits (map part_in (drop l.part-index l.parts))
    ≡ digits_of_parts l.limits (map part_in l.parts)
