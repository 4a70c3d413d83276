use Rattle.std.proofs.Common.{◌≡◌, map, drop}
use Rattle.xb_heard.specs.Parts.{part_in}
use Rattle.xb_heard.specs.Digits.{unfinished_of_parts}
use Rattle.xb_heard.proofs.digit.unfinished_of_parts.Given as goal

abbrev pub invariant-loop-part : goal.invariant-loop-part
invariant-loop-part l =
    unfinished_of_parts (map part_in (drop l.part-index l.parts)) ≡ unfinished_of_parts (map part_in l.parts)
