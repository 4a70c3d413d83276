use Rattle.std.proofs.Common.{◌≡◌, ◌++◌, map, drop}
use Rattle.xb_heard.specs.Parts.{part_in}
use Rattle.xb_heard.specs.Attempts.{attempt_in, attempts_of_parts}
use Rattle.xb_heard.proofs.attempt.attempts_of_parts.Given as goal

abbrev pub invariant-loop-part : goal.invariant-loop-part
invariant-loop-part l =
    map attempt_in l.attempts.items ++ attempts_of_parts l.plan l.limits (map part_in (drop l.part-index l.parts))
    ≡ attempts_of_parts l.plan l.limits (map part_in l.parts)
