use Rattle.std.proofs.Common.{◌≡◌, drop, map}
use Rattle.xb_heard.specs.Attempts.{attempt_in}
use Rattle.xb_hear.specs.Choosing.{has_refused}
use Rattle.xb_hear.proofs.choosing.has_refused.Given as goal

abbrev pub invariant-loop-attempt : goal.invariant-loop-attempt
invariant-loop-attempt l =
    has_refused (map attempt_in (drop l.attempt-index l.attempts)) ≡ has_refused (map attempt_in l.attempts)
