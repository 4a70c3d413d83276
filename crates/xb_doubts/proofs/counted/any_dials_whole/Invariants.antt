use Rattle.std.proofs.Common.{◌≡◌, drop, map}
use Rattle.std.specs.List.{list_any}
use Rattle.xb_heard.specs.Attempts.{attempt_in}
use Rattle.xb_doubts.specs.Told.{is_whole_told}
use Rattle.xb_doubts.proofs.counted.any_dials_whole.Given as goal

abbrev pub invariant-loop-attempt : goal.invariant-loop-attempt
invariant-loop-attempt l =
    list_any (is_whole_told l.limits) (map attempt_in (drop l.attempt-index l.attempts))
    ≡ list_any (is_whole_told l.limits) (map attempt_in l.attempts)
