use Rattle.std.proofs.Common.{◌≡◌, drop, map}
use Rattle.std.specs.List.{list_any}
use Rattle.xb_heard.specs.Attempts.{AttemptOfRuns, attempt_in}
use Rattle.xb_doubts.specs.Attempts.{has_trains}
use Rattle.xb_doubts.specs.Told.{trains_in}
use Rattle.xb_doubts.proofs.counted.any_dials.Given as goal

abbrev pub invariant-loop-attempt : goal.invariant-loop-attempt
invariant-loop-attempt l =
    list_any (λ (attempt : AttemptOfRuns). has_trains (trains_in attempt)) (map attempt_in (drop l.attempt-index l.attempts))
    ≡ list_any (λ (attempt : AttemptOfRuns). has_trains (trains_in attempt)) (map attempt_in l.attempts)
