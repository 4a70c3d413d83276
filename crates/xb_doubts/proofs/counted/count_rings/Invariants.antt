use Rattle.std.proofs.Common.{◌≡◌, ◌+◌, drop, map}
use Rattle.std.specs.Prelude.{count_by}
use Rattle.xb_heard.specs.Attempts.{attempt_in}
use Rattle.xb_doubts.specs.Told.{is_ring_told}
use Rattle.xb_doubts.proofs.counted.count_rings.Given as goal

abbrev pub invariant-loop-attempt : goal.invariant-loop-attempt
invariant-loop-attempt l =
    l.count + count_by is_ring_told (map attempt_in (drop l.attempt-index l.attempts))
    ≡ count_by is_ring_told (map attempt_in l.attempts)
