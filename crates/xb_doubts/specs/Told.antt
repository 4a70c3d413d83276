-- What the attempts of a report are: the same as in `Attempts.antt`, by the digits that the report has of them.
use Rattle.std.specs.Prelude.{◌&&◌, not, nat_le, min, List, map, Bool, count_by}
use Rattle.std.specs.List.{list_any}
use Rattle.xb_model.specs.declared.limits.Limits.{Limits}
use Rattle.xb_model.specs.Records.{Train}
use Rattle.xb_heard.specs.Attempts.{AttemptOfRuns}
use Rattle.xb_heard.specs.Digits.{train_in}
use Rattle.xb_heard.specs.PlacedRuns.{run_in}
use Rattle.xb_doubts.specs.declared.counted.Counted.{Counted}
use Rattle.xb_doubts.specs.declared.counted.TheConstants.{LEAST_DIGITS, LEAST_RINGS}
use Rattle.xb_doubts.specs.Attempts.{begins_short, has_trains, is_clear, is_whole}

abbrev pub trains_in : AttemptOfRuns → List Train
trains_in attempt = map train_in attempt.digits

abbrev pub is_whole_told : Limits → AttemptOfRuns → Bool
is_whole_told limits attempt = list_any (is_whole limits) (trains_in attempt)

abbrev pub is_call : Limits → AttemptOfRuns → Bool
is_call limits attempt = nat_le LEAST_DIGITS (count_by (is_clear limits) (trains_in attempt))

abbrev pub is_ring_told : AttemptOfRuns → Bool
is_ring_told attempt = begins_short (map run_in attempt.runs) && not (has_trains (trains_in attempt))

abbrev pub counted_told : Limits → List AttemptOfRuns → Counted
counted_told limits attempts = record {
  dials = list_any (λ attempt. has_trains (trains_in attempt)) attempts;
  dials_whole = list_any (is_whole_told limits) attempts;
  numbers = list_any (is_call limits) attempts;
  rings = min (count_by is_ring_told attempts) LEAST_RINGS;
}
