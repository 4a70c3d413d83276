-- What the digits of attempts are, and how many of these are as ringing makes them, up to ten.
use Rattle.std.specs.Prelude.{ℕ, ◌+◌, ◌||◌, min, List, false, count_by}
use Rattle.std.specs.List.{list_any, sum_by}
use Rattle.xb_model.specs.declared.limits.Limits.{Limits}
use Rattle.xb_model.specs.Lines.{lines_below}
use Rattle.xb_model.specs.Records.{Attempt}
use Rattle.xb_model.specs.Rows.{LoopRow}
use Rattle.xb_doubts.specs.declared.counted.Counted.{Counted}
use Rattle.xb_doubts.specs.declared.counted.TheConstants.{LEAST_RINGS}
use Rattle.xb_doubts.specs.Attempts.{attempts_on, has_digit, has_number, has_whole_digit, is_ring}

abbrev pub counted : Limits → List Attempt → Counted
counted limits attempts = record {
  dials = list_any (has_digit limits) attempts;
  dials_whole = list_any (has_whole_digit limits) attempts;
  numbers = list_any (has_number limits) attempts;
  rings = min (count_by (is_ring limits) attempts) LEAST_RINGS;
}

abbrev pub none_counted : Counted
none_counted = record { dials = false; dials_whole = false; numbers = false; rings = 0 }

abbrev pub with_counted : Counted → Counted → Counted
with_counted some other = record {
  dials = some.dials || other.dials;
  dials_whole = some.dials_whole || other.dials_whole;
  numbers = some.numbers || other.numbers;
  rings = min (some.rings + other.rings) LEAST_RINGS;
}

-- the attempts of one line, and of the lines below one
abbrev pub counted_on : Limits → List LoopRow → ℕ → Counted
counted_on limits rows l = counted limits (attempts_on limits rows l)

unfoldable pub counted_below : Limits → List LoopRow → ℕ → Counted
counted_below limits rows n = record {
  dials = list_any (λ l. list_any (has_digit limits) (attempts_on limits rows l)) (lines_below n);
  dials_whole = list_any (λ l. list_any (has_whole_digit limits) (attempts_on limits rows l)) (lines_below n);
  numbers = list_any (λ l. list_any (has_number limits) (attempts_on limits rows l)) (lines_below n);
  rings = min (sum_by (λ l. count_by (is_ring limits) (attempts_on limits rows l)) (lines_below n)) LEAST_RINGS;
}
