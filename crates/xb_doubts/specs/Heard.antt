-- What is heard on the lines of the office in the rows of a deck.
use Rattle.std.specs.Prelude.{ℕ, ◌≡◌, ◌+◌, ◌||◌, min, nat_le, List, [], ◌∷◌, Bool, false}
use Rattle.std.specs.List.{list_any}
use Rattle.xb_model.specs.declared.limits.Limits.{Limits}
use Rattle.xb_model.specs.declared.line.TheConstants.{LINES}
use Rattle.xb_model.specs.Lines.{lines_below}
use Rattle.xb_model.specs.Records.{Run, attempts_of, record_of}
use Rattle.xb_model.specs.Rows.{LoopRow}
use Rattle.xb_doubts.specs.declared.heard.Heard.{Heard}
use Rattle.xb_doubts.specs.declared.counted.TheConstants.{LEAST_RINGS}
use Rattle.xb_doubts.specs.Attempts.{dials, dials_whole, rings}
use Rattle.xb_doubts.specs.Counted.{counted, counted_below, none_counted, with_counted}

-- how long runs last
abbrev pub lasts : List Run → ℕ
lasts [] = 0
lasts (run ∷ runs) = run.ms + lasts runs

-- so many ms are enough for a pulse and a pause, without which there is no digit
abbrev pub can_dial : Limits → ℕ → Bool
can_dial limits ms = nat_le (limits.pulse_min + limits.pause) ms

-- on some line
abbrev pub has_room : Limits → List LoopRow → Bool
has_room limits rows = list_any (λ l. can_dial limits (lasts (record_of l rows))) (lines_below LINES)

-- the same of the lines below one
unfoldable pub room_below : Limits → List LoopRow → ℕ → Bool
room_below limits rows n = list_any (λ l. can_dial limits (lasts (record_of l rows))) (lines_below n)

-- what is heard on the lines below one
abbrev pub heard_below : Limits → List LoopRow → ℕ → Heard
heard_below limits rows n = record { counted = counted_below limits rows n; has_room = room_below limits rows n }

abbrev pub nothing_heard : Heard
nothing_heard = record { counted = none_counted; has_room = false }

-- what is heard on a line of this record
abbrev pub heard_on : Limits → List Run → Heard
heard_on limits record_ = record {
  counted = counted limits (attempts_of limits record_);
  has_room = can_dial limits (lasts record_);
}

-- what is heard on lines and one more
abbrev pub heard_with : Heard → Heard → Heard
heard_with some one = record {
  counted = with_counted some.counted one.counted;
  has_room = some.has_room || one.has_room;
}

-- this is heard on all lines
pub record IsHeard (limits : Limits) (rows : List LoopRow) (heard : Heard) : Type 0 where
  pub dials : heard.counted.dials ≡ dials limits rows
  pub dials_whole : heard.counted.dials_whole ≡ dials_whole limits rows
  pub rings : heard.counted.rings ≡ min (rings limits rows) LEAST_RINGS
  pub has_room : heard.has_room ≡ has_room limits rows
