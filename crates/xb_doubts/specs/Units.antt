-- Times of a deck that look as if they were of another unit than ms.
use Rattle.std.specs.Prelude.{ℕ, ◌/◌, ◌==◌, ◌||◌, ◌&&◌, not, nat_le, if◌then◌else◌, List, Bool, true, false, count_by, Option, Some, None}
use Rattle.std.specs.List.{list_all, list_any}
use Rattle.xb_model.specs.declared.limits.Limits.{Limits}
use Rattle.xb_model.specs.declared.row.Contact.{Contact}
use Rattle.xb_model.specs.declared.row.Contact.TheVariants.{Make, Brk, Close}
use Rattle.xb_model.specs.Rows.{LoopRow}
use Rattle.xb_doubts.specs.declared.units.Unit.{Unit}
use Rattle.xb_doubts.specs.declared.units.Unit.TheVariants as units
use Rattle.xb_doubts.specs.declared.units.TheConstants.{LEAST_BREAKS}
use Rattle.xb_doubts.specs.Attempts.{dials, dials_whole}
use Rattle.xb_doubts.specs.Heard.{has_room}
use Rattle.xb_doubts.specs.Parts.{rows_in_parts}

abbrev pub is_break_of : Contact → Bool
is_break_of Make = false
is_break_of Brk = true
is_break_of Close = false

abbrev pub is_break : LoopRow → Bool
is_break row = is_break_of row.contact

-- a break, if it is one, of 0 ms
abbrev pub has_no_time : Contact → ℕ → Bool
has_no_time Make ms = true
has_no_time Brk ms = ms == 0
has_no_time Close ms = true

abbrev pub is_timeless : LoopRow → Bool
is_timeless row = has_no_time row.contact row.ms

-- the times look like seconds: no break lasts, or no line lasts long enough for a digit
abbrev pub are_seconds : Limits → List LoopRow → Bool
are_seconds limits rows =
    list_any is_break rows && (list_all is_timeless rows || not (has_room limits rows))

-- as the times are, no digit is dialled but spoiled ones, and in so many parts of them there is a digit
abbrev pub dial_in_parts : Limits → ℕ → List LoopRow → Bool
dial_in_parts limits parts rows = not (dials_whole limits rows) && dials limits (rows_in_parts parts rows)

-- taken as microseconds, a break or make may still be of a pulse
abbrev pub is_long_enough : Limits → Contact → ℕ → Bool
is_long_enough limits Make ms = nat_le limits.make_min (ms / 1000)
is_long_enough limits Brk ms = nat_le limits.pulse_min (ms / 1000)
is_long_enough limits Close ms = true

abbrev pub is_thousandfold : Limits → LoopRow → Bool
is_thousandfold limits row = is_long_enough limits row.contact row.ms

-- so may all of some, so that no break is a pulse as it is
abbrev pub are_thousandfold : Limits → List LoopRow → Bool
are_thousandfold limits rows =
    nat_le LEAST_BREAKS (count_by is_break rows) && list_all (is_thousandfold limits) rows

-- the unit of which the times of a deck look, if it is another one
abbrev pub wrong_unit : Limits → List LoopRow → Option Unit
wrong_unit limits rows =
    if are_seconds limits rows then Some units.Seconds
    else if dial_in_parts limits 1000000 rows then Some units.Nanoseconds
    else if dial_in_parts limits 1000 rows || are_thousandfold limits rows then Some units.Microseconds
    else None
