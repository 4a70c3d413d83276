-- The digits that are told are those of the report of the line, which is of whole ms.
use Rattle.std.specs.Prelude.{ℕ, ◌≡◌, ◌<◌, ◌+◌, ◌^◌, ◌==◌, List, [], ◌∷◌, Option, Some, None, map, if◌then◌else◌}
use Rattle.std.specs.List.{flat_map}
use Rattle.xb_model.specs.declared.limits.Limits.{Limits}
use Rattle.xb_model.specs.declared.plan.Plan.{Plan}
use Rattle.xb_model.specs.declared.row.Contact.{Contact}
use Rattle.xb_model.specs.declared.row.Contact.TheVariants.{Make, Brk}
use Rattle.xb_model.specs.Records.{Run as RecordRun, run_of}
use Rattle.xb_contact.specs.declared.level.Level.{Level}
use Rattle.xb_contact.specs.declared.level.Level.TheVariants.{Closed, Open}
use Rattle.xb_contact.specs.declared.scale.Scale.{Scale}
use Rattle.xb_contact.specs.Holds.{AllLast, total_of}
use Rattle.xb_heard.specs.declared.fault.Spoiler.{Spoiler}
use Rattle.xb_heard.specs.declared.run.PlacedRun.{PlacedRun}
use Rattle.xb_heard.specs.PlacedRuns.{run_in}
use Rattle.xb_heard.specs.Attempts.{AttemptOfRuns, heard_attempts}
use Rattle.xb_heard.specs.Digits.{DigitOfRuns}
use Rattle.xb_heard.specs.Faults.{breaks_among}
use Rattle.xb_turns.specs.declared.dial.Said.{Said}
use Rattle.xb_turns.specs.declared.dial.Said.TheVariants.{Digit, HungUp}
use Rattle.xb_turns.specs.declared.train.Wrong.{Wrong}
use Rattle.xb_turns.specs.Dials.{begun_dial, ms_between}
use Rattle.xb_turns.specs.Digits.{Run}
use Rattle.xb_turns.specs.DialLaws.{Piece, holds_in, runs_from, told_of_pieces}

-- the runs of a recording as those of a record, from a tick on: each end is rounded to ms once, and a run that does not
-- last is none
abbrev pub contact_of : Level → Contact
contact_of Closed = Make
contact_of Open = Brk

abbrev pub run_in_ms : Scale → ℕ → Run → RecordRun
run_in_ms scale from run =
    run_of (contact_of run.hold.level) (ms_between scale from (from + run.hold.ticks))

abbrev pub runs_in_ms : Scale → ℕ → List Run → List RecordRun
runs_in_ms scale from [] = []
runs_in_ms scale from (run ∷ rest) =
    if run.hold.ticks == 0 then runs_in_ms scale from rest
    else run_in_ms scale from run ∷ runs_in_ms scale (from + run.hold.ticks) rest

-- a digit that is told: how many pulses it has, and what is wrong with the first of its runs that is wrong
abbrev pub judged_said : Said → List (ℕ × Option Wrong)
judged_said (Digit train bounce) = (train.pulses, train.wrong) ∷ []
judged_said (HungUp pulses) = []

-- a digit of the report
abbrev pub wrong_of : Option Spoiler → Option Wrong
wrong_of None = None
wrong_of (Some spoiler) = Some (record { fault = spoiler.fault; ms = spoiler.run.ms })

abbrev pub judged_digit : DigitOfRuns → ℕ × Option Wrong
judged_digit digit = (breaks_among digit.pulses, wrong_of digit.spoiler)

abbrev pub judged_digits : List AttemptOfRuns → List (ℕ × Option Wrong)
judged_digits attempts = flat_map (λ attempt. map judged_digit attempt.digits) attempts

-- of pieces of a settled record, each of which lasts, the digits that are told are those that the report tells of the runs
-- in ms, by any plan and wherever these runs stand in a deck
abbrev pub TellsTheReport : Type 0
TellsTheReport =
    (plan : Plan) (limits : Limits) (scale : Scale) (first : Level) (pieces : List Piece) (runs : List PlacedRun)
    → 0 < scale.ticks → total_of (holds_in pieces) < 2 ^ 64 → AllLast 1 (holds_in pieces)
    → map run_in runs ≡ runs_in_ms scale 0 (runs_from first pieces)
    → flat_map judged_said (told_of_pieces (begun_dial limits scale first) pieces)
    ≡ judged_digits (heard_attempts plan limits runs)
