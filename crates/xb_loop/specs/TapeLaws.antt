-- From the contact to the tape.
use Rattle.std.specs.Prelude.{◌≡◌, ℕ, ◌*◌, ◌<◌, ◌≤◌, List, [], ◌∷◌}
use Rattle.xb_model.specs.declared.limits.Limits.{Limits}
use Rattle.xb_model.specs.declared.plan.Plan.{Plan}
use Rattle.xb_model.specs.LawfulLimits.{AreLimits}
use Rattle.xb_model.specs.Routing.{CodedRoute}
use Rattle.xb_model.specs.Rows.{LoopRow}
use Rattle.xb_model.specs.Tapes.{tape_of}
use Rattle.xb_contact.specs.declared.level.Level.{Level}
use Rattle.xb_contact.specs.declared.level.Level.TheVariants.{Open, Closed}
use Rattle.xb_contact.specs.declared.hold.Hold.{Hold}
use Rattle.xb_contact.specs.Holds.{IsAlternating, AllLast}
use Rattle.xb_contact.specs.Bounces.{Disturbed, recorded, clean, AllBounceWithin}
use Rattle.xb_contact.specs.declared.scale.Scale.{Scale}
use Rattle.xb_contact.specs.Times.{rounded}
use Rattle.xb_contact.specs.Listening.{begun_at, all_told}
use Rattle.xb_loop.specs.RowsOfHolds.{rows_of_holds, written_rows}
use Rattle.xb_feed.specs.Watching.{least_ticks}

-- whatever the plan, the limits and the routes, the chain makes the same tape of a line by both
abbrev pub MakeOneTape : ℕ → List LoopRow → List LoopRow → Type 0
MakeOneTape line rows others =
    (plan : Plan) (limits : Limits) (routes : List CodedRoute)
    → tape_of plan limits routes line rows ≡ tape_of plan limits routes line others

-- where short bounces disturb a clean record, the rows of its contact have the tape of the clean record
abbrev pub KeepsTheTape : Type 0
KeepsTheTape =
    (line least bounce : ℕ) (scale : Scale) (most : ℕ) (first : Level) (runs : List Disturbed) → 0 < least
    → 0 < scale.ticks → IsAlternating (clean runs) → AllBounceWithin least bounce runs
    → MakeOneTape line (written_rows line (all_told (begun_at least scale most first) (recorded runs)))
    (rows_of_holds line (rounded scale 0 (clean runs)))

-- a record whose runs all last long enough to settle has the tape that it has unsettled
abbrev pub LeavesLongRunsTheirTape : Type 0
LeavesLongRunsTheirTape =
    (line least : ℕ) (scale : Scale) (most : ℕ) (first : Level) (runs : List Hold) → 0 < least → 0 < scale.ticks
    → IsAlternating runs → AllLast least runs
    → MakeOneTape line (written_rows line (all_told (begun_at least scale most first) runs))
    (rows_of_holds line (rounded scale 0 runs))

-- the ms that a break and a make of a pulse have at the least
abbrev pub least_of : Limits → Level → ℕ
least_of limits Open = limits.pulse_min
least_of limits Closed = limits.make_min

-- no run is shorter than that
abbrev pub NoneIsShorter : Limits → Scale → List Hold → Type 0
NoneIsShorter limits scale [] = Unit {0}
NoneIsShorter limits scale (run ∷ rest) =
    (least_of limits run.level * scale.ticks ≤ run.ticks * scale.ms) × NoneIsShorter limits scale rest

-- where contacts settle in no more ms than these, a record without shorter runs has the tape that it has unsettled
abbrev pub HearsNothingOtherwise : Type 0
HearsNothingOtherwise =
    (line settle : ℕ) (limits : Limits) (scale : Scale) (most : ℕ) (first : Level) (runs : List Hold)
    → AreLimits limits → settle ≤ limits.pulse_min → settle ≤ limits.make_min → 0 < scale.ms → 0 < scale.ticks
    → IsAlternating runs → NoneIsShorter limits scale runs
    → MakeOneTape line (written_rows line (all_told (begun_at (least_ticks scale settle) scale most first) runs))
    (rows_of_holds line (rounded scale 0 runs))
