-- What the chain hears.
use Rattle.std.specs.Prelude.{◌≡◌, ℕ, ◌*◌, ◌<◌, ◌≤◌, List}
use Rattle.xb_model.specs.Records.{joined, record_up_to_close}
use Rattle.xb_contact.specs.declared.level.Level.{Level}
use Rattle.xb_contact.specs.declared.hold.Hold.{Hold}
use Rattle.xb_contact.specs.Holds.{runs_of, IsAlternating}
use Rattle.xb_contact.specs.Settled.{settled}
use Rattle.xb_contact.specs.Bounces.{Disturbed, recorded, clean, AllBounceWithin}
use Rattle.xb_contact.specs.declared.scale.Scale.{Scale}
use Rattle.xb_contact.specs.Times.{rounded}
use Rattle.xb_contact.specs.Listening.{begun_at, all_told}
use Rattle.xb_loop.specs.RowsOfHolds.{written_rows, runs_of_holds}

-- the record of a line's rows is the settled record of its contact, in ms
abbrev pub HearsTheSettledRecord : Type 0
HearsTheSettledRecord =
    (line least : ℕ) (scale : Scale) (most : ℕ) (first : Level) (holds : List Hold) → 0 < least → 0 < scale.ticks
    → joined (record_up_to_close (written_rows line (all_told (begun_at least scale most first) holds)))
    ≡ runs_of_holds (runs_of (rounded scale 0 (settled least first holds)))

-- where short bounces disturb a clean record, it is the clean one
abbrev pub HearsTheCleanRecord : Type 0
HearsTheCleanRecord =
    (line least bounce : ℕ) (scale : Scale) (most : ℕ) (first : Level) (runs : List Disturbed) → 0 < least
    → 0 < scale.ticks → IsAlternating (clean runs) → AllBounceWithin least bounce runs
    → joined (record_up_to_close (written_rows line (all_told (begun_at least scale most first) (recorded runs))))
    ≡ runs_of_holds (runs_of (rounded scale 0 (clean runs)))

-- where a settled run lasts 1 ms or more, it is the clean one run for run, each with its ms
abbrev pub HearsEachCleanRun : Type 0
HearsEachCleanRun =
    (line least bounce : ℕ) (scale : Scale) (most : ℕ) (first : Level) (runs : List Disturbed) → 0 < least
    → 0 < scale.ticks → scale.ticks ≤ least * scale.ms → IsAlternating (clean runs)
    → AllBounceWithin least bounce runs
    → joined (record_up_to_close (written_rows line (all_told (begun_at least scale most first) (recorded runs))))
    ≡ runs_of_holds (rounded scale 0 (clean runs))
