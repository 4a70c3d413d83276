-- What listening comes to.
use Rattle.std.specs.Prelude.{◌≡◌, ℕ, ◌<◌, List, ◌++◌}
use Rattle.xb_contact.specs.declared.level.Level.{Level}
use Rattle.xb_contact.specs.declared.hold.Hold.{Hold}
use Rattle.xb_contact.specs.Holds.{runs_of, total_of}
use Rattle.xb_contact.specs.Settled.{settled}
use Rattle.xb_contact.specs.declared.scale.Scale.{Scale}
use Rattle.xb_contact.specs.Times.{ms_at, rounded}
use Rattle.xb_contact.specs.Listening.{begun_at, all_told}

-- the runs in ms of what is given are those of the settled record, the times of their ends rounded
abbrev pub TellsTheRecord : Type 0
TellsTheRecord =
    (least : ℕ) (scale : Scale) (most : ℕ) (first : Level) (holds : List Hold) → 0 < least → 0 < scale.ticks
    → runs_of (all_told (begun_at least scale most first) holds)
    ≡ runs_of (rounded scale 0 (settled least first holds))

-- its ms are the recording's time, rounded once
abbrev pub RoundsOnce : Type 0
RoundsOnce =
    (least : ℕ) (scale : Scale) (most : ℕ) (first : Level) (holds : List Hold) → 0 < least → 0 < scale.ticks
    → total_of (all_told (begun_at least scale most first) holds) ≡ ms_at scale (total_of holds)

-- each run of a record in ms begins where those before it end, and these end at their own time, rounded
abbrev pub PlacesHold : Type 0
PlacesHold =
    (scale : Scale) (before runs : List Hold) → 0 < scale.ticks
    → (rounded scale 0 (before ++ runs) ≡ rounded scale 0 before ++ rounded scale (total_of before) runs)
    × (total_of (rounded scale 0 before) ≡ ms_at scale (total_of before))
