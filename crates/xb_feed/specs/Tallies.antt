-- The short runs of a contact that are taken away: how many, and the longest.
use Rattle.std.specs.Prelude.{◌≡◌, ℕ, ◌+◌, ◌-◌, ◌^◌, ◌<◌, max, min, List, [], ◌∷◌, length, nat_le, nat_lt, ◌==◌, ◌||◌, if◌then◌else◌}
use Rattle.xb_contact.specs.declared.level.Level.{Level}
use Rattle.xb_contact.specs.declared.hold.Hold.{Hold}
use Rattle.xb_contact.specs.Holds.{hold_of, runs_of, same_level, total_of}
use Rattle.xb_feed.specs.declared.tally.Bounces.{Bounces}
use Rattle.xb_feed.specs.declared.tally.Tally.{Tally}

-- the ticks of the runs that are shorter than this; the last one is under way
abbrev pub short_runs : ℕ → List Hold → List ℕ
short_runs least [] = []
short_runs least (run ∷ []) = []
short_runs least (run ∷ next ∷ rest) =
    if nat_lt run.ticks least then run.ticks ∷ short_runs least (next ∷ rest) else short_runs least (next ∷ rest)

abbrev pub longest_of : List ℕ → ℕ
longest_of [] = 0
longest_of (ticks ∷ rest) = max ticks (longest_of rest)

abbrev pub bounces_of : ℕ → ℕ → Bounces
bounces_of count longest = record { count = count; longest = longest }

-- the short runs of a record
abbrev pub bounces_in : ℕ → List Hold → Bounces
bounces_in least holds =
    bounces_of (length (short_runs least (runs_of holds))) (longest_of (short_runs least (runs_of holds)))

-- what is counted hold by hold, up to 2^64 - 1
abbrev pub tally_of : ℕ → Hold → Bounces → Tally
tally_of least run bounces = record { least = least; run = run; bounces = bounces }

abbrev pub begun_tally : ℕ → Level → Tally
begun_tally least first = tally_of least (hold_of first 0) (bounces_of 0 0)

abbrev pub up_to_most : ℕ → ℕ
up_to_most n = min n (2 ^ 64 - 1)

-- a run of so many ticks has ended
abbrev pub with_run : Bounces → ℕ → ℕ → Bounces
with_run bounces least ticks =
    if (ticks == 0) || nat_le least ticks then bounces
    else bounces_of (up_to_most (bounces.count + 1)) (max bounces.longest ticks)

abbrev pub tally_after : Tally → Hold → Tally
tally_after tally hold =
    if hold.ticks == 0 then tally
    else (if same_level hold.level tally.run.level
    then tally_of tally.least (hold_of tally.run.level (up_to_most (tally.run.ticks + hold.ticks))) tally.bounces
    else tally_of tally.least hold (with_run tally.bounces tally.least tally.run.ticks))

-- the run under way, with no short runs before it
abbrev pub counted_anew : Tally → Tally
counted_anew tally = record tally { bounces = bounces_of 0 0 }

abbrev pub tally_at_end : Tally → List Hold → Tally
tally_at_end tally [] = tally
tally_at_end tally (hold ∷ rest) = tally_at_end (tally_after tally hold) rest

-- of a record whose ticks can be counted, exactly its short runs are counted
abbrev pub CountsTheShortRuns : Type 0
CountsTheShortRuns =
    (least : ℕ) (first : Level) (holds : List Hold) → total_of holds < 2 ^ 64
    → (tally_at_end (begun_tally least first) holds).bounces ≡ bounces_in least holds
