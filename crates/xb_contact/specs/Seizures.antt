-- Which makes of a line seize.
use Rattle.std.specs.Prelude.{ℕ, ◌-◌, List, [], ◌∷◌, Bool, true, false, nat_lt, ◌==◌, ◌&&◌, if◌then◌else◌}
use Rattle.xb_contact.specs.declared.level.Level.{Level}
use Rattle.xb_contact.specs.declared.level.Level.TheVariants.{Open, Closed}
use Rattle.xb_contact.specs.declared.hold.Hold.{Hold}
use Rattle.xb_contact.specs.Holds.{hold_of, runs_of}

abbrev pub is_open : Level → Bool
is_open Open = true
is_open Closed = false

-- a line lacks so many ticks of a break to be on hook, and at 0 it is: whether a hold is there, and shorter than
-- `least`
abbrev pub is_short_on_hook : ℕ → ℕ → ℕ → Bool
is_short_on_hook least lacks ticks = (lacks == 0) && nat_lt ticks least

-- runs, of which a make that is short on hook seizes nothing, and is a break; any other make takes the line off hook,
-- and it is on hook again once it was open for `release` ticks
abbrev pub seizures : ℕ → ℕ → ℕ → List Hold → List Hold
seizures least release lacks [] = []
seizures least release lacks (run ∷ rest) =
    if is_open run.level then run ∷ seizures least release (lacks - run.ticks) rest
    else (if is_short_on_hook least lacks run.ticks
    then hold_of Open run.ticks ∷ seizures least release lacks rest
    else run ∷ seizures least release release rest)

-- the runs of a recording of which they are breaks: at its beginning the line is on hook
abbrev pub seized : ℕ → ℕ → List Hold → List Hold
seized least release holds = runs_of (seizures least release 0 (runs_of holds))

-- whether each make of runs on hook lasts long enough
abbrev pub all_seize : ℕ → ℕ → ℕ → List Hold → Bool
all_seize least release lacks [] = true
all_seize least release lacks (run ∷ rest) =
    if is_open run.level then all_seize least release (lacks - run.ticks) rest
    else (if is_short_on_hook least lacks run.ticks then false else all_seize least release release rest)
