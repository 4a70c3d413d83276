-- Which calls of a line answer its bell.
use Rattle.std.specs.Prelude.{ℕ, ◌+◌, ◌-◌, List, [], ◌∷◌, Bool, false, nat_le, ◌==◌, ◌&&◌, if◌then◌else◌}
use Rattle.xb_contact.specs.declared.level.Level.{Level}
use Rattle.xb_contact.specs.declared.level.Level.TheVariants.{Open, Closed}
use Rattle.xb_contact.specs.declared.hold.Hold.{Hold}
use Rattle.xb_contact.specs.Holds.{hold_of, runs_of}
use Rattle.xb_contact.specs.Seizures.{is_open, is_short_on_hook}

-- a period of ringing is a make and the break after it that last 15 to 67 ms together
abbrev pub lasts_a_period : ℕ → Bool
lasts_a_period ticks = nat_le 15 ticks && nat_le ticks 67

abbrev pub is_period : Hold → Hold → Bool
is_period make rest =
    if is_open make.level then false else is_open rest.level && lasts_a_period (make.ticks + rest.ticks)

-- with how many periods in a row runs end; they stand here with the last one first
abbrev pub periods_at_end : List Hold → ℕ
periods_at_end [] = 0
periods_at_end (run ∷ []) = 0
periods_at_end (rest ∷ make ∷ past) = if is_period make rest then periods_at_end past + 1 else 0

-- 8 of them and more are a burst
abbrev pub ends_in_burst : List Hold → Bool
ends_in_burst past = nat_le 8 (periods_at_end past)

-- for how long an answer still counts after such runs: for `wait` ms from the end of a burst on
abbrev pub awaits : ℕ → List Hold → ℕ
awaits wait [] = 0
awaits wait (run ∷ past) = if ends_in_burst (run ∷ past) then wait else awaits wait past - run.ticks

-- a make on hook is written as a break where an answer counts; off hook each make is written as the one that took the
-- line off hook, which is written as `call`
abbrev pub level_of_make : ℕ → Level → ℕ → List Hold → Level
level_of_make wait call lacks past =
    if lacks == 0 then (if awaits wait past == 0 then Closed else Open) else call

-- runs that come after those of `past` on hook, as they are written. A line lacks so many ms of a break to be on hook; a
-- make of `least` ms on hook takes it off hook, and then a break of `release` ms puts it on hook again
abbrev pub written : ℕ → ℕ → ℕ → Level → ℕ → List Hold → List Hold → List Hold
written wait least release call lacks past [] = []
written wait least release call lacks past (run ∷ rest) =
    if is_open run.level then run ∷ written wait least release call (lacks - run.ticks) (run ∷ past) rest
    else (let level = level_of_make wait call lacks past in
    hold_of level run.ticks
    ∷ (if is_short_on_hook least lacks run.ticks then written wait least release level lacks (run ∷ past) rest
    else written wait least release level release [] rest))

-- the runs of a recording in which each call that answers the bell is a break: at its beginning the line is on hook
abbrev pub answered : ℕ → ℕ → ℕ → List Hold → List Hold
answered wait least release holds = runs_of (written wait least release Closed 0 [] (runs_of holds))
