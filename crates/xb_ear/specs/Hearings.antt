-- Keys by runs of windows. A run goes on across a hole: fewer than GAP_WINDOWS windows that see none, after PART_WINDOWS
-- in a row that see its pair. It counts once it is long enough and so many in a row see it at its end; a shorter one is
-- passed over, and equal runs on both sides of it join.
use Rattle.std.specs.Prelude.{ℕ, ◌+◌, ◌-◌, ◌^◌, List, [], ◌∷◌, Bool, true, false, ◌&&◌, ◌||◌, ◌==◌, if◌then◌else◌, nat_le, nat_lt, min, Option, Some, None}
use Rattle.xb_model.specs.declared.key.Tone.{Tone as Pair}
use Rattle.xb_model.specs.declared.key.Key.TheVariants.{Kp}
use Rattle.xb_model.specs.Image.{Machine}
use Rattle.xb_model.specs.MfPairs.{mf_pair}
use Rattle.xb_ear.specs.declared.sight.Sight.{Sight}
use Rattle.xb_ear.specs.declared.hearing.Heard.{Heard}
use Rattle.xb_ear.specs.declared.hearing.Hearing.{Hearing}
use Rattle.xb_ear.specs.declared.hearing.TheConstants.{GAP_WINDOWS, KEY_WINDOWS, KP_WINDOWS, PART_WINDOWS}

abbrev pub is_same_pair : Pair → Pair → Bool
is_same_pair p q = (p.low == q.low) && (p.high == q.high)

-- two windows see the same: the same pair, or none
abbrev pub is_same : Option Sight → Option Sight → Bool
is_same None None = true
is_same None (Some b) = false
is_same (Some a) None = false
is_same (Some a) (Some b) = is_same_pair a.pair b.pair

-- the stronger of two sights of a pair; of equal ones the earlier
abbrev pub stronger : Sight → Sight → Sight
stronger a b = if nat_lt (a.low + a.high) (b.low + b.high) then b else a

abbrev pub strongest : Option Sight → Option Sight → Option Sight
strongest None b = b
strongest (Some a) None = None
strongest (Some a) (Some b) = Some (stronger a b)

-- how many windows have to see a pair
abbrev pub needed : Sight → ℕ
needed sight = if is_same_pair sight.pair (mf_pair Kp) then KP_WINDOWS else KEY_WINDOWS

-- the next number; counting stops at the greatest that there is
abbrev pub counted : ℕ → ℕ
counted n = min (n + 1) (2 ^ 64 - 1)

-- whether a window that sees this goes on with the run: across no hole, or one after enough windows in a row
abbrev pub joins : Hearing → Option Sight → Bool
joins hearing seen = is_same hearing.seen seen && ((hearing.away == 0) || nat_le PART_WINDOWS hearing.part)

-- the run, with one window more
abbrev pub run_on : Hearing → Option Sight → Hearing
run_on hearing None = record hearing {
  seen = if nat_le GAP_WINDOWS (counted hearing.away) then None else hearing.seen;
  away = counted hearing.away;
  at = counted hearing.at;
}
run_on hearing (Some sight) =
    if joins hearing (Some sight)
    then record hearing {
      seen = strongest hearing.seen (Some sight);
      count = counted hearing.count;
      part = if hearing.away == 0 then counted hearing.part else 1;
      away = 0;
      at = counted hearing.at;
    }
    else record hearing {
      seen = Some sight;
      first = hearing.at;
      count = 1;
      part = 1;
      away = 0;
      at = counted hearing.at;
    }

-- what sounds
abbrev pub sounds : Option Heard → Option Sight
sounds None = None
sounds (Some heard) = Some heard.sight

-- a run that counts begins a key, or ends one, or both
abbrev pub begun : Hearing → Option Sight → Option Heard
begun hearing None = None
begun hearing (Some sight) = Some (record { sight = sight; first = hearing.first; past = hearing.at })

-- a run that counts and sees what sounds already makes it longer
abbrev pub lengthened : Hearing → Option Heard → Option Sight → Option Heard
lengthened hearing None seen = None
lengthened hearing (Some heard) None = Some heard
lengthened hearing (Some heard) (Some sight) =
    Some (record heard { sight = stronger heard.sight sight; past = hearing.at })

-- what the run sees, where the last window sees a pair
abbrev pub now : Hearing → Option Sight → Option Sight
now hearing None = None
now hearing (Some sight) = hearing.seen

-- whether silence counts, or the run of a pair that the last window sees
abbrev pub counts : Hearing → Option Sight → Bool
counts hearing None = nat_le GAP_WINDOWS hearing.away
counts hearing (Some sight) = nat_le PART_WINDOWS hearing.part && nat_le (needed sight) hearing.count

abbrev pub goes_on : Hearing → Option Sight → Bool
goes_on hearing seen = is_same (sounds hearing.sounding) seen

abbrev pub settled : Hearing → Option Sight → Hearing
settled hearing seen =
    if counts hearing seen
    then (if goes_on hearing seen
    then record hearing { sounding = lengthened hearing hearing.sounding (now hearing seen) }
    else record hearing { sounding = begun hearing (now hearing seen) })
    else hearing

abbrev pub listed : Option Heard → List Heard
listed None = []
listed (Some heard) = heard ∷ []

-- the key that a run ends
abbrev pub ended : Hearing → Option Sight → Option Heard
ended hearing seen = if counts hearing seen then (if goes_on hearing seen then None else hearing.sounding) else None

-- before the first window it was silent
abbrev pub silent : Hearing
silent = record { at = 0; seen = None; first = 0; count = 0; part = 0; away = 0; sounding = None }

-- what a hearing makes of the windows
abbrev pub hearer : Machine (Option Sight) Heard Hearing
hearer = record {
  start = silent;
  next = λ hearing seen. settled (run_on hearing seen) seen;
  outs = λ hearing seen. listed (ended (run_on hearing seen) seen);
}
