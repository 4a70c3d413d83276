-- What comes of keys that are heard on a trunk: the attempts to key a number into an incoming register.
use Rattle.std.specs.Prelude.{ℕ, zero, suc, ◌-◌, List, [], ◌∷◌, map, length, Bool, true, false, ◌&&◌, if◌then◌else◌, nat_le}
use Rattle.xb_model.specs.declared.dialled.Dialled.{Dialled}
use Rattle.xb_model.specs.declared.dialled.Dialled.TheVariants.{Number, Refused}
use Rattle.xb_model.specs.declared.digits.TheConstants.{NUMBER_DIGITS}
use Rattle.xb_model.specs.declared.mark.Mark.{Mark}
use Rattle.xb_model.specs.declared.reason.Reason.{Reason}
use Rattle.xb_model.specs.declared.reason.Reason.TheVariants.{Mutilated, Unknown, Abandoned, TimedOut}
use Rattle.xb_model.specs.Keyings.{marks_of}
use Rattle.xb_model.specs.Routing.{CodedRoute, order_of}
use Rattle.xb_incoming.specs.declared.key.Symbol.{Symbol}
use Rattle.xb_incoming.specs.declared.key.Symbol.TheVariants.{Digit, Kp, St, Other}
use Rattle.xb_incoming.specs.declared.key.TimedKey.{TimedKey}
use Rattle.xb_incoming.specs.declared.key.TheConstants.{CLEAR_MS, MOST_COUNT}

-- the silence from a moment to a later one is a time-out, by the limit of the register
abbrev pub times_out : ℕ → ℕ → ℕ → Bool
times_out limit last now = nat_le limit (now - last)

-- it lets a register hear again after a mutilated keying
abbrev pub is_clear : ℕ → ℕ → Bool
is_clear last now = nat_le CLEAR_MS (now - last)

-- a count as it is told
abbrev pub capped : ℕ → ℕ
capped n = if nat_le n MOST_COUNT then n else MOST_COUNT

-- digits that are ended by ST: a number of 1 to 10 digits, or one that no office has
abbrev pub number_of : List ℕ → Dialled
number_of digits =
    if nat_le 1 (length digits) && nat_le (length digits) NUMBER_DIGITS then Number digits
    else Refused Unknown (capped (length digits))

-- digits that are ended by something else
abbrev pub refused : Reason → List ℕ → Dialled
refused reason digits = Refused reason (capped (length digits))

-- the digits that keys begin with, after a key that ended at `last`; a time-out ends them, too
abbrev pub digits_at : Symbol → List ℕ → List ℕ
digits_at (Digit d) later = d ∷ later
digits_at Kp later = []
digits_at St later = []
digits_at Other later = []

abbrev pub digits_from : ℕ → ℕ → List TimedKey → List ℕ
digits_from limit last [] = []
digits_from limit last (key ∷ keys) = if times_out limit last key.begin_ms then []
    else digits_at key.what (digits_from limit key.end_ms keys)

-- what ends them, and so what comes of them: ST, a second KP or a pair that is none, a time-out, the end of the keys
abbrev pub ending_at : Symbol → (List ℕ → Dialled) → List ℕ → Dialled
ending_at (Digit d) later = later
ending_at Kp later = refused Mutilated
ending_at St later = number_of
ending_at Other later = refused Mutilated

abbrev pub ending_from : ℕ → ℕ → List TimedKey → List ℕ → Dialled
ending_from limit last [] = refused Abandoned
ending_from limit last (key ∷ keys) = if times_out limit last key.begin_ms then refused TimedOut
    else ending_at key.what (ending_from limit key.end_ms keys)

-- the outcome of a keying whose KP ended at `last`
abbrev pub outcome_from : ℕ → ℕ → List TimedKey → Dialled
outcome_from limit last keys = ending_from limit last keys (digits_from limit last keys)

-- how many keys come before a silence of 500 ms
abbrev pub deaf_from : ℕ → List TimedKey → ℕ
deaf_from last [] = 0
deaf_from last (key ∷ keys) = if is_clear last key.begin_ms then 0 else suc (deaf_from key.end_ms keys)

-- how many keys a keying takes after its KP: its digits and what ends them; after a mutilation all up to a silence
abbrev pub taken_at : Symbol → ℕ → ℕ → ℕ
taken_at (Digit d) later deaf = suc later
taken_at Kp later deaf = suc deaf
taken_at St later deaf = 1
taken_at Other later deaf = suc deaf

abbrev pub taken_from : ℕ → ℕ → List TimedKey → ℕ
taken_from limit last [] = 0
taken_from limit last (key ∷ keys) = if times_out limit last key.begin_ms then 0
    else taken_at key.what (taken_from limit key.end_ms keys) (deaf_from key.end_ms keys)

abbrev pub is_kp : Symbol → Bool
is_kp (Digit d) = false
is_kp Kp = true
is_kp St = false
is_kp Other = false

-- the outcomes of keys of which the first n belong to a keying before them: one for each KP that opens the register
abbrev pub outcomes_after : ℕ → ℕ → List TimedKey → List Dialled
outcomes_after limit n [] = []
outcomes_after limit zero (key ∷ keys) =
    if is_kp key.what
    then outcome_from limit key.end_ms keys ∷ outcomes_after limit (taken_from limit key.end_ms keys) keys
    else outcomes_after limit zero keys
outcomes_after limit (suc n) (key ∷ keys) = outcomes_after limit n keys

-- the outcomes of keys, where a silence of `limit` ms is a time-out
abbrev pub outcomes : ℕ → List TimedKey → List Dialled
outcomes limit keys = outcomes_after limit 0 keys

-- the tape of the office that hears them: one entry for each outcome, by its routes
abbrev pub entry_of : List CodedRoute → Dialled → List Mark
entry_of routes outcome = marks_of (order_of routes outcome)

abbrev pub tape_of : ℕ → List CodedRoute → List TimedKey → List (List Mark)
tape_of limit routes keys = map (entry_of routes) (outcomes limit keys)
