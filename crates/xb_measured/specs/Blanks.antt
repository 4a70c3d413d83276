-- The windows of a key that see no pair: a hole in it.
use Rattle.std.specs.Prelude.{ℕ, ◌+◌, ◌-◌, List, [], ◌∷◌, Bool, false, ◌&&◌, drop, take, length, min, if◌then◌else◌, is_none, Option, ℤ}
use Rattle.xb_ear.specs.declared.hearing.Heard.{Heard as HeardKey}
use Rattle.xb_ear.specs.declared.sight.Sight.{Sight}
use Rattle.xb_ear.specs.Ears.{hearing_after, held_before, windows_in}
use Rattle.xb_ear.specs.Receivers.{Receiving as EarReceiving}

-- 1 where two windows in a row see no pair
abbrev pub blank_by : Bool → Option Sight → ℕ
blank_by was_blank held = if was_blank && is_none held then 1 else 0

-- how many windows see no pair, as the one before each of them
unfoldable pub blanks_after : Bool → List (Option Sight) → ℕ
blanks_after was_blank [] = 0
blanks_after was_blank (held ∷ later) = blank_by was_blank held + blanks_after (is_none held) later

-- where a window stands among the last 64
abbrev pub place_of : ℕ → ℕ → ℕ
place_of at window = 64 - (at - window)

-- what the windows of a key see, of the last 64
abbrev pub held_between : List (Option Sight) → ℕ → ℕ → List (Option Sight)
held_between held from to = take (to - from) (drop from held)

-- a hole of so many windows that see no pair lasts 20 samples less, as a gap does; so the first one does not count
abbrev pub blank_at : List (Option Sight) → ℕ → HeardKey → ℕ
blank_at held at key =
    blanks_after false (held_between held (min (place_of at key.first) (place_of at key.past)) (place_of at key.past))

abbrev pub blank_of : EarReceiving → HeardKey → ℕ
blank_of ear key = blank_at ear.held ear.hearing.at key

-- by the samples up to where it is given
abbrev pub blank_in : List ℤ → HeardKey → ℕ
blank_in samples key = blank_at (held_before samples (windows_in (length samples))) (hearing_after samples).at key
