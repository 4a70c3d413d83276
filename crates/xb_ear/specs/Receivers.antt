-- What a receiver gives: what is heard, and at the end of the samples the key that sounds then.
use Rattle.std.specs.Prelude.{◌≡◌, ℕ, List, length, ◌++◌, Option, ℤ}
use Rattle.xb_ear.specs.declared.hearing.Heard.{Heard}
use Rattle.xb_ear.specs.declared.hearing.Hearing.{Hearing}
use Rattle.xb_ear.specs.declared.sight.Sight.{Sight}
use Rattle.xb_ear.specs.Ears.{heard, hearing_after, held_before, least_before, recent_of, windows_in}
use Rattle.xb_ear.specs.Hearings.{listed}

-- the keys of samples that end
abbrev pub keys_of_sound : List ℤ → List Heard
keys_of_sound samples = heard samples ++ listed (hearing_after samples).sounding

-- what a receiver knows: the samples that the next window begins with, what stood out in the windows before that one, the least
-- that lay beside of late, and what the windows so far make of it
pub record Receiving : Type 0 where
  pub recent : List ℤ
  pub held : List (Option Sight)
  pub least : ℕ
  pub hearing : Hearing

-- these are the samples that it has taken so far, and the keys that it has given
pub record HasReceived (receiver : Receiving) (samples : List ℤ) (keys : List Heard) : Type 0 where
  pub recent : receiver.recent ≡ recent_of samples
  pub held : receiver.held ≡ held_before samples (windows_in (length samples))
  pub least : receiver.least ≡ least_before samples (windows_in (length samples))
  pub hearing : receiver.hearing ≡ hearing_after samples
  pub given : keys ≡ heard samples
