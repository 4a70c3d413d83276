-- The keys of a sound, with their tones: each is measured when it is given.
use Rattle.std.specs.Prelude.{◌≡◌, List, [], ◌∷◌, ◌++◌, drop, length, map, ℤ, Option, Some, None}
use Rattle.xb_model.specs.declared.key.Tone.{Tone as Pair}
use Rattle.xb_ear.specs.declared.hearing.Heard.{Heard as HeardKey}
use Rattle.xb_ear.specs.Ears.{heard, hearing_after}
use Rattle.xb_ear.specs.Hearings.{listed as listed_key}
use Rattle.xb_ear.specs.Receivers.{HasReceived as HasEarReceived, Receiving as EarReceiving}
use Rattle.xb_measured.specs.declared.heard.Heard.{Heard}
use Rattle.xb_measured.specs.Tapes.{IsTapeOf, Taped, heard_in}

abbrev pub listed : Option Heard → List Heard
listed None = []
listed (Some key) = key ∷ []

-- the keys that one sample more ends
abbrev pub ended_by : List ℤ → ℤ → List HeardKey
ended_by samples x = drop (length (heard samples)) (heard (samples ++ x ∷ []))

-- the keys that end in later samples, each by all samples up to its end
unfoldable pub ended_in : List ℤ → List ℤ → List Heard
ended_in earlier [] = []
ended_in earlier (x ∷ later) =
    map (heard_in (earlier ++ x ∷ [])) (ended_by earlier x) ++ ended_in (earlier ++ x ∷ []) later

-- the keys of samples that end in them
abbrev pub ended_keys : List ℤ → List Heard
ended_keys samples = ended_in [] samples

-- and with them the key that sounds at their end
abbrev pub keys_of_sound : List ℤ → List Heard
keys_of_sound samples =
    ended_keys samples ++ map (heard_in samples) (listed_key (hearing_after samples).sounding)

-- the pairs of keys
abbrev pub pairs_in : List Heard → List Pair
pairs_in keys = map (λ (key : Heard). key.sight.pair) keys

-- what a receiver knows
pub record Receiving : Type 0 where
  pub ear : EarReceiving
  pub tape : Taped

-- these are the samples that it has taken so far, and the keys that it has given
pub record HasReceived (receiver : Receiving) (samples : List ℤ) (keys : List Heard) : Type 0 where
  pub ear : HasEarReceived receiver.ear samples (heard samples)
  pub tape : IsTapeOf receiver.tape samples
  pub given : keys ≡ ended_keys samples
