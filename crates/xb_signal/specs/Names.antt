-- The names of keys (System R1).
use Rattle.std.specs.Prelude.{ℕ, List, Option, Some, None, bytes_eq, codes, if◌then◌else◌}
use Rattle.xb_model.specs.declared.key.Key.TheVariants.{Kp, St}
use Rattle.xb_model.specs.declared.key.Tone.{Tone as Pair}
use Rattle.xb_model.specs.MfPairs.{mf_pair, pair}
use Rattle.xb_signal.specs.declared.key_name.Name.{Name}
use Rattle.xb_signal.specs.declared.key_name.Name.TheVariants.{Key, Kp2, StPrime, StTwoPrimes, StThreePrimes}
use Rattle.xb_sound.specs.declared.cadence.Cadence.{Cadence}
use Rattle.xb_sound.specs.Cadences.{tone_ms}

-- the two frequencies of a key; KP2 and ST'' have the same
abbrev pub pair_of : Name → Pair
pair_of (Key key) = mf_pair key
pair_of Kp2 = pair 1300 1700
pair_of StPrime = pair 900 1700
pair_of StTwoPrimes = pair 1300 1700
pair_of StThreePrimes = pair 700 1700

-- KP2 lasts as long as KP, and any other as a digit
abbrev pub name_ms : Cadence → Name → ℕ
name_ms cadence (Key key) = tone_ms cadence key
name_ms cadence Kp2 = cadence.kp_ms
name_ms cadence StPrime = cadence.key_ms
name_ms cadence StTwoPrimes = cadence.key_ms
name_ms cadence StThreePrimes = cadence.key_ms

-- the key that a word names, but for digits
abbrev pub name_of : List ℕ → Option Name
name_of word =
    if bytes_eq word (codes "KP") then Some (Key Kp)
    else (if bytes_eq word (codes "ST") then Some (Key St)
    else (if bytes_eq word (codes "KP2") then Some Kp2
    else (if bytes_eq word (codes "ST'") then Some StPrime
    else (if bytes_eq word (codes "ST''") then Some StTwoPrimes
    else (if bytes_eq word (codes "ST'''") then Some StThreePrimes
    else None)))))
