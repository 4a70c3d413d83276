-- What an ear hears, as a register takes it.
use Rattle.std.specs.Prelude.{◌≡◌, ℕ, ◌+◌, ◌-◌, ◌*◌, ◌^◌, ◌≤◌, min, List, [], ◌∷◌, map, ℤ}
use Rattle.xb_model.specs.declared.key.Key.{Key}
use Rattle.xb_model.specs.declared.key.Key.TheVariants as keys
use Rattle.xb_model.specs.declared.key.Tone.{Tone as Pair}
use Rattle.xb_sound.specs.declared.cadence.Cadence.{Cadence}
use Rattle.xb_sound.specs.HeardKeys.{frequencies_of, keys_with}
use Rattle.xb_ear.specs.declared.hearing.Heard.{Heard}
use Rattle.xb_ear.specs.Receivers.{keys_of_sound}
use Rattle.xb_measured.specs.Figures.{length_ms, ms_of, start_ms}
use Rattle.xb_measured.specs.Tapes.{heard_in}
use Rattle.xb_incoming.specs.declared.key.Symbol.{Symbol}
use Rattle.xb_incoming.specs.declared.key.Symbol.TheVariants.{Digit, Kp, St, Other}
use Rattle.xb_incoming.specs.declared.key.TimedKey.{TimedKey}

abbrev pub symbol_of : Key → Symbol
symbol_of (keys.Digit d) = Digit d
symbol_of keys.Kp = Kp
symbol_of keys.St = St

-- a pair of no key is none of these
abbrev pub first_symbol : List Key → Symbol
first_symbol [] = Other
first_symbol (key ∷ more) = symbol_of key

abbrev pub symbol_of_pair : Pair → Symbol
symbol_of_pair p = first_symbol (keys_with (frequencies_of p))

-- the times that are told of a key, in whole ms: when it begins, and how long it lasts
abbrev pub begin_of : Heard → ℕ
begin_of key = ms_of (20 * key.first + 20)

abbrev pub length_of : Heard → ℕ
length_of key = ms_of (20 * (key.past - key.first) + 20)

-- a key as a register takes it of what is told: counting stops at the greatest number that there is
abbrev pub timed_of : Heard → TimedKey
timed_of key = record {
  what = symbol_of_pair key.sight.pair;
  begin_ms = begin_of key;
  end_ms = min (begin_of key + length_of key) (2 ^ 64 - 1);
}

-- the keys of a sound, with their times
abbrev pub timed_keys : List ℤ → List TimedKey
timed_keys samples = map timed_of (keys_of_sound samples)

-- they are those of the key as it is measured, whatever the samples
abbrev pub TimesAreTold : Type 0
TimesAreTold = (samples : List ℤ) (key : Heard)
    → (start_ms (heard_in samples key) ≡ begin_of key) × (length_ms (heard_in samples key) ≡ length_of key)

-- a silence is heard less than this longer than it is, in ms: a window lasts 10 ms, one begins every 2.5 ms, and a key
-- begins and ends with the windows that lie in its tone
abbrev pub EDGES_MS : ℕ
EDGES_MS = 12

-- the time-out of a register outlasts the silences between the keys of a keying
abbrev pub OutlastsGaps : ℕ → Cadence → Type 0
OutlastsGaps limit cadence = cadence.gap_ms + EDGES_MS ≤ limit
