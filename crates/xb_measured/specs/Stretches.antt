-- Where a key is measured: in the 200 samples in a row that hold most, of those that begin with one of its windows.
use Rattle.std.specs.Prelude.{ℕ, ◌-◌, ◌*◌, ◌/◌, List, [], ◌∷◌, drop, take, length, min, nat_lt, if◌then◌else◌, Option, Some, None, ℤ}
use Rattle.std.specs.List.{range_with_len}
use Rattle.xb_ear.specs.declared.hearing.Heard.{Heard as HeardKey}
use Rattle.xb_ear.specs.Levels.{squares}
use Rattle.xb_measured.specs.declared.heard.Heard.{Heard}
use Rattle.xb_measured.specs.declared.heard.Onsets.{Onsets}
use Rattle.xb_measured.specs.Onsets.{onsets_of}
use Rattle.xb_measured.specs.Tones.{tone_of}

-- 200 samples from a window on
abbrev pub stretch_at : List ℤ → ℕ → List ℤ
stretch_at kept place = take 200 (drop (20 * place) kept)

abbrev pub power_at : List ℤ → ℕ → ℕ
power_at kept place = squares (stretch_at kept place)

-- the stronger of two places, of equal ones the first
abbrev pub stronger_place : List ℤ → Option ℕ → ℕ → Option ℕ
stronger_place kept None place = Some place
stronger_place kept (Some best) place = Some (if nat_lt (power_at kept best) (power_at kept place) then place else best)

unfoldable pub strongest : List ℤ → Option ℕ → List ℕ → Option ℕ
strongest kept best [] = best
strongest kept best (place ∷ places) = strongest kept (stronger_place kept best place) places

-- the places of a key where so many windows are gone: the 200 samples lie in its windows, and are kept
abbrev pub places_between : List ℤ → ℕ → ℕ → List ℕ
places_between kept from to = range_with_len from (min to ((length kept - 180) / 20) - from)

abbrev pub places_of : List ℤ → ℕ → HeardKey → List ℕ
places_of kept gone key = places_between kept (key.first - gone) (key.past - 6 - gone)

-- the tones of a key by where it is measured; where it is nowhere they are those that its windows saw
abbrev pub heard_at : List ℤ → HeardKey → Option Onsets → ℕ → Option ℕ → Heard
heard_at kept key onsets blank None = record {
  sight = key.sight;
  first = key.first;
  past = key.past;
  low = record { hz = key.sight.pair.low; level = key.sight.low };
  high = record { hz = key.sight.pair.high; level = key.sight.high };
  onsets = onsets;
  blank = blank;
}
heard_at kept key onsets blank (Some place) = record {
  sight = key.sight;
  first = key.first;
  past = key.past;
  low = tone_of key.sight.pair.low (stretch_at kept place);
  high = tone_of key.sight.pair.high (stretch_at kept place);
  onsets = onsets;
  blank = blank;
}

abbrev pub heard_on : List ℤ → ℕ → HeardKey → ℕ → Heard
heard_on kept gone key blank =
    heard_at kept key (onsets_of kept gone key) blank (strongest kept None (places_of kept gone key))
