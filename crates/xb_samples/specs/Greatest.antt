-- The greatest sample of a sound, of all its samples.
use Rattle.std.specs.Prelude.{◌≡◌, ℕ, ◌+◌, ℤ, List, [], ◌∷◌, ◌++◌, max, nat_lt, unsigned_abs, if◌then◌else◌}
use Rattle.std.specs.List.{list_any}
use Rattle.xb_samples.specs.declared.sound.Channel.{Channel}
use Rattle.xb_samples.specs.Pieces.{after_piece}
use Rattle.xb_samples.specs.Sounds.{begun_sound, is_channel, sound_reading}

-- of samples, each channel's in turn from this one on, those of the channels that are wires
abbrev pub samples_of_wires : List Channel → ℕ → ℕ → List ℤ → List ℤ
samples_of_wires wires channels channel [] = []
samples_of_wires wires channels channel (sample ∷ rest) =
    (if list_any (is_channel channel) wires then sample ∷ [] else [])
    ++ samples_of_wires wires channels (if nat_lt channel channels then channel + 1 else 1) rest

-- the greatest of samples, whatever its sign
abbrev pub greatest_of : List ℤ → ℕ
greatest_of [] = 0
greatest_of (sample ∷ rest) = max (unsigned_abs sample) (greatest_of rest)

-- it is what is known at the end
abbrev pub MeasuresTheGreatest : Type 0
MeasuresTheGreatest =
    (channels : ℕ) (high : ℤ) (wires : List Channel) (samples : List ℤ)
    → (after_piece sound_reading (begun_sound channels high wires) samples).greatest
    ≡ greatest_of (samples_of_wires wires channels 1 samples)
