-- How a WAV file is read back.
use Rattle.std.specs.Prelude.{◌≡◌, ℕ, ◌+◌, ◌^◌, ◌<◌, List, [], ◌∷◌, drop, length, take, FitsSigned, ℤ}
use Rattle.std.specs.Int.{cast_signed, from_le_bytes, w16, w32}
use Rattle.std.specs.List.{AllByRecursion}
use Rattle.xb_sound.specs.Wavs.{wav_length, wav_of}

-- the number that two bytes write, with its sign
abbrev pub sample_of : ℕ → ℕ → ℤ
sample_of low high = cast_signed w16 (from_le_bytes w16 (low ∷ high ∷ []))

-- the samples that bytes write; a last byte alone is none
abbrev pub samples_of : List ℕ → List ℤ
samples_of [] = []
samples_of (low ∷ []) = []
samples_of (low ∷ high ∷ bytes) = sample_of low high ∷ samples_of bytes

-- the number that a file has at a place, of four bytes
abbrev pub number_at : ℕ → List ℕ → ℕ
number_at place file = from_le_bytes w32 (take 4 (drop place file))

-- a reader that knows where the samples stand reads back how many bytes they have, and each as it was
pub record IsReadBack (samples : List ℤ) (file : List ℕ) : Type 0 where
  pub all_bytes : length file ≡ wav_length samples
  pub riff_bytes : number_at 4 file + 8 ≡ length file
  pub data_bytes : number_at 40 file + 44 ≡ length file
  pub samples_are : samples_of (drop 44 file) ≡ samples

abbrev pub WavsAreReadBack : Type 0
WavsAreReadBack = (samples : List ℤ) → AllByRecursion (FitsSigned w16) samples → wav_length samples < 2 ^ 32
    → IsReadBack samples (wav_of samples)
