-- A WAV file is read back.
use Rattle.std.proofs.Common.{◌≡◌, ◌∙◌, ℕ, ◌+◌, ◌*◌, ◌<◌, ◌^◌, List, [], ◌∷◌, length, length-append, ap, arith, refl, ℤ, pos, negsuc, FitsSigned, to_z}
use Rattle.std.specs.Int.{cast_unsigned, from_le_bytes, w16}
use Rattle.std.specs.List.{AllByRecursion, flat_map}
use Rattle.std.proofs.lemmas.Int.{to_z-of_z}
use Rattle.std.proofs.lemmas.Nat.{from_le_bytes-to_le_bytes_2, from_le_bytes-to_le_bytes_4}
use Rattle.xb_sound.specs.ReadWavs.{WavsAreReadBack, number_at, samples_of}
use Rattle.xb_sound.specs.Wavs.{header_of, sample_bytes, wav_length, wav_of}

unsigned-below : (x : ℤ) → FitsSigned w16 x → cast_unsigned w16 x < 2 ^ 16
unsigned-below (pos n) fits = omega (arith, fits.sfits)
unsigned-below (negsuc n) fits = omega (arith, fits.sfits)

-- a sample
sample-back : (x : ℤ) → FitsSigned w16 x → to_z w16 (from_le_bytes w16 (sample_bytes x)) ≡ x
sample-back x fits =
    ap (to_z w16) (from_le_bytes-to_le_bytes_2 (cast_unsigned w16 x) (unsigned-below x fits)) ∙ to_z-of_z w16 x fits

samples-back : (xs : List ℤ) → AllByRecursion (FitsSigned w16) xs → samples_of (flat_map sample_bytes xs) ≡ xs
samples-back [] fit = refl
samples-back (x ∷ xs) fit =
    ap (λ (y : ℤ). y ∷ samples_of (flat_map sample_bytes xs)) (sample-back x fit.0)
    ∙ ap (λ (ys : List ℤ). x ∷ ys) (samples-back xs fit.1)

length-samples : (xs : List ℤ) → length (flat_map sample_bytes xs) ≡ 2 * length xs
length-samples [] = refl
length-samples (x ∷ xs) = omega (arith, length-samples xs)

pub wavs_are_read_back : WavsAreReadBack
wavs_are_read_back samples fit short =
    let n : ℕ = 2 * length samples in
    let body = flat_map sample_bytes samples in
    let whole : length (wav_of samples) ≡ wav_length samples =
    omega (arith, length-append (header_of n) body, length-samples samples) in
    let riff : number_at 4 (wav_of samples) ≡ n + 36 = from_le_bytes-to_le_bytes_4 (n + 36) (omega arith) in
    let bytes : number_at 40 (wav_of samples) ≡ n = from_le_bytes-to_le_bytes_4 n (omega arith) in
    record {
      all_bytes = whole;
      riff_bytes = omega (arith, riff, whole);
      data_bytes = omega (arith, bytes, whole);
      samples_are = samples-back samples fit;
    }
