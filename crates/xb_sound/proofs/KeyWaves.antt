-- The waves of the keys.
use Rattle.std.proofs.Common.{◌≡◌, ◌∙◌, ℕ, zero, suc, ◌*◌, ◌<◌, true, false, ◌∷◌, [], map, ap, arith, refl}
use Rattle.std.specs.List.{range_with_len}
use Rattle.xb_model.specs.declared.digit.TheConstants.{DIGITS}
use Rattle.xb_model.specs.declared.key.Key.{Key}
use Rattle.xb_model.specs.declared.key.Key.TheVariants.{Digit, Kp, St}
use Rattle.xb_model.specs.declared.key.Tone.{Tone as Pair}
use Rattle.xb_model.specs.MfPairs.{mf_pair, pair}
use Rattle.xb_sound.specs.HeardKeys.{IsKey, frequencies_of, keys_with}
use Rattle.xb_sound.specs.Receiver.{correlation, cosine_wave, is_zero, loud_frequencies, sine_wave}
use Rattle.xb_sound.specs.Sines.{pair_sample, sine_table}
use Rattle.xb_sound.proofs.Insides.{IsWave}
use Rattle.xb_sound.proofs.Places.{pair_sample-turns}

-- a fact of each digit
pub each_digit : (P : ℕ → Type 0) → P 0 → P 1 → P 2 → P 3 → P 4 → P 5 → P 6 → P 7 → P 8 → P 9
    → (d : ℕ) → d < DIGITS → P d
each_digit P p0 p1 p2 p3 p4 p5 p6 p7 p8 p9 zero below = p0
each_digit P p0 p1 p2 p3 p4 p5 p6 p7 p8 p9 (suc zero) below = p1
each_digit P p0 p1 p2 p3 p4 p5 p6 p7 p8 p9 (suc (suc zero)) below = p2
each_digit P p0 p1 p2 p3 p4 p5 p6 p7 p8 p9 (suc (suc (suc zero))) below = p3
each_digit P p0 p1 p2 p3 p4 p5 p6 p7 p8 p9 (suc (suc (suc (suc zero)))) below = p4
each_digit P p0 p1 p2 p3 p4 p5 p6 p7 p8 p9 (suc (suc (suc (suc (suc zero))))) below = p5
each_digit P p0 p1 p2 p3 p4 p5 p6 p7 p8 p9 (suc (suc (suc (suc (suc (suc zero)))))) below = p6
each_digit P p0 p1 p2 p3 p4 p5 p6 p7 p8 p9 (suc (suc (suc (suc (suc (suc (suc zero))))))) below = p7
each_digit P p0 p1 p2 p3 p4 p5 p6 p7 p8 p9 (suc (suc (suc (suc (suc (suc (suc (suc zero)))))))) below = p8
each_digit P p0 p1 p2 p3 p4 p5 p6 p7 p8 p9 (suc (suc (suc (suc (suc (suc (suc (suc (suc zero))))))))) below = p9
each_digit P p0 p1 p2 p3 p4 p5 p6 p7 p8 p9 (suc (suc (suc (suc (suc (suc (suc (suc (suc (suc d)))))))))) below =
    absurd (omega arith)

-- the tone of a pair begins with one sample of 0, has no silence, and is heard as its two frequencies
pub record IsKeyWave (pair : Pair) : Type 0 where
  pub start : is_zero (pair_sample pair 0) ≡ true
  pub wave : IsWave (λ n. pair_sample pair n)
  pub loud : loud_frequencies (map (λ n. pair_sample pair n) (range_with_len 1 80)) ≡ frequencies_of pair

pub wave_of : (a b : ℕ) → is_zero (pair_sample (pair (a * 100) (b * 100)) 0) ≡ true
    → is_zero (pair_sample (pair (a * 100) (b * 100)) 1) ≡ false
    → loud_frequencies (map (λ n. pair_sample (pair (a * 100) (b * 100)) n) (range_with_len 1 80))
    ≡ frequencies_of (pair (a * 100) (b * 100))
    → IsKeyWave (pair (a * 100) (b * 100))
wave_of a b start first loud = record {
  start = start;
  wave = λ turn. ap is_zero (pair_sample-turns a b turn 1) ∙ first;
  loud = loud;
}

digit_wave : (d : ℕ) → d < DIGITS → IsKeyWave (mf_pair (Digit d))
unfolding sine_table sine_wave cosine_wave correlation loud_frequencies
digit_wave = each_digit (λ d. IsKeyWave (mf_pair (Digit d)))
    (wave_of 13 15 refl refl refl)
    (wave_of 7 9 refl refl refl)
    (wave_of 7 11 refl refl refl)
    (wave_of 9 11 refl refl refl)
    (wave_of 7 13 refl refl refl)
    (wave_of 9 13 refl refl refl)
    (wave_of 11 13 refl refl refl)
    (wave_of 7 15 refl refl refl)
    (wave_of 9 15 refl refl refl)
    (wave_of 11 15 refl refl refl)

pub key_wave : (key : Key) → IsKey key → IsKeyWave (mf_pair key)
unfolding sine_table sine_wave cosine_wave correlation loud_frequencies
key_wave (Digit d) below = digit_wave d below
key_wave Kp is = wave_of 11 17 refl refl refl
key_wave St is = wave_of 15 17 refl refl refl

-- no two keys have the same frequencies
pub keys_with-pair : (key : Key) → IsKey key → keys_with (frequencies_of (mf_pair key)) ≡ key ∷ []
keys_with-pair (Digit d) below =
    each_digit (λ d. keys_with (frequencies_of (mf_pair (Digit d))) ≡ Digit d ∷ [])
    refl refl refl refl refl refl refl refl refl refl d below
keys_with-pair Kp is = refl
keys_with-pair St is = refl
