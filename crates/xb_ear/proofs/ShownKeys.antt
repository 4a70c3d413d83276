-- Each key, at each phase, with a disturbance: by computation.
use Rattle.std.proofs.Common.{refl, Some}
use Rattle.xb_model.specs.declared.key.Key.{Key}
use Rattle.xb_model.specs.declared.key.Key.TheVariants.{Digit, Kp, St}
use Rattle.xb_model.specs.MfPairs.{mf_pair}
use Rattle.xb_sound.specs.HeardKeys.{IsKey}
use Rattle.xb_sound.specs.Sines.{pair_sample, sine_table}
use Rattle.xb_sound.proofs.KeyWaves.{each_digit}
use Rattle.xb_ear.specs.HeardKeys.{MOST_NOISE_IN_TONES}
use Rattle.xb_ear.specs.Levels.{correlated}
use Rattle.xb_ear.proofs.Near.{far_squares}
use Rattle.xb_ear.proofs.Shown.{Shows, shown_everywhere}

abbrev pub KeyShows : Key → Type 0
KeyShows key = Shows MOST_NOISE_IN_TONES (λ k. pair_sample (mf_pair key) k) (Some (mf_pair key))

shows-kp : KeyShows Kp
unfolding correlated far_squares sine_table
shows-kp = shown_everywhere 11 17 refl refl

shows-st : KeyShows St
unfolding correlated far_squares sine_table
shows-st = shown_everywhere 15 17 refl refl

shows-0 : KeyShows (Digit 0)
unfolding correlated far_squares sine_table
shows-0 = shown_everywhere 13 15 refl refl

shows-1 : KeyShows (Digit 1)
unfolding correlated far_squares sine_table
shows-1 = shown_everywhere 7 9 refl refl

shows-2 : KeyShows (Digit 2)
unfolding correlated far_squares sine_table
shows-2 = shown_everywhere 7 11 refl refl

shows-3 : KeyShows (Digit 3)
unfolding correlated far_squares sine_table
shows-3 = shown_everywhere 9 11 refl refl

shows-4 : KeyShows (Digit 4)
unfolding correlated far_squares sine_table
shows-4 = shown_everywhere 7 13 refl refl

shows-5 : KeyShows (Digit 5)
unfolding correlated far_squares sine_table
shows-5 = shown_everywhere 9 13 refl refl

shows-6 : KeyShows (Digit 6)
unfolding correlated far_squares sine_table
shows-6 = shown_everywhere 11 13 refl refl

shows-7 : KeyShows (Digit 7)
unfolding correlated far_squares sine_table
shows-7 = shown_everywhere 7 15 refl refl

shows-8 : KeyShows (Digit 8)
unfolding correlated far_squares sine_table
shows-8 = shown_everywhere 9 15 refl refl

shows-9 : KeyShows (Digit 9)
unfolding correlated far_squares sine_table
shows-9 = shown_everywhere 11 15 refl refl

pub shows-key : (key : Key) → IsKey key → KeyShows key
shows-key Kp is = shows-kp
shows-key St is = shows-st
shows-key (Digit d) is =
    each_digit (λ d. KeyShows (Digit d))
    shows-0 shows-1 shows-2 shows-3 shows-4 shows-5 shows-6 shows-7 shows-8 shows-9 d is
