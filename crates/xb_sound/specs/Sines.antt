-- The sine of which the tones are made, at 8,000 samples a second.
use Rattle.std.specs.Prelude.{ℕ, ◌*◌, ◌/◌, ◌%◌, List, [], ◌∷◌, ◌++◌, map, reverse, slice_index_or, ℤ, pos, neg_ℤ, ◌+ℤ◌}
use Rattle.xb_model.specs.declared.key.Tone.{Tone}

-- 10,000 times the sines of 4.5 degrees, 9 degrees and so on to 85.5 degrees, each rounded
abbrev pub rise : List ℕ
rise =
    785 ∷ 1564 ∷ 2334 ∷ 3090 ∷ 3827 ∷ 4540 ∷ 5225 ∷ 5878 ∷ 6494 ∷ 7071
    ∷ 7604 ∷ 8090 ∷ 8526 ∷ 8910 ∷ 9239 ∷ 9511 ∷ 9724 ∷ 9877 ∷ 9969 ∷ []

-- half a period: from 0 up to the peak, and down again the same way
abbrev pub half : List ℕ
half = 0 ∷ rise ++ 10000 ∷ reverse rise

-- a period of 100 Hz, of 80 samples: the second half is the first one below zero
unfoldable pub sine_table : List ℤ
sine_table = map pos half ++ map (λ n. neg_ℤ (pos n)) half

abbrev pub sine_at : ℕ → ℤ
sine_at place = slice_index_or sine_table place (pos 0)

-- sample n of a frequency in Hz: it goes through the table hz times as fast as 1 Hz would
abbrev pub sine_sample : ℕ → ℕ → ℤ
sine_sample hz n = sine_at (hz * n / 100 % 80)

-- sample n of two frequencies that sound together
abbrev pub pair_sample : Tone → ℕ → ℤ
pair_sample pair n = sine_sample pair.low n +ℤ sine_sample pair.high n
