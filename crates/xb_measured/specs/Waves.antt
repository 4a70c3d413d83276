-- Sums of weighted samples with a wave.
use Rattle.std.specs.Prelude.{ℕ, ◌+◌, ◌*◌, ◌/◌, ◌%◌, List, [], ◌∷◌, ◌++◌, reverse, ℤ, pos, ◌+ℤ◌, ◌*ℤ◌}
use Rattle.xb_sound.specs.Sines.{sine_at}
use Rattle.xb_measured.specs.declared.wave_sums.Sums.{Sums}

-- a raised cosine rises from 0 to 2,000 through 80 samples: 1,000 times what 1 is above the cosine of 1.125 degrees, of
-- 3.375 and so on to 178.875, each rounded
abbrev pub rising : List ℕ
rising =
    0 ∷ 2 ∷ 5 ∷ 9 ∷ 16 ∷ 23 ∷ 32 ∷ 43 ∷ 55 ∷ 69 ∷ 84 ∷ 100 ∷ 118 ∷ 137 ∷ 158 ∷ 180 ∷ 203 ∷ 227 ∷ 252 ∷ 279
    ∷ 307 ∷ 336 ∷ 366 ∷ 396 ∷ 428 ∷ 461 ∷ 494 ∷ 529 ∷ 564 ∷ 599 ∷ 636 ∷ 672 ∷ 710 ∷ 748 ∷ 786 ∷ 824 ∷ 863
    ∷ 902 ∷ 941 ∷ 980 ∷ 1020 ∷ 1059 ∷ 1098 ∷ 1137 ∷ 1176 ∷ 1214 ∷ 1252 ∷ 1290 ∷ 1328 ∷ 1364 ∷ 1401 ∷ 1436
    ∷ 1471 ∷ 1506 ∷ 1539 ∷ 1572 ∷ 1604 ∷ 1634 ∷ 1664 ∷ 1693 ∷ 1721 ∷ 1748 ∷ 1773 ∷ 1797 ∷ 1820 ∷ 1842
    ∷ 1863 ∷ 1882 ∷ 1900 ∷ 1916 ∷ 1931 ∷ 1945 ∷ 1957 ∷ 1968 ∷ 1977 ∷ 1984 ∷ 1991 ∷ 1995 ∷ 1998 ∷ 2000 ∷ []

-- and falls through 80 more the same way
unfoldable pub weights : List ℕ
weights = rising ++ reverse rising

-- sample n of a frequency, so many places of the table ahead of its sine: its cosine is 20 ahead
abbrev pub wave : ℕ → ℕ → ℕ → ℤ
wave hz ahead n = sine_at ((hz * n / 100 + ahead) % 80)

-- the sum of the products of samples with their weights and with a wave, from its sample n on
unfoldable pub weighed : (ℕ → ℤ) → ℕ → List ℕ → List ℤ → ℤ
weighed w n [] xs = pos 0
weighed w n (a ∷ later) [] = pos 0
weighed w n (a ∷ later) (x ∷ xs) = pos a *ℤ x *ℤ w n +ℤ weighed w (n + 1) later xs

-- a sine of amplitude A has sums whose squares together are those of 800,000,000 times A: half of what all weights are
-- together, by 10,000
abbrev pub sums_of : ℕ → ℕ → List ℤ → Sums
sums_of hz from samples = record {
  cosine = weighed (wave hz 20) from weights samples;
  sine = weighed (wave hz 0) from weights samples;
}
