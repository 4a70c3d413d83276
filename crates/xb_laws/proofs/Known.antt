-- What is computed of each frequency at each level.
use Rattle.std.proofs.Common.{◌≡◌, ℕ, ◌≤◌, Bool, true, arith, refl}
use Rattle.std.specs.List.{list_all, range_with_len}
use Rattle.xb_signal.specs.Levels.{amplitudes, table_at}
use Rattle.xb_sound.specs.Sines.{sine_table}
use Rattle.xb_laws.proofs.Caps.{cap_at, caps}
use Rattle.xb_laws.proofs.Loud.{IsWave}
use Rattle.xb_laws.proofs.Sums.{sum}
use Rattle.xb_laws.proofs.Tests.{own_test, rest_test}

-- the levels of -30.0 to 0.0 dBm0, by their places in the table
abbrev pub all_levels : (ℕ → Bool) → Bool
all_levels test = list_all test (range_with_len 100 301)

abbrev pub own_all : ℕ → ℕ → ℕ → Bool
own_all f n x = all_levels (λ i. own_test f n x (table_at i) (cap_at i))

abbrev pub rest_all : ℕ → Bool
rest_all f = all_levels (λ i. rest_test f (table_at i))

-- what is known of a frequency, where others give no more than so much of it
pub record IsKnown (f n x : ℕ) : Type 0 where
  pub wave : IsWave f n
  pub own : own_all f n x ≡ true
  pub rests : rest_all f ≡ true
  pub few : x ≤ 426000

wave7 : IsWave 7 3999993168
unfolding sine_table sum
wave7 = record { some = omega arith; most = omega arith; cosines = refl; sines = refl; apart = refl }

own7 : own_all 7 3999993168 426000 ≡ true
unfolding sine_table amplitudes caps
own7 = refl

rest7 : rest_all 7 ≡ true
unfolding sine_table amplitudes
rest7 = refl

pub known7 : IsKnown 7 3999993168 426000
known7 = record { wave = wave7; own = own7; rests = rest7; few = omega arith }

wave9 : IsWave 9 3999993168
unfolding sine_table sum
wave9 = record { some = omega arith; most = omega arith; cosines = refl; sines = refl; apart = refl }

own9 : own_all 9 3999993168 426000 ≡ true
unfolding sine_table amplitudes caps
own9 = refl

rest9 : rest_all 9 ≡ true
unfolding sine_table amplitudes
rest9 = refl

pub known9 : IsKnown 9 3999993168 426000
known9 = record { wave = wave9; own = own9; rests = rest9; few = omega arith }

wave11 : IsWave 11 3999993168
unfolding sine_table sum
wave11 = record { some = omega arith; most = omega arith; cosines = refl; sines = refl; apart = refl }

own11 : own_all 11 3999993168 426000 ≡ true
unfolding sine_table amplitudes caps
own11 = refl

rest11 : rest_all 11 ≡ true
unfolding sine_table amplitudes
rest11 = refl

pub known11 : IsKnown 11 3999993168 426000
known11 = record { wave = wave11; own = own11; rests = rest11; few = omega arith }

wave13 : IsWave 13 3999993168
unfolding sine_table sum
wave13 = record { some = omega arith; most = omega arith; cosines = refl; sines = refl; apart = refl }

own13 : own_all 13 3999993168 426000 ≡ true
unfolding sine_table amplitudes caps
own13 = refl

rest13 : rest_all 13 ≡ true
unfolding sine_table amplitudes
rest13 = refl

pub known13 : IsKnown 13 3999993168 426000
known13 = record { wave = wave13; own = own13; rests = rest13; few = omega arith }

wave15 : IsWave 15 4000081820
unfolding sine_table sum
wave15 = record { some = omega arith; most = omega arith; cosines = refl; sines = refl; apart = refl }

own15 : own_all 15 4000081820 300000 ≡ true
unfolding sine_table amplitudes caps
own15 = refl

rest15 : rest_all 15 ≡ true
unfolding sine_table amplitudes
rest15 = refl

pub known15 : IsKnown 15 4000081820 300000
known15 = record { wave = wave15; own = own15; rests = rest15; few = omega arith }

wave17 : IsWave 17 3999993168
unfolding sine_table sum
wave17 = record { some = omega arith; most = omega arith; cosines = refl; sines = refl; apart = refl }

own17 : own_all 17 3999993168 426000 ≡ true
unfolding sine_table amplitudes caps
own17 = refl

rest17 : rest_all 17 ≡ true
unfolding sine_table amplitudes
rest17 = refl

pub known17 : IsKnown 17 3999993168 426000
known17 = record { wave = wave17; own = own17; rests = rest17; few = omega arith }
