-- How much of 700 Hz 1,700 Hz gives, and of 1,700 Hz 700 Hz: of all pairs the most.
use Rattle.std.proofs.Common.{◌≡◌, ℕ, ◌+◌, ◌*◌, ◌<◌, ◌≤◌, Bool, true, map, arith, refl, inl, inr}
use Rattle.std.specs.List.{list_all, range_with_len}
use Rattle.std.proofs.lemmas.Bool.{cases_lt}
use Rattle.xb_signal.specs.Levels.{amplitudes, table_at}
use Rattle.xb_sound.specs.Sines.{sine_table}
use Rattle.xb_sound.proofs.SineTables.{holds_below}
use Rattle.xb_laws.proofs.Halves.{anywhere}
use Rattle.xb_laws.proofs.Known.{IsKnown, known7, known17}
use Rattle.xb_laws.proofs.Leaks.{GivesLittle, are_within, by-table, rest_at}
use Rattle.xb_laws.proofs.Loud.{given, loud}
use Rattle.xb_laws.proofs.Tests.{gives_little, is_little, little, period}
use Rattle.xb_laws.proofs.Tones.{cosine, tone}

-- at an amplitude, as it is computed
abbrev loud_at : ℕ → ℕ → ℕ → Bool
loud_at g f i = gives_little (loud (table_at i) g) f (426000 * 426000)

abbrev are_loud : ℕ → ℕ → ℕ → ℕ → Bool
are_loud g f start count = list_all (loud_at g f) (range_with_len start count)

amplitudes-within : are_within 254 13335 ≡ true
unfolding amplitudes
amplitudes-within = refl

by-amplitude : (g f start count : ℕ) → are_loud g f start count ≡ true
    → (i m : ℕ) → start ≤ i → i < start + count → m < 40 → given f m (loud (table_at i) g) ≤ 426000 * 426000
by-amplitude g f start count tested i m least most small =
    little (loud (table_at i) g) f (426000 * 426000) m
    (holds_below
    (is_little (map (loud (table_at i) g) (range_with_len 0 120)) (period (cosine f)) (period (tone f))
    (426000 * 426000))
    40 0 (holds_below (loud_at g f) count start tested i least most) m (omega arith) (omega (arith, small))) small

-- up to -4.7 dBm0 by the table, and above as it is computed
of-both : (g k f n : ℕ) → g ≡ 2 * k + 1 → IsKnown f n 426000 → list_all (rest_at g) (range_with_len 100 301) ≡ true
    → gives_little (tone g) f (158640 * 158640) ≡ true → are_loud g f 354 16 ≡ true → are_loud g f 370 16 ≡ true
    → are_loud g f 386 15 ≡ true → GivesLittle g f 426000
of-both g k f n odd known rests table first second third i m least most =
    anywhere f (table_at i) g k (426000 * 426000) odd in-half m
  where
    in-half : (m : ℕ) → m < 40 → given f m (loud (table_at i) g) ≤ 426000 * 426000
    in-half m small = elim (cases_lt i 354) [
      | inl below ↦
          by-table g f n 426000 158640 13335 254 known rests table amplitudes-within (omega arith) (omega arith) i m least
          (omega (arith, below)) small
      | inr from354 ↦ elim (cases_lt i 370) [
        | inl below ↦ by-amplitude g f 354 16 first i m from354 (omega (arith, below)) small
        | inr from370 ↦ elim (cases_lt i 386) [
          | inl below ↦ by-amplitude g f 370 16 second i m from370 (omega (arith, below)) small
          | inr from386 ↦ by-amplitude g f 386 15 third i m from386 (omega (arith, most)) small
        ]
      ]
    ]

table7-17 : gives_little (tone 7) 17 (158640 * 158640) ≡ true
unfolding sine_table
table7-17 = refl

first7-17 : are_loud 7 17 354 16 ≡ true
unfolding sine_table amplitudes
first7-17 = refl

second7-17 : are_loud 7 17 370 16 ≡ true
unfolding sine_table amplitudes
second7-17 = refl

third7-17 : are_loud 7 17 386 15 ≡ true
unfolding sine_table amplitudes
third7-17 = refl

pub leak7-17 : GivesLittle 7 17 426000
leak7-17 =
    of-both 7 3 17 3999993168 refl known17 known7.rests table7-17 first7-17 second7-17 third7-17

table17-7 : gives_little (tone 17) 7 (158640 * 158640) ≡ true
unfolding sine_table
table17-7 = refl

first17-7 : are_loud 17 7 354 16 ≡ true
unfolding sine_table amplitudes
first17-7 = refl

second17-7 : are_loud 17 7 370 16 ≡ true
unfolding sine_table amplitudes
second17-7 = refl

third17-7 : are_loud 17 7 386 15 ≡ true
unfolding sine_table amplitudes
third17-7 = refl

pub leak17-7 : GivesLittle 17 7 426000
leak17-7 =
    of-both 17 8 7 3999993168 refl known7 known17.rests table17-7 first17-7 second17-7 third17-7
