-- How much of each frequency another gives.
use Rattle.std.proofs.Common.{◌≡◌, ℕ, ◌+◌, ◌*◌, ◌<◌, ◌≤◌, Bool, true, map, sym, subst, arith, refl}
use Rattle.std.specs.Prelude.{nat_le}
use Rattle.std.specs.List.{list_all, range_with_len}
use Rattle.std.proofs.lemmas.Bool.{leb-true}
use Rattle.std.proofs.lemmas.Nat.{mul-le}
use Rattle.xb_signal.specs.Levels.{amplitudes, table_at}
use Rattle.xb_sound.specs.Sines.{sine_table}
use Rattle.xb_sound.proofs.SineTables.{holds_below}
use Rattle.xb_laws.proofs.Halves.{anywhere}
use Rattle.xb_laws.proofs.Known.{IsKnown, known7, known9, known11, known13, known15, known17}
use Rattle.xb_laws.proofs.Loud.{given, leaks, loud, rest}
use Rattle.xb_laws.proofs.Tests.{gives_little, held, held-is, is_little, little, period, rest_test}
use Rattle.xb_laws.proofs.Tones.{cosine, tone}

-- of a frequency another gives no more than so much, at each level and from any sample on
abbrev pub GivesLittle : ℕ → ℕ → ℕ → Type 0
GivesLittle g f x = (i m : ℕ) → 100 ≤ i → i ≤ 400 → given f m (loud (table_at i) g) ≤ x * x

-- the amplitudes up to a place of the table
abbrev pub are_within : ℕ → ℕ → Bool
are_within count most = list_all (λ i. nat_le (table_at i) most) (range_with_len 100 count)

abbrev pub rest_at : ℕ → ℕ → Bool
rest_at g i = rest_test g (table_at i)

-- by the table, and by the most that rounding adds
pub by-table : (g f n x t most count : ℕ) → IsKnown f n x → list_all (rest_at g) (range_with_len 100 301) ≡ true
    → gives_little (tone g) f (t * t) ≡ true → are_within count most ≡ true → count ≤ 301
    → most * t + 2140000000 ≤ 10000 * x
    → (i m : ℕ) → 100 ≤ i → i < 100 + count → m < 40 → given f m (loud (table_at i) g) ≤ x * x
by-table g f n x t most count known rests table within few enough i m least below small =
    let b : ℕ = table_at i in
    let amplitude : b ≤ most =
    leb-true _ _ (holds_below (λ i. nat_le (table_at i) most) count 100 within i least (omega arith)) in
    let wide = mul-le b t most t amplitude (omega arith) in
    let left : 4000081820 * held (rest b g) (rest b g) ≤ 2140000000 * 2140000000 =
    leb-true _ _ (holds_below (rest_at g) 301 100 rests i least (omega (arith, below, few))) in
    leaks f n g b t 2140000000 x m known.wave
    (little (tone g) f (t * t) m
    (holds_below
    (is_little (map (tone g) (range_with_len 0 120)) (period (cosine f)) (period (tone f)) (t * t)) 40 0 table m
    (omega arith) (omega (arith, small))) small)
    (subst (λ (e : ℕ). 4000081820 * e ≤ 2140000000 * 2140000000) (sym (held-is (rest b g) (rest b g))) left)
    (omega (arith, wide, enough))

amplitudes-within : are_within 301 22909 ≡ true
unfolding amplitudes
amplitudes-within = refl

-- of all but 1,500 Hz
sooner : (g k f n : ℕ) → g ≡ 2 * k + 1 → IsKnown f n 426000 → list_all (rest_at g) (range_with_len 100 301) ≡ true
    → gives_little (tone g) f (92000 * 92000) ≡ true → GivesLittle g f 426000
sooner g k f n odd known rests table i m least most =
    anywhere f (table_at i) g k (426000 * 426000) odd
    (λ m small. by-table g f n 426000 92000 22909 301 known rests table amplitudes-within (omega arith) (omega arith) i m
    least (omega (arith, most)) small) m

-- and of 1,500 Hz
of15 : (g k : ℕ) → g ≡ 2 * k + 1 → list_all (rest_at g) (range_with_len 100 301) ≡ true
    → gives_little (tone g) 15 (37000 * 37000) ≡ true → GivesLittle g 15 300000
of15 g k odd rests table i m least most =
    anywhere 15 (table_at i) g k (300000 * 300000) odd
    (λ m small. by-table g 15 4000081820 300000 37000 22909 301 known15 rests table amplitudes-within (omega arith)
    (omega arith) i m least (omega (arith, most)) small) m

table7-9 : gives_little (tone 7) 9 (92000 * 92000) ≡ true
unfolding sine_table
table7-9 = refl

pub leak7-9 : GivesLittle 7 9 426000
leak7-9 = sooner 7 3 9 3999993168 refl known9 known7.rests table7-9

table7-11 : gives_little (tone 7) 11 (92000 * 92000) ≡ true
unfolding sine_table
table7-11 = refl

pub leak7-11 : GivesLittle 7 11 426000
leak7-11 = sooner 7 3 11 3999993168 refl known11 known7.rests table7-11

table7-13 : gives_little (tone 7) 13 (92000 * 92000) ≡ true
unfolding sine_table
table7-13 = refl

pub leak7-13 : GivesLittle 7 13 426000
leak7-13 = sooner 7 3 13 3999993168 refl known13 known7.rests table7-13

table7-15 : gives_little (tone 7) 15 (37000 * 37000) ≡ true
unfolding sine_table
table7-15 = refl

pub leak7-15 : GivesLittle 7 15 300000
leak7-15 = of15 7 3 refl known7.rests table7-15

table9-7 : gives_little (tone 9) 7 (92000 * 92000) ≡ true
unfolding sine_table
table9-7 = refl

pub leak9-7 : GivesLittle 9 7 426000
leak9-7 = sooner 9 4 7 3999993168 refl known7 known9.rests table9-7

table9-11 : gives_little (tone 9) 11 (92000 * 92000) ≡ true
unfolding sine_table
table9-11 = refl

pub leak9-11 : GivesLittle 9 11 426000
leak9-11 = sooner 9 4 11 3999993168 refl known11 known9.rests table9-11

table9-13 : gives_little (tone 9) 13 (92000 * 92000) ≡ true
unfolding sine_table
table9-13 = refl

pub leak9-13 : GivesLittle 9 13 426000
leak9-13 = sooner 9 4 13 3999993168 refl known13 known9.rests table9-13

table9-15 : gives_little (tone 9) 15 (37000 * 37000) ≡ true
unfolding sine_table
table9-15 = refl

pub leak9-15 : GivesLittle 9 15 300000
leak9-15 = of15 9 4 refl known9.rests table9-15

table9-17 : gives_little (tone 9) 17 (92000 * 92000) ≡ true
unfolding sine_table
table9-17 = refl

pub leak9-17 : GivesLittle 9 17 426000
leak9-17 = sooner 9 4 17 3999993168 refl known17 known9.rests table9-17

table11-7 : gives_little (tone 11) 7 (92000 * 92000) ≡ true
unfolding sine_table
table11-7 = refl

pub leak11-7 : GivesLittle 11 7 426000
leak11-7 = sooner 11 5 7 3999993168 refl known7 known11.rests table11-7

table11-9 : gives_little (tone 11) 9 (92000 * 92000) ≡ true
unfolding sine_table
table11-9 = refl

pub leak11-9 : GivesLittle 11 9 426000
leak11-9 = sooner 11 5 9 3999993168 refl known9 known11.rests table11-9

table11-13 : gives_little (tone 11) 13 (92000 * 92000) ≡ true
unfolding sine_table
table11-13 = refl

pub leak11-13 : GivesLittle 11 13 426000
leak11-13 = sooner 11 5 13 3999993168 refl known13 known11.rests table11-13

table11-15 : gives_little (tone 11) 15 (37000 * 37000) ≡ true
unfolding sine_table
table11-15 = refl

pub leak11-15 : GivesLittle 11 15 300000
leak11-15 = of15 11 5 refl known11.rests table11-15

table11-17 : gives_little (tone 11) 17 (92000 * 92000) ≡ true
unfolding sine_table
table11-17 = refl

pub leak11-17 : GivesLittle 11 17 426000
leak11-17 = sooner 11 5 17 3999993168 refl known17 known11.rests table11-17

table13-7 : gives_little (tone 13) 7 (92000 * 92000) ≡ true
unfolding sine_table
table13-7 = refl

pub leak13-7 : GivesLittle 13 7 426000
leak13-7 = sooner 13 6 7 3999993168 refl known7 known13.rests table13-7

table13-9 : gives_little (tone 13) 9 (92000 * 92000) ≡ true
unfolding sine_table
table13-9 = refl

pub leak13-9 : GivesLittle 13 9 426000
leak13-9 = sooner 13 6 9 3999993168 refl known9 known13.rests table13-9

table13-11 : gives_little (tone 13) 11 (92000 * 92000) ≡ true
unfolding sine_table
table13-11 = refl

pub leak13-11 : GivesLittle 13 11 426000
leak13-11 = sooner 13 6 11 3999993168 refl known11 known13.rests table13-11

table13-15 : gives_little (tone 13) 15 (37000 * 37000) ≡ true
unfolding sine_table
table13-15 = refl

pub leak13-15 : GivesLittle 13 15 300000
leak13-15 = of15 13 6 refl known13.rests table13-15

table13-17 : gives_little (tone 13) 17 (92000 * 92000) ≡ true
unfolding sine_table
table13-17 = refl

pub leak13-17 : GivesLittle 13 17 426000
leak13-17 = sooner 13 6 17 3999993168 refl known17 known13.rests table13-17

table15-7 : gives_little (tone 15) 7 (92000 * 92000) ≡ true
unfolding sine_table
table15-7 = refl

pub leak15-7 : GivesLittle 15 7 426000
leak15-7 = sooner 15 7 7 3999993168 refl known7 known15.rests table15-7

table15-9 : gives_little (tone 15) 9 (92000 * 92000) ≡ true
unfolding sine_table
table15-9 = refl

pub leak15-9 : GivesLittle 15 9 426000
leak15-9 = sooner 15 7 9 3999993168 refl known9 known15.rests table15-9

table15-11 : gives_little (tone 15) 11 (92000 * 92000) ≡ true
unfolding sine_table
table15-11 = refl

pub leak15-11 : GivesLittle 15 11 426000
leak15-11 = sooner 15 7 11 3999993168 refl known11 known15.rests table15-11

table15-13 : gives_little (tone 15) 13 (92000 * 92000) ≡ true
unfolding sine_table
table15-13 = refl

pub leak15-13 : GivesLittle 15 13 426000
leak15-13 = sooner 15 7 13 3999993168 refl known13 known15.rests table15-13

table15-17 : gives_little (tone 15) 17 (92000 * 92000) ≡ true
unfolding sine_table
table15-17 = refl

pub leak15-17 : GivesLittle 15 17 426000
leak15-17 = sooner 15 7 17 3999993168 refl known17 known15.rests table15-17

table17-9 : gives_little (tone 17) 9 (92000 * 92000) ≡ true
unfolding sine_table
table17-9 = refl

pub leak17-9 : GivesLittle 17 9 426000
leak17-9 = sooner 17 8 9 3999993168 refl known9 known17.rests table17-9

table17-11 : gives_little (tone 17) 11 (92000 * 92000) ≡ true
unfolding sine_table
table17-11 = refl

pub leak17-11 : GivesLittle 17 11 426000
leak17-11 = sooner 17 8 11 3999993168 refl known11 known17.rests table17-11

table17-13 : gives_little (tone 17) 13 (92000 * 92000) ≡ true
unfolding sine_table
table17-13 = refl

pub leak17-13 : GivesLittle 17 13 426000
leak17-13 = sooner 17 8 13 3999993168 refl known13 known17.rests table17-13

table17-15 : gives_little (tone 17) 15 (37000 * 37000) ≡ true
unfolding sine_table
table17-15 = refl

pub leak17-15 : GivesLittle 17 15 300000
leak17-15 = of15 17 8 refl known17.rests table17-15
