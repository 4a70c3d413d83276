-- Waves that a loud sine of 100, 200, 300 or 2,600 Hz gives much with, and keys give little.
use Rattle.std.proofs.Common.{◌≡◌, ◌∙◌, ℕ, zero, suc, ◌+◌, ◌*◌, ◌<◌, ◌≤◌, true, List, ◌∷◌, map, length, sym, ap, subst, arith, refl, ℤ, pos, ◌+ℤ◌, ◌-ℤ◌, ◌*ℤ◌, unsigned_abs}
use Rattle.std.specs.Prelude.{nat_le}
use Rattle.std.specs.List.{range_with_len}
use Rattle.std.proofs.lemmas.Int.{ints, unsigned_abs-mul}
use Rattle.std.proofs.lemmas.Nat.{mul-le}
use Rattle.xb_sound.specs.Sines.{sine_table}
use Rattle.xb_ear.specs.Disturbed.{IsNear}
use Rattle.xb_ear.specs.Levels.{correlated, cosine_of, sine_of, squares}
use Rattle.xb_ear.proofs.Bessel.{are_apart}
use Rattle.xb_ear.proofs.LouderSines.{AreLowWith}
use Rattle.xb_ear.proofs.Near.{near-correlated, reach}
use Rattle.xb_ear.proofs.Others.{six_waves}
use Rattle.xb_ear.proofs.Scaled.{scaled, size-scaled}
use Rattle.xb_ear.proofs.Products.{nothing-times}

-- a wave that tones give little with
pub record IsOther (wave : ℕ → ℤ) : Type 0 where
  pub apart : are_apart 4001100000 230000 (wave ∷ six_waves) ≡ true
  pub reaches : nat_le (reach wave 0 80) 520000 ≡ true
  pub low : AreLowWith wave

-- and that stands for the sine or the cosine of a frequency in a window: the one gives much with it, the other nothing
pub record IsLoudWith (wave : ℕ → ℤ) (own other : List ℤ) : Type 0 where
  pub is_other : IsOther wave
  pub much : nat_le 3999900000 (unsigned_abs (correlated wave 0 own)) ≡ true
  pub none : nat_le (unsigned_abs (correlated wave 0 other)) 0 ≡ true

-- of a sine whose greater part is in one of them a window gives much with its wave
pub by-own : (a b s c z : ℤ) (k : ℕ) → z ≡ a *ℤ s +ℤ b *ℤ c → unsigned_abs c ≤ 0 → 8131 ≤ unsigned_abs a
    → 3999900000 ≤ unsigned_abs s → 8131 * 3999900000 ≤ unsigned_abs z
by-own a b s c z k sum none great much =
    let zero-c : c ≡ pos 0 = omega (arith, ints, none) in
    let gone : b *ℤ c ≡ pos 0 = ap (λ (x : ℤ). b *ℤ x) zero-c ∙ sym (nothing-times b) in
    let size : unsigned_abs (a *ℤ s) ≡ unsigned_abs a * unsigned_abs s = unsigned_abs-mul a s in
    let wide = mul-le 8131 3999900000 (unsigned_abs a) (unsigned_abs s) great much in
    omega (arith, ints, sum, gone, size, wide)

pub turn-sum : (z p q : ℤ) → z ≡ p +ℤ q → z ≡ q +ℤ p
turn-sum z p q sum = omega (arith, ints, sum)

pub much-left : (wave : ℕ → ℤ) (steady ds : List ℤ) → length steady ≡ 80 → IsNear 30000 steady (scaled 10000 ds)
    → reach wave 0 80 ≤ 520000 → 8131 * 3999900000 ≤ unsigned_abs (correlated wave 0 steady)
    → 3250000000 ≤ unsigned_abs (correlated wave 0 ds)
much-left wave steady ds long near far much =
    let apart : unsigned_abs (correlated wave 0 (scaled 10000 ds) -ℤ correlated wave 0 steady) ≤ 30000 * reach wave 0 80 =
    subst (λ (k : ℕ). unsigned_abs (correlated wave 0 (scaled 10000 ds) -ℤ correlated wave 0 steady) ≤ 30000 * reach wave 0 k)
    long (near-correlated 30000 wave 0 steady (scaled 10000 ds) near) in
    let all : unsigned_abs (correlated wave 0 (scaled 10000 ds)) ≡ 10000 * unsigned_abs (correlated wave 0 ds) = size-scaled wave 10000 0 ds in
    let sizes : unsigned_abs (correlated wave 0 steady)
    ≤ unsigned_abs (correlated wave 0 (scaled 10000 ds)) + 30000 * reach wave 0 80 = omega (arith, ints, apart) in
    omega (arith, all, sizes, far, much)

-- the sine and the cosine where a window begins at a quarter of 80 samples
abbrev pub sines_from : ℕ → ℕ → List ℤ
sines_from hz j = map (λ n. sine_of hz n) (range_with_len (20 * j) 80)

abbrev pub cosines_from : ℕ → ℕ → List ℤ
cosines_from hz j = map (λ n. cosine_of hz n) (range_with_len (20 * j) 80)

abbrev pub IsLoudSine : ℕ → ℕ → Type 0
IsLoudSine hz j = (wave : ℕ → ℤ) × IsLoudWith wave (sines_from hz j) (cosines_from hz j)

abbrev pub IsLoudCosine : ℕ → ℕ → Type 0
IsLoudCosine hz j = (wave : ℕ → ℤ) × IsLoudWith wave (cosines_from hz j) (sines_from hz j)

pub record IsLoud (hz : ℕ) : Type 0 where
  pub s0 : IsLoudSine hz 0
  pub s1 : IsLoudSine hz 1
  pub s2 : IsLoudSine hz 2
  pub s3 : IsLoudSine hz 3
  pub c0 : IsLoudCosine hz 0
  pub c1 : IsLoudCosine hz 1
  pub c2 : IsLoudCosine hz 2
  pub c3 : IsLoudCosine hz 3

pub sine-at : (hz : ℕ) → IsLoud hz → (j : ℕ) → j < 4 → IsLoudSine hz j
sine-at hz is zero below = is.s0
sine-at hz is (suc zero) below = is.s1
sine-at hz is (suc (suc zero)) below = is.s2
sine-at hz is (suc (suc (suc zero))) below = is.s3
sine-at hz is (suc (suc (suc (suc j)))) below = absurd (omega (arith, below))

pub cosine-at : (hz : ℕ) → IsLoud hz → (j : ℕ) → j < 4 → IsLoudCosine hz j
cosine-at hz is zero below = is.c0
cosine-at hz is (suc zero) below = is.c1
cosine-at hz is (suc (suc zero)) below = is.c2
cosine-at hz is (suc (suc (suc zero))) below = is.c3
cosine-at hz is (suc (suc (suc (suc j)))) below = absurd (omega (arith, below))

other-sine-100 : IsOther (sine_of 100)
unfolding correlated squares reach sine_table
other-sine-100 = record {
  apart = refl;
  reaches = refl;
  low = record { w700 = refl; w900 = refl; w1100 = refl; w1300 = refl; w1500 = refl; w1700 = refl };
}

other-cosine-100 : IsOther (cosine_of 100)
unfolding correlated squares reach sine_table
other-cosine-100 = record {
  apart = refl;
  reaches = refl;
  low = record { w700 = refl; w900 = refl; w1100 = refl; w1300 = refl; w1500 = refl; w1700 = refl };
}

pub loud-100 : IsLoud 100
unfolding correlated sine_table
loud-100 = record {
  s0 = (sine_of 100, record { is_other = other-sine-100; much = refl; none = refl });
  s1 = (cosine_of 100, record { is_other = other-cosine-100; much = refl; none = refl });
  s2 = (sine_of 100, record { is_other = other-sine-100; much = refl; none = refl });
  s3 = (cosine_of 100, record { is_other = other-cosine-100; much = refl; none = refl });
  c0 = (cosine_of 100, record { is_other = other-cosine-100; much = refl; none = refl });
  c1 = (sine_of 100, record { is_other = other-sine-100; much = refl; none = refl });
  c2 = (cosine_of 100, record { is_other = other-cosine-100; much = refl; none = refl });
  c3 = (sine_of 100, record { is_other = other-sine-100; much = refl; none = refl });
}

other-sine-200 : IsOther (sine_of 200)
unfolding correlated squares reach sine_table
other-sine-200 = record {
  apart = refl;
  reaches = refl;
  low = record { w700 = refl; w900 = refl; w1100 = refl; w1300 = refl; w1500 = refl; w1700 = refl };
}

other-cosine-200 : IsOther (cosine_of 200)
unfolding correlated squares reach sine_table
other-cosine-200 = record {
  apart = refl;
  reaches = refl;
  low = record { w700 = refl; w900 = refl; w1100 = refl; w1300 = refl; w1500 = refl; w1700 = refl };
}

pub loud-200 : IsLoud 200
unfolding correlated sine_table
loud-200 = record {
  s0 = (sine_of 200, record { is_other = other-sine-200; much = refl; none = refl });
  s1 = (sine_of 200, record { is_other = other-sine-200; much = refl; none = refl });
  s2 = (sine_of 200, record { is_other = other-sine-200; much = refl; none = refl });
  s3 = (sine_of 200, record { is_other = other-sine-200; much = refl; none = refl });
  c0 = (cosine_of 200, record { is_other = other-cosine-200; much = refl; none = refl });
  c1 = (cosine_of 200, record { is_other = other-cosine-200; much = refl; none = refl });
  c2 = (cosine_of 200, record { is_other = other-cosine-200; much = refl; none = refl });
  c3 = (cosine_of 200, record { is_other = other-cosine-200; much = refl; none = refl });
}

other-sine-300 : IsOther (sine_of 300)
unfolding correlated squares reach sine_table
other-sine-300 = record {
  apart = refl;
  reaches = refl;
  low = record { w700 = refl; w900 = refl; w1100 = refl; w1300 = refl; w1500 = refl; w1700 = refl };
}

other-cosine-300 : IsOther (cosine_of 300)
unfolding correlated squares reach sine_table
other-cosine-300 = record {
  apart = refl;
  reaches = refl;
  low = record { w700 = refl; w900 = refl; w1100 = refl; w1300 = refl; w1500 = refl; w1700 = refl };
}

pub loud-300 : IsLoud 300
unfolding correlated sine_table
loud-300 = record {
  s0 = (sine_of 300, record { is_other = other-sine-300; much = refl; none = refl });
  s1 = (cosine_of 300, record { is_other = other-cosine-300; much = refl; none = refl });
  s2 = (sine_of 300, record { is_other = other-sine-300; much = refl; none = refl });
  s3 = (cosine_of 300, record { is_other = other-cosine-300; much = refl; none = refl });
  c0 = (cosine_of 300, record { is_other = other-cosine-300; much = refl; none = refl });
  c1 = (sine_of 300, record { is_other = other-sine-300; much = refl; none = refl });
  c2 = (cosine_of 300, record { is_other = other-cosine-300; much = refl; none = refl });
  c3 = (sine_of 300, record { is_other = other-sine-300; much = refl; none = refl });
}

other-sine-2600 : IsOther (sine_of 2600)
unfolding correlated squares reach sine_table
other-sine-2600 = record {
  apart = refl;
  reaches = refl;
  low = record { w700 = refl; w900 = refl; w1100 = refl; w1300 = refl; w1500 = refl; w1700 = refl };
}

other-cosine-2600 : IsOther (cosine_of 2600)
unfolding correlated squares reach sine_table
other-cosine-2600 = record {
  apart = refl;
  reaches = refl;
  low = record { w700 = refl; w900 = refl; w1100 = refl; w1300 = refl; w1500 = refl; w1700 = refl };
}

pub loud-2600 : IsLoud 2600
unfolding correlated sine_table
loud-2600 = record {
  s0 = (sine_of 2600, record { is_other = other-sine-2600; much = refl; none = refl });
  s1 = (sine_of 2600, record { is_other = other-sine-2600; much = refl; none = refl });
  s2 = (sine_of 2600, record { is_other = other-sine-2600; much = refl; none = refl });
  s3 = (sine_of 2600, record { is_other = other-sine-2600; much = refl; none = refl });
  c0 = (cosine_of 2600, record { is_other = other-cosine-2600; much = refl; none = refl });
  c1 = (cosine_of 2600, record { is_other = other-cosine-2600; much = refl; none = refl });
  c2 = (cosine_of 2600, record { is_other = other-cosine-2600; much = refl; none = refl });
  c3 = (cosine_of 2600, record { is_other = other-cosine-2600; much = refl; none = refl });
}
