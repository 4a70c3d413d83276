-- Which code of mu-law is nearest to a size, by a test of each two codes.
use Rattle.std.proofs.Common.{◌≡◌, ◌∙◌, ℕ, zero, suc, ◌+◌, ◌-◌, ◌*◌, ◌/◌, ◌^◌, min, subst, ◌<◌, ◌≤◌, Bool, true, false, cond, ◌∷◌, ◌&&◌, ◌||◌, sym, ap, inl, inr, ◌⊎◌, arith, refl, pos, ◌-ℤ◌, unsigned_abs}
use Rattle.std.specs.Prelude.{◌==◌, if◌then◌else◌, nat_le, nat_lt}
use Rattle.std.specs.List.{count_by, list_all, range_with_len}
use Rattle.std.proofs.lemmas.Bool.{cases_lt, false≢true}
use Rattle.std.proofs.lemmas.Bool.Decides.{nat_tests}
use Rattle.std.proofs.lemmas.Int.{ints}
use Rattle.std.proofs.lemmas.Nat.{pow_pos}
use Rattle.std.proofs.Math.Nat.{div-mul-le_self, le-div_iff_mul-le, lt-div-mul-add, mul-le-mul_right, pow-le-pow_right}
use Rattle.std.proofs.lemmas.List.Sums.{sum_by-cons}
use Rattle.xb_riff.specs.Codings.{magnitude}
use Rattle.xb_riff.specs.MuLawBytes.{nearest_code}

and-both : (b c : Bool) → (b && c) ≡ true → (b ≡ true) × (c ≡ true)
and-both true c e = (refl, e)
and-both false c e = absurd (false≢true e)

-- a code of seven bits whose magnitude is as near to a size as any
abbrev pub IsNearestCode : ℕ → ℕ → Type 0
IsNearestCode size code = (other : ℕ) → other < 128
    → unsigned_abs (pos (magnitude code) -ℤ pos size) ≤ unsigned_abs (pos (magnitude other) -ℤ pos size)

-- a test that holds of each number of a range
holds_below : (test : ℕ → Bool) (n a : ℕ) → list_all test (range_with_len a n) ≡ true
    → (k : ℕ) → a ≤ k → k < a + n → test k ≡ true
holds_below test zero a all k low high = absurd (omega arith)
holds_below test (suc n) a all k low high =
    let both = and-both (test a) (list_all test (range_with_len (a + 1) n)) all in
    elim (cases_lt a k) [
      | inl above ↦ holds_below test n (a + 1) both.1 k (omega arith) (omega arith)
      | inr here ↦ let same : a ≡ k = omega arith in ap test (sym same) ∙ both.0
    ]

-- where the sizes begin that take a code, raised by 132, and where they end
abbrev pub least : ℕ → ℕ → ℕ
least power step = if step == 0 then 129 * power else (step + 16) * (8 * power)

abbrev pub end : ℕ → ℕ → ℕ
end power step = if step == 15 then 258 * power else (step + 17) * (8 * power)

-- a lower magnitude is as far from where they begin, or farther, and a higher one from where they end
abbrev is_nearer : ℕ → ℕ → ℕ → ℕ → Bool
is_nearer here there lo hi =
    if nat_lt there here then nat_le (here + there + 264) (2 * lo)
    else here == there || nat_le (2 * hi) (here + there + 264)

nearer : (here there lo hi size : ℕ) → is_nearer here there lo hi ≡ true → lo ≤ size + 132 → size + 132 < hi
    → unsigned_abs (pos here -ℤ pos size) ≤ unsigned_abs (pos there -ℤ pos size)
nearer here there lo hi size is from below = elim (cases_lt there here) [
  | inl lower ↦
      let test : nat_lt there here ≡ true = grind (arith, nat_tests) in
      let far : here + there + 264 ≤ 2 * lo = grind (arith, nat_tests, is) in
      omega (arith, ints, far)
  | inr beyond ↦
      let test : nat_lt there here ≡ false = grind (arith, nat_tests) in
      let far : (here ≡ there) ⊎ (2 * hi ≤ here + there + 264) = grind (arith, nat_tests, is) in
      elim far [
        | inl same ↦ omega (arith, ints, same)
        | inr farther ↦ omega (arith, ints, farther)
      ]
]

abbrev is_nearest_at : ℕ → ℕ → ℕ → Bool
is_nearest_at doublings step other =
    is_nearer (magnitude (doublings * 16 + step)) (magnitude other) (least (2 ^ doublings) step) (end (2 ^ doublings) step)

-- each size is nearest to the magnitude of its code
pub nearest_is : (doublings step size : ℕ) → doublings < 8 → step < 16 → least (2 ^ doublings) step ≤ size + 132
    → size + 132 < end (2 ^ doublings) step → IsNearestCode size (doublings * 16 + step)
nearest_is doublings step size few below from until other seven =
    nearer (magnitude (doublings * 16 + step)) (magnitude other) (least (2 ^ doublings) step) (end (2 ^ doublings) step) size
    (holds_below (λ other. is_nearest_at doublings step other) 128 0
    (holds_below (λ step. list_all (λ other. is_nearest_at doublings step other) (range_with_len 0 128)) 16 0
    (holds_below
    (λ doublings. list_all (λ step. list_all (λ other. is_nearest_at doublings step other) (range_with_len 0 128))
    (range_with_len 0 16)) 8 0 refl doublings (omega arith) (omega arith))
    step (omega arith) (omega arith)) other (omega arith) (omega arith))
    from until

-- and reaches just the bounds below it
abbrev is_bounded : ℕ → ℕ → ℕ → Bool
is_bounded doublings step bound =
    let sum = magnitude bound + magnitude (bound + 1) + 264 in
    if nat_lt bound (doublings * 16 + step) then nat_le sum (2 * least (2 ^ doublings) step)
    else nat_le (2 * end (2 ^ doublings) step) sum

reaches : (sum lo hi size : ℕ) (below : Bool) → (if below then nat_le (sum + 264) (2 * lo) else nat_le (2 * hi) (sum + 264)) ≡ true
    → lo ≤ size + 132 → size + 132 < hi → nat_le sum (2 * size) ≡ below
reaches sum lo hi size true is from until = grind (arith, nat_tests, is)
reaches sum lo hi size false is from until = grind (arith, nat_tests, is)

-- a test that holds just below a number counts up to it
count-below : (test : ℕ → Bool) (top n a : ℕ) → ((k : ℕ) → a ≤ k → k < a + n → test k ≡ nat_lt k top) → top ≤ a + n
    → count_by test (range_with_len a n) ≡ top - a
count-below test top zero a is most = omega arith
count-below test top (suc n) a is most =
    let later = count-below test top n (a + 1) (λ k from until. is k (omega arith) (omega arith)) (omega arith) in
    let here = is a (omega arith) (omega arith) in
    let cut : count_by test (a ∷ range_with_len (a + 1) n) ≡ cond (test a) 1 0 + count_by test (range_with_len (a + 1) n) =
    sum_by-cons (λ (k : ℕ). cond (test k) 1 0) a (range_with_len (a + 1) n) in
    cut ∙ elim (cases_lt a top) [
      | inl below ↦
          let yes : test a ≡ true = grind (arith, nat_tests, here) in
          subst (λ (b : Bool). cond b 1 0 + count_by test (range_with_len (a + 1) n) ≡ top - a) (sym yes)
          (omega (arith, later))
      | inr past ↦
          let no : test a ≡ false = grind (arith, nat_tests, here) in
          subst (λ (b : Bool). cond b 1 0 + count_by test (range_with_len (a + 1) n) ≡ top - a) (sym no)
          (omega (arith, later))
    ]

counted_is : (doublings step size : ℕ) → doublings < 8 → step < 16 → least (2 ^ doublings) step ≤ size + 132
    → size + 132 < end (2 ^ doublings) step → nearest_code size ≡ doublings * 16 + step
unfolding nearest_code
counted_is doublings step size few below from until =
    let all = count-below (λ code. nat_le (magnitude code + magnitude (code + 1)) (2 * size)) (doublings * 16 + step) 127 0
    (λ k low high. reaches (magnitude k + magnitude (k + 1)) (least (2 ^ doublings) step) (end (2 ^ doublings) step) size
    (nat_lt k (doublings * 16 + step))
    (holds_below (λ bound. is_bounded doublings step bound) 127 0
    (holds_below (λ step. list_all (λ bound. is_bounded doublings step bound) (range_with_len 0 127)) 16 0
    (holds_below
    (λ doublings. list_all (λ step. list_all (λ bound. is_bounded doublings step bound) (range_with_len 0 127))
    (range_with_len 0 16)) 8 0 refl doublings (omega arith) (omega arith))
    step (omega arith) (omega arith)) k low high)
    from until) (omega arith) in
    omega (arith, all)

-- there are eight doublings
few_doublings : (size doublings : ℕ) → size ≤ 32768 → 2 ^ doublings ≤ (size + 132) / 129 → doublings < 8
few_doublings size doublings most from = elim (cases_lt doublings 8) [
  | inl few ↦ few
  | inr beyond ↦
      let high : 2 ^ 8 ≤ 2 ^ doublings =
      pow-le-pow_right {n = 2} (omega arith) {i = 8} {j = doublings} (omega (arith, beyond)) in
      absurd (omega (arith, high, from, most))
]

-- the code that is reckoned is the one whose sizes are about this one
reached : (size power quotient step : ℕ) → 0 < power → power ≤ (size + 132) / 129 → (size + 132) / 129 < 2 * power
    → quotient ≡ (size + 132) / 8 / power → step ≡ min (quotient - 16) 15
    → (least power step ≤ size + 132) × (size + 132 < end power step)
reached size power quotient step some from until is code =
    let eighth : ℕ = (size + 132) / 8 in
    let enough : 16 ≤ quotient =
    subst (λ (n : ℕ). 16 ≤ n) (sym is) ((le-div_iff_mul-le some).1 (omega (arith, from))) in
    let low : quotient * power ≤ eighth =
    subst (λ (n : ℕ). n * power ≤ eighth) (sym is) (div-mul-le_self eighth power) in
    let high : eighth < quotient * power + power =
    subst (λ (n : ℕ). eighth < n * power + power) (sym is) (lt-div-mul-add some) in
    let reach : (step + 16) * power ≤ quotient * power = mul-le-mul_right power (omega (arith, code, enough)) in (
      elim (cases_lt 0 step) [
        | inl more ↦
            let no : (step == 0) ≡ false = grind (arith, nat_tests) in
            rw no (omega (arith, low, reach))
        | inr none ↦
            let yes : (step == 0) ≡ true = grind (arith, nat_tests) in
            rw yes (omega (arith, from))
      ],
      elim (cases_lt step 15) [
        | inl less ↦
            let no : (step == 15) ≡ false = grind (arith, nat_tests) in
            let same : quotient ≡ step + 16 = omega (arith, code, enough, less) in
            let past : eighth < (step + 16) * power + power =
            subst (λ (n : ℕ). eighth < n * power + power) same high in
            rw no (omega (arith, past))
        | inr last ↦
            let yes : (step == 15) ≡ true = grind (arith, nat_tests, code) in
            rw yes (omega (arith, until))
      ],
    )

pub code_is : (size doublings quotient step : ℕ) → size ≤ 32768 → 2 ^ doublings ≤ (size + 132) / 129
    → (size + 132) / 129 < 2 * 2 ^ doublings → quotient ≡ (size + 132) / 8 / 2 ^ doublings
    → step ≡ min (quotient - 16) 15
    → (doublings < 8) × (nearest_code size ≡ doublings * 16 + step) × IsNearestCode size (doublings * 16 + step)
code_is size doublings quotient step most from until is code =
    let few = few_doublings size doublings most from in
    let about = reached size (2 ^ doublings) quotient step (pow_pos doublings) from until is code in
    let below : step < 16 = omega (arith, code) in
    (few, counted_is doublings step size few below about.0 about.1, nearest_is doublings step size few below about.0 about.1)

-- each size has its doublings
doublings_of : (most n : ℕ) → 0 < n → n < 2 ^ most → (d : ℕ) × (2 ^ d ≤ n) × (n < 2 * 2 ^ d)
doublings_of zero n some below = absurd (omega (arith, below))
doublings_of (suc most) n some below = elim (cases_lt n (2 ^ most)) [
  | inl lower ↦ doublings_of most n some lower
  | inr here ↦ (most, here, omega (arith, below))
]

pub nearest_of : (size : ℕ) → size ≤ 32768 → (nearest_code size < 128) × IsNearestCode size (nearest_code size)
nearest_of size most =
    let found = doublings_of 8 ((size + 132) / 129) (omega arith) (omega arith) in
    let d : ℕ = found.0 in
    let q : ℕ = (size + 132) / 8 / 2 ^ d in
    let all = code_is size d q (min (q - 16) 15) most found.1 found.2 refl refl in
    (omega (arith, all.0, all.1), subst (λ (code : ℕ). IsNearestCode size code) (sym all.1) all.2)
