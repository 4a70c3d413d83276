-- What is added all through.
use Rattle.std.proofs.Common.{◌≡◌, ◌∙◌, ℕ, suc, ◌+◌, ◌-◌, ◌<◌, ◌≤◌, ap, arith, sym, ℤ, pos, ◌+ℤ◌, unsigned_abs}
use Rattle.std.specs.Prelude.{max}
use Rattle.std.specs.List.{range_with_len}
use Rattle.std.proofs.lemmas.Int.{ints}
use Rattle.xb_signal.specs.Steadies.{harmonic, harmonics, mains_peak, mains_sample, peak_from}

sum-assoc : (a b c : ℤ) → (a +ℤ b) +ℤ c ≡ a +ℤ (b +ℤ c)
sum-assoc a b c = omega (arith, ints)

-- a sum goes on with the next harmonic
pub harmonics-next : (amplitude number n : ℕ) (sum : ℤ) → number < 9
    → (sum +ℤ harmonic amplitude number n) +ℤ harmonics amplitude (range_with_len (number + 1) (9 - (number + 1))) n
    ≡ sum +ℤ harmonics amplitude (range_with_len number (9 - number)) n
unfolding harmonics
harmonics-next amplitude number n sum below =
    let left : 9 - number ≡ suc (9 - (number + 1)) = omega arith in
    sum-assoc sum (harmonic amplitude number n) (harmonics amplitude (range_with_len (number + 1) (9 - (number + 1))) n)
    ∙ sym (ap (λ (k : ℕ). sum +ℤ harmonics amplitude (range_with_len number k) n) left)

none-first : (x : ℤ) → pos 0 +ℤ x ≡ x
none-first x = omega (arith, ints)

none-last : (x : ℤ) → x +ℤ pos 0 ≡ x
none-last x = omega (arith, ints)

pub harmonics-begun : (amplitude n : ℕ) → pos 0 +ℤ mains_sample amplitude n ≡ mains_sample amplitude n
harmonics-begun amplitude n = none-first (mains_sample amplitude n)

pub harmonics-over : (amplitude number n : ℕ) (sum : ℤ) → 9 ≤ number
    → sum +ℤ harmonics amplitude (range_with_len number (9 - number)) n ≡ sum
unfolding harmonics
harmonics-over amplitude number n sum over =
    let left : 9 - number ≡ 0 = omega arith in
    ap (λ (k : ℕ). sum +ℤ harmonics amplitude (range_with_len number k) n) left ∙ none-last sum

max-assoc : (a b c : ℕ) → max (max a b) c ≡ max a (max b c)
max-assoc a b c = omega arith

-- a peak goes on with the next sample
pub peak-next : (amplitude n peak : ℕ) → n < 400
    → max (max peak (unsigned_abs (mains_sample amplitude n))) (peak_from amplitude (n + 1) (400 - (n + 1)))
    ≡ max peak (peak_from amplitude n (400 - n))
unfolding peak_from
peak-next amplitude n peak below =
    let left : 400 - n ≡ suc (400 - (n + 1)) = omega arith in
    max-assoc peak (unsigned_abs (mains_sample amplitude n)) (peak_from amplitude (n + 1) (400 - (n + 1)))
    ∙ sym (ap (λ (k : ℕ). max peak (peak_from amplitude n k)) left)

pub peak-begun : (amplitude : ℕ) → max 0 (mains_peak amplitude) ≡ mains_peak amplitude
peak-begun amplitude = omega arith

pub peak-over : (amplitude n peak : ℕ) → 400 ≤ n → max peak (peak_from amplitude n (400 - n)) ≡ peak
unfolding peak_from
peak-over amplitude n peak over =
    let left : 400 - n ≡ 0 = omega arith in
    ap (λ (k : ℕ). max peak (peak_from amplitude n k)) left ∙ omega arith
