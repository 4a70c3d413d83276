-- What the pattern of a count spells.
use Rattle.std.proofs.Common.{◌≡◌, ℕ, zero, suc, ◌<◌, min, Bool, true, false, None, refl, ◌∙◌, arith}
use Rattle.std.specs.Prelude.{◌==◌}
use Rattle.std.proofs.lemmas.Bool.{le-leb, lt-leb, ne_eqb}
use Rattle.std.proofs.lemmas.Bool.Decides.{nat_tests}
use Rattle.xb_model.specs.declared.signal.TheConstants.{MANY_BREAKS}
use Rattle.xb_model.specs.Numbers.{digit_of_count}
use Rattle.xb_model.specs.TwoOfFive.{digit_of_pattern, good_pattern, pattern_of_count}

-- above ten there is no pattern
many : (n : ℕ) → 10 < n → digit_of_pattern (good_pattern n) ≡ None
many n h =
    let e1 : (n == 1) ≡ false = ne_eqb n 1 (omega arith) in
    let e2 : (n == 2) ≡ false = ne_eqb n 2 (omega arith) in
    let e3 : (n == 3) ≡ false = ne_eqb n 3 (omega arith) in
    let e4 : (n == 4) ≡ false = ne_eqb n 4 (omega arith) in
    let e5 : (n == 5) ≡ false = ne_eqb n 5 (omega arith) in
    let e6 : (n == 6) ≡ false = ne_eqb n 6 (omega arith) in
    let e7 : (n == 7) ≡ false = ne_eqb n 7 (omega arith) in
    let e8 : (n == 8) ≡ false = ne_eqb n 8 (omega arith) in
    let e9 : (n == 9) ≡ false = ne_eqb n 9 (omega arith) in
    let e10 : (n == 10) ≡ false = ne_eqb n 10 (omega arith) in
    rw (e1, e2, e3, e4, e5, e6, e7, e8, e9, e10)

-- the pattern of a good train is the digit of its count
good_digit : (n : ℕ) → digit_of_pattern (good_pattern n) ≡ digit_of_count n false
good_digit zero = refl
good_digit (suc zero) = refl
good_digit (suc (suc zero)) = refl
good_digit (suc (suc (suc zero))) = refl
good_digit (suc (suc (suc (suc zero)))) = refl
good_digit (suc (suc (suc (suc (suc zero))))) = refl
good_digit (suc (suc (suc (suc (suc (suc zero)))))) = refl
good_digit (suc (suc (suc (suc (suc (suc (suc zero))))))) = refl
good_digit (suc (suc (suc (suc (suc (suc (suc (suc zero)))))))) = refl
good_digit (suc (suc (suc (suc (suc (suc (suc (suc (suc zero))))))))) = refl
good_digit (suc (suc (suc (suc (suc (suc (suc (suc (suc (suc zero)))))))))) = refl
good_digit (suc (suc (suc (suc (suc (suc (suc (suc (suc (suc (suc n))))))))))) =
    let m : ℕ = suc (suc (suc (suc (suc (suc (suc (suc (suc (suc (suc n)))))))))) in
    let big : 10 < m = omega arith in
    rw (many m big, le-leb 1 m (omega arith), lt-leb m 10 big)

-- the pattern of a count is its digit
pub spells : (n : ℕ) (bad : Bool) → digit_of_pattern (pattern_of_count n bad) ≡ digit_of_count n bad
spells n true = refl
spells n false = good_digit n

-- a count that stops above the pulses of any digit spells the same
stopped : (n : ℕ) (bad : Bool) → digit_of_count (min n MANY_BREAKS) bad ≡ digit_of_count n bad
stopped n bad = grind (arith, nat_tests)

-- the pattern of a stopped count is the digit of the whole count
pub spelled : (n : ℕ) (bad : Bool) → digit_of_pattern (pattern_of_count (min n MANY_BREAKS) bad) ≡ digit_of_count n bad
spelled n bad = spells (min n MANY_BREAKS) bad ∙ stopped n bad
