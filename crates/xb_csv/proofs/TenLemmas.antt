-- Powers of ten that 64 bits hold.
use Rattle.std.proofs.Common.{◌≡◌, ℕ, zero, suc, ◌+◌, ◌-◌, ◌*◌, ◌/◌, ◌^◌, ◌<◌, ◌≤◌, Bool, true, false, cond, Some, None, nat_lt, refl, ap, sym, subst, ◌∙◌, arith}
use Rattle.std.proofs.lemmas.Bool.Decides.{nat_tests}
use Rattle.std.proofs.Math.Nat.{div-eq_of_lt, le-mul_of_pos_right, mul_comm, pow-succ', zero-mul}
use Rattle.xb_csv.specs.Seconds.{fitting}

tens-grow : (power more : ℕ) → 10 ^ power ≤ 10 ^ (power + more)
tens-grow power zero =
    let same : power ≡ power + 0 = omega arith in
    subst (λ n. 10 ^ power ≤ 10 ^ n) same (omega arith)
tens-grow power (suc more) =
    let so_far : 10 ^ power ≤ 10 ^ (power + more) = tens-grow power more in
    let one : 10 ^ suc (power + more) ≡ 10 * 10 ^ (power + more) = pow-succ' 10 (power + more) in
    let same : power + suc more ≡ suc (power + more) = omega arith in
    subst (λ n. 10 ^ power ≤ 10 ^ n) (sym same) (omega (arith, so_far, one))

pub tens_some : (power : ℕ) → 0 < 10 ^ power
tens_some power =
    let same : 0 + power ≡ power = omega arith in
    let one : 1 ≤ 10 ^ power = subst (λ n. 1 ≤ 10 ^ n) same (tens-grow 0 power) in
    omega (arith, one)

pub tens_above : (power : ℕ) → 19 < power → 2 ^ 64 ≤ 10 ^ power
tens_above power more =
    let rest : ℕ = power - 20 in
    let whole : 20 + rest ≡ power = omega arith in
    let grown : 10 ^ 20 ≤ 10 ^ (20 + rest) = tens-grow 20 rest in
    let so : 10 ^ 20 ≤ 10 ^ power = subst (λ n. 10 ^ 20 ≤ 10 ^ n) whole grown in
    omega (arith, so)

-- what does not hold a power of ten
not-below : (power : ℕ) → (10 ^ power < 2 ^ 64 → ⊥) → 2 ^ 64 ≤ 10 ^ power
not-below power h = at (nat_lt (10 ^ power) (2 ^ 64)) refl
  where
    at : (low : Bool) → nat_lt (10 ^ power) (2 ^ 64) ≡ low → 2 ^ 64 ≤ 10 ^ power
    at true e = absurd (h (let less : 10 ^ power < 2 ^ 64 = grind (arith, nat_tests) in less))
    at false e = grind (arith, nat_tests)

times-grow : (number tens : ℕ) → 0 < number → tens ≤ number * tens
times-grow number tens some = subst (λ n. tens ≤ n) (mul_comm tens number) (le-mul_of_pos_right tens some)

pub too_far_up : (number tens : ℕ) → (10 ^ tens < 2 ^ 64 → ⊥) → 0 < number → fitting (number * 10 ^ tens) ≡ None
too_far_up number tens far some =
    let above : 2 ^ 64 ≤ 10 ^ tens = not-below tens far in
    let more : 10 ^ tens ≤ number * 10 ^ tens = times-grow number (10 ^ tens) some in
    let high : nat_lt (number * 10 ^ tens) (2 ^ 64) ≡ false =
    let all : 2 ^ 64 ≤ number * 10 ^ tens = omega (arith, above, more) in grind (arith, nat_tests) in
    ap (λ b. cond b (Some (number * 10 ^ tens)) None) high

pub nothing_up : (number tens : ℕ) → number ≡ 0 → fitting (number * 10 ^ tens) ≡ Some 0
nothing_up number tens none = ap (λ n. fitting (n * 10 ^ tens)) none ∙ ap fitting (zero-mul (10 ^ tens))

pub too_far_down : (number tens : ℕ) → (10 ^ tens < 2 ^ 64 → ⊥) → number < 2 ^ 64 → number / 10 ^ tens ≡ 0
too_far_down number tens far small =
    let above : 2 ^ 64 ≤ 10 ^ tens = not-below tens far in
    let less : number < 10 ^ tens = omega (arith, above, small) in
    div-eq_of_lt less
