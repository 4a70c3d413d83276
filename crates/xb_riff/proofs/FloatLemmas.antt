-- How large a float is, by its exponent.
use Rattle.std.proofs.Common.{◌≡◌, ◌∙◌, ℕ, zero, suc, ◌+◌, ◌-◌, ◌*◌, ◌/◌, ◌%◌, ◌^◌, ◌<◌, ◌≤◌, true, false, Bool, ap, ap₂, sym, refl, arith, mul_comm}
use Rattle.std.specs.Prelude.{◌==◌, if◌then◌else◌}
use Rattle.std.proofs.lemmas.Bool.Decides.{nat_tests}
use Rattle.std.proofs.lemmas.Nat.{div_below, mod_below, pow-add, pow_pos}
use Rattle.std.proofs.Math.Nat.{div-div-eq-div-mul, mul-div_cancel_left, mul-le-mul_left, pow-le-pow_right, le-div_iff_mul-le}
use Rattle.xb_riff.specs.Floats.{float_exponent, float_magnitude, float_significand, float_size}

-- the same factor above and below
div-same : (k a c : ℕ) → 0 < k → (k * a) / (k * c) ≡ a / c
div-same k a c some = sym (div-div-eq-div-mul (k * a) k c) ∙ ap (λ (n : ℕ). n / c) (mul-div_cancel_left a some)

-- a significand has 24 bits
pub significand_below : (bits : ℕ) → float_significand bits < 2 ^ 24
significand_below bits = omega (arith, mod_below bits (2 ^ 23) (pow_pos 23))

-- the size of a float with a one before its fraction
size_is : (bits : ℕ) → 1 ≤ float_exponent bits
    → float_size bits ≡ 2 ^ (float_exponent bits - 1) * float_significand bits
size_is bits some =
    let no : (float_exponent bits == 0) ≡ false = grind (arith, nat_tests, some) in
    ap (λ (b : Bool). if b then bits % 2 ^ 23 else float_significand bits * 2 ^ (float_exponent bits - 1)) no
    ∙ mul_comm (float_significand bits) (2 ^ (float_exponent bits - 1))

-- less than half a step is none
pub small_float : (bits : ℕ) → float_exponent bits < 111 → 0 ≡ float_magnitude bits
small_float bits small =
    let few : float_size bits < 2 ^ 133 = at (float_exponent bits) refl in
    let none = div_below (float_size bits + 2 ^ 133) (2 ^ 134) 1 (pow_pos 134) (omega (arith, few)) in
    omega (arith, none)
  where
    at : (e : ℕ) → float_exponent bits ≡ e → float_size bits < 2 ^ 133
    at zero is =
        let yes : (float_exponent bits == 0) ≡ true = ap (λ (n : ℕ). n == 0) is in
        let size : float_size bits ≡ bits % 2 ^ 23 =
        ap (λ (b : Bool). if b then bits % 2 ^ 23 else float_significand bits * 2 ^ (float_exponent bits - 1)) yes in
        omega (arith, size, mod_below bits (2 ^ 23) (pow_pos 23))
    at (suc e) is =
        let size = size_is bits (omega (arith, is)) in
        let unit : 2 ^ (float_exponent bits - 1) ≤ 2 ^ 109 =
        pow-le-pow_right {n = 2} (omega arith) {i = float_exponent bits - 1} {j = 109} (omega (arith, small)) in
        let k : ℕ = 2 ^ (float_exponent bits - 1) in
        let some : 0 < k = pow_pos (float_exponent bits - 1) in
        let most : k * float_significand bits ≤ k * (2 ^ 24 - 1) =
        mul-le-mul_left k (omega (arith, significand_below bits)) in
        omega (arith, size, unit, most, some)

-- one and more is the greatest sample
pub large_float : (bits : ℕ) → 127 ≤ float_exponent bits → 32768 ≡ float_magnitude bits
large_float bits large =
    let size = size_is bits (omega (arith, large)) in
    let k : ℕ = 2 ^ (float_exponent bits - 1) in
    let unit : 2 ^ 126 ≤ k =
    pow-le-pow_right {n = 2} (omega arith) {i = 126} {j = float_exponent bits - 1} (omega (arith, large)) in
    let least : k * 2 ^ 23 ≤ k * float_significand bits = mul-le-mul_left k (omega arith) in
    let all : 32768 ≤ (float_size bits + 2 ^ 133) / 2 ^ 134 =
    (le-div_iff_mul-le (pow_pos 134)).1 (omega (arith, size, unit, least)) in
    omega (arith, all)

-- and between these a significand is rounded
pub rounded_float : (bits half rounded : ℕ) → 111 ≤ float_exponent bits → float_exponent bits < 127
    → half ≡ 2 ^ (134 - float_exponent bits) → rounded ≡ (float_significand bits + half) / (2 * half) → rounded ≤ 32768
    → rounded ≡ float_magnitude bits
rounded_float bits half rounded low high half_is is most =
    let e : ℕ = float_exponent bits in
    let k : ℕ = 2 ^ (e - 1) in
    let s : ℕ = float_significand bits in
    let one : 133 ≡ (e - 1) + (134 - e) = omega (arith, low, high) in
    let half_all : 2 ^ 133 ≡ k * half =
    ap (λ (n : ℕ). 2 ^ n) one ∙ pow-add 2 (e - 1) (134 - e) ∙ ap (λ (n : ℕ). k * n) (sym half_is) in
    let whole_all : 2 ^ 134 ≡ k * (2 * half) = omega (arith, half_all) in
    let sum : float_size bits + 2 ^ 133 ≡ k * (s + half) = omega (arith, size_is bits (omega (arith, low)), half_all) in
    let same : (float_size bits + 2 ^ 133) / 2 ^ 134 ≡ rounded =
    ap₂ (λ (a b : ℕ). a / b) sum whole_all ∙ div-same k (s + half) (2 * half) (pow_pos (e - 1)) ∙ sym is in
    omega (arith, same, most)

-- half a step is some bits of a significand
pub half_least : (e : ℕ) → e < 127 → 256 ≤ 2 ^ (134 - e)
half_least e high = pow-le-pow_right {n = 2} (omega arith) {i = 8} {j = 134 - e} (omega (arith, high))

pub half_most : (e : ℕ) → 111 ≤ e → 2 ^ (134 - e) ≤ 2 ^ 23
half_most e low = pow-le-pow_right {n = 2} (omega arith) {i = 134 - e} {j = 23} (omega (arith, low))
