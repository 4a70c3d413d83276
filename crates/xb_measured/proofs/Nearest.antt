-- The tenths of a level are the nearest.
use Rattle.std.proofs.Common.{◌≡◌, ◌∙◌, ℕ, zero, suc, ◌+◌, ◌-◌, ◌*◌, ◌^◌, ◌<◌, ◌≤◌, Bool, true, false, cond, List, [], ◌∷◌, length, map, ap, arith, refl, sym, subst, add-one, le-leb, leb-false, leb-true}
use Rattle.std.proofs.Math.Nat.{le_of_mul-le-mul_right, lt_of_mul-lt-mul_right, mul-le-mul_left, mul-le-mul_right, mul-lt-mul_of_pos_right, mul-suc, mul_assoc, one-le-pow, pow-le-pow_left, pow-le-pow_right, pow-zero}
use Rattle.std.proofs.lemmas.Bool.{lt-leb}
use Rattle.std.proofs.lemmas.Grind.{pow_more}
use Rattle.std.proofs.lemmas.Nat.{mul-pow, pow-add}
use Rattle.std.specs.Prelude.{filter, nat_le}
use Rattle.std.specs.List.{range_with_len}
use Rattle.xb_measured.specs.Levels.{count_up_to, has_reached, powers_of_ten}
use Rattle.xb_measured.specs.Nearest.{TenthsAreNearest}

-- how many numbers pass of a range, of which none passes after one that doesn't
abbrev passes : (ℕ → Bool) → ℕ → ℕ → ℕ
passes test start n = length (filter test (range_with_len start n))

none-pass :
    (test : ℕ → Bool) → ((k : ℕ) → test k ≡ false → test (k + 1) ≡ false) → (start n : ℕ) → test start ≡ false
    → passes test start n ≡ 0
none-pass test down start zero fails = refl
none-pass test down start (suc n) fails =
    let rest = filter test (range_with_len (start + 1) n) in
    ap (λ t. length (cond t (start ∷ rest) rest)) fails ∙ none-pass test down (start + 1) n (down start fails)

-- the last that passes, where the one before them passes and the one after them does not
record IsLast (test : ℕ → Bool) (start n count : ℕ) : Type 0 where
  most : count ≤ n
  here : test (start + count) ≡ true
  past : test (start + count + 1) ≡ false

last-passes :
    (test : ℕ → Bool) → ((k : ℕ) → test k ≡ false → test (k + 1) ≡ false) → (start n : ℕ) → test start ≡ true
    → test (start + n + 1) ≡ false → IsLast test start n (passes test (start + 1) n)
last-passes test down start zero first after =
    let same : start ≡ start + 0 = omega arith in
    record {
      most = omega arith;
      here = ap test (sym same) ∙ first;
      past = after;
    }
last-passes test down start (suc n) first after =
    let there : start + (suc n) + 1 ≡ start + 1 + n + 1 = omega arith in
    by (λ is. last-passes test down (start + 1) n is (ap test (sym there) ∙ after)) (test (start + 1)) refl
  where
    rest : List ℕ
    rest = filter test (range_with_len (start + 1 + 1) n)

    by :
        (test (start + 1) ≡ true → IsLast test (start + 1) n (passes test (start + 1 + 1) n))
        → (b : Bool) → test (start + 1) ≡ b
        → IsLast test start (suc n) (length (cond (test (start + 1)) ((start + 1) ∷ rest) rest))
    by go-on true is =
        let later = go-on is in
        let count : ℕ = passes test (start + 1 + 1) n in
        let place : start + suc count ≡ start + 1 + count = omega arith in
        let P : ℕ → Type 0 = λ c. IsLast test start (suc n) c in
        subst P (sym (ap (λ t. length (cond t ((start + 1) ∷ rest) rest)) is))
        (record {
          most = omega (arith, later.most);
          here = ap test place ∙ later.here;
          past = ap (λ k. test (k + 1)) place ∙ later.past;
        })
    by go-on false is =
        let same : start + 0 ≡ start = omega arith in
        let P : ℕ → Type 0 = λ c. IsLast test start (suc n) c in
        let none : length (cond (test (start + 1)) ((start + 1) ∷ rest) rest) ≡ 0 =
        ap (λ t. length (cond t ((start + 1) ∷ rest) rest)) is
        ∙ none-pass test down (start + 1 + 1) n (down (start + 1) is) in
        subst P (sym none)
        (record {
          most = omega arith;
          here = ap test same ∙ first;
          past = ap (λ k. test (k + 1)) same ∙ is;
        })

-- what a number has reached of bars that grow
down-by : (bar : ℕ → ℕ) → ((k : ℕ) → bar k ≤ bar (k + 1)) → (level k : ℕ) → nat_le (bar k) level ≡ false → nat_le (bar (k + 1)) level ≡ false
down-by bar grows level k above =
    let more = grows k in
    let over = leb-false (bar k) level above in
    lt-leb (bar (k + 1)) level (omega (arith, more, over))

through : (a b c : ℕ) → a ≤ b → b ≤ c → a ≤ c
through a b c low high = omega arith

below-through : (a b c : ℕ) → a ≤ b → b < c → a < c
below-through a b c low high = omega arith

-- the powers of ten that a level has reached
powers-counted :
    (level : ℕ) (ks : List ℕ) → count_up_to level (map (λ n. 10 ^ n) ks) ≡ length (filter (λ n. nat_le (10 ^ n) level) ks)
powers-counted level [] = refl
powers-counted level (k ∷ ks) = at (powers-counted level ks) (nat_le (10 ^ k) level)
  where
    bounds : List ℕ
    bounds = filter (λ bound. nat_le bound level) (map (λ n. 10 ^ n) ks)

    at :
        length bounds ≡ length (filter (λ n. nat_le (10 ^ n) level) ks)
        → (b : Bool)
        → length (cond b (10 ^ k ∷ bounds) bounds)
        ≡ length (cond b (k ∷ filter (λ n. nat_le (10 ^ n) level) ks) (filter (λ n. nat_le (10 ^ n) level) ks))
    at later true = ap suc later
    at later false = later

record IsBetween (level p : ℕ) : Type 0 where
  most : p ≤ 12
  low : 10 ^ p ≤ level
  high : level < 10 ^ (p + 1)

powers-read : (level : ℕ) → 0 < level → level < 10 ^ 13 → IsBetween level (count_up_to level powers_of_ten)
powers-read level some small =
    let test = λ (n : ℕ). nat_le (10 ^ n) level in
    let grows : (k : ℕ) → 10 ^ k ≤ 10 ^ (k + 1) = λ k. pow-le-pow_right (omega arith) (omega arith) in
    let first : nat_le (10 ^ 0) level ≡ true = le-leb 1 level (omega arith) in
    let after : nat_le (10 ^ 13) level ≡ false = lt-leb (10 ^ 13) level small in
    let count : ℕ = passes test 1 12 in
    let last : IsLast test 0 12 count = last-passes test (down-by (λ k. 10 ^ k) grows level) 0 12 first after in
    let same : 0 + count ≡ count = omega arith in
    let P : ℕ → Type 0 = λ p. IsBetween level p in
    subst P (sym (powers-counted level (range_with_len 1 12)))
    (record {
      most = last.most;
      low = leb-true (10 ^ count) level (ap test (sym same) ∙ last.here);
      high = leb-false (10 ^ (count + 1)) level (ap (λ k. test (k + 1)) (sym same) ∙ last.past);
    })

-- the tenths that a level of 10^12 to 10^13 has reached
abbrev bar : ℕ → ℕ
bar k = 32767 ^ 2000 * 10 ^ (10 * k + 2961)

record HasSteps (wide k : ℕ) : Type 0 where
  low : bar k ≤ wide ^ 1000
  high : wide ^ 1000 < bar (k + 1)

steps-read : (wide : ℕ) → 10 ^ 12 ≤ wide → wide < 10 ^ 13 → HasSteps wide (passes (has_reached wide) 1 100)
unfolding has_reached
steps-read wide low high =
    let grows : (k : ℕ) → bar k ≤ bar (k + 1) = λ k. mul-le-mul_left (32767 ^ 2000) (pow-le-pow_right (omega arith) (omega arith)) in
    let within : wide ≤ 10 ^ 13 = omega (arith, high) in
    let lowest : bar 0 ≤ (10 ^ 12) ^ 1000 = leb-true (bar 0) ((10 ^ 12) ^ 1000) refl in
    let highest : (10 ^ 13) ^ 1000 < bar 101 = leb-false (bar 101) ((10 ^ 13) ^ 1000) refl in
    let first : has_reached wide 0 ≡ true =
    le-leb (bar 0) (wide ^ 1000) (through (bar 0) ((10 ^ 12) ^ 1000) (wide ^ 1000) lowest (pow-le-pow_left low 1000)) in
    let after : has_reached wide 101 ≡ false =
    lt-leb (bar 101) (wide ^ 1000) (below-through (wide ^ 1000) ((10 ^ 13) ^ 1000) (bar 101) (pow-le-pow_left within 1000) highest) in
    let count : ℕ = passes (has_reached wide) 1 100 in
    let last : IsLast (has_reached wide) 0 100 count =
    last-passes (has_reached wide) (down-by bar grows (wide ^ 1000)) 0 100 first after in
    let same : 0 + count ≡ count = omega arith in
    record {
      low = leb-true (bar count) (wide ^ 1000) (ap (has_reached wide) (sym same) ∙ last.here);
      high = leb-false (bar (count + 1)) (wide ^ 1000) (ap (λ k. has_reached wide (k + 1)) (sym same) ∙ last.past);
    }

-- the same of the level itself
pow-times : (a q e : ℕ) → (a ^ q) ^ e ≡ a ^ (q * e)
pow-times a q zero =
    let none : 0 ≡ q * 0 = omega arith in
    pow-zero (a ^ q) ∙ sym (pow-zero a) ∙ ap (λ n. a ^ n) none
pow-times a q (suc e) =
    ap (λ n. (a ^ q) ^ n) (sym (add-one e))
    ∙ pow_more (a ^ q) e
    ∙ ap (λ x. x * a ^ q) (pow-times a q e)
    ∙ sym (pow-add a (q * e) q)
    ∙ ap (λ n. a ^ n) (sym (mul-suc q e))

tens : (p : ℕ) → p ≤ 12 → (10 ^ (12 - p)) ^ 1000 * 10 ^ (1000 * p) ≡ 10 ^ 9039 * 10 ^ 2961
tens p most =
    let sum : (12 - p) * 1000 + 1000 * p ≡ 9039 + 2961 = omega arith in
    ap (λ x. x * 10 ^ (1000 * p)) (pow-times 10 (12 - p) 1000)
    ∙ sym (pow-add 10 ((12 - p) * 1000) (1000 * p))
    ∙ ap (λ n. 10 ^ n) sum
    ∙ pow-add 10 9039 2961

level-side :
    (level p : ℕ) → p ≤ 12 → (level * 10 ^ (12 - p)) ^ 1000 * 10 ^ (1000 * p) ≡ level ^ 1000 * 10 ^ 9039 * 10 ^ 2961
level-side level p most =
    ap (λ x. x * 10 ^ (1000 * p)) (mul-pow level (10 ^ (12 - p)) 1000)
    ∙ mul_assoc (level ^ 1000) ((10 ^ (12 - p)) ^ 1000) (10 ^ (1000 * p))
    ∙ ap (λ x. level ^ 1000 * x) (tens p most)
    ∙ sym (mul_assoc (level ^ 1000) (10 ^ 9039) (10 ^ 2961))

bar-side :
    (w p k n : ℕ) → 100 * p + k ≡ n
    → w * 10 ^ (10 * k + 2961) * 10 ^ (1000 * p) ≡ w * 10 ^ (10 * n) * 10 ^ 2961
bar-side w p k n is =
    let sum : 10 * k + 2961 + 1000 * p ≡ 10 * n + 2961 = omega (arith, is) in
    mul_assoc w (10 ^ (10 * k + 2961)) (10 ^ (1000 * p))
    ∙ ap (λ x. w * x) (sym (pow-add 10 (10 * k + 2961) (1000 * p)) ∙ ap (λ e. 10 ^ e) sum ∙ pow-add 10 (10 * n) 2961)
    ∙ sym (mul_assoc w (10 ^ (10 * n)) (10 ^ 2961))

lower :
    (w level p k : ℕ) → p ≤ 12 → w * 10 ^ (10 * k + 2961) ≤ (level * 10 ^ (12 - p)) ^ 1000
    → w * 10 ^ (10 * (100 * p + k)) ≤ level ^ 1000 * 10 ^ 9039
lower w level p k most low =
    let n : ℕ = 100 * p + k in
    let P : ℕ → Type 0 = λ x. x ≤ (level * 10 ^ (12 - p)) ^ 1000 * 10 ^ (1000 * p) in
    let Q : ℕ → Type 0 = λ x. w * 10 ^ (10 * n) * 10 ^ 2961 ≤ x in
    le_of_mul-le-mul_right (subst Q (level-side level p most) (subst P (bar-side w p k n refl) (mul-le-mul_right (10 ^ (1000 * p)) low)))
    (one-le-pow 2961 10 (omega arith))

upper :
    (w level p k : ℕ) → p ≤ 12 → (level * 10 ^ (12 - p)) ^ 1000 < w * 10 ^ (10 * (k + 1) + 2961)
    → level ^ 1000 * 10 ^ 9039 < w * 10 ^ (10 * (100 * p + k + 1))
upper w level p k most high =
    let n : ℕ = 100 * p + k + 1 in
    let is : 100 * p + (k + 1) ≡ n = omega arith in
    let P : ℕ → Type 0 = λ x. x < w * 10 ^ (10 * (k + 1) + 2961) * 10 ^ (1000 * p) in
    let Q : ℕ → Type 0 = λ x. level ^ 1000 * 10 ^ 9039 * 10 ^ 2961 < x in
    lt_of_mul-lt-mul_right (10 ^ 2961)
    (subst Q (bar-side w p (k + 1) n is)
    (subst P (level-side level p most) (mul-lt-mul_of_pos_right high (one-le-pow (1000 * p) 10 (omega arith)))))

pub tenths_are_nearest : TenthsAreNearest
tenths_are_nearest level some small =
    let p : ℕ = count_up_to level powers_of_ten in
    let between = powers-read level some small in
    let q : ℕ = 10 ^ (12 - p) in
    let wide : ℕ = level * q in
    let whole : 10 ^ p * q ≡ 10 ^ 12 =
    let sum : p + (12 - p) ≡ 12 = omega (arith, between.most) in sym (pow-add 10 p (12 - p)) ∙ ap (λ n. 10 ^ n) sum in
    let over : 10 ^ (p + 1) * q ≡ 10 ^ 13 =
    let sum : p + 1 + (12 - p) ≡ 13 = omega (arith, between.most) in sym (pow-add 10 (p + 1) (12 - p)) ∙ ap (λ n. 10 ^ n) sum in
    let P : ℕ → Type 0 = λ x. x ≤ wide in
    let Q : ℕ → Type 0 = λ x. wide < x in
    let low : 10 ^ 12 ≤ wide = subst P whole (mul-le-mul_right q between.low) in
    let high : wide < 10 ^ 13 = subst Q over (mul-lt-mul_of_pos_right between.high (one-le-pow (12 - p) 10 (omega arith))) in
    let steps = steps-read wide low high in
    let k : ℕ = passes (has_reached wide) 1 100 in
    record {
      least = lower (32767 ^ 2000) level p k between.most steps.low;
      below = upper (32767 ^ 2000) level p k between.most steps.high;
    }
