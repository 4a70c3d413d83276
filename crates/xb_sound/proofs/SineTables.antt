-- The sine table, by computation.
use Rattle.std.proofs.Common.{◌≡◌, ◌∙◌, ℕ, zero, suc, ◌+◌, ◌<◌, ◌≤◌, Bool, true, false, ◌&&◌, List, [], ◌∷◌, get_or, sym, ap, inl, inr, arith, refl, subst, T, ℤ, pos, leb, unsigned_abs, ◌%◌, ◌^◌, ◌+ℤ◌, ◌-ℤ◌, ◌*ℤ◌, ◌<ℤ◌}
use lib.Signed.{lt_z}
use Rattle.std.specs.List.{list_all, range_with_len}
use Rattle.std.proofs.lemmas.Bool.{cases_lt, false≢true, leb-true}
use Rattle.xb_sound.specs.SineLaws.{IsSine, cosine_at}
use Rattle.xb_sound.specs.Sines.{sine_at, sine_table}

and-both : (b c : Bool) → (b && c) ≡ true → (b ≡ true) × (c ≡ true)
and-both true c e = (refl, e)
and-both false c e = absurd (false≢true e)

-- a test that is true, as a fact
yes : {b : Bool} → b ≡ true → T b
yes {b} e = subst T (sym e) tt

-- a test that holds of each number of a range
pub holds_below : (test : ℕ → Bool) (n a : ℕ) → list_all test (range_with_len a n) ≡ true
    → (k : ℕ) → a ≤ k → k < a + n → test k ≡ true
holds_below test zero a all k low high = absurd (omega arith)
holds_below test (suc n) a all k low high =
    let both = and-both (test a) (list_all test (range_with_len (a + 1) n)) all in
    elim (cases_lt a k) [
      | inl above ↦ holds_below test n (a + 1) both.1 k (omega arith) (omega arith)
      | inr here ↦ let same : a ≡ k = omega arith in ap test (sym same) ∙ both.0
    ]

-- no sample is greater
abbrev is_small : ℤ → Bool
is_small x = leb (unsigned_abs x) 10000

small_at : (xs : List ℤ) → list_all is_small xs ≡ true → (n : ℕ) → unsigned_abs (get_or xs n (pos 0)) ≤ 10000
small_at [] all n = omega arith
small_at (x ∷ xs) all zero = leb-true _ _ (and-both (is_small x) (list_all is_small xs) all).0
small_at (x ∷ xs) all (suc n) = small_at xs (and-both (is_small x) (list_all is_small xs) all).1 n

pub sine_at-small : (place : ℕ) → unsigned_abs (sine_at place) ≤ 10000
unfolding sine_table
sine_at-small place = small_at sine_table refl place

-- it rises through a quarter of a period
rises : (n : ℕ) → n < 20 → sine_at n <ℤ sine_at (n + 1)
unfolding sine_table
rises n below = record { lt = yes (holds_below (λ n. lt_z (sine_at n) (sine_at (n + 1))) 20 0 refl n (omega arith) (omega arith)) }

circle : (n : ℕ) → n < 80 →
    unsigned_abs (sine_at n *ℤ sine_at n +ℤ cosine_at n *ℤ cosine_at n -ℤ pos (10 ^ 8)) ≤ 10 ^ 4
unfolding sine_table
circle n below =
    leb-true _ _ (holds_below (λ n. leb
    (unsigned_abs (sine_at n *ℤ sine_at n +ℤ cosine_at n *ℤ cosine_at n -ℤ pos (10 ^ 8))) (10 ^ 4))
    80 0 refl n (omega arith) (omega arith))

abbrev sum_error : ℕ → ℕ → ℕ
sum_error m n =
    unsigned_abs (pos (10 ^ 4) *ℤ sine_at ((m + n) % 80) -ℤ (sine_at m *ℤ cosine_at n +ℤ cosine_at m *ℤ sine_at n))

adds : (m n : ℕ) → m < 80 → n < 80 → sum_error m n ≤ 15000
unfolding sine_table
adds m n below_m below_n =
    leb-true _ _ (holds_below (λ n. leb (sum_error m n) 15000) 80 0
    (holds_below (λ m. list_all (λ n. leb (sum_error m n) 15000) (range_with_len 0 80)) 80 0 refl m
    (omega arith) (omega arith)) n (omega arith) (omega arith))

pub table_is_a_sine : IsSine
unfolding sine_table
table_is_a_sine = record {
  period = refl;
  start = refl;
  rises = rises;
  circle = circle;
  adds = adds;
}
