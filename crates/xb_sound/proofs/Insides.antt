-- What is heard of a tone.
use Rattle.std.proofs.Common.{◌≡◌, ◌∙◌, ℕ, zero, suc, ◌+◌, ◌*◌, ◌<◌, ◌≤◌, Bool, true, false, List, ◌∷◌, ◌++◌, map, take, length, sym, ap, inl, inr, arith, refl, ℤ, leb}
use Rattle.std.specs.List.{range_with_len}
use Rattle.std.proofs.lemmas.Bool.{cases_lt, false≢true, le-leb, lt-leb}
use Rattle.std.proofs.lemmas.List.{take-append-le}
use Rattle.std.proofs.lemmas.List.FromFn.{take-map-range_with_len, length-map-range_with_len}
use Rattle.xb_sound.specs.Receiver.{heard_after, is_zero, loud_frequencies}

-- a wave that is not 0 at sample 1 of each 80
abbrev pub IsWave : (ℕ → ℤ) → Type 0
IsWave f = (turn : ℕ) → is_zero (f (turn * 80 + 1)) ≡ false

-- nothing is heard of samples
pub record IsPassed (silent : ℕ) (samples xs : List ℤ) : Type 0 where
  pub left : ℕ
  pub same : heard_after silent (samples ++ xs) ≡ heard_after left xs

-- something is heard of samples, once
pub record IsHeardOnce (silent : ℕ) (samples xs : List ℤ) (what : List ℕ) : Type 0 where
  pub left : ℕ
  pub same : heard_after silent (samples ++ xs) ≡ what ∷ heard_after left xs

-- the samples of a tone from sample i on, which is sample k + 2 of its 80, after at most k silent
abbrev IsInside : (ℕ → ℤ) → ℕ → List ℤ → Type 0
IsInside f n xs = (i turn k silent : ℕ) → i ≡ turn * 80 + k + 2 → k < 80 → silent ≤ k
    → IsPassed silent (map f (range_with_len i n)) xs

step-zero : (silent : ℕ) (x : ℤ) (xs : List ℤ) → is_zero x ≡ true
    → heard_after silent (x ∷ xs) ≡ heard_after (silent + 1) xs
unfolding heard_after
step-zero silent x xs e = rw e refl

step-sound : (silent : ℕ) (x : ℤ) (xs : List ℤ) → is_zero x ≡ false → leb 80 silent ≡ false
    → heard_after silent (x ∷ xs) ≡ heard_after 0 xs
unfolding heard_after
step-sound silent x xs e few = rw (e, few) refl

step-onset : (silent : ℕ) (x : ℤ) (xs : List ℤ) → is_zero x ≡ false → leb 80 silent ≡ true
    → heard_after silent (x ∷ xs) ≡ loud_frequencies (take 80 (x ∷ xs)) ∷ heard_after 0 xs
unfolding heard_after
step-onset silent x xs e many = rw (e, many) refl

after_one : (silent left : ℕ) (x : ℤ) (samples xs : List ℤ)
    → heard_after silent (x ∷ (samples ++ xs)) ≡ heard_after left (samples ++ xs)
    → IsPassed left samples xs → IsPassed silent (x ∷ samples) xs
after_one silent left x samples xs e passed = record { left = passed.left; same = e ∙ passed.same }

-- a sample of 0 is not the last but one of its 80
not_turned : (f : ℕ → ℤ) → IsWave f → (i turn k : ℕ) → i ≡ turn * 80 + k + 2 → k < 80
    → is_zero (f i) ≡ true → k < 79
not_turned f wave i turn k at below e = elim (cases_lt k 79) [ inl short ↦ short | inr long ↦ absurd (clash long) ]
  where
    clash : 79 ≤ k → ⊥
    clash long =
        let same : i ≡ (turn + 1) * 80 + 1 = omega arith in
        false≢true (sym (wave (turn + 1)) ∙ ap (λ (j : ℕ). is_zero (f j)) (sym same) ∙ e)

inside_silent : (f : ℕ → ℤ) → IsWave f → (n : ℕ) (xs : List ℤ) → IsInside f n xs
    → (i turn k silent : ℕ) → i ≡ turn * 80 + k + 2 → k < 80 → silent ≤ k → is_zero (f i) ≡ true
    → IsPassed silent (f i ∷ map f (range_with_len (i + 1) n)) xs
inside_silent f wave n xs later i turn k silent at below few e =
    let short : k < 79 = not_turned f wave i turn k at below e in
    after_one silent (silent + 1) (f i) (map f (range_with_len (i + 1) n)) xs
    (step-zero silent (f i) (map f (range_with_len (i + 1) n) ++ xs) e)
    (later (i + 1) turn (k + 1) (silent + 1) (omega arith) (omega arith) (omega arith))

inside_sounding : (f : ℕ → ℤ) → IsWave f → (n : ℕ) (xs : List ℤ) → IsInside f n xs
    → (i turn k silent : ℕ) → i ≡ turn * 80 + k + 2 → k < 80 → silent ≤ k → is_zero (f i) ≡ false
    → IsPassed silent (f i ∷ map f (range_with_len (i + 1) n)) xs
inside_sounding f wave n xs later i turn k silent at below few e =
    let fewer : silent < 80 = omega arith in
    after_one silent 0 (f i) (map f (range_with_len (i + 1) n)) xs
    (step-sound silent (f i) (map f (range_with_len (i + 1) n) ++ xs) e (lt-leb 80 silent fewer))
    (elim (cases_lt k 79) [
      | inl short ↦ later (i + 1) turn (k + 1) 0 (omega arith) (omega arith) (omega arith)
      | inr long ↦ later (i + 1) (turn + 1) 0 0 (omega arith) (omega arith) (omega arith)
    ])

inside_more : (f : ℕ → ℤ) → IsWave f → (n : ℕ) (xs : List ℤ) → IsInside f n xs → IsInside f (suc n) xs
inside_more f wave n xs later i turn k silent at below few = by (is_zero (f i)) refl
  where
    by : (b : Bool) → is_zero (f i) ≡ b → IsPassed silent (f i ∷ map f (range_with_len (i + 1) n)) xs
    by true e = inside_silent f wave n xs later i turn k silent at below few e
    by false e = inside_sounding f wave n xs later i turn k silent at below few e

-- within a tone nothing begins
inside : (f : ℕ → ℤ) → IsWave f → (n : ℕ) (xs : List ℤ) → IsInside f n xs
inside f wave zero xs i turn k silent at below few = record { left = silent; same = refl }
inside f wave (suc n) xs i turn k silent at below few =
    inside_more f wave n xs (inside f wave n xs) i turn k silent at below few

-- the 80 samples from sample 1 on
onset : (f : ℕ → ℤ) (n : ℕ) (xs : List ℤ) → 80 ≤ suc n
    → take 80 (f 1 ∷ (map f (range_with_len 2 n) ++ xs)) ≡ map f (range_with_len 1 80)
onset f n xs long =
    let covers : 80 ≤ length (map f (range_with_len 1 (suc n))) =
    omega (arith, length-map-range_with_len f 1 (suc n)) in
    take-append-le 80 (map f (range_with_len 1 (suc n))) xs covers
    ∙ take-map-range_with_len f 1 (suc n) 80 long

-- a tone after silence of 80 samples or more, of more than 80 samples, is heard once, by its first 80
-- from sample 1 on
pub heard_after-tone : (f : ℕ → ℤ) → IsWave f → is_zero (f 0) ≡ true → (n : ℕ) → 81 ≤ n
    → (silent : ℕ) → 80 ≤ silent → (xs : List ℤ)
    → IsHeardOnce silent (map f (range_with_len 0 n)) xs (loud_frequencies (map f (range_with_len 1 80)))
heard_after-tone f wave start zero long silent enough xs = absurd (omega arith)
heard_after-tone f wave start (suc zero) long silent enough xs = absurd (omega arith)
heard_after-tone f wave start (suc (suc n)) long silent enough xs =
    let tail = map f (range_with_len 2 n) in
    let passed = inside f wave n xs 2 0 0 0 refl (omega arith) (omega arith) in
    let many : 80 ≤ silent + 1 = omega arith in
    let covers : 80 ≤ suc n = omega arith in
    record {
      left = passed.left;
      same =
          step-zero silent (f 0) (f 1 ∷ (tail ++ xs)) start
          ∙ step-onset (silent + 1) (f 1) (tail ++ xs) (wave 0) (le-leb 80 (silent + 1) many)
          ∙ ap (λ (window : List ℤ). loud_frequencies window ∷ heard_after 0 (tail ++ xs)) (onset f n xs covers)
          ∙ ap (λ (later : List (List ℕ)). loud_frequencies (map f (range_with_len 1 80)) ∷ later) passed.same;
    }
