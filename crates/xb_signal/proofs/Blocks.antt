-- The bytes of samples, in blocks.
use Rattle.std.proofs.Common.{◌≡◌, ◌∙◌, ℕ, zero, suc, ◌+◌, ◌-◌, ◌≤◌, List, [], ◌∷◌, ◌++◌, map, ap, arith, append-nil, ℤ}
use Rattle.std.specs.List.{range_with_len}
use Rattle.std.proofs.lemmas.Grind.{flat_map-append}
use Rattle.std.proofs.lemmas.List.{map-append}
use Rattle.std.proofs.lemmas.List.FromFn.{map-range_with_len_more}
use Rattle.xb_signal.specs.declared.form.Form.{Form}
use Rattle.xb_signal.specs.Forms.{sample_coded, samples_coded}

-- the bytes of so many samples, from one on
abbrev pub bytes_from : Form → (ℕ → ℤ) → ℕ → ℕ → List ℕ
bytes_from form f a n = samples_coded form (map f (range_with_len a n))

-- one sample more
pub block-more : (form : Form) (f : ℕ → ℤ) (a n : ℕ) → a ≤ n
    → bytes_from form f a (n + 1 - a) ≡ bytes_from form f a (n - a) ++ sample_coded form (f n)
block-more form f a n order =
    let count : n + 1 - a ≡ n - a + 1 = omega (arith, order) in
    let last : a + (n - a) ≡ n = omega (arith, order) in
    ap (λ (k : ℕ). bytes_from form f a k) count
    ∙ ap (samples_coded form) (map-range_with_len_more f a (n - a) n last)
    ∙ flat_map-append (sample_coded form) (map f (range_with_len a (n - a))) (f n ∷ [])
    ∙ ap (λ (xs : List ℕ). bytes_from form f a (n - a) ++ xs) (append-nil (sample_coded form (f n)))

range-parts : (a m n k : ℕ) → k ≡ m + n → range_with_len a k ≡ range_with_len a m ++ range_with_len (a + m) n
range-parts a zero n k is =
    let all : k ≡ n = omega (arith, is) in
    let start : a ≡ a + 0 = omega arith in
    ap (λ (j : ℕ). range_with_len a j) all ∙ ap (λ (b : ℕ). range_with_len b n) start
range-parts a (suc m) n k is =
    let all : k ≡ suc (m + n) = omega (arith, is) in
    let start : a + 1 + m ≡ a + suc m = omega arith in
    ap (λ (j : ℕ). range_with_len a j) all
    ∙ ap (λ (xs : List ℕ). a ∷ xs) (range-parts (a + 1) m n (m + n) (λ i. m + n)
    ∙ ap (λ (b : ℕ). range_with_len (a + 1) m ++ range_with_len b n) start)

-- the samples up to one, and from there up to another
pub bytes-parts : (form : Form) (f : ℕ → ℤ) (at end : ℕ) → at ≤ end
    → bytes_from form f 0 end ≡ bytes_from form f 0 at ++ bytes_from form f at (end - at)
bytes-parts form f at end order =
    let count : end ≡ at + (end - at) = omega (arith, order) in
    let start : 0 + at ≡ at = omega arith in
    ap (λ (xs : List ℕ). samples_coded form (map f xs)) (range-parts 0 at (end - at) end count)
    ∙ ap (samples_coded form) (map-append f (range_with_len 0 at) (range_with_len (0 + at) (end - at)))
    ∙ flat_map-append (sample_coded form) (map f (range_with_len 0 at)) (map f (range_with_len (0 + at) (end - at)))
    ∙ ap (λ (b : ℕ). bytes_from form f 0 at ++ bytes_from form f b (end - at)) start
