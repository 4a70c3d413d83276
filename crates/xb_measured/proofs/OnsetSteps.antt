-- The shares so far.
use Rattle.std.proofs.Common.{◌≡◌, ◌∙◌, ℕ, suc, ◌+◌, ◌-◌, ◌<◌, ◌≤◌, ap, arith}
use Rattle.std.specs.List.{range_with_len, sum_by}
use Rattle.std.proofs.lemmas.List.Sums.{sum_by-cons}

-- one step more
pub shares-more : (f : ℕ → ℕ) (step to so_far now all : ℕ) → step < to
    → so_far + sum_by f (range_with_len step (to - step)) ≡ all → now ≡ f step
    → (so_far + now) + sum_by f (range_with_len (step + 1) (to - (step + 1))) ≡ all
shares-more f step to so_far now all below known is =
    let n : to - step ≡ suc (to - (step + 1)) = omega (arith, below) in
    let first : sum_by f (range_with_len step (to - step)) ≡ f step + sum_by f (range_with_len (step + 1) (to - (step + 1))) =
    ap (λ (k : ℕ). sum_by f (range_with_len step k)) n
    ∙ sum_by-cons f step (range_with_len (step + 1) (to - (step + 1))) in
    omega (arith, known, is, first)

-- none is left
pub shares-end : (f : ℕ → ℕ) (step to so_far all : ℕ) → to ≤ step
    → so_far + sum_by f (range_with_len step (to - step)) ≡ all → so_far ≡ all
shares-end f step to so_far all past known =
    let n : to - step ≡ 0 = omega (arith, past) in
    let none : sum_by f (range_with_len step (to - step)) ≡ 0 = ap (λ (k : ℕ). sum_by f (range_with_len step k)) n in
    omega (arith, known, none)
