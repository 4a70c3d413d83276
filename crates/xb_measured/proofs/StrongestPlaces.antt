-- The strongest place so far.
use Rattle.std.proofs.Common.{◌≡◌, ◌∙◌, ℕ, suc, ◌+◌, ◌-◌, ◌<◌, ◌≤◌, List, sym, ap, arith, ℤ, Option}
use Rattle.std.specs.List.{range_with_len}
use Rattle.xb_measured.specs.Stretches.{strongest, stronger_place}

-- one place more
pub strongest-more : (kept : List ℤ) (best now : Option ℕ) (place to : ℕ) (all : Option ℕ) → place < to
    → strongest kept best (range_with_len place (to - place)) ≡ all → now ≡ stronger_place kept best place
    → strongest kept now (range_with_len (place + 1) (to - (place + 1))) ≡ all
unfolding strongest
strongest-more kept best now place to all below so_far is =
    let n : to - place ≡ suc (to - (place + 1)) = omega (arith, below) in
    ap (λ (b : Option ℕ). strongest kept b (range_with_len (place + 1) (to - (place + 1)))) is
    ∙ sym (ap (λ (k : ℕ). strongest kept best (range_with_len place k)) n)
    ∙ so_far

-- none is left
pub strongest-end : (kept : List ℤ) (best : Option ℕ) (place to : ℕ) (all : Option ℕ) → to ≤ place
    → strongest kept best (range_with_len place (to - place)) ≡ all → best ≡ all
unfolding strongest
strongest-end kept best place to all past so_far =
    let n : to - place ≡ 0 = omega (arith, past) in
    sym (ap (λ (k : ℕ). strongest kept best (range_with_len place k)) n) ∙ so_far
