-- Tests of a range.
use Rattle.std.proofs.Common.{◌≡◌, ◌∙◌, ℕ, suc, ◌+◌, ◌-◌, ◌<◌, Bool, false, ◌&&◌, ap, arith}
use Rattle.std.specs.List.{list_all, range_with_len}

-- a test of what is left of a range is one of its first number, and of the rest
pub all_left : (test : ℕ → Bool) (n all : ℕ) → n < all
    → list_all test (range_with_len n (all - n)) ≡ (test n && list_all test (range_with_len (n + 1) (all - (n + 1))))
all_left test n all below =
    let e : all - n ≡ suc (all - (n + 1)) = omega arith in ap (λ (m : ℕ). list_all test (range_with_len n m)) e

-- where it fails, it fails for all
pub all_fail : (test : ℕ → Bool) (n all : ℕ) → n < all → test n ≡ false
    → list_all test (range_with_len n (all - n)) ≡ false
all_fail test n all below e =
    all_left test n all below ∙ ap (λ (b : Bool). b && list_all test (range_with_len (n + 1) (all - (n + 1)))) e
