-- What is heard of silence.
use Rattle.std.proofs.Common.{◌≡◌, ◌∙◌, ℕ, zero, suc, ◌+◌, List, ◌++◌, ap, arith, replicate, ℤ, pos}
use Rattle.xb_sound.specs.Receiver.{heard_after}

-- silence is counted
pub heard_after-silence : (n silent : ℕ) (xs : List ℤ)
    → heard_after silent (replicate n (pos 0) ++ xs) ≡ heard_after (silent + n) xs
unfolding heard_after
heard_after-silence zero silent xs =
    let e : silent ≡ silent + 0 = omega arith in ap (λ z. heard_after z xs) e
heard_after-silence (suc n) silent xs =
    let e : silent + 1 + n ≡ silent + suc n = omega arith in
    heard_after-silence n (silent + 1) xs ∙ ap (λ z. heard_after z xs) e
