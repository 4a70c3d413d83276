-- Frequencies as they are read.
use Rattle.std.proofs.Common.{◌≡◌, ◌∙◌, ℕ, ◌+◌, ◌≤◌, Bool, cond, List, [], ◌++◌, length, Some, None, ap, arith, append-nil}
use Rattle.std.proofs.lemmas.Bool.{le-leb}
use Rattle.xb_signal.specs.ReadTones.{given_after}

pub given-end : (tones : List ℕ) → length tones ≤ 6 → given_after tones [] ≡ Some tones
given-end tones few =
    let e : length tones + 0 ≤ 6 = omega (arith, few) in
    ap (λ (b : Bool). cond b (Some (tones ++ [])) None) (le-leb (length tones + 0) 6 e)
    ∙ ap (λ (ys : List ℕ). Some ys) (append-nil tones)
