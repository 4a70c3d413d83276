-- Numbers that swing about 0, one after the other.
use Rattle.std.proofs.Common.{◌≡◌, ◌∙◌, ◌<◌, ◌≤◌, ℕ, ◌+◌, ◌*◌, ◌%◌, ◌^◌, ap, arith, pos, ◌-ℤ◌, unsigned_abs}
use Rattle.std.proofs.lemmas.Int.{ints}
use Rattle.std.proofs.lemmas.Nat.{mod_below}
use Rattle.std.proofs.Math.Nat.{mod-add-mod}
use Rattle.xb_chance.specs.Words.{state_after, word_of}
use Rattle.xb_chance.specs.Swings.{SwingsGoOn, swing}

states-add : (seed m n : ℕ) → state_after (state_after seed m) (n + 1) ≡ state_after seed (m + n + 1)
states-add seed m n =
    let sum : seed + m * 0x9e3779b97f4a7c15 + (n + 1) * 0x9e3779b97f4a7c15 ≡ seed + (m + n + 1) * 0x9e3779b97f4a7c15 =
    omega arith in
    mod-add-mod (seed + m * 0x9e3779b97f4a7c15) (2 ^ 64) ((n + 1) * 0x9e3779b97f4a7c15)
    ∙ ap (λ (x : ℕ). x % 2 ^ 64) sum

pub swings_go_on : SwingsGoOn
swings_go_on peak seed m n =
    ap (λ (state : ℕ). pos (word_of state % (2 * peak + 1)) -ℤ pos peak) (states-add seed m n)

pub swing_is_small : (peak state n : ℕ) → unsigned_abs (swing peak state n) ≤ peak
swing_is_small peak state n =
    let word : ℕ = word_of (state_after state (n + 1)) in
    let below : word % (2 * peak + 1) < 2 * peak + 1 = mod_below word (2 * peak + 1) (omega arith) in
    omega (arith, ints, below)
