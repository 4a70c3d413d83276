use Rattle.std.proofs.Common.{◌≡◌, ◌<◌, ℕ, false}
use Rattle.xb_closes.specs.LineUses.{use_at, is_open_use}
use Rattle.xb_closes.proofs.line_uses.LineUses.first_open.Given as goal

abbrev pub invariant-loop-number : goal.invariant-loop-number
invariant-loop-number l = (k : ℕ) → k < l.number → is_open_use (use_at l.self-inside.uses k) ≡ false
