use Rattle.std.proofs.Common.{refl, rules}
use Rattle.xb_live.proofs.Counts.{counted-none, zeros_are}
use Rattle.xb_live.proofs.counting.Counting.new.Goals as goal

pub invariant_of-result : goal.invariant_of-result
invariant_of-result c = (
  c.in_ok-entry.ensures.capacity,
  λ l. zeros_are c.in_ok-numbers.numbers (λ k d h. let made = c.in_ok-numbers.ensures.made k d h in search rules) l,
)

pub returns-clause-counted : goal.returns-clause-counted
returns-clause-counted c =
    counted-none _ c.in_ok-live.ensures.taken c.in_ok-numbers.ensures.lines
    (λ k d h. let made = c.in_ok-numbers.ensures.made k d h in search rules) refl refl
