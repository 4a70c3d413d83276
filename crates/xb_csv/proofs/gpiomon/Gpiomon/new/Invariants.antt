use Rattle.std.proofs.Common.{◌≡◌, None, replicate}
use Rattle.xb_csv.proofs.gpiomon.Gpiomon.new.Given as goal

abbrev pub invariant-loop-name : goal.invariant-loop-name
invariant-loop-name l = l.levels.items ≡ replicate l._name-index None
