use Rattle.std.proofs.Common.{◌≡◌, None, replicate}
use Rattle.xb_vcd.proofs.vcd.Vcd.new.Given as goal

abbrev pub invariant-loop-name : goal.invariant-loop-name
invariant-loop-name l = l.codes.items ≡ replicate l._name-index None
