use Rattle.std.proofs.Common.{◌≡◌, take, vec_len, vec_capacity}
use Rattle.xb_model.specs.OnLines.{on_line}
use Rattle.xb_pulse.proofs.pulse.PulseLineStage.step.Given as goal

abbrev pub invariant-loop-what : goal.invariant-loop-what
invariant-loop-what l = record {
  items : l.out.items ≡ on_line l.item.line (take l.what-index l.what-items);
  len : vec_len l.out ≡ l.what-index;
  capacity : vec_capacity l.out ≡ vec_capacity l.initial.out;
}
