use Rattle.std.proofs.Common.{◌≡◌, take, vec_len, vec_capacity}
use Rattle.xb_model.specs.OnLines.{on_line}
use Rattle.xb_sender.proofs.sender.SenderLineStage.step.Given as goal

abbrev pub invariant-loop-mark : goal.invariant-loop-mark
invariant-loop-mark l = record {
  items : l.out.items ≡ on_line l.line (take l.mark-index l.mark-items);
  len : vec_len l.out ≡ l.mark-index;
  capacity : vec_capacity l.out ≡ vec_capacity l.initial.out;
}
