use Rattle.std.proofs.Common.{string_bytes, arith}
use Rattle.xb_report.proofs.Marks.{marked-fault}
use Rattle.xb_report.proofs.Pushed.{as_defined}
use Rattle.xb_report.proofs.signs.push_marked_fault.Goals as goal

pub returns : goal.returns
returns c =
    as_defined c.push_fault_with.result (string_bytes c.args.out.now) _ _ _ c.push_fault_with.ensures
    (marked-fault c.args.limits c.args.fault c.args.ms (omega arith) (omega arith) (omega arith) (omega arith))
