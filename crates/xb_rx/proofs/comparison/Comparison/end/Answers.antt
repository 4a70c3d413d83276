use Rattle.std.proofs.Common.{string_bytes}
use Rattle.xb_rx.proofs.DifferenceSteps.{all-left}
use Rattle.xb_rx.proofs.comparison.Comparison.end.Goals as goal

pub returns : goal.returns
returns c =
    all-left c.self.inside.keyed.items c.deref.result.now c.args.self.now c.self.inside.passed
    (string_bytes c.new-text.result) (string_bytes c.write_all_missed.new.out) c.deref.ensures.value c.self.view_is
    c.new-text.ensures.bytes c.in_ok-write_all_missed.ensures
