use Rattle.std.proofs.Common.{string_bytes}
use Rattle.xb_rx.proofs.DifferenceSteps.{all-heard}
use Rattle.xb_rx.proofs.differing.differences.Goals as goal

pub returns : goal.returns
returns c =
    all-heard c.loop-entry.left.now c.args.heard.now c.loop-entry.entry-index (string_bytes c.loop-entry.text)
    (string_bytes c.write_all_missed.new.out) _ c.loop-entry-test.false c.in_ok-write_all_missed.ensures
    c.loop-entry.invariant
