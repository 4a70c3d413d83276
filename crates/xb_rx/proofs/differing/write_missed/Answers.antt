use Rattle.std.proofs.Common.{◌≡◌, ◌∙◌}
use Rattle.xb_rx.specs.Differences.{missed_line}
use Rattle.xb_rx.proofs.differing.write_missed.Goals as goal

pub returns : goal.returns
unfolding missed_line
returns c =
    let line : c.get-line.result ≡ c.args.entry.now.line = c.get-line.ensures.value ∙ c.line.ensures in
    let number : c.number-number.result ≡ c.args.entry.now.number = c.number-number.ensures in
    let keys : c.keys-keys.result.now ≡ c.args.entry.now.keys = c.keys-keys.ensures in
    rw (line, number, keys) at c.write.ensures.bytes
