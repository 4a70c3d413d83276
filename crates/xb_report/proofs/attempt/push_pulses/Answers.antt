use Rattle.std.proofs.Common.{codes, decimal, string_bytes}
use Rattle.xb_report.specs.ReportTexts.{pulses_text}
use Rattle.xb_report.proofs.Pushed.{both, last, sentence, str}
use Rattle.xb_report.proofs.attempt.push_pulses.Goals as goal

pub returns : goal.returns
returns c =
    let o = string_bytes c.args.out.now in
    let count = both o _ _ _ _ c.in_ok-push_str.ensures.bytes c.in_ok-write.ensures.bytes in
    let place = both o _ _ _ _ count c.in_ok-push_place.ensures in
    let end = str c.push_str-2.result _ _ (codes "\n") c.push_str-2.ensures.bytes in
    last c.push_str-2.result o _ _ _ _ (pulses_text c.args.count c.args.run.now) place end
    (sentence (codes "  pulses that no pause ended: ") (decimal c.args.count) (codes ", from ") _ (codes "\n"))
