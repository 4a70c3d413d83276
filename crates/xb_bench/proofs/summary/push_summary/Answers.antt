use Rattle.std.proofs.Common.{append_assoc, codes, string_bytes}
use Rattle.xb_report.proofs.Pushed.{both, last, str}
use Rattle.xb_bench.specs.SummaryTexts.{summary_text}
use Rattle.xb_bench.proofs.summary.push_summary.Goals as goal

pub returns : goal.returns
returns c =
    let o = string_bytes c.args.out.now in
    let line = both o _ _ _ _ c.in_ok-push_line.ensures c.in_ok-push_str.ensures.bytes in
    let sums = both o _ _ _ _ line c.in_ok-push_sums.ensures in
    let end = str c.push_str-2.result _ _ (codes "\n") c.push_str-2.ensures.bytes in
    last c.push_str-2.result o _ _ _ _ (summary_text c.args.line c.args.scale c.args.sums) sums end
    (simp append_assoc)
