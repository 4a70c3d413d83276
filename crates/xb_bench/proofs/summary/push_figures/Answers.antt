use Rattle.std.proofs.Common.{append_assoc, codes, string_bytes}
use Rattle.xb_report.proofs.Pushed.{both, last, str}
use Rattle.xb_bench.specs.SummaryTexts.{figures_text}
use Rattle.xb_bench.proofs.summary.push_figures.Goals as goal

pub returns : goal.returns
returns c =
    let o = string_bytes c.args.out.now in
    let speed = both o _ _ _ _ c.in_ok-push_str.ensures.bytes c.in_ok-push_series.ensures in
    let t1 = both o _ _ _ _ speed c.in_ok-push_str-2.ensures.bytes in
    let share = both o _ _ _ _ t1 c.in_ok-push_series-2.ensures in
    let t2 = both o _ _ _ _ share c.in_ok-push_str-3.ensures.bytes in
    let bounce = both o _ _ _ _ t2 c.in_ok-push_figure.ensures in
    let end = str c.push_str-4.result _ _ (codes " ms") c.push_str-4.ensures.bytes in
    last c.push_str-4.result o _ _ _ _ (figures_text c.args.scale c.args.sums) bounce end
    (simp (c.tenths_of_ms.ensures, append_assoc))
