use Rattle.std.proofs.Common.{append_assoc, string_bytes}
use Rattle.xb_report.proofs.Pushed.{both, last}
use Rattle.xb_bench.specs.Texts.{figures_text}
use Rattle.xb_bench.proofs.text.push_figures.Goals as goal

pub returns : goal.returns
returns c =
    let o = string_bytes c.args.out.now in
    let pulses = both o _ _ _ _ c.in_ok-push_str.ensures.bytes c.in_ok-push_number.ensures in
    let g1 = both o _ _ _ _ pulses c.in_ok-push_str-2.ensures.bytes in
    let speed = both o _ _ _ _ g1 c.in_ok-push_tenths.ensures in
    let g2 = both o _ _ _ _ speed c.in_ok-push_str-3.ensures.bytes in
    last c.push_tenths-2.result o _ _ _ _ (figures_text c.args.scale c.args.train.now) g2 c.push_tenths-2.ensures
    (simp (c.speed_of.ensures, c.share_of.ensures, append_assoc))
