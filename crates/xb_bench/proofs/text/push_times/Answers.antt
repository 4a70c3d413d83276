use Rattle.std.proofs.Common.{append_assoc, string_bytes}
use Rattle.xb_report.proofs.Pushed.{both, last}
use Rattle.xb_bench.specs.Texts.{times_text}
use Rattle.xb_bench.proofs.text.push_times.Goals as goal

pub returns : goal.returns
returns c =
    let o = string_bytes c.args.out.now in
    let breaks = both o _ _ _ _ c.in_ok-push_str.ensures.bytes c.in_ok-push_spread.ensures in
    let g1 = both o _ _ _ _ breaks c.in_ok-push_str-2.ensures.bytes in
    let makes = both o _ _ _ _ g1 c.in_ok-push_spread-2.ensures in
    let g2 = both o _ _ _ _ makes c.in_ok-push_str-3.ensures.bytes in
    let drift = both o _ _ _ _ g2 c.in_ok-push_drift.ensures in
    let g3 = both o _ _ _ _ drift c.in_ok-push_str-4.ensures.bytes in
    last c.push_tenths.result o _ _ _ _ (times_text c.args.scale c.args.train.now c.args.bounce) g3 c.push_tenths.ensures
    (simp (c.drift_of.ensures, c.tenths_of_ms.ensures, append_assoc))
