use Rattle.std.proofs.Common.{append_assoc, codes, string_bytes}
use Rattle.xb_report.proofs.Pushed.{both, last, str}
use Rattle.xb_bench.specs.Texts.{ended_text}
use Rattle.xb_bench.proofs.text.push_ended.Goals as goal

pub returns : goal.returns
returns c =
    let o = string_bytes c.args.out.now in
    let line = both o _ _ _ _ c.in_ok-push_unended.ensures c.in_ok-push_line.ensures in
    let g = both o _ _ _ _ line c.in_ok-push_str.ensures.bytes in
    let why = both o _ _ _ _ g c.in_ok-push_str-2.ensures.bytes in
    let end = str c.push_str-3.result _ _ (codes "\n") c.push_str-3.ensures.bytes in
    last c.push_str-3.result o _ _ _ _
    (ended_text c.args.setting c.args.line c.args.scale c.args.pulses c.args.why.now) why end (simp append_assoc)
