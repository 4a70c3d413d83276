use Rattle.std.proofs.Common.{codes, refl, string_bytes}
use Rattle.xb_report.proofs.Pushed.{both, last, str}
use Rattle.xb_bench.specs.Windows.{windows_text}
use Rattle.xb_bench.proofs.windows.push_windows.Goals as goal

pub returns : goal.returns
returns c =
    let o = string_bytes c.args.out.now in
    let adjust = both o _ _ _ _ c.in_ok-push_str.ensures.bytes c.in_ok-push_window.ensures in
    let t1 = both o _ _ _ _ adjust c.in_ok-push_str-2.ensures.bytes in
    let accept = both o _ _ _ _ t1 c.in_ok-push_window-2.ensures in
    let t2 = both o _ _ _ _ accept c.in_ok-push_str-3.ensures.bytes in
    let share = both o _ _ _ _ t2 c.in_ok-push_window-3.ensures in
    let end = str c.push_str-4.result _ _ (codes " % break") c.push_str-4.ensures.bytes in
    last c.push_str-4.result o _ _ _ _ (windows_text c.args.windows) share end refl
