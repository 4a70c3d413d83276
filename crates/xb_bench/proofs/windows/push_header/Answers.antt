use Rattle.std.proofs.Common.{append_assoc, string_bytes}
use Rattle.xb_report.proofs.Pushed.{both, last, str}
use Rattle.xb_bench.specs.Windows.{columns_text, header_text}
use Rattle.xb_bench.proofs.windows.push_header.Goals as goal

pub returns : goal.returns
returns c =
    let o = string_bytes c.args.out.now in
    let windows = both o _ _ _ _ c.in_ok-push_windows.ensures c.in_ok-push_str.ensures.bytes in
    let end = str c.push_str-2.result _ _ columns_text c.push_str-2.ensures.bytes in
    last c.push_str-2.result o _ _ _ _ (header_text c.args.windows) windows end (simp append_assoc)
