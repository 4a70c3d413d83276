use Rattle.std.proofs.Common.{◌≡◌, ◌++◌, drop, string_bytes}
use Rattle.xb_rx.specs.Pages.{loose_lines}
use Rattle.xb_rx.proofs.page.loose_lines.Given as goal

abbrev pub invariant-loop-key : goal.invariant-loop-key
invariant-loop-key l = string_bytes l.text ++ loose_lines (drop l.key-index l.keys) ≡ loose_lines l.keys
