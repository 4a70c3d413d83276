use Rattle.std.proofs.Common.{◌≡◌, ◌++◌, drop, string_bytes}
use Rattle.xb_measured.specs.Lines.{text_lines}
use Rattle.xb_shown.proofs.page.lines_of.Given as goal

abbrev pub invariant-loop-key : goal.invariant-loop-key
invariant-loop-key l = string_bytes l.text ++ text_lines l.last (drop l.key-index l.keys) ≡ text_lines l.fn.before l.keys
