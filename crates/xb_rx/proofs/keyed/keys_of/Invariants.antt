use Rattle.std.proofs.Common.{◌≡◌, ◌++◌, drop, string_bytes}
use Rattle.xb_rx.specs.Keyed.{keys_text}
use Rattle.xb_rx.proofs.keyed.keys_of.Given as goal

abbrev pub invariant-loop-mark : goal.invariant-loop-mark
invariant-loop-mark l = string_bytes l.text ++ keys_text (drop l.mark-index l.marks) ≡ keys_text l.marks
