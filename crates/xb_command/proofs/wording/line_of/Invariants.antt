use Rattle.std.proofs.Common.{◌≡◌, map, take}
use Rattle.xb_command.specs.Answers.{in_line}
use Rattle.xb_command.proofs.wording.line_of.Given as goal

abbrev pub invariant-loop-byte : goal.invariant-loop-byte
invariant-loop-byte l = l.line.items ≡ map in_line (take l.byte-index l.text)
