use Rattle.std.proofs.Common.{◌≡◌, drop}
use Rattle.xb_vcd.specs.VcdWords.{code_in, code_of}
use Rattle.xb_vcd.proofs.word.code_of.Given as goal

abbrev pub invariant-loop-byte : goal.invariant-loop-byte
invariant-loop-byte l = code_in l.code (drop l.byte-index l.text) ≡ code_of l.text
