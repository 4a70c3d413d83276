use Rattle.std.proofs.Common.{◌≡◌, ◌++◌, drop}
use Rattle.xb_calls.specs.CallTexts.{digits_of}
use Rattle.xb_calls.proofs.call_line.digits_of.Given as goal

abbrev pub invariant-loop-byte : goal.invariant-loop-byte
invariant-loop-byte l = l.digits.items ++ digits_of (drop l.byte-index l.field) ≡ digits_of l.field
