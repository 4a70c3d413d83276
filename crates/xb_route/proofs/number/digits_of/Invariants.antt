use Rattle.std.proofs.Common.{◌≡◌, ◌++◌, drop}
use Rattle.xb_route.specs.NumberTexts.{digits_of}
use Rattle.xb_route.proofs.number.digits_of.Given as goal

abbrev pub invariant-loop-byte : goal.invariant-loop-byte
invariant-loop-byte l = l.digits.items ++ digits_of (drop l.byte-index l.text) ≡ digits_of l.text
