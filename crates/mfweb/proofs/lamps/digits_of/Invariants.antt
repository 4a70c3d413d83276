use Rattle.std.proofs.Common.{◌≡◌, map, take}
use Rattle.xb_structs.specs.Digits.{digit_in}
use Rattle.mfweb.proofs.lamps.digits_of.Given as goal

abbrev pub invariant-loop-byte : goal.invariant-loop-byte
invariant-loop-byte l = l.digits ≡ map digit_in (take l.byte-index l.bytes)
