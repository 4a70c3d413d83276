use Rattle.std.proofs.Common.{◌≡◌, drop}
use Rattle.xb_contact.specs.Numbers.{number_in}
use Rattle.xb_csv.proofs.exponents.number_with.Given as goal

abbrev pub invariant-loop-byte : goal.invariant-loop-byte
invariant-loop-byte l = number_in l.number (drop l.byte-index l.digits) ≡ number_in l.initial.number l.digits
