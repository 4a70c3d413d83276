use Rattle.std.proofs.Common.{◌≡◌, drop}
use Rattle.xb_contact.specs.Numbers.{number_in, number_of}
use Rattle.xb_contact.proofs.number.number_of.Given as goal

abbrev pub invariant-loop-byte : goal.invariant-loop-byte
invariant-loop-byte l = number_in l.number (drop l.byte-index l.text) ≡ number_of l.text
