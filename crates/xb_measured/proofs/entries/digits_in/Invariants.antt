use Rattle.std.proofs.Common.{◌≡◌, ◌++◌, drop}
use Rattle.xb_measured.specs.Keyings.{digits_in}
use Rattle.xb_measured.proofs.entries.digits_in.Given as goal

abbrev pub invariant-loop-key : goal.invariant-loop-key
invariant-loop-key l = l.digits.items ++ digits_in (drop l.key-index l.keys) ≡ digits_in l.keys
