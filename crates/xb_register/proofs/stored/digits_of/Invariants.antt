use Rattle.std.proofs.Common.{◌≡◌, ◌≤◌, length, take}
use Rattle.xb_register.specs.Stored.{digits_of}
use Rattle.xb_register.proofs.stored.digits_of.Given as goal

abbrev pub invariant-loop-pattern : goal.invariant-loop-pattern
invariant-loop-pattern l =
    (l.digits ≡ digits_of (take l.pattern-index l.patterns)) × (length l.digits ≤ l.pattern-index)
