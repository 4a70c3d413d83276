use Rattle.std.proofs.Common.{◌≡◌, ◌++◌, take}
use Rattle.std.specs.List.{flat_map}
use Rattle.xb_signal.specs.Words.{digit_segments}
use Rattle.xb_signal.proofs.text.push_digits.Given as goal

abbrev pub invariant-loop-byte : goal.invariant-loop-byte
invariant-loop-byte l =
    l.segments.items ≡ l.initial.segments.items ++ flat_map (digit_segments l.cadence) (take l.byte-index l.digits)
