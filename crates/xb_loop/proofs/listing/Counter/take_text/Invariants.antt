use Rattle.std.proofs.Common.{take}
use Rattle.xb_loop.specs.Listing.{CountsOn}
use Rattle.xb_loop.proofs.listing.Counter.take_text.Given as goal

abbrev pub invariant-loop-byte : goal.invariant-loop-byte
invariant-loop-byte l = CountsOn l.initial.self (take l.byte-index l.piece) l.self
