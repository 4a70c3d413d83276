use Rattle.std.proofs.Common.{take}
use Rattle.xb_feed.specs.Feeding.{GoesOn}
use Rattle.xb_feed.proofs.feed.Intake.take_text.Given as goal

abbrev pub invariant-loop-byte : goal.invariant-loop-byte
invariant-loop-byte g l = GoesOn g.C.Follow.rules l.initial.self (take l.byte-index l.piece) l.self
