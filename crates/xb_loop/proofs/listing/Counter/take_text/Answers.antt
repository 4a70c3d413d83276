use Rattle.std.proofs.Common.{arith, rules}
use Rattle.xb_loop.proofs.Counting.{counts_byte, counts_none, counts_piece}
use Rattle.xb_loop.proofs.listing.Counter.take_text.Goals as goal

pub loop-byte-init : goal.loop-byte-init
loop-byte-init c = counts_none c.args.self.now

pub loop-byte-preserved : goal.loop-byte-preserved
loop-byte-preserved c =
    counts_byte c.args.self.now c.loop-byte.self c.take_byte.new.self c.args.piece.now c.loop-byte.byte-index _
    (omega (arith, c.loop-byte-test.true)) (search rules) c.loop-byte.invariant c.in_ok-take_byte.ensures

pub returns : goal.returns
returns c =
    counts_piece c.args.self.now c.loop-byte.self c.args.piece.now c.loop-byte.byte-index
    (omega (arith, c.loop-byte-test.false)) c.loop-byte.invariant
