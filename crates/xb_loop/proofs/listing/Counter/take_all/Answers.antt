use Rattle.std.proofs.Common.{arith, take}
use Rattle.xb_loop.proofs.Counting.{counts_more_none, counts_more_then}
use Rattle.xb_loop.proofs.listing.Counter.take_all.Goals as goal

pub pieces-init : goal.pieces-init
pieces-init g c = counts_more_none c.args.self.now (g.R.Read.remaining c.args.input.now)

pub pieces-preserved : goal.pieces-preserved
pieces-preserved g c =
    counts_more_then c.args.self.now c.pieces.self c.take.new.self (g.R.Read.remaining c.args.input.now)
    (g.R.Read.remaining c.pieces.input) (g.R.Read.remaining c.read_once.new.input) (take c.in_ok-n.n c.read_once.new.buffer) _
    c.pieces.invariant c.in_ok-n.ensures.bytes c.in_ok-take.ensures (grind arith)
