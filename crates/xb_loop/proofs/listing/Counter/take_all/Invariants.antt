use Rattle.xb_feed.specs.Reading.{reads_left}
use Rattle.xb_loop.specs.Listing.{CountsMore}
use Rattle.xb_loop.proofs.listing.Counter.take_all.Given as goal

abbrev pub invariant-pieces : goal.invariant-pieces
invariant-pieces g l =
    CountsMore l.initial.self l.self (g.R.Read.remaining l.initial.input) (g.R.Read.remaining l.input)

abbrev pub decreases-pieces : goal.decreases-pieces
decreases-pieces g l = reads_left l.reads
