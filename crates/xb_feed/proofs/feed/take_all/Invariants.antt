use Rattle.xb_feed.specs.Feeding.{Feeds}
use Rattle.xb_feed.specs.Reading.{reads_left}
use Rattle.xb_feed.proofs.feed.take_all.Given as goal

abbrev pub invariant-pieces : goal.invariant-pieces
invariant-pieces g l =
    Feeds g.C.Follow.rules l.initial.feed l.feed (g.R.Read.remaining l.initial.input) (g.R.Read.remaining l.input)
    (g.W.Write.contents l.initial.out) (g.W.Write.contents l.out)

abbrev pub decreases-pieces : goal.decreases-pieces
decreases-pieces g l = reads_left l.reads
