use Rattle.xb_rx.proofs.Walks.{ReadsTo}
use Rattle.xb_rx.proofs.wav_start.read_head.Given as goal

abbrev pub invariant-loop : goal.invariant-loop
invariant-loop g l = ReadsTo (g.R.Read.remaining l.initial.reader) (g.R.Read.remaining l.reader) l.head
