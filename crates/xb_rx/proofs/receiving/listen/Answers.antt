use Rattle.std.proofs.Common.{subst}
use Rattle.xb_rx.specs.Hearing.{Hears, outputs}
use Rattle.xb_rx.specs.Reports.{reported}
use Rattle.xb_rx.specs.Timed.{timing_by}
use Rattle.xb_rx.proofs.Delivered.{listened}
use Rattle.xb_rx.proofs.receiving.listen.Goals as goal

pub returns : goal.returns
returns g c = λ clock tells.
    listened c.args.input c.args.since (reported (timing_by c.args.since clock) c.args.report) (g.R.Read.remaining c.args.sound.now) (g.R.Read.remaining c.start_of.new.reader)
    c.in_ok-start.start c.hear.result _ c.in_ok-start.ensures.bytes
    (subst (λ sound. Hears c.args.since sound (reported (timing_by c.args.since clock) c.args.report) c.hear.result
    (outputs (g.W.Write.contents c.args.out.now) (g.W.Write.contents c.hear.new.out) (g.E.Write.contents c.args.err.now)
    (g.E.Write.contents c.hear.new.err))) c.new-source.ensures.sound (c.hear.ensures clock tells))
