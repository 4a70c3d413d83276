use Rattle.std.proofs.Common.{subst}
use Rattle.xb_rx.specs.Hearing.{HearsBytes, outputs}
use Rattle.xb_rx.specs.Reports.{Reported}
use Rattle.xb_rx.specs.Timed.{timing_by}
use Rattle.xb_rx.proofs.Delivered.{delivered}
use Rattle.xb_rx.proofs.receiving.receive.Goals as goal

pub returns : goal.returns
returns g c = λ clock tells.
    delivered clock c.args.request (g.R.Read.remaining c.args.sound.now) c.listen.result _
    (subst (λ (report : Reported). HearsBytes c.args.request.input c.args.request.since report (g.R.Read.remaining c.args.sound.now) c.listen.result
    (outputs (g.W.Write.contents c.args.out.now) (g.W.Write.contents c.listen.new.out) (g.E.Write.contents c.args.err.now)
    (g.E.Write.contents c.listen.new.err))) (c.new-report.ensures (timing_by c.args.request.since clock)) (c.listen.ensures clock tells))
