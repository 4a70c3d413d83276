use Rattle.std.proofs.Common.{◌++◌, Option, subst, sym}
use Rattle.xb_measured.specs.declared.heard.Heard.{Heard}
use Rattle.xb_measured.specs.Receivers.{listed}
use Rattle.xb_rx.specs.Objects.{objected, objects_rest}
use Rattle.xb_rx.specs.Pages.{Writes}
use Rattle.xb_rx.specs.Timed.{timing_by}
use Rattle.xb_rx.proofs.objects.Objects.take.Goals as goal

pub returns-in-Some-clause-text : goal.returns-in-Some-clause-text
returns-in-Some-clause-text g c = λ clock tells.
    subst (λ (k : Option Heard). Writes (λ later. objects_rest (timing_by c.args.since clock) (objected c.args.self.now) (listed k ++ later))
    (objects_rest (timing_by c.args.since clock) (objected c.take_key.new.self)) c.take_key.result (g.W.Write.contents c.args.out.now) (g.W.Write.contents c.take_key.new.out))
    (sym c.in-Some.is) (c.take_key.ensures.text clock tells)
