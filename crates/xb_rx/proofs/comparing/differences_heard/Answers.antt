use Rattle.std.proofs.Common.{◌≡◌, Some, Err, Ok, subst}
use Rattle.xb_rx.specs.declared.fault.RxFault.TheVariants as fault
use Rattle.xb_rx.specs.Reports.{reported}
use Rattle.xb_rx.specs.Timed.{untimed}
use Rattle.xb_rx.proofs.Compared.{are-differences, heard-against, not-heard}
use Rattle.xb_rx.proofs.comparing.differences_heard.Goals as goal

pub returns-in-Ok-clause-text : goal.returns-in-Ok-clause-text
returns-in-Ok-clause-text g c =
    are-differences c.args.input c.args.keyed.items (g.R.Read.remaining c.args.sound.now) c.listen.new.out.items _ _
    (heard-against c.args.input c.args.keyed.items (g.R.Read.remaining c.args.sound.now) (reported untimed c.against-report.result)
    c.new-text.result.items (Some c.listen.new.out.items) c.listen.result (Ok c.in-Ok.field-0) _ _ (c.against-report.ensures untimed)
    c.new-text.ensures.items c.in-Ok.is (c.listen.ensures untimed.clock tt))

pub returns-in-Err-Write-clause-fault : goal.returns-in-Err-Write-clause-fault
returns-in-Err-Write-clause-fault g c =
    not-heard c.args.input c.args.keyed.items (g.R.Read.remaining c.args.sound.now) (Some c.listen.new.out.items) fault.Write _ _
    (heard-against c.args.input c.args.keyed.items (g.R.Read.remaining c.args.sound.now) (reported untimed c.against-report.result)
    c.new-text.result.items (Some c.listen.new.out.items) c.listen.result (Err fault.Write) _ _ (c.against-report.ensures untimed)
    c.new-text.ensures.items (subst (λ f. c.listen.result ≡ Err f) c.in-Err-Write.field-0-is c.in-Err-Write.is)
    (c.listen.ensures untimed.clock tt))

pub returns : goal.returns
returns g c = record {
  text = tt;
  fault =
      not-heard c.args.input c.args.keyed.items (g.R.Read.remaining c.args.sound.now) (Some c.listen.new.out.items) c.in-Err.fault _ _
      (heard-against c.args.input c.args.keyed.items (g.R.Read.remaining c.args.sound.now) (reported untimed c.against-report.result)
      c.new-text.result.items (Some c.listen.new.out.items) c.listen.result (Err c.in-Err.fault) _ _ (c.against-report.ensures untimed)
      c.new-text.ensures.items c.in-Err.is (c.listen.ensures untimed.clock tt));
}
