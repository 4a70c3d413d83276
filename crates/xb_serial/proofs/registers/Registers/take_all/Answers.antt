use Rattle.std.proofs.Common.{◌++◌, List, take, sym, ap, ◌∙◌, subst}
use Rattle.std.proofs.lemmas.List.{take_more, take_all}
use Rattle.xb_model.specs.declared.signal.Signal.{Signal}
use Rattle.xb_model.specs.OnLines.{on_line}
use Rattle.xb_serial.specs.Taken.{HasDialled}
use Rattle.xb_serial.proofs.Taking.{on_line-more}
use Rattle.xb_serial.proofs.registers.Registers.take_all.Goals as goal

pub loop-what-preserved : goal.loop-what-preserved
loop-what-preserved c = λ plan signals taken.
    let sent : List Signal = c.args.sent.now in
    let i = c.loop-what.what-index in
    subst (HasDialled plan c.take.new.self)
    (on_line-more c.args.line signals (take i sent) _
    ∙ ap (λ whats. signals ++ on_line c.args.line whats) (sym (take_more sent i _ c.loop-what-test.true)))
    (c.in_ok-take.ensures plan (signals ++ on_line c.args.line (take i sent)) (c.loop-what.invariant plan signals taken))

pub returns : goal.returns
returns c = λ plan signals taken.
    subst (λ whats. HasDialled plan c.loop-what.self (signals ++ on_line c.args.line whats))
    (take_all c.loop-what.what-index c.args.sent.now c.loop-what-test.false) (c.loop-what.invariant plan signals taken)
