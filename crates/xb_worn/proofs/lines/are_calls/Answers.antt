use Rattle.std.proofs.Common.{subst, take_all}
use Rattle.std.proofs.lemmas.List.Elements.{All-more}
use Rattle.xb_calls.specs.Calls.{AreCalls, IsCall}
use Rattle.xb_worn.proofs.lines.are_calls.Goals as goal

pub loop-call-preserved : goal.loop-call-preserved
loop-call-preserved c =
    All-more IsCall c.args.calls.now c.loop-call.call-index c.call-item.result c.loop-call-test.true
    c.loop-call.invariant (subst IsCall c.call-item.is c.is_call.ensures)

pub returns : goal.returns
returns c =
    subst AreCalls (take_all c.loop-call.call-index c.args.calls.now c.loop-call-test.false) c.loop-call.invariant
