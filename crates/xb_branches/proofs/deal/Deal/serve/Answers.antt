use Rattle.std.proofs.Common.{rules}
use Rattle.xb_branches.proofs.Sames.{same_deal}
use Rattle.xb_branches.proofs.deal.Deal.serve.Goals as goal

pub returns-in-Ended-clause-ends : goal.returns-in-Ended-clause-ends
returns-in-Ended-clause-ends g c = same_deal c.args.self.now c.loop.self c.turn.new.self c.loop.invariant.2 c.turn.ensures.ends

pub loop-preserved-in-Some-get : goal.loop-preserved-in-Some-get
loop-preserved-in-Some-get g c = (search rules, search rules, same_deal c.args.self.now c.loop.self c.turn.new.self c.loop.invariant.2 c.turn.ensures.ends)

pub loop-preserved-in_default : goal.loop-preserved-in_default
loop-preserved-in_default g c = (search rules, search rules, same_deal c.args.self.now c.loop.self c.turn.new.self c.loop.invariant.2 c.turn.ensures.ends)

pub loop-preserved-in-Idle : goal.loop-preserved-in-Idle
loop-preserved-in-Idle g c = (search rules, search rules, same_deal c.args.self.now c.loop.self c.turn.new.self c.loop.invariant.2 c.turn.ensures.ends)

pub loop-preserved : goal.loop-preserved
loop-preserved g c = (search rules, search rules, same_deal c.args.self.now c.loop.self c.turn.new.self c.loop.invariant.2 c.turn.ensures.ends)
