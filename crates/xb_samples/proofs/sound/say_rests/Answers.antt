use Rattle.xb_samples.proofs.SoundLemmas.{all_said, rest_more}
use Rattle.xb_samples.proofs.sound.say_rests.Goals as goal

pub loop-i-preserved : goal.loop-i-preserved
loop-i-preserved c =
    rest_more c.args.wires.now c.loop-i.i _ c.loop-i.events.items c.say_rest.new.events.items _ c.loop-i-test.true
    c.in_ok-say_rest.ensures.said c.loop-i.invariant

pub returns-clause-said : goal.returns-clause-said
returns-clause-said c =
    all_said c.args.wires.now c.loop-i.i c.loop-i.events.items _ c.loop-i-test.false c.loop-i.invariant
