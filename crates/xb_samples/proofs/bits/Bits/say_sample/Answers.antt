use Rattle.std.proofs.Common.{ℕ, List, ◌++◌, ap, ◌∙◌}
use Rattle.xb_samples.specs.Samples.{sample_levels}
use Rattle.xb_samples.proofs.BitLemmas.{level_more, levels_whole}
use Rattle.xb_samples.proofs.bits.Bits.say_sample.Goals as goal

pub loop-wire-preserved : goal.loop-wire-preserved
loop-wire-preserved c =
    level_more c.deref-mask-items.result.now c.loop-wire.wire c.args.sample c.bit_level.result c.loop-wire.events.items
    c.say.new.events.items _ c.loop-wire-test.true c.bit_level.ensures c.in_ok-say.ensures.said c.loop-wire.invariant

pub returns-clause-said : goal.returns-clause-said
returns-clause-said c =
    levels_whole c.deref-mask-items.result.now c.loop-wire.wire c.args.sample c.loop-wire.events.items _
    c.loop-wire-test.false c.loop-wire.invariant
    ∙ ap (λ (masks : List ℕ). c.args.events.now.items ++ sample_levels 0 masks c.args.sample)
    c.deref-mask-items.ensures.value
