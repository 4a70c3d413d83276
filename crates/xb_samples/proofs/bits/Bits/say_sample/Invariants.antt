use Rattle.std.proofs.Common.{◌≡◌, ◌++◌, drop}
use Rattle.xb_samples.specs.Samples.{sample_levels}
use Rattle.xb_samples.proofs.bits.Bits.say_sample.Given as goal

abbrev pub invariant-loop-wire : goal.invariant-loop-wire
invariant-loop-wire l =
    l.events.items ++ sample_levels l.wire (drop l.wire l.mask-items) l.sample
    ≡ l.initial.events.items ++ sample_levels 0 l.mask-items l.sample
