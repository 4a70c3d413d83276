use Rattle.std.proofs.Common.{◌≡◌, ◌++◌, drop}
use Rattle.xb_samples.specs.Sounds.{rests_said}
use Rattle.xb_samples.proofs.sound.say_rests.Given as goal

abbrev pub invariant-loop-i : goal.invariant-loop-i
invariant-loop-i l =
    l.events.items ++ rests_said l.i (drop l.i l.wires) ≡ l.initial.events.items ++ rests_said 0 l.wires
