use Rattle.std.proofs.Common.{◌≡◌, ◌++◌, drop, map, take}
use Rattle.xb_samples.specs.Sounds.{changes_said, wire_after}
use Rattle.xb_samples.proofs.sound.hear_sample.Given as goal

abbrev pub invariant-loop-i : goal.invariant-loop-i
invariant-loop-i l = record {
  events : l.events.items ++ changes_said l.channel l.high l.tick l.sample l.i (drop l.i l.wires)
      ≡ l.initial.events.items ++ changes_said l.channel l.high l.tick l.sample 0 l.initial.wires;
  wires : take l.i l.wires ++ map (wire_after l.channel l.high l.sample) (drop l.i l.wires)
      ≡ map (wire_after l.channel l.high l.sample) l.initial.wires;
}
