use Rattle.std.proofs.Common.{◌≡◌, drop}
use Rattle.std.specs.List.{list_any}
use Rattle.xb_samples.specs.Sounds.{is_channel}
use Rattle.xb_samples.proofs.sound.is_wire.Given as goal

abbrev pub invariant-loop-wire : goal.invariant-loop-wire
invariant-loop-wire l =
    list_any (is_channel l.channel) l.wires ≡ list_any (is_channel l.channel) (drop l.wire-index l.wires)
