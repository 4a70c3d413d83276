use Rattle.std.proofs.Common.{◌≡◌, ◌^◌, ◌-◌, min, take, length}
use Rattle.xb_sound.specs.Sounds.{sound_of}
use Rattle.xb_sound.proofs.sounding.sound_length.Given as goal

abbrev pub invariant-loop-mark : goal.invariant-loop-mark
invariant-loop-mark l = l.samples ≡ min (length (sound_of l.cadence (take l.mark-index l.marks))) (2 ^ 64 - 1)
