use Rattle.std.proofs.Common.{◌≡◌, take}
use Rattle.xb_sound.specs.Sounds.{sound_of}
use Rattle.xb_sound.proofs.samples.samples_of.Given as goal

abbrev pub invariant-loop-mark : goal.invariant-loop-mark
invariant-loop-mark l = l.samples.items ≡ sound_of l.cadence (take l.mark-index l.marks)
