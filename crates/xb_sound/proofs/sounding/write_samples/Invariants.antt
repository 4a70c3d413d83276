use Rattle.std.proofs.Common.{take}
use Rattle.std.specs.Io.KnownBytes.{Appends}
use Rattle.xb_sound.specs.Sounds.{sound_of}
use Rattle.xb_sound.specs.Wavs.{pcm_of}
use Rattle.xb_sound.proofs.sounding.write_samples.Given as goal

abbrev pub invariant-loop-mark : goal.invariant-loop-mark
invariant-loop-mark g l =
    Appends (g.W.Write.contents l.initial.out) (g.W.Write.contents l.out)
    (pcm_of (sound_of l.cadence (take l.mark-index l.marks)))
