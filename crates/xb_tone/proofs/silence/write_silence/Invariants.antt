use Rattle.std.proofs.Common.{◌≤◌, ◌-◌}
use Rattle.std.specs.Io.KnownBytes.{Appends}
use Rattle.xb_sound.specs.Sounds.{silence}
use Rattle.xb_sound.specs.Wavs.{pcm_of}
use Rattle.xb_tone.proofs.silence.write_silence.Given as goal

abbrev pub invariant-loop-written : goal.invariant-loop-written
invariant-loop-written g l = record {
  within : l.written ≤ l.ms;
  silent : Appends (g.W.Write.contents l.initial.out) (g.W.Write.contents l.out) (pcm_of (silence l.written));
}

abbrev pub decreases-loop-written : goal.decreases-loop-written
decreases-loop-written g l = l.ms - l.written
