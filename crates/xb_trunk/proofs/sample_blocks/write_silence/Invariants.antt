use Rattle.std.proofs.Common.{◌*◌, replicate, pos}
use Rattle.std.specs.Io.KnownBytes.{Appends}
use Rattle.xb_sound.specs.Wavs.{pcm_of}
use Rattle.xb_trunk.specs.declared.sample_blocks.TheConstants.{BLOCK}
use Rattle.xb_trunk.proofs.sample_blocks.write_silence.Given as goal

abbrev pub invariant-loop : goal.invariant-loop
invariant-loop g l =
    Appends (g.W.Write.contents l.initial.out) (g.W.Write.contents l.out) (pcm_of (replicate (l.counter * BLOCK) (pos 0)))
