use Rattle.xb_sound.specs.Sounds.{sound_of}
use Rattle.xb_sound.specs.Wavs.{header_of, pcm_of}
use Rattle.xb_sound.proofs.Beginnings.{beginning-after, beginning-more}
use Rattle.xb_sound.proofs.sounding.write_file.Goals as goal

pub returns-in_err-write_header-clause-beginning : goal.returns-in_err-write_header-clause-beginning
returns-in_err-write_header-clause-beginning g c =
    beginning-more (g.W.Write.contents c.args.out.now) (g.W.Write.contents c.write_header.new.out)
    (header_of c.args.sample_bytes) (pcm_of (sound_of c.args.cadence c.args.marks.now))
    c.write_header.ensures.beginning

pub returns-clause-beginning : goal.returns-clause-beginning
returns-clause-beginning g c =
    beginning-after (g.W.Write.contents c.args.out.now) (g.W.Write.contents c.write_header.new.out)
    (g.W.Write.contents c.write_samples.new.out) (header_of c.args.sample_bytes)
    (pcm_of (sound_of c.args.cadence c.args.marks.now)) c.in_ok-write_header.ensures.whole
    c.write_samples.ensures.beginning
