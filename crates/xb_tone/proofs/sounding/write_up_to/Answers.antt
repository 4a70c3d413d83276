use Rattle.std.proofs.Common.{ℕ, ◌*◌, ◌-◌, List, sym, subst, take}
use Rattle.std.proofs.KnownBytes.{Appends-trans}
use Rattle.std.specs.Io.KnownBytes.{Appends}
use Rattle.xb_text.specs.Writing.{AppendsBeginning}
use Rattle.xb_sound.proofs.Beginnings.{beginning-after, beginning-more}
use Rattle.xb_sound.specs.Sounds.{silence}
use Rattle.xb_sound.specs.Wavs.{pcm_of}
use Rattle.xb_tone.specs.Sounds.{entry_sound}
use Rattle.xb_tone.proofs.Follows.{up_to-bytes}
use Rattle.xb_tone.proofs.sounding.write_up_to.Goals as goal

pub returns-in_err-write_first-clause-beginning : goal.returns-in_err-write_first-clause-beginning
returns-in_err-write_first-clause-beginning g c =
    subst (λ (bytes : List ℕ). AppendsBeginning (g.W.Write.contents c.args.out.now) (g.W.Write.contents c.write_first.new.out) bytes)
    (sym (up_to-bytes (entry_sound c.args.cadence c.args.entry.now) c.sounds_ms.result c.args.ms c.min-first.result c.sounds_ms.ensures c.min-first.ensures))
    (beginning-more (g.W.Write.contents c.args.out.now) (g.W.Write.contents c.write_first.new.out) (pcm_of (take (c.min-first.result * 8) (entry_sound c.args.cadence c.args.entry.now))) (pcm_of (silence (c.args.ms - c.min-first.result)))
    c.write_first.ensures.beginning)

pub returns-in_err-write_silence-clause-beginning : goal.returns-in_err-write_silence-clause-beginning
returns-in_err-write_silence-clause-beginning g c =
    subst (λ (bytes : List ℕ). AppendsBeginning (g.W.Write.contents c.args.out.now) (g.W.Write.contents c.write_silence.new.out) bytes)
    (sym (up_to-bytes (entry_sound c.args.cadence c.args.entry.now) c.sounds_ms.result c.args.ms c.min-first.result c.sounds_ms.ensures c.min-first.ensures))
    (beginning-after (g.W.Write.contents c.args.out.now) (g.W.Write.contents c.write_first.new.out) (g.W.Write.contents c.write_silence.new.out) (pcm_of (take (c.min-first.result * 8) (entry_sound c.args.cadence c.args.entry.now))) (pcm_of (silence (c.args.ms - c.min-first.result)))
    c.in_ok-write_first.ensures.whole c.write_silence.ensures.beginning)

pub returns-clause-beginning : goal.returns-clause-beginning
returns-clause-beginning g c =
    subst (λ (bytes : List ℕ). AppendsBeginning (g.W.Write.contents c.args.out.now) (g.W.Write.contents c.write_silence.new.out) bytes)
    (sym (up_to-bytes (entry_sound c.args.cadence c.args.entry.now) c.sounds_ms.result c.args.ms c.min-first.result c.sounds_ms.ensures c.min-first.ensures))
    (beginning-after (g.W.Write.contents c.args.out.now) (g.W.Write.contents c.write_first.new.out) (g.W.Write.contents c.write_silence.new.out) (pcm_of (take (c.min-first.result * 8) (entry_sound c.args.cadence c.args.entry.now))) (pcm_of (silence (c.args.ms - c.min-first.result)))
    c.in_ok-write_first.ensures.whole c.write_silence.ensures.beginning)

pub returns-clause-whole : goal.returns-clause-whole
returns-clause-whole g c =
    subst (λ (bytes : List ℕ). Appends (g.W.Write.contents c.args.out.now) (g.W.Write.contents c.write_silence.new.out) bytes)
    (sym (up_to-bytes (entry_sound c.args.cadence c.args.entry.now) c.sounds_ms.result c.args.ms c.min-first.result c.sounds_ms.ensures c.min-first.ensures))
    (Appends-trans (g.W.Write.contents c.args.out.now) (g.W.Write.contents c.write_first.new.out) (g.W.Write.contents c.write_silence.new.out) (pcm_of (take (c.min-first.result * 8) (entry_sound c.args.cadence c.args.entry.now))) (pcm_of (silence (c.args.ms - c.min-first.result)))
    c.in_ok-write_first.ensures.whole c.in_ok-write_silence.ensures.whole)
