use Rattle.std.proofs.Common.{◌++◌, suc, ◌≤◌, drop, length, take, sym, subst, arith}
use Rattle.std.proofs.lemmas.List.{take_all}
use Rattle.xb_text.specs.Writing.{AppendsBeginning}
use Rattle.xb_sound.specs.Sounds.{mark_sound, sound_of}
use Rattle.xb_sound.specs.Wavs.{pcm_of}
use Rattle.xb_sound.proofs.Beginnings.{beginning-after, beginning-more, sound-parts, whole-begins}
use Rattle.xb_sound.proofs.sounding.write_samples.Goals as goal

pub returns-in_err-write_mark-clause-beginning : goal.returns-in_err-write_mark-clause-beginning
returns-in_err-write_mark-clause-beginning g c =
    let marks = c.args.marks.now in
    let i = c.loop-mark.mark-index in
    let old = g.W.Write.contents c.args.out.now in
    let new = g.W.Write.contents c.write_mark.new.out in
    let rest = pcm_of (sound_of c.args.cadence (drop (suc i) marks)) in
    let part = pcm_of (mark_sound c.args.cadence c.mark-item.result) in
    subst (λ bytes. AppendsBeginning old new bytes)
    (sym (sound-parts c.args.cadence marks i c.mark-item.result c.loop-mark-test.true c.mark-item.is))
    (beginning-after old (g.W.Write.contents c.loop-mark.out) new (pcm_of (sound_of c.args.cadence (take i marks)))
    (part ++ rest) c.loop-mark.invariant
    (beginning-more (g.W.Write.contents c.loop-mark.out) new part rest c.write_mark.ensures.beginning))

pub returns-clause-beginning : goal.returns-clause-beginning
returns-clause-beginning g c =
    let marks = c.args.marks.now in
    let old = g.W.Write.contents c.args.out.now in
    let new = g.W.Write.contents c.loop-mark.out in
    let past : length marks ≤ c.loop-mark.mark-index = omega arith in
    subst (λ ms. AppendsBeginning old new (pcm_of (sound_of c.args.cadence ms)))
    (take_all c.loop-mark.mark-index marks past)
    (whole-begins old new (pcm_of (sound_of c.args.cadence (take c.loop-mark.mark-index marks))) c.loop-mark.invariant)
