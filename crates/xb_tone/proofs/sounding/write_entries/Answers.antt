use Rattle.std.proofs.Common.{◌∷◌, subst}
use Rattle.std.specs.Io.KnownBytes.{Appends}
use Rattle.std.proofs.lemmas.List.{nil_from_length}
use Rattle.xb_text.specs.Writing.{AppendsBeginning}
use Rattle.xb_sound.proofs.Beginnings.{whole-begins}
use Rattle.xb_sound.specs.Sounds.{silence}
use Rattle.xb_sound.specs.Wavs.{pcm_of}
use Rattle.xb_tone.specs.Sounds.{sound_at, sound_before}
use Rattle.xb_tone.proofs.Follows.{IsSoFar, so_far-end, so_far-next, so_far-part, so_far-start, start-part}
use Rattle.xb_tone.proofs.sounding.write_entries.Goals as goal

pub returns-in_err-write_silence-clause-beginning : goal.returns-in_err-write_silence-clause-beginning
returns-in_err-write_silence-clause-beginning g c =
    start-part c.args.cadence c.args.entries.now (g.W.Write.contents c.args.out.now)
    (g.W.Write.contents c.write_silence.new.out) c.requires
    (subst (λ ms. AppendsBeginning (g.W.Write.contents c.args.out.now) (g.W.Write.contents c.write_silence.new.out)
    (pcm_of (silence ms))) c.first_at.ensures c.write_silence.ensures.beginning)

pub loop-entry-init : goal.loop-entry-init
loop-entry-init g c =
    so_far-start c.args.cadence c.args.entries.now (g.W.Write.contents c.args.out.now)
    (g.W.Write.contents c.write_silence.new.out) c.requires
    (subst (λ ms. Appends (g.W.Write.contents c.args.out.now) (g.W.Write.contents c.write_silence.new.out)
    (pcm_of (silence ms))) c.first_at.ensures c.in_ok-write_silence.ensures.whole)

pub returns-in_err-write_entry-clause-beginning : goal.returns-in_err-write_entry-clause-beginning
returns-in_err-write_entry-clause-beginning g c =
    let so : IsSoFar c.args.cadence c.args.entries.now (c.in-Some.entry.now ∷ c.in-Some.later.now) (g.W.Write.contents c.args.out.now) (g.W.Write.contents c.loop-entry.out) =
    subst (λ left. IsSoFar c.args.cadence c.args.entries.now left (g.W.Write.contents c.args.out.now) (g.W.Write.contents c.loop-entry.out)) c.in-Some.ensures.cases.0 c.loop-entry.invariant in
    so_far-part c.args.cadence c.args.entries.now c.in-Some.entry.now c.in-Some.later.now (g.W.Write.contents c.args.out.now) (g.W.Write.contents c.loop-entry.out) (g.W.Write.contents c.write_entry.new.out) so
    (subst (λ next. AppendsBeginning (g.W.Write.contents c.loop-entry.out) (g.W.Write.contents c.write_entry.new.out) (pcm_of (sound_before c.args.cadence c.in-Some.entry.now next))) c.first.ensures.value
    c.write_entry.ensures.beginning)

pub loop-entry-preserved : goal.loop-entry-preserved
loop-entry-preserved g c =
    let so : IsSoFar c.args.cadence c.args.entries.now (c.in-Some.entry.now ∷ c.in-Some.later.now) (g.W.Write.contents c.args.out.now) (g.W.Write.contents c.loop-entry.out) =
    subst (λ left. IsSoFar c.args.cadence c.args.entries.now left (g.W.Write.contents c.args.out.now) (g.W.Write.contents c.loop-entry.out)) c.in-Some.ensures.cases.0 c.loop-entry.invariant in
    so_far-next c.args.cadence c.args.entries.now c.in-Some.entry.now c.in-Some.later.now (g.W.Write.contents c.args.out.now) (g.W.Write.contents c.loop-entry.out) (g.W.Write.contents c.write_entry.new.out) so
    (subst (λ next. Appends (g.W.Write.contents c.loop-entry.out) (g.W.Write.contents c.write_entry.new.out) (pcm_of (sound_before c.args.cadence c.in-Some.entry.now next))) c.first.ensures.value
    c.in_ok-write_entry.ensures.whole)

pub returns-clause-whole : goal.returns-clause-whole
returns-clause-whole g c =
    so_far-end c.args.cadence c.args.entries.now (g.W.Write.contents c.args.out.now) (g.W.Write.contents c.loop-entry.out)
    (subst (λ left. IsSoFar c.args.cadence c.args.entries.now left (g.W.Write.contents c.args.out.now) (g.W.Write.contents c.loop-entry.out))
    (nil_from_length c.loop-entry.left.now c.in_default.ensures.cases) c.loop-entry.invariant)

pub returns-clause-beginning : goal.returns-clause-beginning
returns-clause-beginning g c =
    whole-begins (g.W.Write.contents c.args.out.now) (g.W.Write.contents c.loop-entry.out) (pcm_of (sound_at c.args.cadence c.args.entries.now))
    (so_far-end c.args.cadence c.args.entries.now (g.W.Write.contents c.args.out.now) (g.W.Write.contents c.loop-entry.out)
    (subst (λ left. IsSoFar c.args.cadence c.args.entries.now left (g.W.Write.contents c.args.out.now) (g.W.Write.contents c.loop-entry.out))
    (nil_from_length c.loop-entry.left.now c.in_default.ensures.cases) c.loop-entry.invariant))
