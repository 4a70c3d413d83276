use Rattle.std.proofs.Common.{◌+◌, ◌*◌, ◌-◌, ap, subst, drop, take, replicate, pos}
use Rattle.std.specs.Io.KnownBytes.{Appends}
use Rattle.std.proofs.KnownBytes.{Appends-trans}
use Rattle.xb_text.specs.Writing.{AppendsBeginning}
use Rattle.xb_text.proofs.Beginnings.{AppendsBeginning-first, AppendsBeginning-second}
use Rattle.xb_sound.specs.Wavs.{pcm_of}
use Rattle.xb_trunk.specs.Sounded.{Waits}
use Rattle.xb_trunk.proofs.Silences.{on_ok-map, written-parts}
use Rattle.xb_trunk.proofs.trunk.Trunk.write_ms.Goals as goal

pub returns-in_err-write_sound-clause-beginning : goal.returns-in_err-write_sound-clause-beginning
returns-in_err-write_sound-clause-beginning g c =
    subst (λ bytes. AppendsBeginning (g.W.Write.contents c.args.out.now) (g.W.Write.contents c.write_sound.new.out) bytes)
    (written-parts c.self.inside.written c.part_of-part.result c.from-wanted.result c.args.ms c.deref.result.now c.deref-2.result.now c.self.inside.samples.items
    c.args.self.now.waiting c.deref.ensures.value c.deref-2.ensures.value c.from-wanted.ensures (ap (λ (v : Waits). v.waiting) c.self.view_is) c.part_of-part.ensures)
    (AppendsBeginning-first _ _
    (pcm_of (take (c.self.inside.written + c.part_of-part.result - c.self.inside.written) (drop c.self.inside.written c.deref-2.result.now)))
    (pcm_of (replicate (c.from-wanted.result * 8 - c.part_of-part.result) (pos 0))) c.write_sound.ensures.beginning)

pub returns-clause-whole : goal.returns-clause-whole
returns-clause-whole g c =
    on_ok-map c.write_silence.result
    (λ silent. subst (λ bytes. Appends (g.W.Write.contents c.args.out.now) (g.W.Write.contents c.write_silence.new.out) bytes)
    (written-parts c.self.inside.written c.part_of-part.result c.from-wanted.result c.args.ms c.deref.result.now c.deref-2.result.now c.self.inside.samples.items
    c.args.self.now.waiting c.deref.ensures.value c.deref-2.ensures.value c.from-wanted.ensures (ap (λ (v : Waits). v.waiting) c.self.view_is) c.part_of-part.ensures)
    (Appends-trans _ (g.W.Write.contents c.write_sound.new.out) _
    (pcm_of (take (c.self.inside.written + c.part_of-part.result - c.self.inside.written) (drop c.self.inside.written c.deref-2.result.now)))
    (pcm_of (replicate (c.from-wanted.result * 8 - c.part_of-part.result) (pos 0))) c.in_ok-write_sound.ensures.whole silent))
    c.write_silence.ensures.whole

pub returns-clause-beginning : goal.returns-clause-beginning
returns-clause-beginning g c =
    subst (λ bytes. AppendsBeginning (g.W.Write.contents c.args.out.now) (g.W.Write.contents c.write_silence.new.out) bytes)
    (written-parts c.self.inside.written c.part_of-part.result c.from-wanted.result c.args.ms c.deref.result.now c.deref-2.result.now c.self.inside.samples.items
    c.args.self.now.waiting c.deref.ensures.value c.deref-2.ensures.value c.from-wanted.ensures (ap (λ (v : Waits). v.waiting) c.self.view_is) c.part_of-part.ensures)
    (AppendsBeginning-second _ (g.W.Write.contents c.write_sound.new.out) _
    (pcm_of (take (c.self.inside.written + c.part_of-part.result - c.self.inside.written) (drop c.self.inside.written c.deref-2.result.now)))
    (pcm_of (replicate (c.from-wanted.result * 8 - c.part_of-part.result) (pos 0))) c.in_ok-write_sound.ensures.whole c.write_silence.ensures.beginning)
