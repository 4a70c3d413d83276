use Rattle.std.proofs.Common.{◌≡◌, ℕ, ◌+◌, ◌-◌, ◌*◌, ◌≤◌, List, sym, subst, arith}
use Rattle.std.proofs.KnownBytes.{Appends-trans}
use Rattle.std.specs.Io.KnownBytes.{Appends}
use Rattle.xb_text.specs.Writing.{AppendsBeginning}
use Rattle.xb_sound.proofs.Beginnings.{beginning-after, beginning-more, whole-begins}
use Rattle.xb_sound.specs.Sounds.{silence}
use Rattle.xb_sound.specs.Wavs.{pcm_of}
use Rattle.xb_tone.proofs.Silences.{block-silent, silence-parts}
use Rattle.xb_tone.proofs.silence.write_silence.Goals as goal

pub returns-in_err-write_whole-clause-beginning : goal.returns-in_err-write_whole-clause-beginning
returns-in_err-write_whole-clause-beginning g c =
    let within : c.min-part.result * 16 ≤ 8192 = omega (arith, c.min-part.ensures) in
    let sum : c.loop-written.written + c.min-part.result ≤ c.args.ms = omega (arith, c.min-part.ensures, c.loop-written-test.true) in
    let rest : ℕ = c.args.ms - (c.loop-written.written + c.min-part.result) in
    let begun : AppendsBeginning (g.W.Write.contents c.loop-written.out) (g.W.Write.contents c.write_whole.new.out) (pcm_of (silence c.min-part.result)) =
    subst (λ (bytes : List ℕ). AppendsBeginning (g.W.Write.contents c.loop-written.out) (g.W.Write.contents c.write_whole.new.out) bytes) (block-silent c.min-part.result 8192 within) c.write_whole.ensures.beginning in
    subst (λ (bytes : List ℕ). AppendsBeginning (g.W.Write.contents c.args.out.now) (g.W.Write.contents c.write_whole.new.out) bytes) (sym (silence-parts (c.loop-written.written + c.min-part.result) rest c.args.ms (omega (arith, sum))))
    (beginning-more (g.W.Write.contents c.args.out.now) (g.W.Write.contents c.write_whole.new.out) (pcm_of (silence (c.loop-written.written + c.min-part.result))) (pcm_of (silence rest))
    (subst (λ (bytes : List ℕ). AppendsBeginning (g.W.Write.contents c.args.out.now) (g.W.Write.contents c.write_whole.new.out) bytes) (sym (silence-parts c.loop-written.written c.min-part.result (c.loop-written.written + c.min-part.result) (omega arith)))
    (beginning-after (g.W.Write.contents c.args.out.now) (g.W.Write.contents c.loop-written.out) (g.W.Write.contents c.write_whole.new.out) (pcm_of (silence c.loop-written.written)) (pcm_of (silence c.min-part.result)) c.loop-written.invariant.silent begun)))

pub loop-written-preserved : goal.loop-written-preserved
loop-written-preserved g c =
    let within : c.min-part.result * 16 ≤ 8192 = omega (arith, c.min-part.ensures) in
    let whole : Appends (g.W.Write.contents c.loop-written.out) (g.W.Write.contents c.write_whole.new.out) (pcm_of (silence c.min-part.result)) =
    subst (λ (bytes : List ℕ). Appends (g.W.Write.contents c.loop-written.out) (g.W.Write.contents c.write_whole.new.out) bytes) (block-silent c.min-part.result 8192 within) c.in_ok-write_whole.ensures.whole in
    record {
      within = omega (arith, c.min-part.ensures, c.loop-written-test.true);
      silent =
          subst (λ (bytes : List ℕ). Appends (g.W.Write.contents c.args.out.now) (g.W.Write.contents c.write_whole.new.out) bytes) (sym (silence-parts c.loop-written.written c.min-part.result (c.loop-written.written + c.min-part.result) (omega arith)))
          (Appends-trans (g.W.Write.contents c.args.out.now) (g.W.Write.contents c.loop-written.out) (g.W.Write.contents c.write_whole.new.out) (pcm_of (silence c.loop-written.written)) (pcm_of (silence c.min-part.result)) c.loop-written.invariant.silent whole);
    }

pub returns-clause-beginning : goal.returns-clause-beginning
returns-clause-beginning g c =
    let all : c.loop-written.written ≡ c.args.ms = omega (arith, c.loop-written-test.false, c.loop-written.invariant.within) in
    subst (λ (ms : ℕ). AppendsBeginning (g.W.Write.contents c.args.out.now) (g.W.Write.contents c.loop-written.out) (pcm_of (silence ms))) all
    (whole-begins (g.W.Write.contents c.args.out.now) (g.W.Write.contents c.loop-written.out) (pcm_of (silence c.loop-written.written)) c.loop-written.invariant.silent)
