use Rattle.std.proofs.Common.{◌≡◌, ◌+◌, ◌*◌, ◌-◌, ◌/◌, ◌%◌, ℕ, refl, subst, arith, replicate, pos}
use Rattle.std.specs.Io.KnownBytes.{Appends}
use Rattle.std.proofs.KnownBytes.{Appends-trans}
use Rattle.xb_text.specs.Writing.{AppendsBeginning}
use Rattle.xb_text.proofs.Beginnings.{AppendsBeginning-first, AppendsBeginning-second}
use Rattle.xb_sound.specs.Wavs.{pcm_of}
use Rattle.xb_trunk.specs.declared.sample_blocks.TheConstants.{BLOCK}
use Rattle.xb_trunk.proofs.Silences.{on_ok-map, silence-parts}
use Rattle.xb_trunk.proofs.sample_blocks.write_silence.Goals as goal

pub returns-in_err-write_block-clause-beginning : goal.returns-in_err-write_block-clause-beginning
returns-in_err-write_block-clause-beginning g c =
    let before : ℕ = c.loop.counter * BLOCK in
    let left : ℕ = c.args.samples - (before + BLOCK) in
    let fits : before + BLOCK + left ≡ c.args.samples = omega (arith, c.loop-test.true) in
    subst (λ bytes. AppendsBeginning (g.W.Write.contents c.args.out.now) (g.W.Write.contents c.write_block.new.out) bytes)
    (silence-parts (before + BLOCK) left c.args.samples fits)
    (AppendsBeginning-first _ _ (pcm_of (replicate (before + BLOCK) (pos 0))) (pcm_of (replicate left (pos 0)))
    (subst (λ bytes. AppendsBeginning (g.W.Write.contents c.args.out.now) (g.W.Write.contents c.write_block.new.out) bytes)
    (silence-parts before BLOCK (before + BLOCK) refl)
    (AppendsBeginning-second _ (g.W.Write.contents c.loop.out) _ (pcm_of (replicate before (pos 0))) (pcm_of (replicate BLOCK (pos 0)))
    c.loop.invariant c.write_block.ensures.beginning)))

pub loop-preserved : goal.loop-preserved
loop-preserved g c =
    let before : ℕ = c.loop.counter * BLOCK in
    let more : before + BLOCK ≡ (c.loop.counter + 1) * BLOCK = omega arith in
    subst (λ bytes. Appends (g.W.Write.contents c.args.out.now) (g.W.Write.contents c.write_block.new.out) bytes)
    (silence-parts before BLOCK ((c.loop.counter + 1) * BLOCK) more)
    (Appends-trans _ (g.W.Write.contents c.loop.out) _ (pcm_of (replicate before (pos 0))) (pcm_of (replicate BLOCK (pos 0)))
    c.loop.invariant c.in_ok-write_block.ensures.whole)

pub returns-clause-whole : goal.returns-clause-whole
returns-clause-whole g c =
    let blocks : c.loop.counter ≡ c.args.samples / BLOCK = omega (arith, c.loop-test.false, c.loop.auto.counter-end) in
    let all : c.loop.counter * BLOCK + c.args.samples % BLOCK ≡ c.args.samples = omega (arith, blocks) in
    on_ok-map c.write_block-2.result
    (λ written. subst (λ bytes. Appends (g.W.Write.contents c.args.out.now) (g.W.Write.contents c.write_block-2.new.out) bytes)
    (silence-parts (c.loop.counter * BLOCK) (c.args.samples % BLOCK) c.args.samples all)
    (Appends-trans _ (g.W.Write.contents c.loop.out) _ (pcm_of (replicate (c.loop.counter * BLOCK) (pos 0))) (pcm_of (replicate (c.args.samples % BLOCK) (pos 0)))
    c.loop.invariant written))
    c.write_block-2.ensures.whole

pub returns-clause-beginning : goal.returns-clause-beginning
returns-clause-beginning g c =
    let blocks : c.loop.counter ≡ c.args.samples / BLOCK = omega (arith, c.loop-test.false, c.loop.auto.counter-end) in
    let all : c.loop.counter * BLOCK + c.args.samples % BLOCK ≡ c.args.samples = omega (arith, blocks) in
    subst (λ bytes. AppendsBeginning (g.W.Write.contents c.args.out.now) (g.W.Write.contents c.write_block-2.new.out) bytes)
    (silence-parts (c.loop.counter * BLOCK) (c.args.samples % BLOCK) c.args.samples all)
    (AppendsBeginning-second _ (g.W.Write.contents c.loop.out) _ (pcm_of (replicate (c.loop.counter * BLOCK) (pos 0))) (pcm_of (replicate (c.args.samples % BLOCK) (pos 0)))
    c.loop.invariant c.write_block-2.ensures.beginning)
