use Rattle.std.proofs.Common.{◌≡◌, ◌∙◌, ℕ, ◌*◌, ◌-◌, ◌≤◌, List, sym, subst, arith, ℤ}
use Rattle.std.proofs.KnownBytes.{Appends-trans}
use Rattle.std.specs.Io.KnownBytes.{Appends}
use Rattle.xb_text.specs.Writing.{AppendsBeginning}
use Rattle.xb_sound.proofs.Beginnings.{beginning-after, beginning-more, whole-begins}
use Rattle.xb_signal.specs.OneSample.{sample_at}
use Rattle.xb_signal.proofs.Blocks.{bytes-parts, bytes_from}
use Rattle.xb_signal.proofs.writing.write_segment.Goals as goal

pub returns-in_err-write_whole-clause-beginning : goal.returns-in_err-write_whole-clause-beginning
returns-in_err-write_whole-clause-beginning g c =
    let form = c.args.setting.now.form in
    let f : ℕ → ℤ = λ n. sample_at c.args.setting.now c.args.moment c.args.segment.now.sound n in
    let at = c.loop-from.from in
    let end = c.min-end.result in
    let all : ℕ = c.args.segment.now.ms * 8 in
    let old = g.W.Write.contents c.args.out.now in
    let mid = g.W.Write.contents c.loop-from.out in
    let new = g.W.Write.contents c.write_whole.new.out in
    let order : at ≤ end = omega (arith, c.min-end.ensures, c.loop-from-test.true) in
    let within : end ≤ all = omega (arith, c.min-end.ensures, c.segment_length-samples.ensures.value) in
    let block : c.bytes.result.now ≡ bytes_from form f at (end - at) =
    c.bytes.ensures ∙ c.block_of-block.ensures in
    let begun : AppendsBeginning mid new (bytes_from form f at (end - at)) =
    subst (λ (bytes : List ℕ). AppendsBeginning mid new bytes) block c.write_whole.ensures.beginning in
    subst (λ (bytes : List ℕ). AppendsBeginning old new bytes) (sym (bytes-parts form f end all within))
    (beginning-more old new (bytes_from form f 0 end) (bytes_from form f end (all - end))
    (subst (λ (bytes : List ℕ). AppendsBeginning old new bytes) (sym (bytes-parts form f at end order))
    (beginning-after old mid new (bytes_from form f 0 at) (bytes_from form f at (end - at)) c.loop-from.invariant.written begun)))

pub loop-from-preserved : goal.loop-from-preserved
loop-from-preserved g c =
    let form = c.args.setting.now.form in
    let f : ℕ → ℤ = λ n. sample_at c.args.setting.now c.args.moment c.args.segment.now.sound n in
    let at = c.loop-from.from in
    let end = c.min-end.result in
    let old = g.W.Write.contents c.args.out.now in
    let mid = g.W.Write.contents c.loop-from.out in
    let new = g.W.Write.contents c.write_whole.new.out in
    let order : at ≤ end = omega (arith, c.min-end.ensures, c.loop-from-test.true) in
    let block : c.bytes.result.now ≡ bytes_from form f at (end - at) =
    c.bytes.ensures ∙ c.block_of-block.ensures in
    let whole : Appends mid new (bytes_from form f at (end - at)) =
    subst (λ (bytes : List ℕ). Appends mid new bytes) block c.in_ok-write_whole.ensures.whole in
    record {
      within = omega (arith, c.min-end.ensures);
      written =
          subst (λ (bytes : List ℕ). Appends old new bytes) (sym (bytes-parts form f at end order))
          (Appends-trans old mid new (bytes_from form f 0 at) (bytes_from form f at (end - at))
          c.loop-from.invariant.written whole);
    }

pub returns-clause-beginning : goal.returns-clause-beginning
returns-clause-beginning g c =
    let form = c.args.setting.now.form in
    let f : ℕ → ℤ = λ n. sample_at c.args.setting.now c.args.moment c.args.segment.now.sound n in
    let old = g.W.Write.contents c.args.out.now in
    let new = g.W.Write.contents c.loop-from.out in
    let all : c.loop-from.from ≡ c.args.segment.now.ms * 8 =
    omega (arith, c.loop-from-test.false, c.loop-from.invariant.within, c.segment_length-samples.ensures.value) in
    subst (λ (n : ℕ). AppendsBeginning old new (bytes_from form f 0 n)) all
    (whole-begins old new (bytes_from form f 0 c.loop-from.from) c.loop-from.invariant.written)
