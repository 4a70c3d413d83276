use Rattle.std.proofs.Common.{◌≡◌, ◌∙◌, ℕ, ◌+◌, ◌*◌, ◌-◌, ◌≤◌, List, ◌++◌, length, length-append, ap, sym, arith, ℤ, to_z, of_z, FitsSigned, rules}
use Rattle.std.specs.Int.{w16}
use Rattle.std.proofs.lemmas.Int.{to_z-of_z}
use Rattle.xb_signal.specs.declared.form.Form.{Form}
use Rattle.xb_signal.specs.declared.form.Form.TheVariants.{Linear, MuLaw}
use Rattle.xb_signal.specs.Forms.{sample_coded}
use Rattle.xb_signal.specs.OneSample.{sample_at}
use Rattle.xb_signal.proofs.Blocks.{block-more, bytes_from}
use Rattle.xb_signal.proofs.writing.block_of.Goals as goal

coded-short : (form : Form) (x : ℤ) → length (sample_coded form x) ≤ 2
coded-short Linear x = omega arith
coded-short MuLaw x = omega arith

longer : (form : Form) (old new : List ℕ) (x : ℤ) (n from : ℕ) → new ≡ old ++ sample_coded form x
    → length old ≤ 2 * (n - from) → from ≤ n → length new ≤ 2 * (n + 1 - from)
longer form old new x n from pushed size begun =
    let all : length new ≡ length old + length (sample_coded form x) =
    ap length pushed ∙ length-append old (sample_coded form x) in
    omega (arith, all, coded-short form x, size, begun)

pub loop-n-preserved : goal.loop-n-preserved
loop-n-preserved c =
    let form = c.args.setting.now.form in
    let f : ℕ → ℤ = λ n. sample_at c.args.setting.now c.args.moment c.args.sound.now n in
    let n = c.loop-n.n in
    let from = c.args.from in
    let fits : FitsSigned w16 c.sample_at.result = search rules in
    let y = to_z w16 (of_z w16 c.sample_at.result) in
    let is : y ≡ f n = to_z-of_z w16 c.sample_at.result fits ∙ c.sample_at.ensures in
    record {
      bytes =
          c.push.ensures
          ∙ ap (λ (xs : List ℕ). xs ++ sample_coded form y) c.loop-n.invariant.bytes
          ∙ ap (λ (x : ℤ). bytes_from form f from (n - from) ++ sample_coded form x) is
          ∙ sym (block-more form f from n c.loop-n.invariant.begun);
      size =
          longer form c.loop-n.block c.push.new.self y n from c.push.ensures c.loop-n.invariant.size
          c.loop-n.invariant.begun;
      begun = omega (arith, c.loop-n.invariant.begun);
    }
