use Rattle.std.proofs.Common.{◌≡◌, ◌∙◌, ◌+◌, ◌-◌, List, ℕ, ℤ, ap, arith, drop, sym, take}
use Rattle.std.proofs.lemmas.List.{drop-take}
use Rattle.xb_measured.specs.Stretches.{heard_on}
use Rattle.xb_measured.specs.Tapes.{Taped}
use Rattle.xb_measured.proofs.last_samples.LastSamples.measure.Goals as goal

pub returns : goal.returns
returns c =
    let all : List ℤ = c.self.inside.samples in
    let b : ℕ = c.self.inside.begun in
    let f : ℕ = c.self.inside.filled in
    let end : b + (f - b) ≡ f = omega (arith, c.self.invariant.1) in
    let kept : take (f - b) (drop b all) ≡ drop b (take f all) =
    sym (drop-take b (f - b) all) ∙ ap (λ (k : ℕ). drop b (take k all)) end in
    c.heard_on.ensures
    ∙ ap (λ (zs : List ℤ). heard_on zs c.self.inside.gone c.args.key c.args.blank) kept
    ∙ ap (λ (tape : Taped). heard_on tape.kept tape.gone c.args.key c.args.blank) c.self.view_is
