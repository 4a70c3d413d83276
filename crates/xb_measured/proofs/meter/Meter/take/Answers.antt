use Rattle.std.proofs.Common.{◌≡◌, ◌∙◌, ◌+◌, ◌*◌, ℕ, ℤ, max, ap, refl, rules, FitsSigned}
use Rattle.std.specs.Int.{w16}
use Rattle.std.specs.Prelude.{unsigned_abs}
use Rattle.std.proofs.lemmas.Int.{to_z-of_z}
use Rattle.xb_measured.specs.Meters.{Metered}
use Rattle.xb_measured.proofs.Meters.{meter_with, one-more}
use Rattle.xb_measured.proofs.meter.Meter.take.Goals as goal

pub returns-clause-more : goal.returns-clause-more
returns-clause-more c = λ samples is.
    let old : Metered = meter_with c.self.inside.samples c.self.inside.peak c.self.inside.squares in
    let same : old ≡ c.args.self.now = c.self.view_is in
    let fits : FitsSigned w16 c.args.sample = search rules in
    let height : c.from-height.result ≡ unsigned_abs c.args.sample =
    c.from-height.ensures ∙ c.unsigned_abs.ensures.value ∙ ap (λ (z : ℤ). unsigned_abs z) (to_z-of_z w16 c.args.sample fits) in
    one-more old (c.self.inside.samples + 1) c.max-self-inside.result (c.self.inside.squares + c.from.result) samples
    c.args.sample (same ∙ is) refl
    (c.max-self-inside.ensures ∙ ap (λ (n : ℕ). max c.self.inside.peak n) height)
    (ap (λ (n : ℕ). c.self.inside.squares + n) (c.from.ensures ∙ ap (λ (n : ℕ). n * n) height))
