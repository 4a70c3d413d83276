use Rattle.std.proofs.Common.{◌∙◌, ℕ, ◌+◌, ◌*◌, ◌/◌, ◌%◌, ap, arith}
use Rattle.std.proofs.lemmas.Int.{to_z-of_z, fits_signed_from_abs}
use Rattle.std.specs.Int.{w16}
use Rattle.xb_sound.specs.Sines.{sine_at}
use Rattle.xb_measured.proofs.wave_sums.wave_at.Goals as goal

pub returns-clause-value : goal.returns-clause-value
returns-clause-value c =
    to_z-of_z w16 c.sine_at.result (fits_signed_from_abs w16 c.sine_at.result (omega (arith, c.sine_at.ensures.bound)))
    ∙ c.sine_at.ensures.value
    ∙ ap (λ (hz : ℕ). sine_at ((hz * c.args.n / 100 + c.args.ahead) % 80)) c.from.ensures
