use Rattle.std.proofs.Common.{◌≡◌, ℕ, ◌≤◌, arith, subst, sym, ℤ, unsigned_abs, to_z, of_z}
use Rattle.std.proofs.lemmas.Int.{to_z-of_z, fits_signed_from_abs}
use Rattle.std.specs.Int.{w16}
use Rattle.xb_sound.specs.Sines.{sine_at, sine_table}
use Rattle.xb_sound.proofs.SineTables.{sine_at-small}
use Rattle.xb_sound.proofs.sine.sine_at.Goals as goal

-- a sample is read from the table as it is
read : (place : ℕ) → to_z w16 (of_z w16 (sine_at place)) ≡ sine_at place
read place =
    let small = sine_at-small place in
    to_z-of_z w16 (sine_at place) (fits_signed_from_abs w16 (sine_at place) (omega arith))

pub returns-clause-value : goal.returns-clause-value
unfolding sine_table
returns-clause-value c = read c.args.place

pub returns-clause-bound : goal.returns-clause-bound
unfolding sine_table
returns-clause-bound c = subst (λ (z : ℤ). unsigned_abs z ≤ 10000) (sym (read c.args.place)) (sine_at-small c.args.place)
