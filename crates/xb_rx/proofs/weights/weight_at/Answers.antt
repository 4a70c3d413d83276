use Rattle.std.proofs.Common.{◌≡◌, ℕ, ◌≤◌, arith, subst, sym, ℤ, unsigned_abs, to_z, of_z}
use Rattle.std.proofs.lemmas.Int.{to_z-of_z, fits_signed_from_abs}
use Rattle.std.specs.Int.{w16}
use Rattle.xb_rx.specs.Weights.{weight_at, weights}
use Rattle.xb_rx.proofs.SmallWeights.{weight-small}
use Rattle.xb_rx.proofs.weights.weight_at.Goals as goal

-- a weight is read from the table as it is
read : (place : ℕ) → to_z w16 (of_z w16 (weight_at place)) ≡ weight_at place
read place =
    let small = weight-small place in
    to_z-of_z w16 (weight_at place) (fits_signed_from_abs w16 (weight_at place) (omega arith))

pub returns-clause-value : goal.returns-clause-value
unfolding weights
returns-clause-value c = read c.args.place

pub returns-clause-bound : goal.returns-clause-bound
unfolding weights
returns-clause-bound c = subst (λ (z : ℤ). unsigned_abs z ≤ 9245) (sym (read c.args.place)) (weight-small c.args.place)
