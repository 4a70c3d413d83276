use Rattle.std.proofs.Common.{◌≡◌, ◌<◌, ◌*◌, ◌+◌, ◌-◌, ◌/◌, ◌^◌, min, subst, sym, ℕ, arith, refl}
use Rattle.xb_riff.specs.MuLawBytes.{nearest_code}
use Rattle.xb_riff.proofs.NearestCodes.{IsNearestCode, code_is}
use Rattle.xb_riff.proofs.companded.nearest_code.Goals as goal

reckoned : (c : goal.After-min) → (c.ilog2-doublings.result < 8)
    × (nearest_code c.args.size ≡ c.ilog2-doublings.result * 16 + c.min.result)
    × IsNearestCode c.args.size (c.ilog2-doublings.result * 16 + c.min.result)
reckoned c =
    code_is c.args.size c.ilog2-doublings.result ((c.args.size + 132) / 8 / 2 ^ c.ilog2-doublings.result)
    c.min.result c.requires
    (omega (arith, c.from-raised.ensures, c.ilog2-doublings.ensures.power_le))
    (omega (arith, c.from-raised.ensures, c.ilog2-doublings.ensures.next_power_gt)) refl
    (subst (λ (n : ℕ). c.min.result ≡ min ((n + 132) / 8 / 2 ^ c.ilog2-doublings.result - 16) 15) c.from-raised.ensures
    c.min.ensures)

pub overflow_cast-result : goal.overflow_cast-result
overflow_cast-result c = omega (arith, (reckoned c).0, c.min.ensures)

pub returns-clause-value : goal.returns-clause-value
returns-clause-value c = sym (reckoned c).1

pub returns-clause-bound : goal.returns-clause-bound
returns-clause-bound c = omega (arith, (reckoned c).0, c.min.ensures)
