use Rattle.std.proofs.Common.{◌≤◌, ◌+◌, ◌-◌, ◌*◌, ◌^◌, arith}
use Rattle.std.proofs.lemmas.Nat.{mul-le}
use Rattle.std.proofs.Math.Nat.{pow-le-pow_right}
use Rattle.xb_riff.proofs.companded.a_law_magnitude.Goals as goal

pub returns-clause-bound : goal.returns-clause-bound
returns-clause-bound c =
    let steps : c.from.result * 16 + 8 + 256 ≤ 504 = omega (arith, c.from.ensures) in
    let few : c.from-segment.result - 1 ≤ 6 = omega (arith, c.from-segment.ensures) in
    let most : 2 ^ (c.from-segment.result - 1) ≤ 2 ^ 6 =
    pow-le-pow_right {n = 2} (omega arith) {i = c.from-segment.result - 1} {j = 6} few in
    mul-le (c.from.result * 16 + 8 + 256) c.pow-doublings.result 504 64 steps (omega (arith, most, c.pow-doublings.ensures))
