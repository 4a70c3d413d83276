use Rattle.std.proofs.Common.{◌≡◌, ◌≤◌, arith, rules}
use Rattle.std.proofs.Math.Nat.{mul-le-mul_left}
use Rattle.xb_turns.proofs.figures.product.Goals as goal

pub returns-clause-most : goal.returns-clause-most
returns-clause-most c =
    let one : c.from.result ≡ c.args.one = search rules in
    let other : c.from-2.result ≡ c.args.other = search rules in
    let most : c.from-2.result ≤ 18446744073709551615 = omega (arith, other, c.ranges.other.fits) in
    rw one (mul-le-mul_left c.args.one most)
