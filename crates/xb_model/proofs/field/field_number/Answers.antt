use Rattle.std.proofs.Common.{◌≤◌, ◌<◌, ◌+◌, ◌^◌, ℕ, lit<, arith}
use Rattle.std.proofs.Math.Nat.{pow-le-pow_right}
use Rattle.xb_model.proofs.field.field_number.Goals as goal

-- eight digits at the most: seven were read
pow_bound : (n i : ℕ) → i < 8 → n + 1 ≤ 10 ^ i → n + 1 ≤ 10000000
pow_bound n i h b =
    let m : 10 ^ i ≤ 10 ^ 7 = pow-le-pow_right {n = 10} (lit< tt) {i = i} {j = 7} (omega arith) in
    omega arith

pub overflow_mul-number : goal.overflow_mul-number
overflow_mul-number c =
    let read = c.loop-byte in
    let b = pow_bound read.number read.byte-index (omega arith) read.invariant.short in
    omega arith

pub overflow_add-number : goal.overflow_add-number
overflow_add-number c =
    let read = c.loop-byte in
    let b = pow_bound read.number read.byte-index (omega arith) read.invariant.short in
    omega (arith, c.from.ensures)

pub returns-clause-bound : goal.returns-clause-bound
returns-clause-bound c =
    let n : c.loop-byte.byte-index ≤ c.args.most = omega arith in
    let m : 10 ^ c.loop-byte.byte-index ≤ 10 ^ c.args.most = pow-le-pow_right {n = 10} (lit< tt) n in
    omega arith
