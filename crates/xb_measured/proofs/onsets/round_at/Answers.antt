use Rattle.std.proofs.Common.{◌≡◌, ◌+◌, ◌-◌, ◌*◌, ℕ, ap, arith, drop, take}
use Rattle.xb_measured.proofs.onsets.round_at.Goals as goal

pub returns-clause-value : goal.returns-clause-value
returns-clause-value c =
    let n : 20 * c.args.place + 360 - 20 * c.args.place ≡ 360 = omega arith in
    ap (λ (k : ℕ). take k (drop (20 * c.args.place) c.args.kept.now)) n
