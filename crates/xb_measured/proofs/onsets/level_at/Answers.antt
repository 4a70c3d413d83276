use Rattle.std.proofs.Common.{◌≡◌, ◌∙◌, ◌+◌, ◌-◌, ◌*◌, ℕ, ap, arith, drop, take}
use Rattle.xb_measured.specs.Onsets.{level_in}
use Rattle.xb_measured.proofs.onsets.level_at.Goals as goal

pub returns-clause-value : goal.returns-clause-value
returns-clause-value c =
    let from : ℕ = 40 * c.args.step in
    let n : from + 160 - from ≡ 160 = omega arith in
    c.level_in.ensures.value
    ∙ ap (λ (k : ℕ). level_in c.args.hz (take k (drop from c.args.round.now))) n
