use Rattle.std.proofs.Common.{◌≡◌, ◌∙◌, ap, rules, ℤ, pos, ◌+ℤ◌, FitsSigned, to_z, of_z}
use Rattle.std.specs.Int.{w32}
use Rattle.std.proofs.lemmas.Int.{to_z-of_z}
use Rattle.xb_signal.specs.Levels.{amplitude_at}
use Rattle.xb_signal.proofs.level.amplitude_of.Goals as goal

pub returns : goal.returns
returns c =
    let l : ℤ = to_z w32 (of_z w32 c.from.result) in
    let a : ℤ = to_z w32 (of_z w32 c.from-2.result) in
    let both : FitsSigned w32 (l +ℤ a) = search rules in
    let sum : ℤ = to_z w32 (of_z w32 (l +ℤ a)) in
    let all : FitsSigned w32 (sum +ℤ pos 400) = search rules in
    let level : l ≡ c.args.level = search rules in
    let above : a ≡ c.args.above = search rules in
    c.amplitude_at.ensures
    ∙ ap amplitude_at (to_z-of_z w32 (sum +ℤ pos 400) all
    ∙ ap (λ (z : ℤ). z +ℤ pos 400) (to_z-of_z w32 (l +ℤ a) both
    ∙ ap (λ (z : ℤ). z +ℤ a) level
    ∙ ap (λ (z : ℤ). c.args.level +ℤ z) above))
