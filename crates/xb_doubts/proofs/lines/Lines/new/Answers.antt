use Rattle.std.proofs.Common.{rules, ℕ, length, ⊎_elim}
use Rattle.std.proofs.Math.Path.{fun_ext}
use Rattle.std.proofs.lemmas.List.{get_or_past}
use Rattle.std.proofs.lemmas.Bool.{cases_lt}
use Rattle.xb_doubts.specs.Lines.{nothing_told}
use Rattle.xb_doubts.proofs.lines.Lines.new.Goals as goal

pub returns : goal.returns
returns c =
    let lines = c.in_ok-lines.lines in
    fun_ext (λ (l : ℕ).
    ⊎_elim
    (λ h. let made = c.in_ok-lines.ensures.made l nothing_told h in search rules)
    (λ h. get_or_past lines l nothing_told h)
    (cases_lt l (length lines)))
