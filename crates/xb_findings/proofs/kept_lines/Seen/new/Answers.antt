use Rattle.std.proofs.Common.{rules, ℕ, length, ⊎_elim, false}
use Rattle.std.proofs.Math.Path.{fun_ext}
use Rattle.std.proofs.lemmas.List.{get_or_past}
use Rattle.std.proofs.lemmas.Bool.{cases_lt}
use Rattle.xb_findings.proofs.kept_lines.Seen.new.Goals as goal

pub returns : goal.returns
returns c =
    let lines = c.in_ok-lines.lines in
    fun_ext (λ (l : ℕ).
    ⊎_elim
    (λ h. let made = c.in_ok-lines.ensures.made l false h in search rules)
    (λ h. get_or_past lines l false h)
    (cases_lt l (length lines)))
