use Rattle.std.proofs.Common.{rules, ◌≡◌, ℕ, ◌<◌, ◌≤◌, length, get_or, ⊎_elim, arith}
use Rattle.std.proofs.lemmas.List.{get_or_past}
use Rattle.std.proofs.lemmas.Bool.{cases_lt}
use Rattle.xb_closes.specs.declared.line_use.LineUse.TheVariants.{NoRows}
use Rattle.xb_closes.specs.LineUses.{use_at}
use Rattle.xb_closes.proofs.Lefts.{left-fresh}
use Rattle.xb_closes.proofs.line_uses.LineUses.new.Goals as goal

pub returns : goal.returns
returns c =
    let uses = c.in_ok-uses.uses in
    left-fresh uses (λ k.
    ⊎_elim
    (λ h. let made = c.in_ok-uses.ensures.made k NoRows h in search rules)
    (λ h. get_or_past uses k NoRows h)
    (cases_lt k (length uses)))
