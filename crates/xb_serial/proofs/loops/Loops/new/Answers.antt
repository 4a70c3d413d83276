use Rattle.std.proofs.Common.{rules, ◌∙◌, subst}
use Rattle.xb_serial.specs.Taken.{Hearing, HasDialled}
use Rattle.xb_serial.proofs.Taking.{heard-none}
use Rattle.xb_serial.proofs.loops.Loops.new.Goals as goal

pub returns-clause-taken : goal.returns-clause-taken
returns-clause-taken c =
    let h : Hearing = record { limits = c.new-pulse.result; lines = c.in_ok-lines.lines; registers = c.in_ok-registers.registers } in
    heard-none c.args.table.now.limits c.args.table.now.plan h (c.new-pulse.ensures.limits ∙ c.limits.ensures.value) c.in_ok-lines.ensures.lines
    (λ k default h. let made = c.in_ok-lines.ensures.made k default h in search rules)
    (subst (λ plan. HasDialled plan c.in_ok-registers.registers _) c.plan.ensures c.in_ok-registers.ensures)
