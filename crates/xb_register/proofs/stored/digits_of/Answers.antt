use Rattle.std.proofs.Common.{Some, None, ◌∙◌, sym, append-nil}
use Rattle.xb_register.proofs.Patterns.{read_more}
use Rattle.xb_register.proofs.stored.digits_of.Goals as goal
use Rattle.xb_register.proofs.stored.digits_of.Goals.{in-Some, in_default}

pub loop-pattern-preserved : goal.loop-pattern-preserved
loop-pattern-preserved c =
    let patterns = c.args.patterns.now in
    let i = c.loop-pattern.pattern-index in
    let pattern = c.pattern-item.result in
    let before = c.loop-pattern.digits in
    let after = c.match-digit.digits in
    let inv = c.loop-pattern.invariant in
    elim c.match-digit.branch [
      | in-Some w ↦ read_more patterns i pattern (Some w.in-Some.digit) before after
          c.loop-pattern-test.true c.pattern-item.is (sym w.in-Some.is ∙ c.digit.ensures) inv.0 inv.1
          (w.digits-is ∙ w.push.ensures)
      | in_default w ↦ read_more patterns i pattern None before after
          c.loop-pattern-test.true c.pattern-item.is (sym w.in_default.is ∙ c.digit.ensures) inv.0 inv.1
          (w.digits-is ∙ sym (append-nil before))
    ]
