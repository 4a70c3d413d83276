use Rattle.std.proofs.Common.{◌+◌, ℕ, rules, subst}
use Rattle.xb_text.specs.Writing.{AppendsBeginning}
use Rattle.xb_text.proofs.Beginnings.{AppendsBeginning-first, AppendsBeginning-second}
use Rattle.xb_contact.specs.Holds.{other_level}
use Rattle.xb_dial.specs.Traces.{change_text}
use Rattle.xb_dial.proofs.bounced_run.write_bounce.Goals as goal

pub returns-in_err-write_change-clause-beginning :
    goal.returns-in_err-write_change-clause-beginning
returns-in_err-write_change-clause-beginning g c =
    AppendsBeginning-first _ _ (change_text c.args.tick c.args.level)
    (change_text (c.args.tick + c.args.holds) (other_level c.args.level)) c.write_change.ensures.beginning

pub returns-clause-beginning : goal.returns-clause-beginning
returns-clause-beginning g c =
    let mid = g.W.Write.contents c.write_change.new.out in
    let new = g.W.Write.contents c.write_change-2.new.out in
    let begun : AppendsBeginning mid new (change_text (c.args.tick + c.from.result) (other_level c.args.level)) =
    subst (λ level. AppendsBeginning mid new (change_text (c.args.tick + c.from.result) level)) c.other_level.ensures
    c.write_change-2.ensures.beginning in
    AppendsBeginning-second (g.W.Write.contents c.args.out.now) mid new (change_text c.args.tick c.args.level)
    (change_text (c.args.tick + c.args.holds) (other_level c.args.level)) c.in_ok-write_change.ensures.whole
    (subst (λ (holds : ℕ). AppendsBeginning mid new (change_text (c.args.tick + holds) (other_level c.args.level)))
    (search rules) begun)
