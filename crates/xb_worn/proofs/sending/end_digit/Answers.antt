use Rattle.std.proofs.Common.{ap, sym, ◌∙◌}
use Rattle.xb_worn.specs.Sending.{ended}
use Rattle.xb_worn.proofs.SentDigits.{ended-last}
use Rattle.xb_worn.proofs.sending.end_digit.Goals as goal

pub returns-in_ok-push : goal.returns-in_ok-push
returns-in_ok-push c =
    c.in_ok-push.ensures.items
    ∙ sym (ended-last c.args.pause_ms c.pop.new.self.items c.in-Some.last)
    ∙ ap (ended c.args.pause_ms) (sym c.in-Some.ensures.items)
