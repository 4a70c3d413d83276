use Rattle.std.proofs.Common.{◌≡◌, ◌∙◌, ap, map}
use Rattle.xb_heard.specs.Attempts.{attempt_in, heard_attempts}
use Rattle.xb_hear.proofs.lines.hear_line.Goals as goal

pub returns : goal.returns
returns c =
    let heard : map attempt_in c.deref.result.now ≡ heard_attempts c.args.plan c.args.manner.limits c.args.runs.now =
    ap (map attempt_in) c.deref.ensures.value ∙ c.in_ok-attempts.ensures.heard in
    rw (← heard) c.tell.ensures
