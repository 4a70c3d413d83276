use Rattle.std.proofs.Common.{◌∙◌, ap, map}
use Rattle.xb_heard.specs.Attempts.{attempt_in}
use Rattle.xb_doubts.specs.Heard.{can_dial}
use Rattle.xb_doubts.specs.Told.{counted_told}
use Rattle.xb_doubts.proofs.HeardLines.{lasts_are, same_heard}
use Rattle.xb_doubts.proofs.ToldAttempts.{counted_is}
use Rattle.xb_doubts.proofs.heard.heard_on.Goals as goal

pub returns : goal.returns
returns c = λ record_ is.
    same_heard _ _ _ _
    (c.counted_of.ensures ∙ ap (λ some. counted_told c.args.limits (map attempt_in some)) c.deref.ensures.value
    ∙ counted_is _ c.args.limits record_ _ (c.in_ok-attempts.ensures.tells record_ is))
    (c.can_dial.ensures ∙ ap (can_dial c.args.limits) (lasts_are c.args.runs.now record_ is))
