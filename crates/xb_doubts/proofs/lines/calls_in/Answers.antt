use Rattle.std.proofs.Common.{◌∙◌, ap, map}
use Rattle.std.specs.List.{list_any}
use Rattle.xb_heard.specs.Attempts.{attempt_in}
use Rattle.xb_doubts.specs.Told.{is_call}
use Rattle.xb_doubts.proofs.ToldAttempts.{calls_are}
use Rattle.xb_doubts.proofs.lines.calls_in.Goals as goal

pub returns : goal.returns
returns c = λ record_ is.
    c.any_calls.ensures ∙ ap (λ some. list_any (is_call c.args.limits) (map attempt_in some)) c.deref.ensures.value
    ∙ calls_are _ c.args.limits record_ _ (c.in_ok-attempts.ensures.tells record_ is)
