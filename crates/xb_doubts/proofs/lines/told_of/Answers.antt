use Rattle.std.proofs.Common.{◌∙◌, ap}
use Rattle.std.specs.Prelude.{not}
use Rattle.std.specs.List.{list_any}
use Rattle.xb_model.specs.Records.{is_make}
use Rattle.xb_doubts.specs.Lines.{calls_in}
use Rattle.xb_doubts.proofs.ToldLines.{and_not, and_then, make_joined, same_told}
use Rattle.xb_doubts.proofs.lines.told_of.Goals as goal

pub returns-then-not-is_call : goal.returns-then-not-is_call
returns-then-not-is_call c = λ record_ other is is_other.
    same_told _ _ _ _ (ap not (c.has_make.ensures ∙ ap (list_any is_make) is ∙ make_joined record_))
    (and_then _ _ _ _ (c.in_ok-is_call.ensures record_ is)
    (c.in_ok-may_be_call.ensures other is_other ∙ ap (λ some. calls_in some other) c.dial_limits.ensures)
    c.if-not-is_call.true)

pub returns-else-not-is_call : goal.returns-else-not-is_call
returns-else-not-is_call c = λ record_ other is is_other.
    same_told _ _ _ _ (ap not (c.has_make.ensures ∙ ap (list_any is_make) is ∙ make_joined record_))
    (and_not _ _ _ (c.in_ok-is_call.ensures record_ is) c.if-not-is_call.false)
