use Rattle.std.proofs.Common.{◌++◌, ◌-◌, ◌∙◌, [], ap}
use Rattle.xb_picture.specs.Pictures.{title_words}
use Rattle.xb_picture.proofs.Said.{both}
use Rattle.xb_picture.proofs.Window.{window}
use Rattle.xb_picture.proofs.picture.picture_of.Goals as goal

pub returns : goal.returns
returns c =
    let limits = c.args.limits in
    let title = c.in_ok-put_title.ensures ∙ ap (λ t. t ++ title_words limits c.args.line) c.new_sheet-sheet.ensures in
    let others = both [] _ _ _ _ title c.in_ok-put_others.ensures in
    let all = both [] _ _ _ _ others c.in_ok-put_attempts.ensures in
    c.in_ok-put_none.ensures ∙ all
    ∙ window limits c.args.line c.args.before c.args.count c.args.attempts.now
    c.min-from.result c.saturating_sub-after.result c.shown_attempts-shown.result.now
    c.min-from.ensures (c.saturating_sub-after.ensures ∙ ap (λ n. n - c.args.count) c.saturating_sub.ensures)
    c.shown_attempts-shown.ensures.shown
