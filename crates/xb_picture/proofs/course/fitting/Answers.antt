use Rattle.std.proofs.Common.{◌++◌, ◌∙◌, ap, sym, take}
use Rattle.std.proofs.lemmas.List.{append-nil}
use Rattle.xb_picture.proofs.Said.{none-fits}
use Rattle.xb_picture.proofs.course.fitting.Goals as goal

pub returns-then-left-width : goal.returns-then-left-width
returns-then-left-width c =
    let i = c.loop-index.index in
    let runs = c.args.runs.now in
    sym (append-nil (take i runs))
    ∙ ap (λ t. take i runs ++ t) (sym (none-fits _ i _ runs _ c.loop-index-test.true c.drawn-width.ensures c.if-left-width.true))
    ∙ c.loop-index.invariant
