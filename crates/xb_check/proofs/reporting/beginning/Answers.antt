use Rattle.std.proofs.Common.{sym, arith}
use Rattle.std.proofs.lemmas.List.{length-take-le, take_all}
use Rattle.xb_check.proofs.reporting.beginning.Goals as goal

pub slice_bounds-result-end : goal.slice_bounds-result-end
slice_bounds-result-end c =
    let longer = c.if-text-gt-MOST_SHOWN_BYTES.true in
    sym (length-take-le 60 c.args.text.now (omega (arith, longer)))

pub returns-else-text-gt-MOST_SHOWN_BYTES : goal.returns-else-text-gt-MOST_SHOWN_BYTES
returns-else-text-gt-MOST_SHOWN_BYTES c =
    let short = c.if-text-gt-MOST_SHOWN_BYTES.false in sym (take_all 60 c.args.text.now (omega (arith, short)))
