use Rattle.std.proofs.Common.{sym, arith}
use Rattle.std.proofs.lemmas.List.{length-take-le, take_all}
use Rattle.xb_calls.proofs.told_field.beginning.Goals as goal

pub slice_bounds-result-end : goal.slice_bounds-result-end
slice_bounds-result-end c =
    let longer = c.if-field-gt-MOST_TOLD_BYTES.true in
    sym (length-take-le 40 c.args.field.now (omega (arith, longer)))

pub returns-else-field-gt-MOST_TOLD_BYTES : goal.returns-else-field-gt-MOST_TOLD_BYTES
returns-else-field-gt-MOST_TOLD_BYTES c =
    let short = c.if-field-gt-MOST_TOLD_BYTES.false in sym (take_all 40 c.args.field.now (omega (arith, short)))
