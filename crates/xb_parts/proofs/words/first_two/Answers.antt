use Rattle.std.proofs.Common.{arith, sym}
use Rattle.std.proofs.lemmas.List.{length-take-le, take_all}
use Rattle.xb_parts.proofs.words.first_two.Goals as goal

pub slice_bounds-result-end : goal.slice_bounds-result-end
slice_bounds-result-end c =
    let longer = c.if-words-gt2.true in sym (length-take-le 2 c.args.words.now (omega (arith, longer)))

pub returns-else-words-gt2 : goal.returns-else-words-gt2
returns-else-words-gt2 c =
    let short = c.if-words-gt2.false in sym (take_all 2 c.args.words.now (omega (arith, short)))
