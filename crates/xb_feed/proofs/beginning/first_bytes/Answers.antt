use Rattle.std.proofs.Common.{arith, sym}
use Rattle.std.proofs.lemmas.List.{length-take-le, take_all}
use Rattle.xb_feed.proofs.beginning.first_bytes.Goals as goal

pub returns-then-text-most : goal.returns-then-text-most
returns-then-text-most c = sym (take_all c.args.most c.args.text.now (omega arith))

pub slice_bounds-result-end : goal.slice_bounds-result-end
slice_bounds-result-end c = sym (length-take-le c.args.most c.args.text.now (omega arith))
