use Rattle.xb_csv.proofs.DigitLemmas.{digit_past, digit_there}
use Rattle.xb_csv.proofs.seconds.digit_at.Goals as goal

pub returns-then-place-text : goal.returns-then-place-text
returns-then-place-text c = digit_there c.args.text.now c.args.place c.requires c.if-place-text.true

pub returns-else-place-text : goal.returns-else-place-text
returns-else-place-text c = digit_past c.args.text.now c.args.place c.requires c.if-place-text.false
