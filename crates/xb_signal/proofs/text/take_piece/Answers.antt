use Rattle.std.proofs.Common.{◌<◌, length, rules}
use Rattle.xb_signal.proofs.TakenWords.{if-err, if-ok, stops-by-piece, takes-piece}
use Rattle.xb_signal.proofs.text.take_piece.Goals as goal

pub returns-clause-taken : goal.returns-clause-taken
returns-clause-taken c =
    let some : 0 < length c.args.piece.now = search rules in
    if-ok c.take_word.result
    (takes-piece c.args.place c.args.cadence c.args.setting.now c.args.piece.now c.args.segments.now.items
    c.take_word.new.segments.items some)
    c.take_word.ensures.taken

pub returns-clause-fault : goal.returns-clause-fault
returns-clause-fault c =
    let some : 0 < length c.args.piece.now = search rules in
    if-err c.take_word.result
    (λ f. stops-by-piece c.args.place c.args.cadence c.args.setting.now c.args.piece.now f some)
    c.take_word.ensures.fault
