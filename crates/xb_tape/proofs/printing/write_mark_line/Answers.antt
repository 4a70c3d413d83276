use Rattle.std.proofs.Common.{rules}
use Rattle.std.proofs.lemmas.Result.{on_ok_weaker}
use Rattle.xb_tape.proofs.PageFormats.{alone}
use Rattle.xb_tape.proofs.printing.write_mark_line.Goals as goal

pub returns : goal.returns
returns c =
    on_ok_weaker c.push_str.result
    (λ e.
    alone _ _ _ _ c.args.line c.args.number c.args.mark.now
    (rw (c.laid_out.ensures, c.get-line.ensures.value, c.word_before-word.ensures) at c.in_ok-write.ensures.bytes)
    c.in_ok-write_mark.ensures e)
    (search rules)
