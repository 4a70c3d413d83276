use Rattle.std.proofs.Common.{rules}
use Rattle.std.proofs.lemmas.Result.{on_ok_weaker}
use Rattle.xb_tape.proofs.PageFormats.{entry}
use Rattle.xb_tape.proofs.printing.write_entry.Goals as goal

pub returns : goal.returns
returns c =
    on_ok_weaker c.push_str.result
    (λ e.
    entry _ _ _ _ c.args.line c.args.number c.args.entry.now
    (rw (c.laid_out.ensures, c.get-line.ensures.value) at c.in_ok-write.ensures.bytes)
    c.in_ok-write_entry_body.ensures e)
    (search rules)
