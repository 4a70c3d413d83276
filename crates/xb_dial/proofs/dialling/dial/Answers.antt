use Rattle.xb_dial.proofs.Delivered.{delivered}
use Rattle.xb_dial.proofs.dialling.dial.Goals as goal

pub returns-clause-rows : goal.returns-clause-rows
returns-clause-rows g c =
    let text = c.deref.ensures.value in
    let rows = c.deref-2.ensures.value in
    delivered c.args.request.now _ c.in_ok-text.text.items c.in_ok-rows.rows.items _ _ c.in_ok-text.ensures.whole
    (rw text at c.in_ok-rows.ensures.rows) c.write_rows.result (rw rows at c.write_rows.ensures.whole)
    (rw rows at c.write_rows.ensures.beginning) (rw rows at c.write_rows.ensures.read)
    (rw rows at c.write_rows.ensures.read_partly) (rw rows at c.write_rows.ensures.fault)
    c.write_rows.ensures.untouched
