use Rattle.std.proofs.Common.{refl}
use Rattle.xb_rows.proofs.PlainRecords.{plain_row-is}
use Rattle.xb_rows.proofs.plain.plain_row.Goals as goal

pub returns : goal.returns
returns c =
    let may = c.in_ok-row.ensures.variant.0 refl in
    let plain = plain_row-is c.args.text.now c.in_ok-line.rest.now c.in_ok-contact.rest.now c.in_ok-ms.rest.now
    c.in_ok-rest.rest.now c.in_ok-line.line c.in_ok-ms.ms c.in_ok-contact.contact c.in_ok-line.ensures.number
    c.in_ok-contact.ensures c.in_ok-ms.ensures.number c.in_ok-rest.ensures may in
    rw (c.in_ok-row.ensures.value, c.in_ok-new.ensures.value) plain
