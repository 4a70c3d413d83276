use Rattle.std.proofs.Common.{rules}
use Rattle.xb_dial.proofs.SoundDials.{dials-well}
use Rattle.xb_dial.proofs.dialling.rows_of_text.Goals as goal

pub returns-clause-rows : goal.returns-clause-rows
returns-clause-rows c =
    let calls = c.in_ok-calls.calls.items in
    let placed = rw (c.deref-2.ensures.value, c.deref-3.ensures.value) at c.in_ok-rows.ensures.places in
    let sent = rw (c.deref-2.ensures.value, c.deref-3.ensures.value) at c.in_ok-rows.ensures.rows in
    let heard = rw (c.deref-2.ensures.value, c.deref-3.ensures.value) at c.in_ok-rows.ensures.heard in
    let are = rw (c.deref-2.ensures.value) at c.in_ok-rows.ensures.calls in
    record {
      calls = calls;
      are_read = c.in_ok-calls.ensures.calls;
      are_placed = placed;
      are_sent = sent;
      can_be_printed = search rules;
      heard = heard;
      well = dials-well c.args.request.now calls c.in_ok-rows.rows.items are c.in_ok-calls.ensures.complete sent;
    }
