use Rattle.xb_page.specs.Places.{space, written}
use Rattle.xb_text.specs.Pieces.{pieces}
use Rattle.xb_page.proofs.ReadSteps.{entry-of_read, same-fault, same-ok}
use Rattle.xb_page.proofs.reading.entry_of_line.Goals as goal

pub returns-in-Ok-clause-entry : goal.returns-in-Ok-clause-entry
returns-in-Ok-clause-entry c =
    same-ok c.entry_of_head.result _ _
    (entry-of_read c.args.place.now c.text_line.result (pieces space c.args.text.now) (written c.in-Ok.head)
    c.text_line.ensures c.in-Ok.ensures.head)
    c.entry_of_head.ensures.entry

pub returns-in-Ok-clause-fault : goal.returns-in-Ok-clause-fault
returns-in-Ok-clause-fault c =
    same-fault c.entry_of_head.result _ _
    (entry-of_read c.args.place.now c.text_line.result (pieces space c.args.text.now) (written c.in-Ok.head)
    c.text_line.ensures c.in-Ok.ensures.head)
    c.entry_of_head.ensures.fault
