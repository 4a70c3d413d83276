use Rattle.std.proofs.Common.{◌∙◌, sym}
use Rattle.xb_page.specs.Places.{space, written}
use Rattle.xb_text.specs.Pieces.{pieces}
use Rattle.xb_page.proofs.CheckedEntries.{after_entry-fault, after_entry-head}
use Rattle.xb_page.proofs.checking.after_entry.Goals as goal

pub returns-in-Ok-clause-place : goal.returns-in-Ok-clause-place
returns-in-Ok-clause-place c =
    c.after_rest.ensures.place
    ∙ sym (after_entry-head c.args.place.now (pieces space c.args.text.now) (written c.in-Ok.head) c.in-Ok.ensures.head)

pub returns-in-Err-clause-place : goal.returns-in-Err-clause-place
returns-in-Err-clause-place c =
    sym (after_entry-fault c.args.place.now (pieces space c.args.text.now) c.in-Err.fault c.in-Err.ensures.fault)
