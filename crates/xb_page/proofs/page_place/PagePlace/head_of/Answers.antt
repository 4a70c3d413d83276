use Rattle.std.specs.Prelude.{option_copied}
use Rattle.xb_page.specs.Places.{space}
use Rattle.xb_text.specs.Pieces.{pieces, pieces_left}
use Rattle.xb_page.proofs.ReadSteps.{fields-in_turn, same-head, same-head_fault}
use Rattle.xb_page.proofs.page_place.PagePlace.head_of.Goals as goal

pub returns-clause-head : goal.returns-clause-head
returns-clause-head c =
    same-head c.head_of_words.result _ _
    (fields-in_turn c.args.self.now (pieces space c.args.text.now) (pieces_left space (option_copied c.next_field.result.1))
    (pieces_left space (option_copied c.next_field-2.result.1)) (pieces_left space (option_copied c.next_field-3.result.1))
    c.next_field.result.0.now c.next_field-2.result.0.now c.next_field-3.result.0.now
    c.next_field.ensures.field c.next_field.ensures.rest c.next_field-2.ensures.field c.next_field-2.ensures.rest
    c.next_field-3.ensures.field c.next_field-3.ensures.rest)
    c.head_of_words.ensures.head

pub returns-clause-fault : goal.returns-clause-fault
returns-clause-fault c =
    same-head_fault c.head_of_words.result _ _
    (fields-in_turn c.args.self.now (pieces space c.args.text.now) (pieces_left space (option_copied c.next_field.result.1))
    (pieces_left space (option_copied c.next_field-2.result.1)) (pieces_left space (option_copied c.next_field-3.result.1))
    c.next_field.result.0.now c.next_field-2.result.0.now c.next_field-3.result.0.now
    c.next_field.ensures.field c.next_field.ensures.rest c.next_field-2.ensures.field c.next_field-2.ensures.rest
    c.next_field-3.ensures.field c.next_field-3.ensures.rest)
    c.head_of_words.ensures.fault
