-- What an office does with the digits of a number.
use Rattle.std.specs.Prelude.{ℕ, List, drop, length, if◌then◌else◌, Option, Some, None}
use Rattle.xb_model.specs.declared.order.Order.{Order}
use Rattle.xb_model.specs.declared.order.Order.TheVariants as orders
use Rattle.xb_model.specs.Numbers.{shortest_complete}
use Rattle.xb_outgoing.specs.Groups.{has_group}
use Rattle.xb_outgoing.specs.Tables.{Outgoing, outgoing_routed}
use Rattle.xb_route.specs.declared.answer.Answer.{Answer}
use Rattle.xb_route.specs.declared.answer.Answer.TheVariants.{Dialled, Incomplete, Routed}

-- a number with its order: it goes out by dial pulses where its trunk group takes them
abbrev pub sent_as : List ℕ → List ℕ → Order → Answer
sent_as pulsed number (orders.Key trunk sent) =
    if has_group pulsed trunk then Dialled number trunk sent else Routed number (orders.Key trunk sent)
sent_as pulsed number (orders.Refused reason heard) = Routed number (orders.Refused reason heard)

-- the number that digits complete gets its order; where they complete none, nothing is done
abbrev pub answer_of : Outgoing → Option (List ℕ) → Answer
answer_of table None = Incomplete
answer_of table (Some number) = sent_as table.pulsed number (outgoing_routed table number)

-- what is done with digits by a table
abbrev pub answer_to : Outgoing → List ℕ → Answer
answer_to table digits = answer_of table (shortest_complete table.table.plan digits)

-- the digits after those of the number, which nobody hears
abbrev pub left_over : List ℕ → List ℕ → List ℕ
left_over digits number = drop (length number) digits
