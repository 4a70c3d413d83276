-- What is heard of a line that dials one number.
use Rattle.std.specs.Prelude.{◌≡◌, ◌≢◌, ◌⊎◌, ◌<◌, ◌==◌, ℕ, List, [], ◌∷◌, length, if◌then◌else◌, true, false}
use Rattle.xb_model.specs.declared.line.TheConstants.{LINES}
use Rattle.xb_model.specs.declared.mark.Mark.{Mark}
use Rattle.xb_model.specs.declared.order.Order.{Order}
use Rattle.xb_model.specs.declared.order.Order.TheVariants as orders
use Rattle.xb_model.specs.declared.reason.Reason.TheVariants.{Unknown}
use Rattle.xb_model.specs.Keyings.{marks_of}
use Rattle.xb_model.specs.LawfulLimits.{IsLawful}
use Rattle.xb_model.specs.Routing.{routed}
use Rattle.xb_model.specs.Tapes.{tape_of}
use Rattle.xb_calls.specs.declared.order.RowOrder.{RowOrder}
use Rattle.xb_calls.specs.declared.speed.Speed.{Speed}
use Rattle.xb_calls.specs.Calls.{AreDigits, call_of}
use Rattle.xb_calls.specs.Dialling.{dialled}
use Rattle.xb_calls.specs.Speeds.{Fits}
use Rattle.xb_outgoing.specs.Tables.{Outgoing, is_dialled}
use Rattle.xb_routes.specs.Table.{Table}
use Rattle.xb_route.specs.declared.answer.Answer.{Answer}
use Rattle.xb_route.specs.declared.answer.Answer.TheVariants.{Dialled, Incomplete, Routed}

-- where a line dials just this number, at any speed that fits the limits of the table, the line's tape, which
-- the page prints, has this one entry, and that of any other line has none
abbrev pub IsOnPage : Table → List ℕ → List Mark → Type 0
IsOnPage table number entry =
    (line : ℕ) (speed : Speed) (order : RowOrder)
    → line < LINES → IsLawful table.limits → Fits table.limits speed → AreDigits number → (l : ℕ)
    → tape_of table.plan table.limits table.routes l (dialled order speed (call_of line number ∷ []))
    ≡ (if line == l then entry ∷ [] else [])

-- the digits of an order
abbrev pub sent_of : Order → List ℕ
sent_of (orders.Key trunk sent) = sent
sent_of (orders.Refused reason heard) = []

-- a number has this order, with a digit at least, and its trunk group takes dial pulses: so they go out in place of its
-- keys
pub record GoesOut (table : Outgoing) (number : List ℕ) (order : Order) : Type 0 where
  pub order_is : routed table.table.routes number ≡ order
  pub dialled : is_dialled table.pulsed order ≡ true
  pub some_digits : sent_of order ≢ []

-- what is keyed or refused of a number is what the page says of a line that dials just this number, and does not go out
-- by dial pulses
pub record StaysOnPage (table : Outgoing) (number : List ℕ) (order : Order) : Type 0 where
  pub on_page : IsOnPage table.table number (marks_of order)
  pub keyed : is_dialled table.pulsed order ≡ false

-- the route of a number keys no digit, to a trunk group that takes dial pulses: so it is refused as an unknown number
pub record HasNoPulses (table : Outgoing) (number : List ℕ) (order : Order) : Type 0 where
  pub trunk : ℕ
  pub keys_none : routed table.table.routes number ≡ orders.Key trunk []
  pub takes_pulses : is_dialled table.pulsed (orders.Key trunk []) ≡ true
  pub refused : order ≡ orders.Refused Unknown (length number)

-- what is done with a number is what the page says of it, or a refusal of no digits, or what goes out by dial pulses
abbrev pub AgreesWithPage : Outgoing → Answer → Type 0
AgreesWithPage table Incomplete = Unit {0}
AgreesWithPage table (Routed number order) = StaysOnPage table number order ⊎ HasNoPulses table number order
AgreesWithPage table (Dialled number trunk sent) = GoesOut table number (orders.Key trunk sent)
