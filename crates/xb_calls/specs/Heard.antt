-- A number that is dialled is the number that is heard.
use Rattle.std.specs.Prelude.{◌≡◌, ℕ, List, map, true}
use Rattle.std.specs.List.{AllByRecursion}
use Rattle.xb_model.specs.declared.limits.Limits.{Limits}
use Rattle.xb_model.specs.declared.line.TheConstants.{LINES}
use Rattle.xb_model.specs.declared.mark.Mark.{Mark}
use Rattle.xb_model.specs.declared.plan.Plan.{Plan}
use Rattle.xb_model.specs.declared.dialled.Dialled.TheVariants.{Number}
use Rattle.xb_model.specs.Keyings.{marks_of}
use Rattle.xb_model.specs.LawfulLimits.{IsLawful}
use Rattle.xb_model.specs.Lines.{lines_below}
use Rattle.xb_model.specs.Numbers.{is_complete, outcomes_of}
use Rattle.xb_model.specs.Records.{record_of, rows_of}
use Rattle.xb_model.specs.Routing.{CodedRoute, routed}
use Rattle.xb_model.specs.Rows.{LoopRow}
use Rattle.xb_model.specs.Tapes.{tape_of, tapes_of}
use Rattle.std.specs.List.{flat_map}
use Rattle.xb_calls.specs.declared.order.RowOrder.{RowOrder}
use Rattle.xb_calls.specs.declared.speed.Speed.{Speed}
use Rattle.xb_calls.specs.Speeds.{Fits}
use Rattle.xb_calls.specs.Calls.{AreCalls, DialledCall}
use Rattle.xb_calls.specs.Dialling.{dialled, line_rows, numbers_on}

-- each number is complete by the plan
abbrev pub AreComplete : Plan → List DialledCall → Type 0
AreComplete plan calls = AllByRecursion (λ call. is_complete plan call.digits ≡ true) calls

-- the rows of each line are those that it dials, whatever stands between them
abbrev pub AreDialled : Speed → List DialledCall → List LoopRow → Type 0
AreDialled speed calls rows = (l : ℕ) → rows_of l rows ≡ line_rows speed calls l

-- of each line the outcomes are the numbers that it dials, in order
abbrev pub AreHeard : Plan → Limits → List DialledCall → List LoopRow → Type 0
AreHeard plan limits calls rows =
    (l : ℕ) → outcomes_of plan limits (record_of l rows) ≡ map Number (numbers_on l calls)

-- what a number puts on the tape: its keying by its route, or a refusal as unknown
abbrev pub entry_of : List CodedRoute → List ℕ → List Mark
entry_of routes number = marks_of (routed routes number)

-- of each line the tape is the entries of the numbers that it dials
abbrev pub AreKeyed : Plan → Limits → List DialledCall → List LoopRow → Type 0
AreKeyed plan limits calls rows =
    (routes : List CodedRoute) (l : ℕ)
    → tape_of plan limits routes l rows ≡ map (entry_of routes) (numbers_on l calls)

-- the same of the joined tapes of all lines
abbrev pub AreTaped : Plan → Limits → List DialledCall → List LoopRow → Type 0
AreTaped plan limits calls rows =
    (routes : List CodedRoute)
    → tapes_of plan limits routes rows
    ≡ map (λ l. flat_map (entry_of routes) (numbers_on l calls)) (lines_below LINES)

-- the numbers are heard and keyed by every plan by which they are complete, and all lawful limits
-- that the speed fits
pub record IsHeard (speed : Speed) (calls : List DialledCall) (rows : List LoopRow) : Type 0 where
  pub heard : (plan : Plan) (limits : Limits) → AreComplete plan calls → IsLawful limits → Fits limits speed
      → AreHeard plan limits calls rows
  pub keyed : (plan : Plan) (limits : Limits) → AreComplete plan calls → IsLawful limits → Fits limits speed
      → AreKeyed plan limits calls rows
  pub taped : (plan : Plan) (limits : Limits) → AreComplete plan calls → IsLawful limits → Fits limits speed
      → AreTaped plan limits calls rows

-- it holds of every list of rows in which those of each line are dialled
abbrev pub DialledIsHeard : Type 0
DialledIsHeard =
    (speed : Speed) (calls : List DialledCall) (rows : List LoopRow) → AreCalls calls
    → AreDialled speed calls rows → IsHeard speed calls rows

-- in both orders the rows of each line are those that it dials
abbrev pub OrdersAreDialled : Type 0
OrdersAreDialled =
    (order : RowOrder) (speed : Speed) (calls : List DialledCall) → AreCalls calls
    → AreDialled speed calls (dialled order speed calls)
