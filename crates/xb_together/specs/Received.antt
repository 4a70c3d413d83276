-- From the dial to the ear: what the receiver of xb_ear hears of the numbers that a line dials.
use Rattle.std.specs.Prelude.{◌≡◌, ℕ, List, ℤ}
use Rattle.std.specs.List.{flat_map}
use Rattle.xb_model.specs.LawfulLimits.{IsLawful}
use Rattle.xb_model.specs.Routing.{CodedRoute, routed}
use Rattle.xb_model.specs.Rows.{LoopRow}
use Rattle.xb_model.specs.Tapes.{joined_tape}
use Rattle.xb_routes.specs.Table.{Table}
use Rattle.xb_calls.specs.declared.speed.Speed.{Speed}
use Rattle.xb_calls.specs.Calls.{AreCalls, DialledCall}
use Rattle.xb_calls.specs.Dialling.{numbers_on}
use Rattle.xb_calls.specs.Heard.{AreComplete, AreDialled}
use Rattle.xb_calls.specs.Speeds.{Fits}
use Rattle.xb_sound.specs.declared.cadence.Cadence.{Cadence}
use Rattle.xb_sound.specs.HeardTapes.{HavePrefixes}
use Rattle.xb_ear.specs.Disturbed.{AreWithin}
use Rattle.xb_ear.specs.HeardKeys.{IsHearable, disturbable, keys_in}
use Rattle.xb_ear.specs.Receivers.{keys_of_sound}
use Rattle.xb_together.specs.FarEnd.{keys_of_order}

-- of numbers the receiver hears just the digits that the route of each one sends, between KP and ST
abbrev pub ReceiverHears : List CodedRoute → List (List ℕ) → List ℤ → Type 0
ReceiverHears routes numbers samples =
    keys_in (keys_of_sound samples) ≡ flat_map (λ number. keys_of_order (routed routes number)) numbers

-- where calls are dialled, at a speed that fits the table's limits, whatever rows of other lines come between: of the
-- sound of a line's tape, as any disturbance has left it that the receiver bears, it hears the numbers that the line
-- dials
abbrev pub DialledIsReceived : Type 0
DialledIsReceived =
    (table : Table) (speed : Speed) (calls : List DialledCall) (rows : List LoopRow) (l : ℕ) (cadence : Cadence)
    (samples : List ℤ) → AreCalls calls → AreDialled speed calls rows → AreComplete table.plan calls
    → IsLawful table.limits → Fits table.limits speed → HavePrefixes table.routes → IsHearable cadence
    → AreWithin (disturbable cadence (joined_tape table.plan table.limits table.routes l rows)) samples
    → ReceiverHears table.routes (numbers_on l calls) samples
