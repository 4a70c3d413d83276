-- From the tape of office A, its sound and an ear, to the register of office B and its tape.
use Rattle.std.specs.Prelude.{◌≡◌, ℕ, List, [], ◌∷◌, map, ℤ}
use Rattle.std.specs.List.{flat_map}
use Rattle.xb_model.specs.declared.dialled.Dialled.{Dialled}
use Rattle.xb_model.specs.declared.dialled.Dialled.TheVariants.{Number}
use Rattle.xb_model.specs.declared.limits.Limits.{Limits}
use Rattle.xb_model.specs.declared.plan.Plan.{Plan}
use Rattle.xb_model.specs.declared.order.Order.{Order}
use Rattle.xb_model.specs.declared.order.Order.TheVariants as orders
use Rattle.xb_model.specs.Numbers.{outcomes_of}
use Rattle.xb_model.specs.Records.{record_of}
use Rattle.xb_model.specs.Routing.{CodedRoute, order_of, routed}
use Rattle.xb_model.specs.Rows.{LoopRow}
use Rattle.xb_model.specs.Tapes.{joined_tape}
use Rattle.xb_sound.specs.declared.cadence.Cadence.{Cadence}
use Rattle.xb_sound.specs.HeardTapes.{HavePrefixes}
use Rattle.xb_ear.specs.Disturbed.{AreWithin}
use Rattle.xb_ear.specs.HeardKeys.{IsHearable, disturbable}
use Rattle.xb_incoming.specs.Attempts.{entry_of, number_of, outcomes, tape_of}
use Rattle.xb_laws.specs.Timed.{OutlastsGaps, timed_keys}

-- what office A keys: the digits of each order that is no refusal
abbrev pub keyed_by : Order → List (List ℕ)
keyed_by (orders.Key trunk digits) = digits ∷ []
keyed_by (orders.Refused reason heard) = []

abbrev pub keyed_of : List CodedRoute → List Dialled → List (List ℕ)
keyed_of routes outcomes = flat_map (λ outcome. keyed_by (order_of routes outcome)) outcomes

-- the register of office B takes just these, one outcome each, in order, and its tape are their entries by its routes
pub record AreRegistered (limit : ℕ) (routes : List CodedRoute) (numbers : List (List ℕ)) (samples : List ℤ) : Type 0 where
  pub outcomes_are : outcomes limit (timed_keys samples) ≡ map number_of numbers
  pub tape_is : tape_of limit routes (timed_keys samples) ≡ map (λ digits. entry_of routes (number_of digits)) numbers

-- for the rows of any lines, by each time-out that outlasts the gaps of the sender, which have no longest length
abbrev pub TapeIsRegistered : Type 0
TapeIsRegistered =
    (plan : Plan) (limits : Limits) (a b : List CodedRoute) (rows : List LoopRow) (l : ℕ) (cadence : Cadence)
    (samples : List ℤ) (limit : ℕ)
    → HavePrefixes a → IsHearable cadence → OutlastsGaps limit cadence
    → AreWithin (disturbable cadence (joined_tape plan limits a l rows)) samples
    → AreRegistered limit b (keyed_of a (outcomes_of plan limits (record_of l rows))) samples

-- the same of numbers that office A hears on the line, as it does of those that are dialled on it (`AreHeard` of
-- xb_calls): office B takes the digits of the order of each one, where it has one
abbrev pub keyed_numbers : List CodedRoute → List (List ℕ) → List (List ℕ)
keyed_numbers routes numbers = flat_map (λ number. keyed_by (routed routes number)) numbers

abbrev pub NumbersAreRegistered : Type 0
NumbersAreRegistered =
    (plan : Plan) (limits : Limits) (a b : List CodedRoute) (rows : List LoopRow) (l : ℕ) (numbers : List (List ℕ))
    (cadence : Cadence) (samples : List ℤ) (limit : ℕ)
    → outcomes_of plan limits (record_of l rows) ≡ map Number numbers
    → HavePrefixes a → IsHearable cadence → OutlastsGaps limit cadence
    → AreWithin (disturbable cadence (joined_tape plan limits a l rows)) samples
    → AreRegistered limit b (keyed_numbers a numbers) samples
