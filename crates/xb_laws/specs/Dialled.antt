-- From the dial of office A to the register of office B and its tape.
use Rattle.std.specs.Prelude.{ℕ, List, ℤ}
use Rattle.xb_model.specs.declared.limits.Limits.{Limits}
use Rattle.xb_model.specs.declared.plan.Plan.{Plan}
use Rattle.xb_model.specs.LawfulLimits.{IsLawful}
use Rattle.xb_model.specs.Routing.{CodedRoute}
use Rattle.xb_model.specs.Rows.{LoopRow}
use Rattle.xb_model.specs.Tapes.{joined_tape}
use Rattle.xb_calls.specs.declared.speed.Speed.{Speed}
use Rattle.xb_calls.specs.Calls.{AreCalls, DialledCall}
use Rattle.xb_calls.specs.Dialling.{numbers_on}
use Rattle.xb_calls.specs.Heard.{AreComplete, AreDialled}
use Rattle.xb_calls.specs.Speeds.{Fits}
use Rattle.xb_sound.specs.declared.cadence.Cadence.{Cadence}
use Rattle.xb_sound.specs.HeardTapes.{HavePrefixes}
use Rattle.xb_ear.specs.Disturbed.{AreWithin}
use Rattle.xb_ear.specs.HeardKeys.{IsHearable, disturbable}
use Rattle.xb_laws.specs.Tandem.{AreRegistered, keyed_numbers}
use Rattle.xb_laws.specs.Timed.{OutlastsGaps}

abbrev pub DialledIsRegistered : Type 0
DialledIsRegistered =
    (plan : Plan) (limits : Limits) (a b : List CodedRoute) (speed : Speed) (calls : List DialledCall)
    (rows : List LoopRow) (l : ℕ) (cadence : Cadence) (samples : List ℤ) (limit : ℕ)
    → AreCalls calls → AreDialled speed calls rows → AreComplete plan calls → IsLawful limits → Fits limits speed
    → HavePrefixes a → IsHearable cadence → OutlastsGaps limit cadence
    → AreWithin (disturbable cadence (joined_tape plan limits a l rows)) samples
    → AreRegistered limit b (keyed_numbers a (numbers_on l calls)) samples
