-- From the dial to the ear: what is heard of the tape of a line.
use Rattle.std.specs.Prelude.{ℕ, ◌<◌, List}
use Rattle.std.specs.List.{AllByRecursion}
use Rattle.xb_model.specs.declared.digit.TheConstants.{DIGITS}
use Rattle.xb_model.specs.declared.limits.Limits.{Limits}
use Rattle.xb_model.specs.declared.plan.Plan.{Plan}
use Rattle.xb_model.specs.Routing.{CodedRoute}
use Rattle.xb_model.specs.Rows.{LoopRow}
use Rattle.xb_model.specs.Tapes.{joined_tape}
use Rattle.xb_sound.specs.declared.cadence.Cadence.{Cadence}
use Rattle.xb_sound.specs.Cadences.{IsSetApart}
use Rattle.xb_sound.specs.HeardKeys.{IsHeard}
use Rattle.xb_sound.specs.Sounds.{sound_of}

abbrev pub AreDigits : List ℕ → Type 0
AreDigits digits = AllByRecursion (λ d. d < DIGITS) digits

-- the prefixes of routes are digits
abbrev pub HavePrefixes : List CodedRoute → Type 0
HavePrefixes routes = AllByRecursion (λ (route : CodedRoute). AreDigits route.prefixed) routes

-- of the sound of a line's tape just the keys are heard that its record of pulses is keyed as
abbrev pub TapesAreHeard : Type 0
TapesAreHeard = (cadence : Cadence) (plan : Plan) (limits : Limits) (routes : List CodedRoute) (l : ℕ) (rows : List LoopRow)
    → IsSetApart cadence → HavePrefixes routes
    → IsHeard (sound_of cadence (joined_tape plan limits routes l rows)) (joined_tape plan limits routes l rows)
