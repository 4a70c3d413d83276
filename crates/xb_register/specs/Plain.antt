-- The states of the register as plain values.
use Rattle.std.specs.Prelude.{◌≡◌, ℕ, List, [], length, nat_lt, ◌==◌, if◌then◌else◌}
use Rattle.xb_model.specs.declared.digits.TheConstants.{NUMBER_DIGITS}
use Rattle.xb_register.specs.declared.plain.PlainRegister.{PlainRegister}
use Rattle.xb_register.specs.declared.state.Phase.{Phase}
use Rattle.xb_register.specs.declared.state.Phase.TheVariants.{OnHook, Listening, Done}
use Rattle.xb_register.specs.Phases.{HasRoom}

abbrev pub plain : ℕ → List ℕ → PlainRegister
plain phase digits = record { phase = phase; digits = digits }

abbrev pub plain_of : Phase → PlainRegister
plain_of OnHook = plain 0 []
plain_of (Listening digits) = plain 1 digits
plain_of Done = plain 2 []

-- an attempt with so many digits goes on
abbrev pub attempt_of : List ℕ → Phase
attempt_of digits = if nat_lt (length digits) NUMBER_DIGITS then Listening digits else Done

abbrev pub phase_of : PlainRegister → Phase
phase_of p = if p.phase == 1 then attempt_of p.digits else (if p.phase == 2 then Done else OnHook)

-- a state comes back from its values
abbrev pub StatesComeBack : Type 0
StatesComeBack = (phase : Phase) → HasRoom phase → phase_of (plain_of phase) ≡ phase
