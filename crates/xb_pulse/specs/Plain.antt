-- The states of the pulse stage as plain numbers.
use Rattle.std.specs.Prelude.{◌≡◌, ℕ, min, ◌==◌, if◌then◌else◌}
use Rattle.xb_model.specs.declared.limits.TheConstants.{GREATEST_LIMIT}
use Rattle.xb_model.specs.declared.signal.TheConstants.{MANY_BREAKS}
use Rattle.xb_pulse.specs.declared.plain.PlainPulse.{PlainPulse}
use Rattle.xb_pulse.specs.declared.state.Phase.{Phase}
use Rattle.xb_pulse.specs.declared.state.Phase.TheVariants.{OnHook, BetweenTrains, InBreak, InMake, TimedOut, Closed}
use Rattle.xb_pulse.specs.declared.state.Tally.{Tally}
use Rattle.xb_pulse.specs.Counters.{IsWithin}
use Rattle.xb_pulse.specs.Machine.{no_breaks}

abbrev pub plain : ℕ → ℕ → Tally → PlainPulse
plain phase total tally = record { phase = phase; total = total; breaks = tally.breaks; bad = tally.bad }

abbrev pub plain_of : Phase → PlainPulse
plain_of OnHook = plain 0 0 no_breaks
plain_of (BetweenTrains total) = plain 1 total no_breaks
plain_of (InBreak total tally) = plain 2 total tally
plain_of (InMake total tally) = plain 3 total tally
plain_of (TimedOut total) = plain 4 total no_breaks
plain_of Closed = plain 5 0 no_breaks

-- the counters, each no further than it goes
abbrev pub total_of : PlainPulse → ℕ
total_of p = min p.total GREATEST_LIMIT

abbrev pub tally_of : PlainPulse → Tally
tally_of p = record { breaks = min p.breaks MANY_BREAKS; bad = p.bad }

abbrev pub phase_of : PlainPulse → Phase
phase_of p =
    if p.phase == 1 then BetweenTrains (total_of p) else (
    if p.phase == 2 then InBreak (total_of p) (tally_of p) else (
    if p.phase == 3 then InMake (total_of p) (tally_of p) else (
    if p.phase == 4 then TimedOut (total_of p) else (
    if p.phase == 5 then Closed else OnHook))))

-- a state comes back from its numbers
abbrev pub StatesComeBack : Type 0
StatesComeBack = (phase : Phase) → IsWithin phase → phase_of (plain_of phase) ≡ phase
