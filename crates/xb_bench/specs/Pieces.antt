-- A contact that is settled as it comes, in ticks.
use Rattle.std.specs.Prelude.{ℕ, ◌≡◌, ◌+◌, Option, Some, None}
use Rattle.xb_contact.specs.declared.hold.Hold.{Hold}
use Rattle.xb_contact.specs.declared.level.Level.{Level}
use Rattle.xb_contact.specs.declared.settling.Phase.{Phase}
use Rattle.xb_contact.specs.Machine.{begun, given_by, phase_after, unsettled}

-- the least ticks of a settled run, the phase of the contact, and the tick up to which it is settled
pub record Settled : Type 0 where
  pub least : ℕ
  pub phase : Phase
  pub at : ℕ

abbrev pub settled_of : ℕ → Phase → ℕ → Settled
settled_of least phase at = record { least = least; phase = phase; at = at }

-- its ticks can be counted
abbrev pub AreCounted : Phase → ℕ → ℕ → Type 0
AreCounted phase taken at = at + unsettled phase ≡ taken

-- the tick up to which the recording is taken
abbrev pub now_of : Settled → ℕ
now_of settled = settled.at + unsettled settled.phase

abbrev pub begun_pieces : ℕ → Level → Settled
begun_pieces least first = settled_of least (begun first) 0

abbrev pub ticks_given : Option Hold → ℕ
ticks_given None = 0
ticks_given (Some hold) = hold.ticks

-- the piece that is certain with a hold, and what is known then
abbrev pub piece_given : Settled → Hold → Option Hold
piece_given settled hold = given_by settled.least settled.phase hold

abbrev pub pieces_after : Settled → Hold → Settled
pieces_after settled hold =
    settled_of settled.least (phase_after settled.least settled.phase hold)
    (settled.at + ticks_given (piece_given settled hold))
