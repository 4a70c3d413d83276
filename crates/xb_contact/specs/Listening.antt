-- A contact that is listened to, hold by hold.
use Rattle.std.specs.Prelude.{ℕ, ◌≡◌, ◌+◌, ◌<◌, ◌≤◌, List, [], ◌∷◌, ◌++◌, Option, Some, None}
use Rattle.xb_contact.specs.declared.level.Level.{Level}
use Rattle.xb_contact.specs.declared.hold.Hold.{Hold}
use Rattle.xb_contact.specs.declared.settling.Phase.{Phase}
use Rattle.xb_contact.specs.Holds.{hold_of}
use Rattle.xb_contact.specs.Machine.{begun, unsettled, given_by, phase_after, at_end, pieces_of}
use Rattle.xb_contact.specs.declared.scale.Scale.{Scale}
use Rattle.xb_contact.specs.Times.{CanCount, ms_at, rounded_hold}
use Rattle.xb_contact.specs.Joints.{joined_by, left_of}

-- how it is listened to, and what is known of it: its phase, the tick up to which it is settled, and the
-- hold in ms that may still grow longer
pub record Heard : Type 0 where
  pub least : ℕ
  pub scale : Scale
  pub most : ℕ
  pub phase : Phase
  pub at : ℕ
  pub last : Hold

abbrev pub heard_of : ℕ → Scale → ℕ → Phase → ℕ → Hold → Heard
heard_of least scale most phase at last =
    record { least = least; scale = scale; most = most; phase = phase; at = at; last = last }

-- all of it can be counted
pub record IsCounted (scale : Scale) (phase : Phase) (now at : ℕ) (last : Hold) : Type 0 where
  pub some : 0 < scale.ticks
  pub taken : at + unsettled phase ≡ now
  pub fits : CanCount scale now
  pub told : last.ticks ≤ ms_at scale at

-- the tick up to which the recording is taken
abbrev pub now_of : Heard → ℕ
now_of heard = heard.at + unsettled heard.phase

-- it can be taken up to a tick
abbrev pub CanTake : Heard → ℕ → Type 0
CanTake heard until = (now_of heard ≤ until) × CanCount heard.scale until

-- at tick 0
abbrev pub begun_at : ℕ → Scale → ℕ → Level → Heard
begun_at least scale most first = heard_of least scale most (begun first) 0 (hold_of first 0)

-- what is given, and what is known then
pub record Told : Type 0 where
  pub given : Option Hold
  pub heard : Heard

-- a piece that has settled
abbrev pub piece_told : Heard → Hold → Told
piece_told heard piece =
    let joint = joined_by heard.most heard.last (rounded_hold heard.scale heard.at piece) in
    record {
      given = joint.given;
      heard = heard_of heard.least heard.scale heard.most heard.phase (heard.at + piece.ticks) joint.last;
    }

-- the piece of a hold, if it gives one
abbrev pub told_of : Heard → Option Hold → Told
told_of heard None = record { given = None; heard = heard }
told_of heard (Some piece) = piece_told heard piece

-- a hold
abbrev pub take_hold : Heard → Hold → Told
take_hold heard hold =
    told_of
    (heard_of heard.least heard.scale heard.most (phase_after heard.least heard.phase hold) heard.at heard.last)
    (given_by heard.least heard.phase hold)

abbrev pub given_now : Heard → Hold → Option Hold
given_now heard hold = (take_hold heard hold).given

abbrev pub heard_after : Heard → Hold → Heard
heard_after heard hold = (take_hold heard hold).heard

-- what is left where the recording ends
abbrev pub told_at_end : Heard → List Hold
told_at_end heard =
    let told = told_of heard (at_end heard.phase) in
    pieces_of told.given ++ pieces_of (left_of told.heard.last)

-- all that is given of holds
abbrev pub all_told : Heard → List Hold → List Hold
all_told heard [] = told_at_end heard
all_told heard (hold ∷ rest) = pieces_of (given_now heard hold) ++ all_told (heard_after heard hold) rest
