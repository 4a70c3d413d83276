-- What is told of some dials, reckoned by hand.
use Rattle.std.specs.Prelude.{ℕ, zero, suc, ◌≡◌, ◌*◌, List, [], ◌∷◌, ◌++◌, Option, Some, None}
use Rattle.std.specs.List.{flat_map}
use Rattle.xb_model.specs.LawfulLimits.{standard_limits}
use Rattle.xb_contact.specs.declared.level.Level.{Level}
use Rattle.xb_contact.specs.declared.level.Level.TheVariants.{Closed, Open}
use Rattle.xb_contact.specs.declared.scale.Scale.{Scale}
use Rattle.xb_contact.specs.Holds.{hold_of}
use Rattle.xb_contact.specs.Times.{scale_by}
use Rattle.xb_turns.specs.declared.dial.Said.{Said}
use Rattle.xb_turns.specs.declared.dial.Said.TheVariants.{Digit, HungUp}
use Rattle.xb_turns.specs.DialLaws.{Piece, told_of_pieces}
use Rattle.xb_turns.specs.Dials.{begun_dial}
use Rattle.xb_turns.specs.Figures.{drift_of, share_of, speed_of}

abbrev pub piece : Level → ℕ → ℕ → Piece
piece level ticks bounce = record { hold = hold_of level ticks; bounce = bounce }

abbrev pub opened : ℕ → Piece
opened ticks = piece Open ticks 0

abbrev pub closed : ℕ → Piece
closed ticks = piece Closed ticks 0

-- equal whole periods before other pieces
abbrev pub periods : ℕ → ℕ → ℕ → List Piece → List Piece
periods zero break make rest = rest
periods (suc n) break make rest = opened break ∷ closed make ∷ periods n break make rest

-- how many pulses; the speed, the share of break and the drift in tenths; and the longest bounce
abbrev pub Measured : Type 0
Measured = ℕ × Option ℕ × Option ℕ × Option ℕ × ℕ

abbrev pub measured_by : ℕ → Option ℕ → Option ℕ → Option ℕ → ℕ → Measured
measured_by pulses speed share drift bounce = (pulses, speed, share, drift, bounce)

abbrev pub figures_of : Scale → Said → List Measured
figures_of scale (Digit train bounce) =
    measured_by train.pulses (speed_of scale train) (share_of train) (drift_of train).tenths bounce ∷ []
figures_of scale (HungUp pulses) = []

-- the figures of a line that is seized for 500 ms, dials these pieces, and rests for 600 ms; a ms is so many ticks
abbrev pub Tells : ℕ → List Piece → Measured → Type 0
Tells ticks pieces told =
    flat_map (figures_of (scale_by 1 ticks))
    (told_of_pieces (begun_dial standard_limits (scale_by 1 ticks) Open)
    (closed (500 * ticks) ∷ (pieces ++ closed (600 * ticks) ∷ [])))
    ≡ told ∷ []

-- ten and twenty pulses a second, three fifths break; a last period that is longer; one pulse; and a bounce
pub record WorkedTrains : Type 0 where
  pub ten : Tells 1 (periods 8 60 40 (opened 60 ∷ [])) (measured_by 9 (Some 100) (Some 600) (Some 0) 0)
  pub twenty : Tells 1 (periods 9 30 20 (opened 30 ∷ [])) (measured_by 10 (Some 200) (Some 600) (Some 0) 0)
  pub in_tenths : Tells 10 (periods 1 605 395 (opened 500 ∷ [])) (measured_by 2 (Some 100) (Some 605) None 0)
  pub slower : Tells 1 (periods 2 60 40 (periods 1 60 50 (opened 60 ∷ [])))
      (measured_by 4 (Some 97) (Some 581) (Some 100) 0)
  pub last_break : Tells 1 (periods 2 60 40 (opened 90 ∷ [])) (measured_by 3 (Some 100) (Some 600) (Some 0) 0)
  pub single : Tells 1 (opened 60 ∷ []) (measured_by 1 None None None 0)
  pub bounced : Tells 1 (piece Open 60 3 ∷ piece Closed 40 2 ∷ opened 60 ∷ []) (measured_by 2 (Some 100) (Some 600) None 3)
