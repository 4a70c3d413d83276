-- What is told of a dial, piece by piece, comes to this over a whole record.
use Rattle.std.specs.Prelude.{ℕ, ◌≡◌, ◌^◌, ◌<◌, List, [], ◌∷◌, ◌++◌, map}
use Rattle.xb_model.specs.declared.limits.Limits.{Limits}
use Rattle.xb_contact.specs.declared.hold.Hold.{Hold}
use Rattle.xb_contact.specs.declared.level.Level.{Level}
use Rattle.xb_contact.specs.declared.scale.Scale.{Scale}
use Rattle.xb_contact.specs.Holds.{total_of}
use Rattle.xb_turns.specs.declared.dial.Dial.{Dial}
use Rattle.xb_turns.specs.declared.dial.Place.TheVariants.{OnHook}
use Rattle.xb_turns.specs.declared.dial.Said.{Said}
use Rattle.xb_turns.specs.Dials.{begun_dial, dial_after, said_now}
use Rattle.xb_turns.specs.Digits.{Run, joined_runs, run_by, said_list, told_of_runs}

-- a piece of a settled record, and the longest bounce before it settled
pub record Piece : Type 0 where
  pub hold : Hold
  pub bounce : ℕ

abbrev pub run_of_piece : Piece → Run
run_of_piece piece = run_by piece.hold.level piece.hold.ticks piece.bounce piece.bounce

-- all that is told of pieces, as they come
abbrev pub told_of_pieces : Dial → List Piece → List Said
told_of_pieces dial [] = []
told_of_pieces dial (piece ∷ rest) =
    said_list (said_now dial piece.hold piece.bounce)
    ++ told_of_pieces (dial_after dial piece.hold piece.bounce) rest

-- the runs of a record that begins at a level
abbrev pub runs_from : Level → List Piece → List Run
runs_from first pieces = joined_runs (run_by first 0 0 0 ∷ map run_of_piece pieces)

abbrev pub holds_in : List Piece → List Hold
holds_in pieces = map (λ (piece : Piece). piece.hold) pieces

-- piece by piece exactly that is told which is told of the joined runs
abbrev pub TellsTheRuns : Type 0
TellsTheRuns =
    (limits : Limits) (scale : Scale) (first : Level) (pieces : List Piece) → 0 < scale.ticks
    → total_of (holds_in pieces) < 2 ^ 64
    → told_of_pieces (begun_dial limits scale first) pieces
    ≡ told_of_runs limits scale OnHook 0 (runs_from first pieces)
