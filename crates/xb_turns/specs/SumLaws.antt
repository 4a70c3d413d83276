-- What the digits of a line come to, piece by piece, is what all of them come to.
use Rattle.std.specs.Prelude.{ℕ, ◌≡◌, List, [], ◌∷◌}
use Rattle.std.specs.List.{flat_map}
use Rattle.xb_model.specs.declared.limits.Limits.{Limits}
use Rattle.xb_contact.specs.declared.level.Level.{Level}
use Rattle.xb_contact.specs.declared.scale.Scale.{Scale}
use Rattle.xb_turns.specs.declared.dial.Dial.{Dial}
use Rattle.xb_turns.specs.declared.dial.Said.{Said}
use Rattle.xb_turns.specs.declared.dial.Said.TheVariants.{Digit, HungUp}
use Rattle.xb_turns.specs.declared.windows.Windows.{Windows}
use Rattle.xb_turns.specs.declared.sums.Sums.{Sums}
use Rattle.xb_turns.specs.declared.train.Train.{Train}
use Rattle.xb_turns.specs.Dials.{begun_dial, dial_after, said_now}
use Rattle.xb_turns.specs.DialLaws.{Piece, told_of_pieces}
use Rattle.xb_turns.specs.Sums.{sums_after, sums_of}

-- the digits among what is told
abbrev pub digit_of : Said → List (Train × ℕ)
digit_of (Digit train bounce) = (train, bounce) ∷ []
digit_of (HungUp pulses) = []

abbrev pub digits_in : List Said → List (Train × ℕ)
digits_in told = flat_map digit_of told

-- what they come to as the pieces of a record come
abbrev pub sums_of_pieces : Windows → Scale → Dial → Sums → List Piece → Sums
sums_of_pieces windows scale dial sums [] = sums
sums_of_pieces windows scale dial sums (piece ∷ rest) =
    sums_of_pieces windows scale (dial_after dial piece.hold piece.bounce)
    (sums_after windows scale sums (said_now dial piece.hold piece.bounce)) rest

-- it is what all the digits come to that are told of the record
abbrev pub SumsAllDigits : Type 0
SumsAllDigits =
    (windows : Windows) (limits : Limits) (scale : Scale) (first : Level) (pieces : List Piece)
    → sums_of_pieces windows scale (begun_dial limits scale first) (sums_of windows scale []) pieces
    ≡ sums_of windows scale (digits_in (told_of_pieces (begun_dial limits scale first) pieces))
