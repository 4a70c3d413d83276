-- The records that a stream has still to give, and what one read of a record gives. Each list is there where
-- the bytes of the stream are known.
use Rattle.std.specs.Prelude.{ℕ, ◌≡◌, ◌∷◌, [], List, Bool, true, false, Option, Some, Result, Ok, Err, IfSome, map, option_map}
use Rattle.xb_model.specs.declared.fault.RowFault.{RowFault}
use Rattle.xb_rows.specs.declared.record_reader.RecordReader.{RecordReader}
use Rattle.xb_rows.specs.ByteSteps.{csv_state}
use Rattle.xb_rows.specs.Kept.{AreWhole, StandFor}
use Rattle.xb_rows.specs.RowTexts.{Fields, ThreeFields}
use Rattle.xb_rows.specs.Scanning.{IsOfReader, records_of_bytes}
use Rattle.xb_rows.specs.StreamBytes.{bytes_left}
use Rattle.xb_rows.specs.Streams.{shown}

-- the records that a reader has still to give, as a stream has them
abbrev pub stream_left : {R : Type 0} → (R → Option (List ℕ)) → RecordReader R → Option (List Fields)
stream_left remaining r =
    option_map (map shown) (records_of_bytes (csv_state r.state) (bytes_left remaining r.bytes))

-- what one read of a record gives: what is kept stands for its fields, and where these are whole, the records
-- after it are left
abbrev pub TakesJudged :
    Option (List Fields) → Option (List Fields) → Option ThreeFields → Result Bool RowFault → Type 0
TakesJudged old new kept (Ok true) = IfSome old (λ left.
    (fields : Fields) × (later : List Fields) × (left ≡ fields ∷ later) × StandFor kept fields
    × (AreWhole kept → new ≡ Some later))
TakesJudged old new kept (Ok false) = IfSome old (λ left. left ≡ [])
TakesJudged old new kept (Err f) = IsOfReader f
