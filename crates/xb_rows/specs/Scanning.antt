-- What a reader of rows has still to give, and what one step of it does. Each list is there where the
-- bytes of the reader are known.
use Rattle.std.specs.Prelude.{ℕ, ◌+◌, ◌≡◌, ◌<◌, ◌⊎◌, List, ◌∷◌, [], length, Bool, true, false, Option, Some, None, Result, Ok, Err, IfSome, IsSome, option_map, ◌^◌, ◌-◌}
use denote.Ref.{Bor}
use Rattle.csv.specs.Reading.{Ready, default_config, is_flexible, reader_config, reader_state, reader_trim, records_from, source_of}
use Rattle.csv.specs.declared.reader.Reader.{Reader}
use Rattle.csv.specs.declared.reader.Trim.TheVariants as trim
use Rattle.csv.specs.declared.parser.State.{State}
use Rattle.xb_rows.specs.declared.place.Place.{Place}
use Rattle.xb_rows.specs.declared.place.Place.TheVariants as place
use Rattle.xb_rows.specs.declared.scan.TheConstants.{MOST_RECORDS}
use Rattle.xb_model.specs.declared.fault.RowFault.{RowFault}
use Rattle.xb_model.specs.declared.fault.RowFault.TheVariants as fault
use Rattle.xb_model.specs.Sources.{Gives, Rest, told}
use Rattle.xb_model.specs.Rows.{LoopRow}
use Rattle.xb_rows.specs.RowTexts.{Fields, fault_alone, rest_from, rest_of_records, row_and_rest, stop_alone}

-- a reader that gives every record of its text, as it stands
abbrev pub IsGoing : {R : Type 0} → Reader R → Type 0
IsGoing r =
    (reader_trim r ≡ trim.None) × (reader_config r ≡ default_config) × (is_flexible r ≡ true) × Ready r

-- the records of bytes, from a state on
unfoldable pub records_of_bytes : State → Option (List ℕ) → Option (List Fields)
records_of_bytes s None = None
records_of_bytes s (Some bytes) = Some (records_from default_config (length bytes + 1) s bytes)

-- the records that a reader has still to give
abbrev pub records_left : {R : Type 0} → (R → Option (List ℕ)) → Reader R → Option (List Fields)
records_left remaining r = records_of_bytes (reader_state r) (source_of remaining r)

-- the reader failed, or memory ran out
abbrev pub IsOfReader : RowFault → Type 0
IsOfReader f = (f ≡ fault.Read) ⊎ (f ≡ fault.NoMemory)

-- the fault that stops the rest, or one of the reader
abbrev pub StopsBy : Rest → RowFault → Type 0
StopsBy rest f = (rest ≡ fault_alone f) ⊎ IsOfReader f

-- what one read of a record gives
abbrev pub TakesRecord : Option (List Fields) → Option (List Fields) → Fields → Result Bool RowFault → Type 0
TakesRecord old new fields (Ok true) =
    IfSome old (λ left. (later : List Fields) × (new ≡ Some later) × (left ≡ fields ∷ later))
TakesRecord old new fields (Ok false) = IfSome old (λ left. left ≡ [])
TakesRecord old new fields (Err f) = IsOfReader f

-- what reading the header gives
abbrev pub TakesHeader :
    ℕ → Option (List Fields) → Option (List Fields) → Result (Unit {0}) RowFault → Type 0
TakesHeader most old new (Ok u) = IfSome old (λ left.
    (later : List Fields) × (new ≡ Some later) × (rest_of_records most left ≡ rest_from most 1 later))
TakesHeader most old new (Err f) = IfSome old (λ left. StopsBy (rest_of_records most left) f)

-- what reading a record after so many gives, where this rest was to come
abbrev pub TakesRow :
    ℕ → ℕ → Option Rest → Option (List Fields) → Result (Option LoopRow) RowFault → Type 0
TakesRow most taken old new (Ok (Some row)) = (taken < most) × IfSome old (λ rest.
    (later : List Fields) × (new ≡ Some later)
    × (rest ≡ row_and_rest (Ok row) (rest_from most (taken + 1 + 1) later)))
TakesRow most taken old new (Ok None) = IfSome old (λ rest. rest ≡ stop_alone None)
TakesRow most taken old new (Err f) = IfSome old (λ rest. StopsBy rest f)

-- a step took a row, and so many records are fewer than may follow the header
abbrev pub CanCount : ℕ → Result (Option LoopRow) RowFault → Type 0
CanCount taken (Ok (Some row)) = taken < 2 ^ 64 - 1
CanCount taken (Ok None) = Unit {0}
CanCount taken (Err f) = Unit {0}

-- where a reader stands after a step from the place after so many records
abbrev pub place_after : ℕ → Result (Option LoopRow) RowFault → Place
place_after taken (Ok (Some row)) = place.After (taken + 1)
place_after taken (Ok None) = place.Stopped None
place_after taken (Err f) = place.Stopped (Some f)

-- where a reader stands that was to read the last of so many records again: there, or memory ran out
abbrev pub place_resumed : ℕ → Result Bool RowFault → Place
place_resumed taken (Ok true) = place.After taken
place_resumed taken (Ok false) = place.Stopped (Some fault.NoMemory)
place_resumed taken (Err f) = place.Stopped (Some fault.NoMemory)

-- what is still to come at this place, where these records are left
abbrev pub rest_at : ℕ → Place → Option (List Fields) → Option Rest
rest_at most place.Header left = option_map (rest_of_records most) left
rest_at most (place.After taken) left = option_map (rest_from most (taken + 1)) left
rest_at most (place.Stopped stop) left = Some (told stop)

-- where records are still to come, the reader gives them
abbrev pub CanGo : {R : Type 0} → Place → Reader R → Type 0
CanGo place.Header r = IsGoing r
CanGo (place.After taken) r = IsGoing r
CanGo (place.Stopped stop) r = Unit {0}

-- a read failed, which stops the rows for good
abbrev pub FailsToRead : Rest → Result (Option LoopRow) RowFault → Rest → Type 0
FailsToRead old result new =
    (old.may_allocate ≡ true) × (result ≡ Err fault.Read) × (new ≡ told (Some fault.Read))

-- one call of a reader of rows: what a source of this rest gives, or that a read failed; of unknown bytes
-- this much is known, that an end or a fault is told for good
abbrev pub GivesRead : Option Rest → Result (Option LoopRow) RowFault → Option Rest → Type 0
GivesRead (Some old) result (Some new) = Gives old result new ⊎ FailsToRead old result new
GivesRead (Some old) result None = ⊥
GivesRead None (Ok (Some row)) new = Unit {0}
GivesRead None (Ok None) new = new ≡ Some (told None)
GivesRead None (Err f) new = new ≡ Some (told (Some f))

-- what a step gives of a slice, which does not fail: so memory ran out
abbrev pub of_slice : Result (Option LoopRow) RowFault → Result (Option LoopRow) RowFault
of_slice (Err fault.Read) = Err fault.NoMemory
of_slice step = step

-- a reader over a text
abbrev pub TextReader : Type 0
TextReader = Reader (Bor (List ℕ))

-- the records that such a reader has still to give
abbrev pub text_left : TextReader → Option (List Fields)
text_left r = records_left (λ (s : Bor (List ℕ)). Some s.now) r

-- what is there; else an end
abbrev pub rest_known : Option Rest → Rest
rest_known None = told None
rest_known (Some rest) = rest

-- what a scan at this place, with this reader, has still to give
abbrev pub rest_of_scan : Place → TextReader → Rest
rest_of_scan place r = rest_known (rest_at MOST_RECORDS place (text_left r))

-- a scan can go on, and its bytes are known
abbrev pub IsScanning : Place → TextReader → Type 0
IsScanning place r = CanGo place r × IsSome (rest_at MOST_RECORDS place (text_left r))
