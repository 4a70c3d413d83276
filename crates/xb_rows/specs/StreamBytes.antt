-- The bytes that a stream has left, where they are known.
use Rattle.std.specs.Prelude.{ℕ, ◌≡◌, ◌==◌, ◌&&◌, not, if◌then◌else◌, List, [], ◌∷◌, drop, take, Option, Some, None, Result, Ok, Err, option_map}
use Rattle.std.specs.Io.KnownBytes.{Consumes, IsAtEnd, Keeps, prepend_known}
use Rattle.csv.specs.Reading.{strip_bom}
use Rattle.xb_model.specs.declared.fault.RowFault.{RowFault}
use Rattle.xb_model.specs.declared.fault.RowFault.TheVariants as fault
use Rattle.xb_rows.specs.declared.stream_bytes.StreamBytes.{StreamBytes}

-- those in the buffer, and then those of the reader underneath
abbrev pub held_bytes : {R : Type 0} → (R → Option (List ℕ)) → StreamBytes R → Option (List ℕ)
held_bytes remaining s = prepend_known (drop s.at (take s.filled s.buffer)) (remaining s.reader)

-- the bytes that are left: at the beginning of a stream those after a byte order mark
abbrev pub bytes_left : {R : Type 0} → (R → Option (List ℕ)) → StreamBytes R → Option (List ℕ)
bytes_left remaining s =
    if not s.begun && (s.at == 0) && (s.filled == 0) then option_map strip_bom (remaining s.reader)
    else held_bytes remaining s

-- what a call gives of the bytes that were left: the next one, or that there is none
abbrev pub GivesByte : Option (List ℕ) → Result (Option ℕ) RowFault → Option (List ℕ) → Type 0
GivesByte old (Ok (Some byte)) new = Consumes old new (byte ∷ [])
GivesByte old (Ok None) new = IsAtEnd old × Keeps old new
GivesByte old (Err f) new = f ≡ fault.Read
