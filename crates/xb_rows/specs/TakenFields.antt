-- What reading a field takes of a text.
use Rattle.std.specs.Prelude.{ℕ, ◌≡◌, ◌<◌, ◌≤◌, ◌++◌, Bool, true, false, List, [], ◌∷◌, length, Option, Some, None}
use Rattle.csv.specs.Machine.{next_record}
use Rattle.csv.specs.Reading.{default_config}
use Rattle.csv.specs.declared.parser.State.{State as CsvState}
use Rattle.csv.specs.declared.parser.State.TheVariants as csv_st
use Rattle.xb_rows.specs.ByteSteps.{csv_state}
use Rattle.xb_rows.specs.declared.kept.TheConstants.{MOST_FIELD_BYTES}
use Rattle.xb_rows.specs.declared.fields.FieldEnd.{FieldEnd}
use Rattle.xb_rows.specs.declared.fields.FieldEnd.TheVariants as end
use Rattle.xb_rows.specs.declared.machine.State.{State}

-- a fact of the bytes before a call and after it, where they are known
abbrev pub WhereKnown : Option (List ℕ) → Option (List ℕ) → (List ℕ → List ℕ → Type 0) → Type 0
WhereKnown None new P = Unit {0}
WhereKnown (Some text) None P = ⊥
WhereKnown (Some text) (Some rest) P = P text rest

-- a state inside a record, which ends at the end of the text at the latest
abbrev pub IsInside : CsvState → Type 0
IsInside csv_st.StartField = Unit {0}
IsInside csv_st.InField = Unit {0}
IsInside csv_st.InQuoted = Unit {0}
IsInside csv_st.AfterQuote = Unit {0}
IsInside csv_st.StartRecord = ⊥
IsInside csv_st.InEscape = ⊥
IsInside csv_st.InComment = ⊥
IsInside csv_st.AfterCr = ⊥

-- whatever fields came before, a record reads on here as it read there
abbrev pub ReadsOn : State → List ℕ → State → List ℕ → List ℕ → Type 0
ReadsOn s text s2 field rest =
    (fields : List (List ℕ)) → next_record default_config (csv_state s) fields [] text
    ≡ next_record default_config (csv_state s2) fields field rest

-- whatever fields came before, this is the next, and the record goes on after it
abbrev pub IsField : State → List ℕ → State → List ℕ → List ℕ → Type 0
IsField s text s2 field rest =
    (fields : List (List ℕ)) → next_record default_config (csv_state s) fields [] text
    ≡ next_record default_config (csv_state s2) (fields ++ field ∷ []) [] rest

-- whatever fields came before, this is the last
abbrev pub IsLastField : State → List ℕ → State → List ℕ → List ℕ → Type 0
IsLastField s text s2 field rest =
    (fields : List (List ℕ)) → next_record default_config (csv_state s) fields [] text
    ≡ Some (fields ++ field ∷ [], csv_state s2, rest)

-- what a call that reads a field from a state does: the state after it, the field, and how it ended; a long
-- field is left empty, and there is none where the text has no record more
abbrev pub TakesField : State → State → List ℕ → FieldEnd → List ℕ → List ℕ → Type 0
TakesField s s2 field end.Comma text rest =
    (length field ≤ MOST_FIELD_BYTES) × IsInside (csv_state s2) × IsField s text s2 field rest
TakesField s s2 field end.Record text rest =
    (length field ≤ MOST_FIELD_BYTES) × IsLastField s text s2 field rest
TakesField s s2 field end.Long text rest =
    (field ≡ []) × IsInside (csv_state s2)
    × (part : List ℕ) × (MOST_FIELD_BYTES < length part) × ReadsOn s text s2 part rest
TakesField s s2 field end.Nowhere text rest = next_record default_config (csv_state s) [] [] text ≡ None

-- whether no field is known to follow
abbrev pub is_last : FieldEnd → Bool
is_last end.Comma = false
is_last end.Nowhere = true
is_last end.Record = true
is_last end.Long = true
