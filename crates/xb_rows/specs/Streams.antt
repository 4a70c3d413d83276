-- What a stream of rows gives: its records are told before their end, where it may never come.
use Rattle.std.specs.Prelude.{ℕ, ◌≡◌, ◌⊎◌, ◌++◌, if◌then◌else◌, nat_lt, List, [], ◌∷◌, Bool, false, None, length, map, take}
use Rattle.std.specs.List.{All, list_any}
use Rattle.csv.specs.Reading.{default_config, records, strip_bom}
use Rattle.xb_model.specs.Sources.{Rest}
use Rattle.xb_rows.specs.declared.kept.TheConstants.{MOST_FIELD_BYTES}
use Rattle.xb_rows.specs.RowTexts.{Fields, rest_of_records, rest_within}

-- whether a field is longer than one that is waited for
abbrev pub is_long : List ℕ → Bool
is_long field = nat_lt MOST_FIELD_BYTES (length field)

-- whether one of the first three fields of a record is
abbrev pub has_long : Fields → Bool
has_long fields = list_any is_long (take 3 fields)

-- the fields of a record by which it is judged in a stream: where one of its first three is long, these
-- alone, a missing one being empty, since what follows the long one may never end; else all
abbrev pub shown : Fields → Fields
shown fields = if has_long fields then take 3 (fields ++ [] ∷ [] ∷ []) else fields

-- a stream of this text, where at most so many records may follow the header
abbrev pub rest_of_stream : ℕ → List ℕ → Rest
rest_of_stream most text = rest_of_records most (map shown (records default_config (strip_bom text)))

-- no field is long among the first three of a record, or it has three
abbrev pub IsPlainlyJudged : Fields → Type 0
IsPlainlyJudged fields = (has_long fields ≡ false) ⊎ (length fields ≡ 3)

-- a record is judged otherwise in a stream than in a text only where one of its first three fields is long,
-- and it has not three; and where all records of either are rows, the other has the same
pub record StreamsAreTexts : Type 0 where
  pub record_same : (fields : Fields) → IsPlainlyJudged fields → shown fields ≡ fields
  pub text_same : (most : ℕ) (text : List ℕ)
      → All IsPlainlyJudged (records default_config (strip_bom text))
      → rest_of_stream most text ≡ rest_within most text
  pub rows_same : (most : ℕ) (text : List ℕ)
      → ((rest_of_stream most text).stop ≡ None) ⊎ ((rest_within most text).stop ≡ None)
      → rest_of_stream most text ≡ rest_within most text
