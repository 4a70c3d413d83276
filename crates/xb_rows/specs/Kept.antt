-- What is kept of a record, and what it says of the record.
use Rattle.std.specs.Prelude.{ℕ, ◌≡◌, if◌then◌else◌, [], ◌∷◌, Bool, Option, Some, None}
use Rattle.xb_rows.specs.declared.kept.Kept.{Kept}
use Rattle.xb_rows.specs.RowTexts.{Fields, ThreeFields, is_header, row_of_fields, three_fields}

-- these three, where a record is judged by three
abbrev pub three_if : Bool → ThreeFields → Option ThreeFields
three_if are_three t = if are_three then Some t else None

-- the three fields that are kept, where the record is judged by three
abbrev pub kept_fields : Kept → Option ThreeFields
kept_fields kept = three_if kept.are_three (kept.line.items, kept.contact.items, kept.ms.items)

-- three fields of which the last is not empty, as those of the header and of a row are
abbrev pub AreWhole : Option ThreeFields → Type 0
AreWhole None = ⊥
AreWhole (Some (a, b, [])) = ⊥
AreWhole (Some (a, b, x ∷ c)) = Unit {0}

-- what is kept of a record says the same of it as its fields: whether it is the header, and as which row or
-- fault it is judged
pub record StandFor (kept : Option ThreeFields) (fields : Fields) : Type 0 where
  pub header : is_header (three_fields fields) ≡ is_header kept
  pub row : (n : ℕ) → row_of_fields n (three_fields fields) ≡ row_of_fields n kept
