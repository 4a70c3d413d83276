-- Whether entries come in the order of their times.
use Rattle.std.specs.Prelude.{ℕ, ◌≡◌, List, [], ◌∷◌, if◌then◌else◌, nat_lt, Option, Some, None}
use Rattle.xb_tone.specs.declared.entry.PlacedEntry.{PlacedEntry}

-- the text line of the first entry after a time whose time is before that of the one before it
abbrev pub early_after : ℕ → List PlacedEntry → Option ℕ
early_after at [] = None
early_after at (entry ∷ entries) =
    if nat_lt entry.at_ms at then Some entry.text_line else early_after entry.at_ms entries

abbrev pub early_line : List PlacedEntry → Option ℕ
early_line entries = early_after 0 entries

-- no entry comes before the one before it
abbrev pub AreInOrder : List PlacedEntry → Type 0
AreInOrder entries = early_line entries ≡ None

-- the time of the first entry
abbrev pub first_at : List PlacedEntry → ℕ
first_at [] = 0
first_at (entry ∷ entries) = entry.at_ms
