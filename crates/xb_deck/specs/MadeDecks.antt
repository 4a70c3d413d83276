-- Decks as they are made.
use Rattle.std.specs.Prelude.{ℕ, ◌≡◌, ◌++◌, List, [], ◌∷◌, codes, false, Some}
use Rattle.std.specs.List.{All}
use Rattle.xb_deck.specs.Deck.{deck_parts, ends_line, is_cut}

abbrev pub IsCutInto : List ℕ → List ℕ → List ℕ → Type 0
IsCutInto deck table rows = deck_parts deck ≡ Some (record { table = table; rows = rows })

-- lines, each with its LF
abbrev pub with_ends : List (List ℕ) → List ℕ
with_ends [] = []
with_ends (line ∷ lines) = line ++ codes "\n" ++ with_ends lines

-- lines that are not the cut
abbrev pub AreTableLines : List (List ℕ) → Type 0
AreTableLines [] = Unit {0}
AreTableLines (line ∷ lines) = (is_cut line ≡ false) × All (λ byte. ends_line byte ≡ false) line
    × AreTableLines lines

-- the deck of a table's lines and of the text of rows
abbrev pub made_deck : List (List ℕ) → List ℕ → List ℕ
made_deck lines rows = with_ends lines ++ codes "---\n" ++ rows

-- a table, the line that cuts, and rows are cut into the table and the rows, whatever the rows are
abbrev pub MadeDecksAreCut : Type 0
MadeDecksAreCut = (lines : List (List ℕ)) (rows : List ℕ) → AreTableLines lines
    → IsCutInto (made_deck lines rows) (with_ends lines) rows
