-- The table of a deck that comes as a stream, whose bytes may be known.
use Rattle.std.specs.Prelude.{ℕ, ◌≡◌, ◌<◌, ◌+◌, ◌++◌, List, [], ◌∷◌, length, Option, Some, None, IfSome, Result, Ok, Err, option_map}
use Rattle.std.specs.Io.KnownBytes.{Consumes, IsAtEnd}
use Rattle.xb_deck.specs.Deck.{deck_parts, with_earlier}
use Rattle.xb_deck.specs.declared.table.TableFault.{TableFault}
use Rattle.xb_deck.specs.declared.table.TableFault.TheVariants as fault

-- one byte was read, or none at the end
abbrev pub ReadsByte : Option (List ℕ) → Option (List ℕ) → Result (Option ℕ) TableFault → Type 0
ReadsByte old new (Ok (Some byte)) = Consumes old new (byte ∷ [])
ReadsByte old new (Ok None) = Consumes old new [] × IsAtEnd new
ReadsByte old new (Err f) = f ≡ fault.Read

-- a deck is this table, the line that cuts, and the rows that are left
abbrev pub IsCutAfter : List ℕ → Option (List ℕ) → Option (List ℕ) → Type 0
IsCutAfter table None left = Unit {0}
IsCutAfter table (Some deck) None = ⊥
IsCutAfter table (Some deck) (Some rows) = deck_parts deck ≡ Some (record { table = table; rows = rows })

-- why a deck gave no table: it has no cut; or the table is longer than this, or the deck is and has no cut;
-- or a read failed, or memory ran out
abbrev pub IsTableFault : ℕ → Option (List ℕ) → TableFault → Type 0
IsTableFault most old fault.NoCut = IfSome old (λ deck. deck_parts deck ≡ None)
IsTableFault most old (fault.TooLong limit) = (limit ≡ most) × IfSome old (λ deck.
    (most < length deck) × IfSome (deck_parts deck) (λ parts. most < length parts.table))
IsTableFault most old fault.Read = Unit {0}
IsTableFault most old fault.NoMemory = Unit {0}

-- so far a deck is the lines of its table, a line that has not ended, and what is left
abbrev pub IsReadSoFar : Option (List ℕ) → List ℕ → List ℕ → Option (List ℕ) → Type 0
IsReadSoFar None table line left = Unit {0}
IsReadSoFar (Some deck) table line None = ⊥
IsReadSoFar (Some deck) table line (Some rest) =
    (deck_parts deck ≡ option_map (with_earlier table) (deck_parts (line ++ rest)))
    × (length deck ≡ length table + length line + length rest)
