-- What is written of a deck whose line sounds.
use Rattle.std.specs.Prelude.{ℕ, ◌≡◌, ◌≤◌, ◌^◌, ◌⊎◌, List, length, Option, Some, None, IfSome, Result, Ok, Err}
use Rattle.std.specs.Io.KnownBytes.{Appends, Keeps}
use mathlib.Core.List.{IsPrefix}
use Rattle.xb_model.specs.Rows.{LoopRow}
use Rattle.xb_model.specs.Sources.{Rest}
use Rattle.xb_deck.specs.declared.deck.TheConstants.{MOST_DECK_BYTES}
use Rattle.xb_deck.specs.declared.table.TableFault.TheVariants as table_fault
use Rattle.xb_deck.specs.Deck.{Parts, deck_parts}
use Rattle.xb_deck.specs.Tables.{IsTableFault}
use Rattle.xb_routes.specs.Table.{Table}
use Rattle.xb_routes.specs.Text.{table_of_text}
use Rattle.xb_sound.specs.declared.cadence.Cadence.{Cadence}
use Rattle.xb_sound.specs.Cadences.{IsFirstMisfit, IsLawful}
use Rattle.xb_text.specs.Writing.{AppendsBeginning}
use Rattle.xb_live.specs.declared.fault.LiveFault.{LiveFault}
use Rattle.xb_live.specs.declared.fault.LiveFault.TheVariants as fault
use Rattle.xb_live.specs.Decks.{Has}
use Rattle.xb_live.specs.Sounding.{sound_of_rows, whole_of_rows}
use Rattle.xb_live.specs.Starting.{Asked, given_up_asked}

-- the cadence is judged before the deck: it is lawful, unless its own first misfit is told
abbrev pub JudgesCadence : Cadence → Result ℕ LiveFault → Type 0
JudgesCadence cadence (Err (fault.Cadence f)) = IsFirstMisfit cadence f
JudgesCadence cadence result = IsLawful cadence

-- a writer got the samples of the first of these rows, and nothing more
abbrev pub SoundsFirst : Asked → Cadence → Table → List LoopRow → Option (List ℕ) → Option (List ℕ) → Type 0
SoundsFirst asked cadence table rows old new =
    (first : List LoopRow) × IsPrefix first rows × Appends old new (sound_of_rows asked cadence table first)

-- a writer got the beginning of all that is heard of rows that end
abbrev pub SoundsBeginning : Asked → Cadence → Table → List LoopRow → Option (List ℕ) → Option (List ℕ) → Type 0
SoundsBeginning asked cadence table rows old new = AppendsBeginning old new (whole_of_rows asked cadence table rows)

-- what was written of rows and the stop after them: where they end, their samples and what waits after them, and it is
-- returned how many keyings are given up; where a
-- fault stops them, exactly their samples; where samples were not written, the beginning of these; else the samples of
-- the first of them
abbrev pub SoundsRest :
    Asked → Cadence → Table → Rest → Result ℕ LiveFault → Option (List ℕ) → Option (List ℕ) → Type 0
SoundsRest asked cadence table rest (Ok n) old new = (rest.stop ≡ None) × (n ≡ given_up_asked table asked rest.rows)
    × Appends old new (whole_of_rows asked cadence table rest.rows)
SoundsRest asked cadence table rest (Err (fault.Rows f)) old new =
    (rest.stop ≡ Some f) × Appends old new (sound_of_rows asked cadence table rest.rows)
SoundsRest asked cadence table rest (Err (fault.Sound f)) old new =
    SoundsBeginning asked cadence table rest.rows old new
SoundsRest asked cadence table rest (Err (fault.Deck table_fault.Read)) old new =
    SoundsFirst asked cadence table rest.rows old new
SoundsRest asked cadence table rest (Err (fault.Deck table_fault.NoMemory)) old new =
    SoundsFirst asked cadence table rest.rows old new
SoundsRest asked cadence table rest (Err fault.TooMany) old new =
    (2 ^ 63 ≤ length rest.rows) × SoundsFirst asked cadence table rest.rows old new
SoundsRest asked cadence table rest (Err f) old new = ⊥

-- what may be returned for rows that are not known
abbrev pub EndsSound : Result ℕ LiveFault → Type 0
EndsSound (Err (fault.Deck table_fault.NoCut)) = ⊥
EndsSound (Err (fault.Deck (table_fault.TooLong most))) = ⊥
EndsSound (Err (fault.Routes f)) = ⊥
EndsSound (Err (fault.Cadence f)) = ⊥
EndsSound result = Unit {0}

-- what was written of rows that may be known
abbrev pub SoundsRows :
    Asked → Cadence → Table → Option Rest → Result ℕ LiveFault → Option (List ℕ) → Option (List ℕ) → Type 0
SoundsRows asked cadence table None result old new = EndsSound result
SoundsRows asked cadence table (Some rest) result old new = SoundsRest asked cadence table rest result old new

-- what was written of a deck: what its table and its rows say
abbrev pub SoundsTable :
    Asked → Cadence → List ℕ → Result ℕ LiveFault → Option (List ℕ) → Option (List ℕ) → Type 0
SoundsTable asked cadence deck result old new =
    (table : Table) × ((rest : Rest) × Has deck table rest × SoundsRest asked cadence table rest result old new)

-- what is returned for a deck, and what the writer got of it
abbrev pub SoundsDeck :
    Asked → Cadence → Option (List ℕ) → Result ℕ LiveFault → Option (List ℕ) → Option (List ℕ) → Type 0
SoundsDeck asked cadence input (Err (fault.Cadence f)) old new = Keeps old new
SoundsDeck asked cadence input (Err (fault.Deck table_fault.NoCut)) old new =
    Keeps old new × IsTableFault MOST_DECK_BYTES input table_fault.NoCut
SoundsDeck asked cadence input (Err (fault.Deck (table_fault.TooLong most))) old new =
    Keeps old new × IsTableFault MOST_DECK_BYTES input (table_fault.TooLong most)
SoundsDeck asked cadence input (Err (fault.Deck f)) old new =
    Keeps old new ⊎ IfSome input (λ deck. SoundsTable asked cadence deck (Err (fault.Deck f)) old new)
SoundsDeck asked cadence input (Err (fault.Routes f)) old new = Keeps old new × IfSome input (λ deck.
    (parts : Parts) × (deck_parts deck ≡ Some parts) × (table_of_text parts.table ≡ Err f))
SoundsDeck asked cadence input result old new = IfSome input (λ deck. SoundsTable asked cadence deck result old new)
