-- What is written of entries that lie in time.
use Rattle.std.specs.Prelude.{◌≡◌, ◌⊎◌, ℕ, ◌^◌, ◌<◌, ◌≤◌, ◌==◌, ◌&&◌, List, [], Bool, true, false, length, Option, Some, Result, Ok, Err, IfSome, codes}
use Rattle.std.specs.Io.KnownBytes.{Appends, Keeps}
use Rattle.std.specs.List.{filter, list_any}
use Rattle.xb_text.specs.Writing.{AppendsBeginning}
use Rattle.xb_sound.specs.Wavs.{wav_length}
use Rattle.xb_tone.specs.declared.entry.PlacedEntry.{PlacedEntry}
use Rattle.xb_tone.specs.declared.text.TheConstants.{MOST_TEXT_BYTES}
use Rattle.xb_tone.specs.Cuts.{lines_of_cuts}
use Rattle.xb_tone.specs.Entries.{is_keyed}
use Rattle.xb_tone.specs.Sounds.{bytes_of, sound_at}
use Rattle.xb_tone.specs.Texts.{entries_of_text}
use Rattle.xb_tone.specs.Times.{AreInOrder, early_line}
use Rattle.xb_tone.specs.declared.at_fault.AtFault.TheVariants as at_fault
use Rattle.xb_tone.specs.declared.fault.ToneFault.{ToneFault}
use Rattle.xb_tone.specs.declared.fault.ToneFault.TheVariants as fault
use Rattle.xb_tone.specs.declared.request.Choice.{Choice}
use Rattle.xb_tone.specs.declared.request.Choice.TheVariants as choice
use Rattle.xb_tone.specs.declared.request.Request.{Request}

-- whether an entry is asked for
abbrev pub is_asked : Choice → PlacedEntry → Bool
is_asked choice.All entry = true
is_asked (choice.Line line) entry = entry.line == line
is_asked (choice.Entry line number) entry = entry.line == line && entry.number == number

-- whether it is asked for and keyed
abbrev pub sounds_at : Choice → PlacedEntry → Bool
sounds_at choice entry = is_asked choice entry && is_keyed entry

-- the keyed entries that are asked for, in order
abbrev pub entries_chosen : Choice → List PlacedEntry → List PlacedEntry
entries_chosen choice entries = filter (λ entry. sounds_at choice entry) entries

-- the entries that a text tells of what is asked for
pub record Places (choice : Choice) (text : List ℕ) (entries : List PlacedEntry) : Type 0 where
  pub all : List PlacedEntry
  pub are_told : entries_of_text text ≡ Ok all
  pub are_chosen : entries ≡ entries_chosen choice all

-- none of those that it tells is asked for
pub record PlacesNone (choice : Choice) (text : List ℕ) : Type 0 where
  pub all : List PlacedEntry
  pub are_told : entries_of_text text ≡ Ok all
  pub none : list_any (λ entry. is_asked choice entry) all ≡ false

-- one of them, told by this text line, is before the one before it
pub record PlacesEarly (choice : Choice) (text : List ℕ) (n : ℕ) : Type 0 where
  pub entries : List PlacedEntry
  pub placed : Places choice text entries
  pub early : early_line entries ≡ Some n

-- the program's name
abbrev pub program : List ℕ
program = codes "mftone"

-- the sound of what a text tells of what is asked for, which is some, each entry at its time; and the lines that tell
-- which of them cut the one before it
pub record SoundsAt (request : Request) (text bytes told : List ℕ) : Type 0 where
  pub entries : List PlacedEntry
  pub placed : Places request.choice text entries
  pub some : 0 < length entries
  pub order : AreInOrder entries
  pub are_bytes : bytes ≡ bytes_of request.raw request.cadence entries
  pub are_told : told ≡ lines_of_cuts program request.cadence entries

-- a file of it would be too long
pub record IsTooLongAt (request : Request) (text told : List ℕ) : Type 0 where
  pub entries : List PlacedEntry
  pub placed : Places request.choice text entries
  pub long : 2 ^ 32 ≤ wav_length (sound_at request.cadence entries)
  pub are_told : told ≡ lines_of_cuts program request.cadence entries

-- memory ran out, or this is the fault of the reading
abbrev pub IsFaultOfReading : Option (List ℕ) → ToneFault → Type 0
IsFaultOfReading text (fault.At at_fault.Read) = Unit {0}
IsFaultOfReading text (fault.At at_fault.TooLong) = IfSome text (λ bytes. MOST_TEXT_BYTES < length bytes)
IsFaultOfReading text f = f ≡ fault.NoMemory

-- memory ran out, or this is the fault of the text
abbrev pub IsFaultOfEntries : Choice → List ℕ → ToneFault → Type 0
IsFaultOfEntries choice text (fault.At (at_fault.TextLine n f)) = entries_of_text text ≡ Err (n, f)
IsFaultOfEntries choice text (fault.At at_fault.NoEntry) = PlacesNone choice text
IsFaultOfEntries choice text (fault.At (at_fault.Early n)) = PlacesEarly choice text n
IsFaultOfEntries choice text fault.Refused = Places choice text []
IsFaultOfEntries choice text f = f ≡ fault.NoMemory

-- the lines of what is cut were told; or not, or their beginning
abbrev pub TellsCuts : List ℕ → Result (Unit {0}) ToneFault → Option (List ℕ) → Option (List ℕ) → Type 0
TellsCuts told (Ok u) old new = Appends old new told
TellsCuts told (Err f) old new =
    ((f ≡ fault.NoMemory) × Keeps old new) ⊎ ((f ≡ fault.At at_fault.Untold) × AppendsBeginning old new told)

-- what is returned for a text, and what the writer of the sound and that of the lines got of it: all on Ok, the beginning
-- of the sound where a write failed or memory ran out in it, and else no sound; lines are told before it
abbrev pub DeliversAt : Request → Option (List ℕ) → Result (Unit {0}) ToneFault
    → Option (List ℕ) → Option (List ℕ) → Option (List ℕ) → Option (List ℕ) → Type 0
DeliversAt request text (Ok u) old new errors told =
    IfSome text (λ text. (bytes : List ℕ) × (lines : List ℕ) × SoundsAt request text bytes lines
    × Appends old new bytes × Appends errors told lines)
DeliversAt request text (Err fault.Write) old new errors told =
    IfSome text (λ text. (bytes : List ℕ) × (lines : List ℕ) × SoundsAt request text bytes lines
    × AppendsBeginning old new bytes × Appends errors told lines)
DeliversAt request text (Err fault.CutShort) old new errors told =
    IfSome text (λ text. (bytes : List ℕ) × (lines : List ℕ) × SoundsAt request text bytes lines
    × AppendsBeginning old new bytes × Appends errors told lines)
DeliversAt request text (Err fault.TooLongSound) old new errors told =
    Keeps old new × IfSome text (λ text. (lines : List ℕ) × IsTooLongAt request text lines × Appends errors told lines)
DeliversAt request text (Err (fault.At at_fault.Untold)) old new errors told =
    Keeps old new × IfSome text (λ text. (bytes : List ℕ) × (lines : List ℕ) × SoundsAt request text bytes lines
    × AppendsBeginning errors told lines)
DeliversAt request text (Err (fault.At at_fault.Read)) old new errors told = Keeps old new × Keeps errors told
DeliversAt request text (Err (fault.At at_fault.TooLong)) old new errors told =
    Keeps old new × Keeps errors told × IfSome text (λ text. MOST_TEXT_BYTES < length text)
DeliversAt request text (Err (fault.At (at_fault.TextLine n f))) old new errors told =
    Keeps old new × Keeps errors told × IfSome text (λ text. entries_of_text text ≡ Err (n, f))
DeliversAt request text (Err (fault.At at_fault.NoEntry)) old new errors told =
    Keeps old new × Keeps errors told × IfSome text (λ text. PlacesNone request.choice text)
DeliversAt request text (Err (fault.At (at_fault.Early n))) old new errors told =
    Keeps old new × Keeps errors told × IfSome text (λ text. PlacesEarly request.choice text n)
DeliversAt request text (Err fault.Refused) old new errors told =
    Keeps old new × Keeps errors told × IfSome text (λ text. Places request.choice text [])
DeliversAt request text (Err fault.NoMemory) old new errors told = Keeps old new × Keeps errors told
DeliversAt request text (Err (fault.Cadence f)) old new errors told = Keeps old new × Keeps errors told
DeliversAt request text (Err f) old new errors told = ⊥
