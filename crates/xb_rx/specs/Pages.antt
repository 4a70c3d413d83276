-- What is written of keys that are heard: the page of the keyings, or its differences from what was keyed, and lines
-- for what is doubtful of each, and for each key that stands in none.
use Rattle.std.specs.Prelude.{ℕ, ◌≡◌, ◌+◌, List, [], ◌∷◌, ◌++◌, length, map, Option, Some, None, Result, Ok, Err}
use Rattle.std.specs.Io.KnownBytes.{Appends}
use Rattle.std.specs.List.{flat_map}
use Rattle.xb_model.specs.Keyings.{keying}
use Rattle.xb_model.specs.declared.mark.Mark.{Mark}
use Rattle.xb_model.specs.Page.{entries_text, entry_text, totals_text}
use Rattle.xb_measured.specs.declared.heard.Heard.{Heard}
use Rattle.xb_text.specs.Writing.{AppendsBeginning}
use Rattle.xb_page.specs.Entries.{entry_with}
use Rattle.xb_rx.specs.Differences.{differences}
use Rattle.xb_rx.specs.Entries.{KeyedEntry}
use Rattle.xb_rx.specs.Keyed.{keyed_with}
use Rattle.xb_rx.specs.Placed.{Placed, numbers_of, placed}
use Rattle.xb_rx.specs.declared.page.Page.{Page}
use Rattle.xb_measured.specs.DoubtLines.{doubts_text, loose_line}
use Rattle.xb_measured.specs.Keyings.{Part, is_keying, is_loose, keyings, parts_of}

-- the lines of keys that stand in no keying
abbrev pub loose_lines : List Heard → List ℕ
loose_lines keys = flat_map loose_line keys

-- what is told of parts of keys, where the next entry has this number
unfoldable pub told_parts : ℕ → List Part → List ℕ
told_parts n [] = []
told_parts n (is_keying keys ∷ parts) = doubts_text n keys ++ told_parts (n + 1) parts
told_parts n (is_loose key ∷ parts) = loose_line key ++ told_parts n parts

-- what is told of keys
abbrev pub told_of : List Heard → List ℕ
told_of keys = told_parts 1 (parts_of keys)

-- what is left of the page of a line after so many entries
abbrev pub page_after : ℕ → ℕ → ℕ → List (List ℕ) → List ℕ
page_after line trunk count numbers =
    entries_text line (count + 1) (map (keying trunk) numbers) ++ totals_text (count + length numbers) 0

-- the page of keys: an entry of the line for each keying, by the trunk group, and the totals
abbrev pub page_of : ℕ → ℕ → List Heard → List ℕ
page_of line trunk keys = page_after line trunk 0 (keyings keys)

-- an entry with these marks that is heard so many ms from the first sample
abbrev pub heard_with : ℕ → ℕ → ℕ → List Mark → KeyedEntry
heard_with at line n marks = record (keyed_with (entry_with line n marks)) { at = Some at }

-- the keyed entries of a line that are heard after so many, each where its KP begins
abbrev pub heard_after : ℕ → ℕ → ℕ → List Placed → List KeyedEntry
heard_after line trunk count [] = []
heard_after line trunk count (keyed ∷ later) =
    heard_with keyed.at line (count + 1) (keying trunk keyed.digits) ∷ heard_after line trunk (count + 1) later

-- the keyings of keys as keyed entries: of line 0 and trunk group 0, as nothing is said of them
abbrev pub heard_entries : List Heard → List KeyedEntry
heard_entries keys = heard_after 0 0 0 (placed keys)

-- what is left to be written after so many entries: the rest of the page, or its differences from what is left of
-- what was keyed
abbrev pub text_after : Option (List KeyedEntry) → ℕ → ℕ → ℕ → List Placed → List ℕ
text_after None line trunk count later = page_after line trunk count (numbers_of later)
text_after (Some left) line trunk count later = differences left (heard_after line trunk count later)

-- what an entry that is heard then makes plain, and what is then left of what was keyed
abbrev pub IsTextOf : Option (List KeyedEntry) → Option (List KeyedEntry) → ℕ → ℕ → List Mark → ℕ → List ℕ → Type 0
IsTextOf None new line n marks at text = (new ≡ None) × (text ≡ entry_text line n marks)
IsTextOf (Some left) new line n marks at text =
    (next : List KeyedEntry) × (new ≡ Some next)
    × ((later : List KeyedEntry)
    → differences left (heard_with at line n marks ∷ later) ≡ text ++ differences next later)

-- what a page has so far: the line and the trunk group, how many entries there were, the keys of a keying that goes
-- on, and what is left of what was keyed, where it is compared
pub record Paged : Type 0 where
  pub line : ℕ
  pub trunk : ℕ
  pub count : ℕ
  pub begun : List Heard
  pub against : Option (List KeyedEntry)

abbrev pub paged : Page → Paged
paged page =
    record { line = page.line; trunk = page.trunk; count = page.count; begun = page.begun.items; against = page.against }

-- before the first key
abbrev pub fresh_page : ℕ → ℕ → Paged
fresh_page line trunk = record { line = line; trunk = trunk; count = 0; begun = []; against = None }

abbrev pub fresh_against : List KeyedEntry → Paged
fresh_against keyed = record { line = 0; trunk = 0; count = 0; begun = []; against = Some keyed }

-- what is still to be written of it and of later keyings, or keys
abbrev pub text_rest : Paged → List Placed → List ℕ
text_rest page later = text_after page.against page.line page.trunk page.count later

abbrev pub page_rest : Paged → List Heard → List ℕ
page_rest page later = text_rest page (placed (page.begun ++ later))

abbrev pub page_told : Paged → List Heard → List ℕ
page_told page later = told_parts (page.count + 1) (parts_of (page.begun ++ later))

-- of a text that is known as far as what comes later a writer got what leaves the second of the first; on an Err
-- it got the beginning
abbrev pub WritesOf : {F T : Type 0} → (T → List ℕ) → (T → List ℕ) → Result (Unit {0}) F
    → Option (List ℕ) → Option (List ℕ) → Type 0
WritesOf {T = T} before after (Ok u) old new =
    (bytes : List ℕ) × Appends old new bytes × ((later : T) → before later ≡ bytes ++ after later)
WritesOf {T = T} before after (Err f) old new = (later : T) → AppendsBeginning old new (before later)

abbrev pub Writes : {F : Type 0} → (List Heard → List ℕ) → (List Heard → List ℕ) → Result (Unit {0}) F
    → Option (List ℕ) → Option (List ℕ) → Type 0
Writes before after result old new = WritesOf before after result old new

-- all of a text was written, or on an Err the beginning
abbrev pub Ends : {F : Type 0} → List ℕ → Result (Unit {0}) F → Option (List ℕ) → Option (List ℕ) → Type 0
Ends text (Ok u) old new = Appends old new text
Ends text (Err f) old new = AppendsBeginning old new text
