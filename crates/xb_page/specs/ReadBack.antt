-- What mfbank prints is read back.
use Rattle.std.specs.Prelude.{◌≡◌, ℕ, ◌+◌, ◌<◌, ◌≤◌, List, [], ◌∷◌, ◌++◌, length, Ok, Option, Some, None}
use Rattle.std.specs.List.{AllByRecursion}
use Rattle.xb_model.specs.declared.digit.TheConstants.{DIGITS}
use Rattle.xb_model.specs.declared.key.Key.{Key}
use Rattle.xb_model.specs.declared.key.Key.TheVariants.{Digit, Kp, St}
use Rattle.xb_model.specs.declared.line.TheConstants.{LINES}
use Rattle.xb_model.specs.declared.mark.Mark.{Mark}
use Rattle.xb_model.specs.declared.mark.Mark.TheVariants.{Trunk, Tone, Refused}
use Rattle.xb_model.specs.declared.trunk.TheConstants.{TRUNKS}
use Rattle.xb_model.specs.declared.reason.Reason.{Reason}
use Rattle.xb_model.specs.MfPairs.{mf_pair}
use Rattle.xb_model.specs.Page.{last_refusal, page_text}
use Rattle.xb_model.specs.Tapes.{entries_of}
use Rattle.xb_page.specs.Entries.{Entry, entry_with}
use Rattle.xb_page.specs.LineEnds.{lf_ended}
use Rattle.xb_page.specs.ReadPages.{entries_of_page}

abbrev pub IsKey : Key → Type 0
IsKey (Digit d) = d < DIGITS
IsKey Kp = Unit {0}
IsKey St = Unit {0}

-- a mark as there are: its numbers are in their ranges, and the pair of a key is its own
abbrev pub IsMark : Mark → Type 0
IsMark (Trunk t) = t < TRUNKS
IsMark (Tone key pair) = IsKey key × (pair ≡ mf_pair key)
IsMark (Refused reason heard) = heard < 256

abbrev pub AreMarks : List Mark → Type 0
AreMarks marks = AllByRecursion IsMark marks

-- what a page says of an entry: a refusal that ends it, else all its marks
abbrev pub said_by : List Mark → Option (Reason × ℕ) → List Mark
said_by entry None = entry
said_by entry (Some refusal) = Refused refusal.0 refusal.1 ∷ []

abbrev pub said_of : List Mark → List Mark
said_of entry = said_by entry (last_refusal entry)

-- the entries of a line, which count from n
abbrev pub entries_of_line : ℕ → ℕ → List (List Mark) → List Entry
entries_of_line line n [] = []
entries_of_line line n (entry ∷ entries) =
    entry_with line n (said_of entry) ∷ entries_of_line line (n + 1) entries

-- the entries of the tapes of the lines, from a line on
abbrev pub entries_of_tapes : ℕ → List (List Mark) → List Entry
entries_of_tapes line [] = []
entries_of_tapes line (marks ∷ tapes) =
    entries_of_line line 1 (entries_of marks) ++ entries_of_tapes (line + 1) tapes

-- what is read of the page of tapes are the entries that it was printed from
abbrev pub PagesAreReadBack : Type 0
PagesAreReadBack = (tapes : List (List Mark)) → length tapes ≤ LINES → AllByRecursion AreMarks tapes
    → entries_of_page (page_text tapes) ≡ Ok (entries_of_tapes 0 tapes)

-- they have no CR LF, so their lines are read as they are
abbrev pub PagesEndAtLf : Type 0
PagesEndAtLf = (tapes : List (List Mark)) → lf_ended (page_text tapes) ≡ page_text tapes
