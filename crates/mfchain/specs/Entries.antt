-- The line of an entry, as text for C.
use Rattle.std.specs.Prelude.{◌≡◌, ◌≢◌, ◌⊎◌, ℕ, ◌<◌, List, [], ◌∷◌, ◌++◌, codes, length}
use Rattle.xb_structs.specs.declared.mark.PlainMark.{PlainMark}
use Rattle.xb_structs.specs.EntryLines.{MayBeEntry, line_in}
use Rattle.mfchain.specs.declared.status.TheConstants.{NO_ROOM, WRONG_MARKS}
use Rattle.mfchain.specs.Texts.{HasText}

-- they are some marks, no more than an entry may have, each of a kind that a mark has
abbrev pub AreMarks : List PlainMark → Type 0
AreMarks marks = (marks ≢ []) × MayBeEntry marks

-- the page's line of entry n that these marks are, on the line of the first
abbrev pub entry_line : ℕ → List PlainMark → List ℕ
entry_line n [] = []
entry_line n (first ∷ more) = line_in first.line n (first ∷ more)

-- the text of the line, but its LF, is in the room
pub record PrintsEntry (n : ℕ) (marks : List PlainMark) (room : List ℕ) : Type 0 where
  pub are : AreMarks marks
  pub text : List ℕ
  pub is : text ++ codes "\n" ≡ entry_line n marks
  pub has : HasText text room

-- these are no marks of an entry, or there is too little room for its line, with a zero in place of its LF
abbrev pub IsNotPrinted : ℕ → List PlainMark → List ℕ → ℕ → Type 0
IsNotPrinted n marks room status =
    (status ≡ WRONG_MARKS) × (AreMarks marks → ⊥)
    ⊎ (status ≡ NO_ROOM) × AreMarks marks × (length room < length (entry_line n marks))

-- the status says why the entry is not printed, and the room is as it was
pub record DoesNotPrint (n : ℕ) (marks : List PlainMark) (room given : List ℕ) (status : ℕ) : Type 0 where
  pub why : IsNotPrinted n marks room status
  pub same : given ≡ room
