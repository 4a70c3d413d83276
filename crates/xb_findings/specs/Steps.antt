-- How text lines are taken, one after the other.
use Rattle.std.specs.Prelude.{ℕ, ◌≡◌, ◌+◌, List, ◌∷◌, ◌++◌, map}
use Rattle.xb_findings.specs.declared.row_lines.LinesRead.{LinesRead}
use Rattle.xb_findings.specs.declared.row_lines.RowsPart.{RowsPart}
use Rattle.xb_findings.specs.declared.row_lines.RowsPart.TheVariants as part
use Rattle.xb_findings.specs.DeckFaults.{faults_of_lines, faults_of_records}
use Rattle.xb_findings.specs.Findings.{Found}
use Rattle.xb_findings.specs.Kept.{Kept, firsts_of_records, kept_line_of, kept_of_lines, seen_of}
use Rattle.xb_findings.specs.Tallies.{Tallied, tallied, with_all}
use Rattle.xb_findings.specs.Records.{closed_of}

-- what is told of text lines, and which of them are kept
pub record Lines : Type 0 where
  pub tally : Tallied
  pub kept : List Kept

abbrev pub lines_of : LinesRead → Lines
lines_of lines = record { tally = tallied lines.tally; kept = map kept_line_of lines.kept.items }

-- what is wrong in the text lines from n on, of a part of the rows
abbrev pub faults_after : RowsPart → ℕ → List (List ℕ) → List Found
faults_after part.Header n lines = faults_of_lines n lines
faults_after (part.Records closes seen told) n lines = faults_of_records (closed_of closes) told n lines

-- those of them that are kept
abbrev pub kept_after : RowsPart → ℕ → List (List ℕ) → List Kept
kept_after part.Header n lines = kept_of_lines n lines
kept_after (part.Records closes seen told) n lines = firsts_of_records (seen_of seen) n lines

-- text line n of a part is taken, whatever lines come after it
abbrev pub TakesLine : RowsPart → ℕ → List ℕ → Lines → Lines → RowsPart → Type 0
TakesLine old n text before after new = (later : List (List ℕ))
    → (with_all before.tally (faults_after old n (text ∷ later)) ≡ with_all after.tally (faults_after new (n + 1) later))
    × (before.kept ++ kept_after old n (text ∷ later) ≡ after.kept ++ kept_after new (n + 1) later)
