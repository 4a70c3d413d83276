-- What is suspicious in a deck that is taken, beside what its text lines have by themselves.
use Rattle.std.specs.Prelude.{ℕ, List, ◌++◌, Bool, if◌then◌else◌, Option, Some, None}
use Rattle.std.specs.List.{flat_map}
use Rattle.xb_deck.specs.Contents.{Contents}
use Rattle.xb_doubts.specs.declared.units.Unit.{Unit}
use Rattle.xb_doubts.specs.declared.units.Unit.TheVariants as unit
use Rattle.xb_doubts.specs.declared.lines.Told.{Told}
use Rattle.xb_doubts.specs.Lines.{OfLines, straight_rows, told_in, told_of_number}
use Rattle.xb_doubts.specs.Ringing.{is_ringing}
use Rattle.xb_doubts.specs.Units.{wrong_unit}
use Rattle.xb_findings.specs.declared.finding.What.{What}
use Rattle.xb_findings.specs.declared.finding.What.TheVariants as what
use Rattle.xb_findings.specs.declared.kept_lines.LineKind.{LineKind}
use Rattle.xb_findings.specs.declared.kept_lines.LineKind.TheVariants as kind
use Rattle.xb_findings.specs.Findings.{Found, with_meant}
use Rattle.xb_findings.specs.Kept.{Kept, kept_of_deck}
use Rattle.xb_findings.specs.Records.{found_at}

-- of which other unit the times look
abbrev pub what_of_unit : Option Unit → Option What
what_of_unit None = None
what_of_unit (Some unit.Seconds) = Some what.Seconds
what_of_unit (Some unit.Microseconds) = Some what.Microseconds
what_of_unit (Some unit.Nanoseconds) = Some what.Nanoseconds

-- whether its lines ring
abbrev pub what_of_ringing : Bool → Option What
what_of_ringing rings = if rings then Some what.Ringing else None

-- what is suspicious in all rows together
abbrev pub doubts_of_rows : Option Unit → Bool → ℕ → List ℕ → List Found
doubts_of_rows other rings n text =
    found_at n text (with_meant (what_of_unit other) None) ++ found_at n text (with_meant (what_of_ringing rings) None)

-- what is suspicious in a line of the office, which has no attempt, or whose makes and breaks look exchanged
abbrev pub what_of_line : Told → Option What
what_of_line told =
    if told.is_quiet then Some what.Quiet
    else if told.is_exchanged then Some what.Exchanged
    else None

-- what is suspicious at a text line, by what it is: beside the header the unit of the times is told and that lines ring,
-- and a line of the office at its first record
abbrev pub doubt_of : Option Unit → Bool → OfLines → ℕ → List ℕ → LineKind → List Found
doubt_of other rings told n text kind.Header = doubts_of_rows other rings n text
doubt_of other rings told n text (kind.First line) =
    found_at n text (with_meant (what_of_line (told_of_number told line)) None)

abbrev pub doubt_at : Option Unit → Bool → OfLines → Kept → List Found
doubt_at other rings told kept = doubt_of other rings told kept.n kept.text kept.kind

-- what is suspicious in a deck with these contents, at these text lines; the unit and ringing are those of the
-- lines that do not look exchanged
abbrev pub doubts_in : Contents → List Kept → List Found
doubts_in contents kept =
    let limits = contents.table.limits in
    let straight = straight_rows limits contents.rows in
    flat_map (doubt_at (wrong_unit limits straight) (is_ringing limits straight) (told_in limits contents.rows)) kept

-- what is suspicious in a deck with these contents
abbrev pub doubts_of : Contents → List ℕ → List Found
doubts_of contents deck = doubts_in contents (kept_of_deck deck)
