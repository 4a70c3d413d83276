-- What a joiner makes of the next part.
use Rattle.std.specs.Prelude.{ℕ, ◌+◌, ◌≡◌, List, ◌∷◌, ◌++◌, Result, Err}
use Rattle.xb_model.specs.declared.line.TheConstants.{LINES}
use Rattle.xb_parts.specs.declared.range.LineRange.{LineRange}
use Rattle.xb_parts.specs.declared.parts_fault.PartsFault.{PartsFault}
use Rattle.xb_parts.specs.declared.parts_fault.PartsFault.TheVariants as fault
use Rattle.xb_parts.specs.declared.joiner.Joiner.{Joiner}
use Rattle.xb_parts.specs.Joining.{Given, given_with, join_from}
use Rattle.xb_page.specs.Sheets.{sheet_with}

-- what the parts from here on make, after these entries
abbrev pub joins : Joiner → List ℕ → List Given → Result (List ℕ) PartsFault
joins joiner entries parts =
    join_from (joiner.parts + 1) joiner.line (sheet_with entries joiner.keyed joiner.refused) parts

-- a page is taken, whose entries are these, whatever stands before it and whatever parts follow
abbrev pub TakesPage : Joiner → LineRange → List ℕ → List ℕ → Joiner → Type 0
TakesPage old lines page entries new =
    (before : List ℕ) (later : List Given)
    → joins old before (given_with lines page ∷ later) ≡ joins new (before ++ entries) later

-- a part stops the joining by this fault
abbrev pub BlamesPage : Joiner → LineRange → List ℕ → PartsFault → Type 0
BlamesPage joiner lines page f =
    (before : List ℕ) (later : List Given) → joins joiner before (given_with lines page ∷ later) ≡ Err f

-- memory ran out, or this is the first line that no part has had
abbrev pub IsMissing : Joiner → PartsFault → Type 0
IsMissing joiner fault.NoMemory = Unit {0}
IsMissing joiner (fault.Missing line) = (line ≡ joiner.line) × (line ≡ LINES → ⊥)
IsMissing joiner f = ⊥
