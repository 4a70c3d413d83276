-- What is told of a deck under the name of its file.
use Rattle.std.specs.Prelude.{ℕ, List, Option, Result}
use Rattle.xb_command.specs.FaultTexts.{one_line}
use Rattle.xb_check.specs.declared.fault.CheckFault.{CheckFault}
use Rattle.xb_check.specs.declared.words.Request.{Request}
use Rattle.xb_check.specs.Reports.{Delivers}

-- what is returned of a deck, and what the writer got, under the name that is told of it
abbrev pub Reports :
    Request → Option (List ℕ) → Result (Unit {0}) CheckFault → Option (List ℕ) → Option (List ℕ) → Type 0
Reports request deck r old new = Delivers (one_line request.name.now) request.all deck r old new
