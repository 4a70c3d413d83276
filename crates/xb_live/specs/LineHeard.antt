-- From the dial to the far end of the trunk: what is heard of a line while it dials.
use Rattle.std.specs.Prelude.{◌≡◌, ℕ, List, [], true}
use Rattle.xb_model.specs.LawfulLimits.{IsLawful}
use Rattle.xb_model.specs.Records.{closes, rows_of}
use Rattle.xb_model.specs.Rows.{LoopRow}
use Rattle.xb_routes.specs.Table.{Table}
use Rattle.xb_serial.specs.Office.{marks_of_rows}
use Rattle.xb_serial.specs.Promises.{marks_on, tape_on}
use Rattle.xb_sound.specs.declared.cadence.Cadence.{Cadence}
use Rattle.xb_sound.specs.Cadences.{IsSetApart}
use Rattle.xb_sound.specs.HeardKeys.{IsHeard}
use Rattle.xb_sound.specs.HeardTapes.{HavePrefixes}
use Rattle.xb_trunk.specs.Sounded.{whole_sound}
use Rattle.xb_live.specs.Steps.{steps_of}

-- of the sound of rows just the keys are heard that the line's rows so far are keyed as; and once the line is closed,
-- those of its tape
pub record IsHeardOf (cadence : Cadence) (table : Table) (line : ℕ) (rows : List LoopRow) : Type 0 where
  pub so_far : IsHeard (whole_sound cadence [] (steps_of table line rows)) (marks_on line (marks_of_rows table rows))
  pub whole : closes (rows_of line rows) ≡ true
      → IsHeard (whole_sound cadence [] (steps_of table line rows)) (tape_on table line rows)

abbrev pub LineIsHeard : Type 0
LineIsHeard = (cadence : Cadence) (table : Table) (line : ℕ) (rows : List LoopRow) → IsSetApart cadence
    → IsLawful table.limits → HavePrefixes table.routes → IsHeardOf cadence table line rows
